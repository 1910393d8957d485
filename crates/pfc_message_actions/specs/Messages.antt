-- Messages. A plain communication and an alternative of a select do the same: what waits in either is an open alternative.
use Rattle.std.specs.Prelude.{ℕ, zero, suc, ◌+◌, ◌<◌, ◌≤◌, ℤ, pos, take, drop, reverse, length, Option, None, Some, IfSome, Ok}
use Rattle.pfc_state.specs.declared.waits.Arm.{Arm}
use Rattle.pfc_state.specs.declared.waits.Arm.TheVariants.{Send as To, Receive as From}
use Rattle.pfc_stacks.specs.declared.refs.Ref.{Ref}
use Rattle.pfc_stacks.specs.Conditions.{AreLive}
use Rattle.pfc_stacks.specs.Effects.{passed}
use Rattle.pfc_stacks.specs.Refs.{ref_of, number_of}
use Rattle.pfc_stacks.specs.Stacks.{Stacks, stack_of, operand, operands_of, written}
use Rattle.pfc_world.specs.Channels.{sent, received}
use Rattle.pfc_world.specs.Partners.{receiver, sender}
use Rattle.pfc_world.specs.Transitions.{rested}
use Rattle.pfc_machines.specs.declared.alternatives.KeptAlternative.{KeptAlternative}
use Rattle.pfc_machines.specs.declared.alternatives.Offer.{Offer}
use Rattle.pfc_machines.specs.declared.alternatives.Offer.TheVariants.{Send, Receive}
use Rattle.pfc_machines.specs.declared.machine.Machine.{Machine}
use Rattle.pfc_machines.specs.Actions.{Effect}
use Rattle.pfc_machines.specs.Descriptors.{descriptor_of}
use Rattle.pfc_machines.specs.Offers.{words_in, message_of}
use Rattle.pfc_machines.specs.Partners.{open_to, goes_behind, offers, IsOffering}
use Rattle.pfc_machines.specs.Quiet.{left_by, makes, receiving}

-- the address behind the instruction at which a process is
abbrev pub next_of : Machine → ℕ → ℕ
next_of m p = (stack_of m.stacks p).at + 1

-- where an alternative has what it receives written, as a word
abbrev pub target_of : Offer → ℤ
target_of (Receive c z to) = to
target_of offer = pos 0

-- ## `SEND z`: the message lies over the channel's number

abbrev pub channel_under : ℕ → ℕ → Machine → ℕ
channel_under z p m = number_of (operand (operands_of m.stacks p) z)

-- the z words on top go to the cells from an address on, and are popped with the number below them
abbrev pub sent_out : Stacks → ℕ → ℕ → Ref → Stacks
sent_out stacks p z to =
    let ops = operands_of stacks p in passed (written stacks to (reverse (take z ops))) p (drop (z + 1) ops)

-- The message goes to a receiver, which goes on behind its alternative.
abbrev pub sent_into : Option KeptAlternative → ℕ → ℕ → ℕ → Machine → Machine
sent_into None z p q m = left_by m p (z + 1)
sent_into (Some k) z p q m =
    goes_behind (record m { stacks = sent_out m.stacks p z (ref_of (target_of k.alternative.offer)) }) q k.alternative.branch

-- Without a receiver the process offers the message, and goes on behind the instruction once it is taken.
abbrev pub sent_to : Option ℕ → ℕ → ℕ → ℕ → Machine → Machine
sent_to (Some q) c z p m = sent_into (open_to m q (From c)) z p q m
sent_to None c z p m = offers (makes m p (Send c z) (next_of m p) (z + 1) (take z (operands_of m.stacks p))) p 1

abbrev pub sends : ℕ → ℕ → Machine → Effect
sends z p m =
    let c = channel_under z p m in
    Ok (sent_to (receiver m.world.rows c) c z p (record m { world = rested (sent m.world p c) }))

-- ## `RECV z`: the address lies over the channel's number; without cells there is none

abbrev pub channel_for : ℕ → ℕ → Machine → ℕ
channel_for zero p m = number_of (operand (operands_of m.stacks p) 0)
channel_for (suc z) p m = number_of (operand (operands_of m.stacks p) 1)

abbrev pub target_for : ℕ → ℕ → Machine → ℤ
target_for zero p m = pos 0
target_for (suc z) p m = operand (operands_of m.stacks p) 0

-- how many operands it takes
abbrev pub taken_for : ℕ → ℕ
taken_for zero = 1
taken_for (suc z) = 2

-- the message of an alternative of q goes to the cells from an address on
abbrev pub handed_over : Machine → ℕ → KeptAlternative → Ref → Machine
handed_over m q k to =
    record m { stacks = written m.stacks to (reverse (message_of (descriptor_of m.descriptors q).communications k)) }

-- The message comes from a sender, which goes on behind its alternative.
abbrev pub received_out : Option KeptAlternative → ℕ → ℕ → ℕ → Machine → Machine
received_out None z p q m = left_by m p (taken_for z)
received_out (Some k) z p q m =
    goes_behind (handed_over (left_by m p (taken_for z)) q k (ref_of (target_for z p m))) q k.alternative.branch

-- Without a sender the process offers to receive, and goes on behind the instruction once the message has come.
abbrev pub received_from : Option ℕ → ℕ → ℕ → ℕ → Machine → Machine
received_from (Some q) c z p m = received_out (open_to m q (To c)) z p q m
received_from None c z p m = offers (receiving z (next_of m p) p m) p 1

abbrev pub receives : ℕ → ℕ → Machine → Effect
receives z p m =
    let c = channel_for z p m in
    Ok (received_from (sender m.world.rows c) c z p (record m { world = rested (received m.world p c) }))

-- ## When they may be performed

-- q is a process that offers what it has made, and has so many cells where it receives
pub record CanTake (m : Machine) (q : ℕ) (arm : Arm) (z : ℕ) : Type 0 where
  pub descriptor : q < length m.descriptors
  pub offered : IsOffering m q
  pub live : IfSome (open_to m q arm) (λ k. AreLive m.stacks (ref_of (target_of k.alternative.offer)) z)

-- the message of an alternative is kept, and there are the cells to which it goes
pub record CanHandOver (m : Machine) (q : ℕ) (to : Ref) (k : KeptAlternative) : Type 0 where
  pub held : k.above + words_in k.alternative.offer ≤ length (descriptor_of m.descriptors q).communications.words
  pub live : AreLive m.stacks to (words_in k.alternative.offer)

-- q is a process that offers what it has made, and its message can be handed over
pub record CanGive (m : Machine) (q : ℕ) (arm : Arm) (to : Ref) : Type 0 where
  pub descriptor : q < length m.descriptors
  pub offered : IsOffering m q
  pub message : IfSome (open_to m q arm) (CanHandOver m q to)
