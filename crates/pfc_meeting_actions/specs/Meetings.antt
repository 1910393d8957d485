-- Meetings: calls of entries, and their accepts.
use Rattle.std.specs.Prelude.{ℕ, ◌+◌, ◌≤◌, ◌<◌, ◌^◌, if◌then◌else◌, [], take, drop, reverse, length, set, slice_get, Option, None, Some, IfSome, Ok, Err}
use Rattle.pfc_base.specs.declared.faults.RunFault.TheVariants.{NotActive}
use Rattle.pfc_state.specs.declared.waits.Arm.TheVariants.{Accept as Entry}
use Rattle.pfc_stacks.specs.declared.refs.Ref.{Ref}
use Rattle.pfc_stacks.specs.Conditions.{AreLive}
use Rattle.pfc_stacks.specs.Refs.{number_of}
use Rattle.pfc_stacks.specs.Stacks.{Stacks, stack_of, operand, operands_of, written, own_cells}
use Rattle.pfc_world.specs.Partners.{is_accepting, caller}
use Rattle.pfc_world.specs.Rendezvous.{is_uncalled, called, accepted, meeting_ended}
use Rattle.pfc_world.specs.Transitions.{rested}
use Rattle.pfc_machines.specs.declared.alternatives.KeptAlternative.{KeptAlternative}
use Rattle.pfc_machines.specs.declared.alternatives.Offer.{Offer}
use Rattle.pfc_machines.specs.declared.alternatives.Offer.TheVariants.{Accept}
use Rattle.pfc_machines.specs.declared.machine.Machine.{Machine}
use Rattle.pfc_machines.specs.Actions.{at_rest, Effect}
use Rattle.pfc_machines.specs.Descriptors.{descriptor_of, meeting, met}
use Rattle.pfc_machines.specs.Partners.{open_to, goes_behind, offers, IsOffering}
use Rattle.pfc_machines.specs.Quiet.{left_by, makes}

-- ## The meeting

-- The parameters of an accept are cells of the activation in which it stands, the first of its process.
abbrev pub parameter_cell : ℕ → ℕ → Ref
parameter_cell owner d = record { process = owner; cell = own_cells + d }

-- The z words on top of the operands of a caller go there, and are popped with the number of the owner below them.
abbrev pub arguments_taken : Stacks → ℕ → ℕ → ℕ → ℕ → Stacks
arguments_taken stacks owner d z caller =
    let ops = operands_of stacks caller in
    let there = written stacks (parameter_cell owner d) (reverse (take z ops)) in
    set there caller (record (stack_of there caller) { operands = drop (z + 1) ops })

abbrev pub begins_meeting : Machine → ℕ → ℕ → ℕ → ℕ → Machine
begins_meeting m owner d z caller = record m {
  stacks = arguments_taken m.stacks owner d z caller;
  descriptors = set m.descriptors owner (meeting caller (descriptor_of m.descriptors owner));
}

-- ## `ECALL e z`: the arguments lie over the number of the owner

abbrev pub called_by : ℕ → ℕ → Machine → ℕ
called_by z p m = number_of (operand (operands_of m.stacks p) z)

-- the cell of the first parameter of an alternative that accepts
abbrev pub cell_of : Offer → ℕ
cell_of (Accept e d z) = d
cell_of offer = 0

-- The owner goes on at the accept's statement.
abbrev pub called_into : Option KeptAlternative → ℕ → ℕ → ℕ → Machine → Machine
called_into None z p q m = m
called_into (Some k) z p q m = goes_behind (begins_meeting m q (cell_of k.alternative.offer) z p) q k.alternative.branch

-- Fault 12 where the called process is idle or finished. Where it waits to accept the entry, the meeting begins, and the caller waits in it; else
-- the caller waits for the entry, and keeps its arguments.
abbrev pub calls_entry : ℕ → ℕ → ℕ → Machine → Effect
calls_entry e z p m =
    let q = called_by z p m in
    let waiting = record (left_by m p 0) { world = called m.world p q e } in
    if is_uncalled m.world q
    then Err NotActive
    else (if is_accepting m.world.rows q e then Ok (called_into (open_to m q (Entry e)) z p q waiting) else Ok waiting)

-- ## `ACC e d z`: the z words of the caller go to the cells from cell d on

-- Without a caller the process offers to accept, and goes on behind the instruction once the meeting has begun.
abbrev pub accepted_from : Option ℕ → ℕ → ℕ → ℕ → ℕ → Machine → Machine
accepted_from (Some q) e d z p m = begins_meeting (left_by m p 0) p d z q
accepted_from None e d z p m = offers (makes m p (Accept e d z) ((stack_of m.stacks p).at + 1) 0 []) p 1

abbrev pub accepts : ℕ → ℕ → ℕ → ℕ → Machine → Effect
accepts e d z p m = Ok (accepted_from (caller m.world.rows p e) e d z p (record m { world = rested (accepted m.world p e) }))

-- ## `EACC`

abbrev pub last_caller : ℕ → Machine → Option ℕ
last_caller p m = slice_get (descriptor_of m.descriptors p).communications.callers 0

-- The caller of the meeting that was begun last is ready.
abbrev pub parted_from : Option ℕ → ℕ → Machine → Machine
parted_from None p m = m
parted_from (Some q) p m = record m {
  world = meeting_ended m.world q;
  descriptors = set m.descriptors p (met (descriptor_of m.descriptors p));
}

abbrev pub parts : ℕ → Machine → Effect
parts p m = Ok (parted_from (last_caller p m) p (at_rest (left_by m p 0)))

-- ## When they may be performed

-- a meeting may begin: there is room for it, the caller has the arguments, and there are the cells to which they go
pub record CanMeet (m : Machine) (owner d z q : ℕ) : Type 0 where
  pub descriptor : owner < length m.descriptors
  pub room : length (descriptor_of m.descriptors owner).communications.callers < (descriptor_of m.descriptors owner).communications.room.meetings
  pub stack : q < length m.stacks
  pub held : z ≤ length (operands_of m.stacks q)
  pub live : AreLive m.stacks (parameter_cell owner d) z
  -- cells have numbers of 32 bits
  pub cell : own_cells + d < 2 ^ 32

-- q is a process that offers what it has made, and may meet a caller with z words
pub record CanBeCalled (m : Machine) (q e z p : ℕ) : Type 0 where
  pub descriptor : q < length m.descriptors
  pub offered : IsOffering m q
  pub meets : IfSome (open_to m q (Entry e)) (λ k. CanMeet m q (cell_of k.alternative.offer) z p)
