-- The deciding action of a select. Its alternatives are those that its activation has made since its last select.
use Rattle.std.specs.Prelude.{ℕ, zero, suc, ◌+◌, ◌==◌, is_some, if◌then◌else◌, ℤ, List, [], ◌∷◌, take, set, length, slice_get, Option, None, Some, Result, Ok}
use Rattle.std.specs.Prelude.{Err}
use Rattle.pfc_base.specs.declared.faults.RunFault.{RunFault}
use Rattle.pfc_base.specs.declared.faults.RunFault.TheVariants.{Closed}
use Rattle.pfc_state.specs.declared.waits.Arm.{Arm}
use Rattle.pfc_state.specs.declared.waits.Arm.TheVariants.{Send as To, Receive as From}
use Rattle.pfc_state.specs.Stands.{Stand}
use Rattle.pfc_stacks.specs.Refs.{ref_of}
use Rattle.pfc_stacks.specs.Stacks.{stack_of}
use Rattle.pfc_world.specs.Partners.{partner}
use Rattle.pfc_world.specs.Selects.{matched, committed, select_waited}
use Rattle.pfc_world.specs.Terminating.{wholly_settled}
use Rattle.pfc_world.specs.Transitions.{rested}
use Rattle.pfc_machines.specs.declared.alternatives.KeptAlternative.{KeptAlternative}
use Rattle.pfc_machines.specs.declared.alternatives.Offer.{Offer}
use Rattle.pfc_machines.specs.declared.alternatives.Offer.TheVariants.{Send, Receive, Accept, Timeout}
use Rattle.pfc_machines.specs.declared.alternatives.Sought.TheVariants.{Delay, End}
use Rattle.pfc_machines.specs.declared.machine.Machine.{Machine}
use Rattle.pfc_machines.specs.Actions.{at_rest, Effect}
use Rattle.pfc_machines.specs.Descriptors.{descriptor_of, forgetting, withdrawn}
use Rattle.pfc_machines.specs.Offers.{arms_of, last_made, first_sought, communications, made_by}
use Rattle.pfc_machines.specs.Partners.{open_to, goes_behind, offers}
use Rattle.pfc_meeting_actions.specs.Meetings.{begins_meeting}
use Rattle.pfc_message_actions.specs.Messages.{target_of, handed_over}
use Rattle.pfc_own_actions.specs.Doing.{due_after}

-- ## What is open

-- how many alternatives there are
abbrev pub open_count : Machine → ℕ → ℕ
open_count m p = let d = descriptor_of m.descriptors p in made_by d.activations d.communications.alternatives

-- in the order of the text
abbrev pub open_ones : Machine → ℕ → List KeptAlternative
open_ones m p = last_made (open_count m p) (descriptor_of m.descriptors p).communications

-- as the table of processes has those that communicate
abbrev pub open_arms : Machine → ℕ → List Arm
open_arms m p = arms_of (take (open_count m p) (descriptor_of m.descriptors p).communications.alternatives)

-- the places of those that are matched, among those that communicate
abbrev pub matched_places : Machine → ℕ → List ℕ
matched_places m p = matched m.world.rows p (open_arms m p)

-- How many alternatives a choice is among: none but in a plain select with some that are matched. The mark of a `pri select` is 1, that of a plain
-- one 0.
abbrev pub choices : ℕ → ℕ → Machine → ℕ
choices zero p m = length (matched_places m p)
choices (suc mark) p m = 0

-- `pri` takes the first matched alternative of the text, a plain select the one that was chosen
abbrev pub place_taken : ℕ → ℕ → ℕ
place_taken zero choice = choice
place_taken (suc mark) choice = 0

-- ## A matched alternative is taken

-- p goes on at a branch, and its last n alternatives are gone
abbrev pub decided : Machine → ℕ → ℕ → ℕ → Machine
decided m p n branch = record m {
  stacks = set m.stacks p (record (stack_of m.stacks p) { at = branch });
  descriptors = set m.descriptors p (forgetting n (descriptor_of m.descriptors p));
}

-- its message goes to a receiver
abbrev pub sent_from : Option KeptAlternative → KeptAlternative → ℕ → ℕ → ℕ → Machine → Machine
sent_from None own n p q m = decided m p n own.alternative.branch
sent_from (Some k) own n p q m =
    goes_behind (decided (handed_over m p own (ref_of (target_of k.alternative.offer))) p n own.alternative.branch) q k.alternative.branch

-- that of a sender goes to an address of its
abbrev pub received_by : Option KeptAlternative → ℤ → KeptAlternative → ℕ → ℕ → ℕ → Machine → Machine
received_by None to own n p q m = decided m p n own.alternative.branch
received_by (Some k) to own n p q m =
    goes_behind (decided (handed_over m q k (ref_of to)) p n own.alternative.branch) q k.alternative.branch

-- an alternative of process p is taken with partner q: a message passes, or a meeting begins
abbrev pub communicates_by : Offer → KeptAlternative → ℕ → ℕ → ℕ → Machine → Machine
communicates_by (Send c z) own n p q m = sent_from (open_to m q (From c)) own n p q m
communicates_by (Receive c z to) own n p q m = received_by (open_to m q (To c)) to own n p q m
communicates_by (Accept e d z) own n p q m = decided (begins_meeting m p d z q) p n own.alternative.branch
communicates_by offer own n p q m = m

abbrev pub communicates : Option KeptAlternative → Option ℕ → ℕ → ℕ → Machine → Machine
communicates (Some own) (Some q) n p m = communicates_by own.alternative.offer own n p q m
communicates own q n p m = m

-- whom an arm of process p meets
abbrev pub partner_at : List Stand → ℕ → Option Arm → Option ℕ
partner_at rows p None = None
partner_at rows p (Some arm) = partner rows p arm

abbrev pub takes_at : Option ℕ → List Stand → List Arm → ℕ → ℕ → Machine → Machine
takes_at None rows arms n p m = m
takes_at (Some place) rows arms n p m =
    communicates (slice_get (communications (last_made n (descriptor_of m.descriptors p).communications)) place)
    (partner_at rows p (slice_get arms place)) n p m

-- the matched one at place k, from 0
abbrev pub takes_matched : ℕ → ℕ → Machine → Machine
takes_matched k p m =
    let arms = open_arms m p in
    takes_at (slice_get (matched_places m p) k) m.world.rows arms (open_count m p) p (record m { world = rested (committed m.world p arms k) })

-- ## None is matched

-- the process waits with all that is open, and stands at an address
abbrev pub waits_at : Option ℕ → ℕ → ℕ → Machine → Machine
waits_at due at p m = record (offers m p (open_count m p)) {
  stacks = set m.stacks p (record (stack_of m.stacks p) { at = at });
  world = select_waited m.world p (open_arms m p) due (is_some (first_sought End (open_ones m p)));
}

-- `timeout 0` is taken; else the process waits, and stands at the branch of the `timeout`: fault 15 where its moment is too late
abbrev pub times_out : Result (Option ℕ) RunFault → ℕ → ℕ → Machine → Effect
times_out (Ok None) branch p m = Ok (at_rest (decided m p (open_count m p) branch))
times_out (Ok (Some due)) branch p m = Ok (waits_at (Some due) branch p m)
times_out (Err f) branch p m = Err f

abbrev pub seconds_of : Offer → ℕ
seconds_of (Timeout n) = n
seconds_of offer = 0

-- Without a `timeout` it waits, where something is open; else it is fault 13.
abbrev pub waits_or_closed : Option KeptAlternative → ℕ → Machine → Effect
waits_or_closed (Some k) p m = times_out (due_after m.world.moment (seconds_of k.alternative.offer)) k.alternative.branch p m
waits_or_closed None p m = if open_count m p == 0 then Err Closed else Ok (waits_at None ((stack_of m.stacks p).at + 1) p m)

-- the else part is taken, where there is one
abbrev pub goes_otherwise : ℕ → ℕ → Machine → Effect
goes_otherwise zero p m = waits_or_closed (first_sought Delay (open_ones m p)) p m
goes_otherwise (suc x) p m = Ok (at_rest (decided m p (open_count m p) (suc x)))

-- ## `SEL`

abbrev pub decides_by : List ℕ → ℕ → ℕ → ℕ → ℕ → Machine → Effect
decides_by [] mark x choice p m = goes_otherwise x p m
decides_by (place ∷ places) mark x choice p m = Ok (takes_matched (place_taken mark choice) p m)

abbrev pub decides : ℕ → ℕ → ℕ → ℕ → Machine → Effect
decides mark x choice p m = decides_by (matched_places m p) mark x choice p m

-- ## Behind a wait

-- Before each pick: who is due is ready; where nobody is ready, the clock goes on to the earliest due moment; and where none is pending, the children
-- that wait for nothing but to communicate or to terminate finish. It is the table alone that changes.
abbrev pub settles : Machine → Machine
settles m = record m { world = wholly_settled m.world }

-- A process that was woken, by a partner or by its moment, goes on where it stands; what it offered is gone.
abbrev pub takes_up : ℕ → Machine → Machine
takes_up p m = record m { descriptors = set m.descriptors p (withdrawn (descriptor_of m.descriptors p)) }
