-- When a select may decide.
use Rattle.std.specs.Prelude.{ℕ, ◌*◌, ◌^◌, ◌<◌, ◌≤◌, ◌≡◌, [], length, slice_get, Some, IfSome}
use Rattle.pfc_state.specs.declared.waits.Arm.TheVariants.{Send as To, Receive as From}
use Rattle.pfc_stacks.specs.Refs.{ref_of}
use Rattle.pfc_world.specs.Tickets.{IsNew}
use Rattle.pfc_machines.specs.declared.alternatives.KeptAlternative.{KeptAlternative}
use Rattle.pfc_machines.specs.declared.alternatives.Offer.{Offer}
use Rattle.pfc_machines.specs.declared.alternatives.Offer.TheVariants.{Send, Receive, Accept}
use Rattle.pfc_machines.specs.declared.machine.Machine.{Machine}
use Rattle.pfc_machines.specs.Actions.{Acts}
use Rattle.pfc_machines.specs.Offers.{communications}
use Rattle.pfc_machines.specs.Partners.{open_to, IsOffering}
use Rattle.pfc_meeting_actions.specs.Meetings.{CanMeet}
use Rattle.pfc_message_actions.specs.Messages.{target_of, CanHandOver, CanGive}
use Rattle.pfc_select_actions.specs.Selects.{open_count, open_ones, open_arms, matched_places, place_taken, partner_at}

-- q is a process that offers what it has made, and may receive the message of an alternative of p
pub record CanSendTo (m : Machine) (own : KeptAlternative) (c p q : ℕ) : Type 0 where
  pub descriptor : q < length m.descriptors
  pub offered : IsOffering m q
  pub message : IfSome (open_to m q (From c)) (λ k. CanHandOver m p (ref_of (target_of k.alternative.offer)) own)

-- partner q of an alternative of p can do its part
abbrev pub CanCommunicate : Offer → KeptAlternative → ℕ → ℕ → Machine → Type 0
CanCommunicate (Send c z) own p q m = CanSendTo m own c p q
CanCommunicate (Receive c z to) own p q m = CanGive m q (To c) (ref_of to)
CanCommunicate (Accept e d z) own p q m = CanMeet m p d z q
CanCommunicate offer own p q m = Unit {0}

-- the process acts, and the table has room for what is open
pub record CanOffer (p : ℕ) (m : Machine) : Type 0 where
  pub acts : Acts p m
  pub fresh : IsNew m.world.rows m.world.done
  pub moment : m.world.moment < 2 * 10 ^ 18
  pub arms : length (open_arms m p) < 2 ^ 32
  pub room : length (open_arms m p) ≤ m.world.room

-- nothing that is open is matched
pub record CanWait (p : ℕ) (m : Machine) : Type 0 where
  pub offer : CanOffer p m
  pub unmatched : matched_places m p ≡ []

-- the alternative at place k of those that are matched can be taken
pub record CanTakeAt (k p : ℕ) (m : Machine) : Type 0 where
  pub offer : CanOffer p m
  pub matched : k < length (matched_places m p)
  pub partner : (place q : ℕ) (own : KeptAlternative) → slice_get (matched_places m p) k ≡ Some place
      → slice_get (communications (open_ones m p)) place ≡ Some own → partner_at m.world.rows p (slice_get (open_arms m p) place) ≡ Some q
      → CanCommunicate own.alternative.offer own p q m

-- places of alternatives have 32 bits, and the choice is one of those that there are
pub record CanDecide (mark choice p : ℕ) (m : Machine) : Type 0 where
  pub offer : CanOffer p m
  pub few : open_count m p < 2 ^ 32
  pub taken : 0 < length (matched_places m p) → CanTakeAt (place_taken mark choice) p m
