-- The creation of a process, step by step.
use Rattle.std.proofs.Common.{◌≡◌, ℕ, ◌+◌, ◌<◌, Bool, true, false, List, length, set, Result, Ok, Err, sym, ap, ap₂, ◌∙◌, arith}
use Rattle.std.specs.Prelude.{if◌then◌else◌}
use Rattle.std.proofs.Math.Nat.{le-max_right}
use Rattle.std.proofs.lemmas.Bool.{false≢true}
use Rattle.std.proofs.lemmas.List.{set-get_or}
use Rattle.pfc_base.specs.declared.faults.RunFault.{RunFault}
use Rattle.pfc_base.specs.declared.faults.RunFault.TheVariants.{Active, Stack}
use Rattle.pfc_code.specs.declared.images.Block.{Block}
use Rattle.pfc_state.specs.Stands.{Is_created, is_unfinished}
use Rattle.pfc_stacks.specs.declared.instructed.CallFault.{CallFault}
use Rattle.pfc_stacks.specs.declared.instructed.CallFault.TheVariants.{Stack as Full, Memory as Wanting}
use Rattle.pfc_stacks.specs.Activations.{has_place}
use Rattle.pfc_stacks.specs.Answers.{IsCalled}
use Rattle.pfc_stacks.specs.Stacks.{Stacks}
use Rattle.pfc_world.specs.Tables.{Table, at}
use Rattle.pfc_world.specs.Transitions.{rested, placed, IsCreation}
use Rattle.pfc_machines.specs.declared.descriptors.Descriptor.{Descriptor}
use Rattle.pfc_machines.specs.declared.machine.Machine.{Machine}
use Rattle.pfc_machines.specs.declared.rooms.Room.{Room}
use Rattle.pfc_machines.specs.Actions.{at_rest, Effect, of_call, IsTaken}
use Rattle.pfc_machines.specs.Descriptors.{descriptor_by, descriptor_of, roomier, begun_in}
use Rattle.pfc_machines.specs.Communications.{Communicating, with_room_above, IsRoomBetween}
use Rattle.pfc_machines.proofs.Placing.{again}
use Rattle.pfc_own_actions.specs.Creating.{created_by, creation, beginning, creates, IsBegun}

-- ## Room

abbrev pub with_room : Room → Descriptor → Descriptor
with_room room d = record d { communications = record d.communications { room = room } }

-- room that was taken is given back
pub given_back : (ds : List Descriptor) (q : ℕ) (room : Room) → q < length ds
    → (let more = set ds q (roomier (descriptor_of ds q) room) in set more q (with_room (descriptor_of ds q).communications.room (descriptor_of more q))) ≡ ds
given_back ds q room h =
    again ds q (roomier (descriptor_of ds q) room) (with_room (descriptor_of ds q).communications.room) (descriptor_by 0) h ∙ set-get_or ds q (descriptor_by 0)

-- what there is has room in what it had before
pub still_between : (e : Communicating) (more held : Room) → IsRoomBetween e held → IsRoomBetween (with_room_above e more) held
still_between e more held b = record {
  alternatives = (b.alternatives.0, omega (arith, b.alternatives.1, le-max_right (length e.alternatives + more.alternatives) e.room.alternatives));
  words = (b.words.0, omega (arith, b.words.1, le-max_right (length e.words + more.words) e.room.words));
  meetings = (b.meetings.0, omega (arith, b.meetings.1, le-max_right (length e.callers + more.meetings) e.room.meetings));
}

-- the process begins anew in that room
pub begun_anew : (ds : List Descriptor) (q : ℕ) (room : Room) → q < length ds
    → (let more = set ds q (roomier (descriptor_of ds q) room) in set more q (begun_in (descriptor_of more q))) ≡ set ds q
    (begun_in (roomier (descriptor_of ds q) room))
begun_anew ds q room h = again ds q (roomier (descriptor_of ds q) room) begun_in (descriptor_by 0) h

-- a refusal of the stack leaves all as it was
pub refused_is : (k : ℕ) (b : Block) (p q : ℕ) (old : Machine) (next stacks : Stacks) (ds : List Descriptor) (f : CallFault)
    → IsCalled (has_place q 0 b) old.stacks next (Err f) stacks → ds ≡ old.descriptors
    → IsBegun k b p q old (Err f) (record old { stacks = stacks; descriptors = ds })
refused_is k b p q old next stacks ds Full h e =
    (h.0, ap₂ (λ (ss : Stacks) (xs : List Descriptor). (let m : Machine = record old { stacks = ss; descriptors = xs } in m)) h.1 e)
refused_is k b p q old next stacks ds Wanting h e =
    ap₂ (λ (ss : Stacks) (xs : List Descriptor). (let m : Machine = record old { stacks = ss; descriptors = xs } in m)) h.1 e

-- ## `NEW`

module _ (k : ℕ) (b : Block) (p : ℕ) (m : Machine) where
  abbrev choice : Bool → Bool → Effect
  choice active placed =
      if active then Err Active else (if placed then Ok (at_rest (creation k b p (created_by m p b) m)) else Err Stack)

  pub active_is : is_unfinished (at m.world.rows (created_by m p b)) ≡ true → creates k b p m ≡ Err Active
  active_is e = ap (λ (z : Bool). choice z (has_place (created_by m p b) 0 b)) e

  pub made_is : is_unfinished (at m.world.rows (created_by m p b)) ≡ false → has_place (created_by m p b) 0 b ≡ true
      → creates k b p m ≡ Ok (at_rest (creation k b p (created_by m p b) m))
  made_is e placed = ap₂ choice e placed

  pub full_is : is_unfinished (at m.world.rows (created_by m p b)) ≡ false → has_place (created_by m p b) 0 b ≡ false → creates k b p m ≡ Err Stack
  full_is e placed = ap₂ choice e placed

-- ## Step by step

created_in : (old new : Table) (q : ℕ) (r : Result (Unit {0}) RunFault) → IsCreation old q r new →
    is_unfinished (at old.rows q) ≡ false → new ≡ placed old q Is_created
created_in old new q (Ok done) h free = h.1
created_in old new q (Err f) h free = absurd (false≢true (sym free ∙ h.0))

module _ (k : ℕ) (b : Block) (m mid : Machine) (p p' q : ℕ) (t : Table) (is_p : p' ≡ p) (is_q : q ≡ created_by m p b) (is_t : t ≡ rested m.world)
    (free : is_unfinished (at t.rows q) ≡ false) where
  abbrev standing : Table → Machine
  standing w = record m { world = w }

  here_free : is_unfinished (at m.world.rows (created_by m p b)) ≡ false
  here_free = sym (ap₂ (λ (w : Table) (n : ℕ). is_unfinished (at w.rows n)) is_t is_q) ∙ free

  here_placed : (z : Bool) → has_place q 0 b ≡ z → has_place (created_by m p b) 0 b ≡ z
  here_placed z h = sym (ap (λ (n : ℕ). has_place n 0 b) is_q) ∙ h

  pub created_is : (end : Table) (r : Result (Unit {0}) RunFault) (u : Unit {0}) → IsBegun k b p' q (standing t) (Ok u) mid → mid.world ≡ t
      → IsCreation mid.world q r end → creates k b p m ≡ Ok (record mid { world = end })
  created_is end r u h same creation_h =
      let n : ℕ = created_by m p b in
      let begun : mid ≡ beginning k b p n (standing (rested m.world)) =
      h.1 ∙ ap (λ (j : ℕ). beginning k b j q (standing t)) is_p ∙ ap (λ (j : ℕ). beginning k b p j (standing t)) is_q
      ∙ ap (λ (w : Table). beginning k b p n (standing w)) is_t in
      let still : is_unfinished (at mid.world.rows q) ≡ false = ap (λ (w : Table). is_unfinished (at w.rows q)) same ∙ free in
      let ends : end ≡ placed (rested m.world) n Is_created =
      created_in mid.world end q r creation_h still ∙ ap (λ (w : Table). placed w q Is_created) (same ∙ is_t)
      ∙ ap (λ (j : ℕ). placed (rested m.world) j Is_created) is_q in
      made_is k b p m here_free (here_placed true h.0)
      ∙ sym (ap₂ (λ (x : Machine) (w : Table). (let e : Effect = Ok (record x { world = w }) in e)) begun ends)

  pub failed_is : (f : CallFault) → IsBegun k b p' q (standing t) (Err f) mid → IsTaken (creates k b p m) m (Err (of_call f)) mid
  failed_is Full h = (full_is k b p m here_free (here_placed false h.0), h.1 ∙ ap standing is_t)
  failed_is Wanting h = h ∙ ap standing is_t
