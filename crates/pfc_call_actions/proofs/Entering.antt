-- How a process's descriptor follows an activation that begins.
use Rattle.std.proofs.Common.{◌≡◌, ℕ, ◌+◌, ◌<◌, max, List, length, set, Err, ap, ap₂, subst, ◌∙◌, arith}
use Rattle.std.proofs.lemmas.List.{set-get_or}
use Rattle.std.specs.Prelude.{Bool}
use Rattle.pfc_stacks.specs.declared.instructed.CallFault.{CallFault}
use Rattle.pfc_stacks.specs.declared.instructed.CallFault.TheVariants.{Stack, Memory}
use Rattle.pfc_stacks.specs.Answers.{IsCalled}
use Rattle.pfc_stacks.specs.Stacks.{Stacks}
use Rattle.pfc_machines.specs.declared.descriptors.Descriptor.{Descriptor}
use Rattle.pfc_machines.specs.declared.machine.Machine.{Machine}
use Rattle.pfc_machines.specs.declared.rooms.Room.{Room}
use Rattle.pfc_machines.specs.Communications.{Communicating, IsRoomBetween, room_above}
use Rattle.pfc_machines.specs.Descriptors.{descriptor_by, descriptor_of, roomier, entered}
use Rattle.pfc_machines.specs.Rooms.{no_room}
use Rattle.pfc_machines.proofs.Placing.{again}

abbrev pub with_room : Room → Descriptor → Descriptor
with_room room d = record d { communications = record d.communications { room = room } }

module _ (ds more back : List Descriptor) (p : ℕ) (room held : Room) (h : p < length ds)
    (made : more ≡ set ds p (roomier (descriptor_of ds p) room)) where
  -- one activation more, in the room that was made
  pub entered_in : set more p (entered (descriptor_of more p)) ≡ set ds p (entered (roomier (descriptor_of ds p) room))
  entered_in =
      ap (λ (xs : List Descriptor). set xs p (entered (descriptor_of xs p))) made
      ∙ again ds p (roomier (descriptor_of ds p) room) entered (descriptor_by 0) h

  -- room that was made is given back
  pub given_back : held ≡ (descriptor_of ds p).communications.room → back ≡ set more p (with_room held (descriptor_of more p)) → back ≡ ds
  given_back was is =
      is ∙ ap (λ (xs : List Descriptor). set xs p (with_room held (descriptor_of xs p))) made
      ∙ again ds p (roomier (descriptor_of ds p) room) (with_room held) (descriptor_by 0) h
      ∙ ap (λ (r : Room). set ds p (with_room r (descriptor_of ds p))) was
      ∙ set-get_or ds p (descriptor_by 0)

-- a refusal of the stacks is one of the machine
pub refused_is : (placed : Bool) (old next : Machine) (there stacks : Stacks) (ds : List Descriptor) (f : CallFault)
    → IsCalled placed old.stacks there (Err f) stacks → ds ≡ old.descriptors
    → IsCalled placed old next (Err f) (record old { stacks = stacks; descriptors = ds })
refused_is placed old next there stacks ds Stack h e =
    (h.0, ap₂ (λ (ss : Stacks) (xs : List Descriptor). (let m : Machine = record old { stacks = ss; descriptors = xs } in m)) h.1 e)
refused_is placed old next there stacks ds Memory h e =
    (h.0, ap₂ (λ (ss : Stacks) (xs : List Descriptor). (let m : Machine = record old { stacks = ss; descriptors = xs } in m)) h.1 e)

abbrev room_by : ℕ → ℕ → ℕ → Room
room_by alternatives words meetings = record { alternatives = alternatives; words = words; meetings = meetings }

-- room above what there is, where none is taken, is the room that there was
same_room : (e : Communicating) → IsRoomBetween e e.room → room_above e no_room ≡ e.room
same_room e between =
    let a = between.alternatives.0 in
    let w = between.words.0 in
    let m = between.meetings.0 in
    let alternatives : max (length e.alternatives + 0) e.room.alternatives ≡ e.room.alternatives = omega arith in
    let words : max (length e.words + 0) e.room.words ≡ e.room.words = omega arith in
    let meetings : max (length e.callers + 0) e.room.meetings ≡ e.room.meetings = omega arith in
    ap (λ (n : ℕ). room_by n (max (length e.words + 0) e.room.words) (max (length e.callers + 0) e.room.meetings)) alternatives
    ∙ ap (λ (n : ℕ). room_by e.room.alternatives n (max (length e.callers + 0) e.room.meetings)) words
    ∙ ap (λ (n : ℕ). room_by e.room.alternatives e.room.words n) meetings

-- so nothing is changed where no room is taken
pub unroomed : (d : Descriptor) (room held : Room) → room ≡ no_room → held ≡ d.communications.room → IsRoomBetween d.communications held → roomier d room ≡ d
unroomed d room held none was between =
    ap (roomier d) none ∙ ap (λ (r : Room). record d { communications = record d.communications { room = r } })
    (same_room d.communications (subst (IsRoomBetween d.communications) was between))
