-- What the calls of rendezvous answer, and when.
use Rattle.std.specs.Prelude.{ℕ, ◌≡◌, true, false, Option, None, Some, Result, Ok, Err}
use Rattle.pfc_state.specs.declared.waits.Arm.TheVariants.{Accept as Entry}
use Rattle.pfc_state.specs.declared.waits.Why.TheVariants.{Meeting}
use Rattle.pfc_state.specs.Stands.{Stand, Waits}
use Rattle.pfc_world.specs.Partners.{alternative_met, is_accepting}
use Rattle.pfc_world.specs.Rendezvous.{called, is_uncalled}
use Rattle.pfc_world.specs.Tables.{Table, at}
use Rattle.pfc_meet.specs.declared.rendezvous.Accepted.{Accepted}
use Rattle.pfc_meet.specs.declared.rendezvous.Accepted.TheVariants.{Met as Takes, Waits as Waits_for_a_call}
use Rattle.pfc_meet.specs.declared.rendezvous.Called.{Called}
use Rattle.pfc_meet.specs.declared.rendezvous.Called.TheVariants.{Met, Waits as Has_to_wait}
use Rattle.pfc_meet.specs.declared.rendezvous.Uncalled.{Uncalled}

-- The fault comes exactly where the owner is idle or has finished. Else the meeting begins exactly where the owner
-- waits to accept the entry, at the owner's first alternative for it where it waits in a select.
abbrev pub IsCall : Table → ℕ → ℕ → ℕ → Result Called Uncalled → Table → Type 0
IsCall old p owner entry (Err uncalled) new = (is_uncalled old owner ≡ true) × (uncalled.r.number ≡ p) × (new ≡ old)
IsCall old p owner entry (Ok (Met alternative)) new =
    (is_uncalled old owner ≡ false) × (is_accepting old.rows owner entry ≡ true) ×
    (alternative ≡ alternative_met (Entry entry) (at old.rows owner)) × (new ≡ called old p owner entry)
IsCall old p owner entry (Ok Has_to_wait) new = (is_uncalled old owner ≡ false) × (is_accepting old.rows owner entry ≡ false) × (new ≡ called old p owner entry)

-- The process that accepts goes on exactly where somebody calls the entry, with the first caller.
abbrev pub IsAccepted : Option ℕ → ℕ → Accepted → Type 0
IsAccepted found p (Takes r caller) = (found ≡ Some caller) × (r.number ≡ p)
IsAccepted found p Waits_for_a_call = found ≡ None

-- who acts afterwards: the process that goes on, or nobody
abbrev pub ActsAfterAccept : Accepted → Option ℕ → Type 0
ActsAfterAccept (Takes r caller) acting = acting ≡ Some r.number
ActsAfterAccept Waits_for_a_call acting = acting ≡ None

abbrev pub ActsAfterCall : Result Called Uncalled → Option ℕ → Type 0
ActsAfterCall (Err uncalled) acting = acting ≡ Some uncalled.r.number
ActsAfterCall (Ok called) acting = acting ≡ None

-- a process that stands so waits in a rendezvous
abbrev pub IsInMeeting : Stand → Type 0
IsInMeeting (Waits (Meeting owner) ticket arms) = Unit {0}
IsInMeeting _ = ⊥
