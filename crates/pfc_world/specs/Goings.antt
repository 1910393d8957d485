-- Whether the process that acted goes on.
use Rattle.std.specs.Prelude.{ℕ, ◌≡◌, Bool, true, false, Option, None, Some}
use Rattle.pfc_world.specs.declared.answers.After.{After}
use Rattle.pfc_world.specs.declared.answers.After.TheVariants.{Goes, Waits as Has_to_wait}

-- Process p goes on exactly where this is true; else it waits.
abbrev pub GoesWhere : Bool → ℕ → After → Type 0
GoesWhere goes p (Goes r) = (goes ≡ true) × (r.number ≡ p)
GoesWhere goes p Has_to_wait = goes ≡ false

-- who acts afterwards: the process that goes on, or nobody
abbrev pub ActsAfter : After → Option ℕ → Type 0
ActsAfter (Goes r) acting = acting ≡ Some r.number
ActsAfter Has_to_wait acting = acting ≡ None
