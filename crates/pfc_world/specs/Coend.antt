-- The wait at `coend`.
use Rattle.std.specs.Prelude.{ℕ, ◌≡◌, true, false, []}
use Rattle.pfc_state.specs.declared.waits.Why.TheVariants.{Coend}
use Rattle.pfc_world.specs.declared.answers.After.{After}
use Rattle.pfc_world.specs.declared.answers.After.TheVariants.{Goes, Waits as Has_to_wait}
use Rattle.pfc_world.specs.Tables.{Table, some_created}
use Rattle.pfc_world.specs.Transitions.{all_started, blocked}

-- Where some process is created, all created ones are ready and this one waits; else it goes on.
abbrev pub IsAtCoend : Table → ℕ → After → Table → Type 0
IsAtCoend old p (Goes r) new = (some_created old.rows ≡ false) × (r.number ≡ p) × (new ≡ old)
IsAtCoend old p Has_to_wait new = (some_created old.rows ≡ true) × (new ≡ blocked (all_started old) p Coend [])
