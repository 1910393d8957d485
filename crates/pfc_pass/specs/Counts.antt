-- What the calls of semaphores answer, and when.
use Rattle.std.specs.Prelude.{ℕ, ℤ, ◌≡◌, true, false, Option, List, Result, Ok, Err}
use Rattle.pfc_base.specs.declared.faults.RunFault.{RunFault}
use Rattle.pfc_base.specs.declared.faults.RunFault.TheVariants.{Negative, Count}
use Rattle.pfc_world.specs.Partners.{semaphore_waiter}
use Rattle.pfc_world.specs.Semaphores.{Counted, is_below_zero, initialised, is_overfull, signalled}

-- The count is set; the fault comes exactly where the number is below 0.
abbrev pub IsInitial : List ℕ → ℕ → ℤ → Result (Unit {0}) RunFault → List ℕ → Type 0
IsInitial old s n (Ok done) new = (is_below_zero n ≡ false) × (new ≡ initialised old s n)
IsInitial old s n (Err fault) new = (is_below_zero n ≡ true) × (fault ≡ Negative) × (new ≡ old)

-- The first waiter is freed, if any; the fault comes exactly where the count cannot rise and nobody waits.
abbrev pub IsSignal : Counted → ℕ → Result (Option ℕ) RunFault → Counted → Type 0
IsSignal old s (Ok freed) new = (is_overfull old s ≡ false) × (freed ≡ semaphore_waiter old.table.rows s) × (new ≡ signalled old s)
IsSignal old s (Err fault) new = (is_overfull old s ≡ true) × (fault ≡ Count) × (new ≡ old)
