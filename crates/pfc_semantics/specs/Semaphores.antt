-- Semaphores.
use Rattle.std.specs.Prelude.{ℕ, ℤ, pos, negsuc, if◌then◌else◌, Ok, Err}
use Rattle.pfc_base.specs.declared.faults.RunFault.TheVariants.{Negative, Count as TooLarge}
use Rattle.pfc_world.specs.Semaphores.{counting, waited, is_overfull, signalled}
use Rattle.pfc_semantics.specs.Displays.{Spot}
use Rattle.pfc_semantics.specs.Programs.{Program}
use Rattle.pfc_semantics.specs.Remainders.{Context, Remainder}
use Rattle.pfc_semantics.specs.Configurations.{Config, Effect, goes_on, number_for, counted, with_counted}

-- `initial(s, n)` sets the count, and is fault 10 where n is below 0.
abbrev pub initials_at : Program → Config → ℕ → Context → Spot → ℤ → Remainder → Effect
initials_at g c p x s (pos n) k = Ok (with_counted (goes_on g c p x k) (counting (counted c) (number_for g c p s) n))
initials_at g c p x s (negsuc n) k = Err Negative

-- `wait(s)` lowers a positive count; at 0 the process waits.
abbrev pub waits_for : Program → Config → ℕ → Context → Spot → Remainder → Effect
waits_for g c p x s k = Ok (with_counted (goes_on g c p x k) (waited (counted c) p (number_for g c p s)))

-- `signal(s)` makes the first waiter ready and leaves the count. Without a waiter the count rises by 1; fault 11 where it cannot.
abbrev pub signals_to : Program → Config → ℕ → Context → Spot → Remainder → Effect
signals_to g c p x s k =
    let n = number_for g c p s in
    if is_overfull (counted c) n then Err TooLarge else Ok (with_counted (goes_on g c p x k) (signalled (counted c) n))
