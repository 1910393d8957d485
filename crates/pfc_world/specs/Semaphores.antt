-- Semaphores. An action on one is a function of the table of processes and the counts.
use Rattle.std.specs.Prelude.{ℕ, ℤ, pos, negsuc, ◌+◌, ◌-◌, ◌==◌, ◌&&◌, Bool, true, false, not, is_some, if◌then◌else◌, Option, None, Some, List, []}
use Rattle.std.specs.Prelude.{slice_index_or, slice_set}
use Rattle.pfc_state.specs.declared.waits.Why.TheVariants.{Semaphore}
use Rattle.pfc_state.specs.Stands.{Is_ready}
use Rattle.pfc_world.specs.Partners.{semaphore_waiter}
use Rattle.pfc_world.specs.Tables.{Table}
use Rattle.pfc_world.specs.Transitions.{placed, blocked}

-- the table of processes, and the count of each semaphore by its number
pub record Counted : Type 0 where
  pub table : Table
  pub counts : List ℕ

abbrev pub counted : Table → List ℕ → Counted
counted w counts = record { table = w; counts = counts }

abbrev pub count_of : Counted → ℕ → ℕ
count_of c s = slice_index_or c.counts s 0

-- the semaphore has this count
abbrev pub counting : Counted → ℕ → ℕ → Counted
counting c s n = record { table = c.table; counts = slice_set c.counts s n }

-- `initial(s, n)` sets the count. It is a fault where n is below 0.
abbrev pub is_below_zero : ℤ → Bool
is_below_zero (pos n) = false
is_below_zero (negsuc n) = true

abbrev pub initialised : List ℕ → ℕ → ℤ → List ℕ
initialised counts s (pos n) = slice_set counts s n
initialised counts s (negsuc n) = counts

-- `wait(s)` by the process that acts: a positive count falls by 1, and at 0 the process waits.
abbrev pub waited : Counted → ℕ → ℕ → Counted
waited c p s = if count_of c s == 0 then record { table = blocked c.table p (Semaphore s) []; counts = c.counts } else counting c s (count_of c s - 1)

-- the greatest count, which is the greatest integer
abbrev pub most_count : ℕ
most_count = 2147483647

-- `signal(s)` is a fault where nobody waits and the count cannot rise.
abbrev pub is_overfull : Counted → ℕ → Bool
is_overfull c s = not (is_some (semaphore_waiter c.table.rows s)) && (count_of c s == most_count)

abbrev pub signalled_to : Option ℕ → Counted → ℕ → Counted
signalled_to (Some q) c s = record { table = placed c.table q Is_ready; counts = c.counts }
signalled_to None c s = counting c s (count_of c s + 1)

-- `signal(s)` makes the first waiter ready, and the count stays; without a waiter the count rises by 1.
abbrev pub signalled : Counted → ℕ → Counted
signalled c s = signalled_to (semaphore_waiter c.table.rows s) c s
