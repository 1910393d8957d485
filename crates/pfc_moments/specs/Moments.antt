-- When processes are due.
use Rattle.std.specs.Prelude.{ℕ, ◌≡◌, ◌==◌, ◌&&◌, ◌||◌, Bool, nat_lt, Option, None, Some, List, slice_index_or, ◌≤◌}
use Rattle.pfc_moments.specs.declared.moments.Due.{Due}

-- the moment at which a process is due; a process past the end is never due
abbrev pub moment_at : List (Option ℕ) → ℕ → Option ℕ
moment_at moments p = slice_index_or moments p None

-- the order of moments, and at one moment that of numbers
abbrev pub is_sooner : Due → Due → Bool
is_sooner a b = nat_lt a.moment b.moment || ((a.moment == b.moment) && nat_lt a.process b.process)

-- nobody is due
abbrev pub IsNobody : List (Option ℕ) → Type 0
IsNobody moments = (p : ℕ) → moment_at moments p ≡ None

-- the process is due at this moment, and nobody before it
pub record IsFirst (moments : List (Option ℕ)) (due : Due) : Type 0 where
  pub own : moment_at moments due.process ≡ Some due.moment
  pub least : (p m : ℕ) → moment_at moments p ≡ Some m → due.moment ≤ m
