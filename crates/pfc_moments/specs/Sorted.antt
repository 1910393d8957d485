-- The order of those who are due.
use Rattle.std.specs.Prelude.{ℕ, Bool}
use Rattle.pfc_moments.specs.declared.moments.Due.{Due}
use Rattle.pfc_moments.specs.Moments.{is_sooner}

abbrev pub due : ℕ → ℕ → Due
due moment process = record { moment = moment; process = process }

-- whether process p, due at moment m, comes before process q, due at moment n
abbrev pub comes_first : ℕ → ℕ → ℕ → ℕ → Bool
comes_first p m q n = is_sooner (due m p) (due n q)
