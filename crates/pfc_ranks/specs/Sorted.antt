-- The order of those who are delayed.
use Rattle.std.specs.Prelude.{ℕ, Bool}
use Rattle.pfc_ranks.specs.declared.ranks.Delay.{Delay}
use Rattle.pfc_ranks.specs.Delays.{is_before}

-- whether process p with delay a comes before process q with delay b
abbrev pub comes_first : ℕ → Delay → ℕ → Delay → Bool
comes_first p a q b = is_before a b
