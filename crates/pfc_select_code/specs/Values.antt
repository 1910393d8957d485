-- The values of a replicated alternative.
use Rattle.std.specs.Prelude.{ℕ, ℤ, List}
use Rattle.pfc_tree.specs.Symbols.{Text}
use Rattle.pfc_types.specs.rules.Expressions.{find}
use Rattle.pfc_semantics.specs.Displays.{Spot}
use Rattle.pfc_semantics.specs.Remainders.{Replica}
use Rattle.pfc_semantics.specs.Expressions.{spot_of}
use Rattle.pfc_semantics.specs.Alternatives.{replicas_from}
use Rattle.pfc_translation.specs.Sites.{Site}

-- the variable of a spread
abbrev pub spread_spot : Site → Text → Spot
spread_spot s x = (spot_of s.env (find s.env x)).spot

-- which has a value
abbrev pub at_value : Site → Text → ℤ → Replica
at_value s x v = record { at = spread_spot s x; value = v; line = s.line }

-- or one after the other so many values, from a first one on
abbrev pub at_values : Site → Text → ℤ → ℕ → List Replica
at_values s x low count = replicas_from (spread_spot s x) s.line low count
