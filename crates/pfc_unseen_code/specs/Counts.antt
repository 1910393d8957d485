-- How many alternatives a select has.
use Rattle.std.specs.Prelude.{ℕ, ◌+◌, ℤ, int_le, max, if◌then◌else◌, length, Option, Some, None}
use Rattle.pfc_tree.specs.declared.tree.Spread.{Spread}
use Rattle.pfc_tree.specs.trees.Stmts.{AltTrees, alt, no_alts, more_alts}
use Rattle.pfc_types.specs.Types.{extent}
use Rattle.pfc_types.specs.rules.Expressions.{Env}
use Rattle.pfc_semantics.specs.Alternatives.{context, replicas}
use Rattle.pfc_expression_code.specs.Putting.{Made}

-- of values from a low one to a high one, where they are known
abbrev pub values_between : Option (ℤ × ℤ) → ℕ
values_between None = 0
values_between (Some values) = if int_le values.0 values.1 then extent values.0 values.1 else 0

-- how many values a spread has; on which line it stands makes no difference
abbrev pub values_in : Env → Spread → ℕ
values_in c s = length (replicas (context c 0) s)

-- an alternative of the text is one, or one for each value where it is replicated
abbrev pub copies_in : Env → Option Spread → ℕ
copies_in c None = 1
copies_in c (Some s) = values_in c s

abbrev pub alternative_count : Env → AltTrees → ℕ
alternative_count c no_alts = 0
alternative_count c (more_alts (alt spread guard comm ss) alts) = copies_in c spread + alternative_count c alts

-- a select with these alternatives
abbrev pub with_select : Env → AltTrees → Made → Made
with_select c alts m = record m { arms = max m.arms (alternative_count c alts) }
