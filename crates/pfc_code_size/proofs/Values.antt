-- How many values a spread has.
use Rattle.std.proofs.Common.{◌≡◌, ◌+ℤ◌, int_le, pos, ℕ, ℤ, zero, suc, Bool, true, false, [], length, cond, Option, Some, None, refl, ap, ◌∙◌, sym, arith}
use Rattle.pfc_tree.specs.declared.tree.Spread.{Spread}
use Rattle.pfc_types.specs.Types.{extent}
use Rattle.pfc_types.specs.rules.Expressions.{Env}
use Rattle.pfc_semantics.specs.Displays.{Spot}
use Rattle.pfc_semantics.specs.Alternatives.{context, replicas, replicas_from}
use Rattle.pfc_facts.specs.Views.{replicas_with}
use Rattle.pfc_code_size.specs.Statements.{values_in, values_between}

pub from_length : (at : Spot) (line : ℕ) (low : ℤ) (n : ℕ) → length (replicas_from at line low n) ≡ n
from_length at line low zero = refl
from_length at line low (suc n) = let rest = from_length at line (low +ℤ pos 1) n in omega arith

between_count : (between : Bool) (v : Spot) (line : ℕ) (low : ℤ) (n : ℕ) → length (cond between (replicas_from v line low n) []) ≡ cond between n 0
between_count true v line low n = from_length v line low n
between_count false v line low n = refl

pub values_counted :
    (v : Spot) (c : Env) (s : Spread) (r : Option (ℤ × ℤ)) → replicas_with v 0 r ≡ replicas (context c 0) s → values_between r ≡ values_in c s
values_counted v c s None is = ap length is
values_counted v c s (Some values) is =
    sym (between_count (int_le values.0 values.1) v 0 values.0 (extent values.0 values.1)) ∙ ap length is
