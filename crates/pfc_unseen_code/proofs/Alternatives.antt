-- How many alternatives there are.
use Rattle.std.proofs.Common.{◌≡◌, ◌+◌, ◌+ℤ◌, int_le, pos, ℕ, ℤ, zero, suc, Bool, true, false, [], length, cond, Option, Some, None, refl, ap, ◌∙◌, sym, arith}
use Rattle.std.proofs.Common.{length-append}
use Rattle.std.proofs.lemmas.List.{length-map}
use Rattle.pfc_tree.specs.declared.tree.Spread.{Spread}
use Rattle.pfc_tree.specs.trees.Exprs.{ExprTree}
use Rattle.pfc_tree.specs.trees.Stmts.{StmtTrees, AltTrees, CommTree, alt, no_alts, more_alts}
use Rattle.pfc_types.specs.Types.{extent}
use Rattle.pfc_types.specs.rules.Constants.{Ordinal, constant_value}
use Rattle.pfc_types.specs.rules.Expressions.{Env, find}
use Rattle.pfc_types.specs.rules.Statements.{alt_scopes}
use Rattle.pfc_semantics.specs.Displays.{Spot}
use Rattle.pfc_semantics.specs.Expressions.{spot_of}
use Rattle.pfc_semantics.specs.Remainders.{Replica}
use Rattle.pfc_semantics.specs.Alternatives.{context, replicas, replicas_from, replicas_by, alternative, alternatives, spread_out}
use Rattle.pfc_facts.specs.Views.{replicas_with}
use Rattle.pfc_translation.specs.Sites.{Site, context_of}
use Rattle.pfc_unseen_code.specs.Counts.{values_between, values_in, copies_in, alternative_count}

from_length : (v : Spot) (line : ℕ) (low : ℤ) (n : ℕ) → length (replicas_from v line low n) ≡ n
from_length v line low zero = refl
from_length v line low (suc n) = let rest = from_length v line (low +ℤ pos 1) n in omega arith

between_count :
    (between : Bool) (v : Spot) (line : ℕ) (low : ℤ) (n : ℕ) → length (cond between (replicas_from v line low n) []) ≡ cond between n 0
between_count true v line low n = from_length v line low n
between_count false v line low n = refl

pub values_counted :
    (v : Spot) (c : Env) (s : Spread) (r : Option (ℤ × ℤ)) → replicas_with v 0 r ≡ replicas (context c 0) s → values_between r ≡ values_in c s
values_counted v c s None is = ap length is
values_counted v c s (Some values) is =
    sym (between_count (int_le values.0 values.1) v 0 values.0 (extent values.0 values.1)) ∙ ap length is

-- ## On any line

between_length :
    (between : Bool) (v : Spot) (j k : ℕ) (low : ℤ) (n : ℕ)
    → length (cond between (replicas_from v j low n) []) ≡ length (cond between (replicas_from v k low n) [])
between_length true v j k low n = from_length v j low n ∙ sym (from_length v k low n)
between_length false v j k low n = refl

by_length : (v : Spot) (j k : ℕ) (low high : Option Ordinal) → length (replicas_by v j low high) ≡ length (replicas_by v k low high)
by_length v j k None high = refl
by_length v j k (Some low) None = refl
by_length v j k (Some low) (Some high) = between_length (int_le low.value high.value) v j k low.value (extent low.value high.value)

replicas_length : (s : Site) (spread : Spread) → values_in s.env spread ≡ length (replicas (context_of s) spread)
replicas_length s spread =
    by_length (spot_of s.env (find s.env spread.name)).spot 0 s.line
    (constant_value s.env.state.blocks.scopes s.env.view spread.low)
    (constant_value s.env.state.blocks.scopes s.env.view spread.high)

-- ## Of a select

spread_length :
    (s : Site) (n : ℕ) (spread : Option Spread) (guard : Option ExprTree) (comm : CommTree) (ss : StmtTrees)
    → copies_in s.env spread ≡ length (spread_out (context_of s) n spread guard comm ss)
spread_length s n None guard comm ss = refl
spread_length s n (Some spread) guard comm ss =
    replicas_length s spread
    ∙ sym (length-map (replicas (context_of s) spread) (λ (r : Replica). alternative n guard comm ss (Some r)))

pub alternatives_length : (s : Site) (n : ℕ) (alts : AltTrees) → alternative_count s.env alts ≡ length (alternatives (context_of s) n alts)
alternatives_length s n no_alts = refl
alternatives_length s n (more_alts (alt spread guard comm ss) alts) =
    let next = n + alt_scopes (alt spread guard comm ss) in
    let first = spread_length s n spread guard comm ss in
    let rest = alternatives_length s next alts in
    let both = length-append (spread_out (context_of s) n spread guard comm ss) (alternatives (context_of s) next alts) in
    omega arith
