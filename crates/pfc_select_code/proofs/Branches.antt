-- Where branches begin, by their distances from the first one.
use Rattle.std.proofs.Common.{◌≡◌, ℕ, ◌+◌, List, [], ◌∷◌, length, refl, sym, ap, ap₂, ◌∙◌, arith, length-append, Option, Some, None}
use Rattle.std.proofs.lemmas.List.{length-map}
use Rattle.pfc_tree.specs.declared.tree.Spread.{Spread}
use Rattle.pfc_tree.specs.trees.Exprs.{ExprTree}
use Rattle.pfc_tree.specs.trees.Stmts.{StmtTrees, AltTrees, CommTree, alt, no_alts, more_alts}
use Rattle.pfc_types.specs.rules.Statements.{alt_scopes}
use Rattle.pfc_semantics.specs.Remainders.{Replica}
use Rattle.pfc_semantics.specs.Alternatives.{alternative, alternatives, spread_out, replicas}
use Rattle.pfc_translation.specs.Sites.{Site, context_of}
use Rattle.pfc_translation.specs.Statements.{replica_branches, branches_from, branch_code, distances}
use Rattle.pfc_select_code.specs.Leading.{branch_addresses}

shift_each : (first from : ℕ) (rs : List Replica) → replica_branches (first + from) rs ≡ branch_addresses first (replica_branches from rs)
shift_each first from [] = refl
shift_each first from (r ∷ rs) =
    ap (λ (l : List ℕ). (first + from) ∷ l)
    (ap (λ n. replica_branches n rs) (omega arith) ∙ shift_each first (from + 4) rs)

-- the addresses of the branches of one alternative
pub branches_shift :
    (s : Site) (first from : ℕ) (spread : Option Spread) → branches_from s (first + from) spread ≡ branch_addresses first (branches_from s from spread)
branches_shift s first from None = refl
branches_shift s first from (Some spread) = shift_each first from (replicas (context_of s) spread)

length_each : (from : ℕ) (rs : List Replica) → length (replica_branches from rs) ≡ length rs
length_each from [] = refl
length_each from (r ∷ rs) = let rest = length_each (from + 4) rs in omega (arith, rest)

length_branches :
    (s : Site) (n from : ℕ) (spread : Option Spread) (guard : Option ExprTree) (comm : CommTree) (ss : StmtTrees)
    → length (branches_from s from spread) ≡ length (spread_out (context_of s) n spread guard comm ss)
length_branches s n from None guard comm ss = refl
length_branches s n from (Some spread) guard comm ss =
    length_each from (replicas (context_of s) spread)
    ∙ sym (length-map (replicas (context_of s) spread) (λ r. alternative n guard comm ss (Some r)))

-- there is one distance for each alternative
pub length_distances : (s : Site) (n from : ℕ) (alts : AltTrees) → length (distances s n from alts) ≡ length (alternatives (context_of s) n alts)
length_distances s n from no_alts = refl
length_distances s n from (more_alts (alt spread guard comm ss) alts) =
    let next = n + alt_scopes (alt spread guard comm ss) in
    let behind = from + (branch_code s n (alt spread guard comm ss) 0).size in
    length-append (branches_from s from spread) (distances s next behind alts)
    ∙ ap₂ (λ (j k : ℕ). j + k) (length_branches s n from spread guard comm ss) (length_distances s next behind alts)
    ∙ sym (length-append (spread_out (context_of s) n spread guard comm ss) (alternatives (context_of s) next alts))
