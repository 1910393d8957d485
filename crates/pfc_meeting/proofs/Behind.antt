-- Statements that are left.
use Rattle.std.proofs.Common.{◌≡◌, ℕ, ◌<◌, ◌≤◌, zero, suc, List, [], ◌∷◌, length, drop, drop_of_length-le, refl, ap, arith}
use Rattle.std.specs.Prelude.{take, ◌++◌}
use Rattle.std.proofs.lemmas.List.{take-append-le}
use Rattle.pfc_pending.specs.declared.pending.Pending.{Pending}
use Rattle.pfc_tree.specs.declared.tree.Stmt.{Stmt}
use Rattle.pfc_tree.specs.trees.Stmts.{no_stmts}
use Rattle.pfc_tree.specs.views.Stmts.{stmts_view}
use Rattle.pfc_semantics.specs.Remainders.{Remainder, perform}
use Rattle.pfc_semantics.specs.Statements.{behind}

pub behind_some :
    (n from : ℕ) (ss : List Stmt) (k : Remainder) → from < length ss → behind n (stmts_view (drop from ss)) k ≡ perform n (stmts_view (drop from ss)) k
behind_some n zero [] k h = absurd (omega arith)
behind_some n zero (s ∷ ss) k h = refl
behind_some n (suc from) [] k h = absurd (omega arith)
behind_some n (suc from) (s ∷ ss) k h = behind_some n from ss k (omega arith)

pub behind_none : (n from : ℕ) (ss : List Stmt) (k : Remainder) → length ss ≤ from → behind n (stmts_view (drop from ss)) k ≡ k
behind_none n zero [] k h = refl
behind_none n zero (s ∷ ss) k h = absurd (omega arith)
behind_none n (suc from) [] k h = refl
behind_none n (suc from) (s ∷ ss) k h = behind_none n from ss k (omega arith)

pub no_statements : (ss : List Stmt) (n : ℕ) → n ≡ length ss → stmts_view (drop n ss) ≡ no_stmts
no_statements ss n h = ap stmts_view (drop_of_length-le ss {i = n} (omega arith))

-- what was pending is kept where one more is
pub begin_kept : (n : ℕ) (ps : List Pending) (part : Pending) → n ≤ length ps → take n (ps ++ (part ∷ [])) ≡ take n ps
begin_kept n ps part h = take-append-le n ps (part ∷ []) h
