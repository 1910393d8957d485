-- Statements that are left.
use Rattle.std.proofs.Common.{◌≡◌, ℕ, ◌<◌, ◌≤◌, List, length, drop, map, get_or, arith}
use Rattle.std.proofs.lemmas.List.{get_or_past, length-map}
use Rattle.pfc_tree.specs.declared.tree.Stmt.{Stmt}
use Rattle.pfc_tree.specs.trees.Stmts.{no_stmts, empty}
use Rattle.pfc_tree.specs.views.Stmts.{stmt_view, stmts_view}
use Rattle.pfc_semantics.specs.Remainders.{Remainder, perform}
use Rattle.pfc_semantics.specs.Statements.{behind}
use Rattle.pfc_meeting.proofs.Behind as left

pub behind_some :
    (n from : ℕ) (ss : List Stmt) (k : Remainder) → from < length ss → behind n (stmts_view (drop from ss)) k ≡ perform n (stmts_view (drop from ss)) k
behind_some n from ss k h = left.behind_some n from ss k h

pub behind_none : (n from : ℕ) (ss : List Stmt) (k : Remainder) → length ss ≤ from → behind n (stmts_view (drop from ss)) k ≡ k
behind_none n from ss k h = left.behind_none n from ss k h

pub no_statements : (ss : List Stmt) (n : ℕ) → n ≡ length ss → stmts_view (drop n ss) ≡ no_stmts
no_statements ss n h = left.no_statements ss n h

-- behind the last one there is none
pub no_statement : (ss : List Stmt) (n : ℕ) → n ≡ length ss → get_or (map stmt_view ss) n empty ≡ empty
no_statement ss n h = get_or_past (map stmt_view ss) n empty (omega (arith, length-map ss stmt_view))
