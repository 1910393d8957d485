-- Statements, from a place on.
use Rattle.std.proofs.Common.{◌≡◌, ℕ, zero, suc, ◌+◌, ◌<◌, ◌≤◌, List, [], ◌∷◌, length, get_or, drop, map, refl, sym, ap, ap₂, ◌∙◌, arith}
use Rattle.std.proofs.Math.ListN.{drop_of_length-le}
use Rattle.std.proofs.lemmas.List.{get_or-map}
use Rattle.pfc_tree.specs.declared.tree.Stmt.{Stmt}
use Rattle.pfc_tree.specs.trees.Stmts.{StmtTree, StmtTrees, empty, no_stmts, more_stmts}
use Rattle.pfc_tree.specs.views.Stmts.{stmt_view, stmts_view}
use Rattle.pfc_types.specs.rules.Statements.{scopes_in}
use Rattle.pfc_semantics.specs.Remainders.{Context, Remainder, Action, perform}
use Rattle.pfc_semantics.specs.Statements.{from_stmt, from_stmts, behind}
use Rattle.pfc_sites.proofs.Left.{one_more}

pub at_place : (ss : List Stmt) (i : ℕ) (s : Stmt) → i < length ss → s ≡ get_or ss i s → stmt_view s ≡ get_or (map stmt_view ss) i empty
at_place ss i s less is = ap stmt_view is ∙ sym (get_or-map stmt_view ss i s empty less)

pub behind_all : (ss : List StmtTree) (i : ℕ) → length ss ≤ i → empty ≡ get_or ss i empty
behind_all [] i less = refl
behind_all (s ∷ ss) zero less = elim less [ ]
behind_all (s ∷ ss) (suc i) less = behind_all ss i (omega (arith, less))

pub ruleset nodes = (at_place, behind_all)

first_stmt : (ss : List Stmt) (i : ℕ) (s : Stmt) → i < length ss →
    stmts_view (drop i ss) ≡ more_stmts (get_or (map stmt_view ss) i empty) (stmts_view (drop (i + 1) ss))
first_stmt ss i s less = ap stmts_view (one_more ss i s less) ∙
    ap (λ x. more_stmts x (stmts_view (drop (i + 1) ss))) (sym (get_or-map stmt_view ss i s empty less))

behind_more : (m : ℕ) (k : Remainder) (rest : StmtTrees) (s : StmtTree) (ss : StmtTrees) → rest ≡ more_stmts s ss → perform m rest k ≡ behind m rest k
behind_more m k rest s ss is = ap (λ r. perform m r k) is ∙ sym (ap (λ r. behind m r k) is)

pub stmts_none :
    (c : Context) (n : ℕ) (ss : List Stmt) (i : ℕ) (k : Remainder) (go : Action)
    → length ss ≤ i → go ≡ from_stmts c.env n (stmts_view (drop i ss)) k go
stmts_none c n ss i k go less = sym (ap (λ x. from_stmts c.env n (stmts_view x) k go) (drop_of_length-le ss less))

pub stmts_last :
    (c : Context) (n : ℕ) (ss : List Stmt) (i : ℕ) (s : Stmt) (k : Remainder) (go : Action)
    → i < length ss → i + 1 ≡ length ss → s ≡ get_or ss i s
    → from_stmt c.env n (get_or (map stmt_view ss) i empty) k go ≡ from_stmts c.env n (stmts_view (drop i ss)) k go
stmts_last c n ss i s k go less last is =
    let x = get_or (map stmt_view ss) i empty in
    let none : stmts_view (drop (i + 1) ss) ≡ no_stmts = ap stmts_view (drop_of_length-le ss (omega (arith, last))) in
    sym (ap (λ t. from_stmts c.env n t k go) (first_stmt ss i s less ∙ ap (more_stmts x) none))

pub stmts_more :
    (c : Context) (n m : ℕ) (ss : List Stmt) (i : ℕ) (s : Stmt) (k : Remainder) (go : Action)
    → i + 1 < length ss → s ≡ get_or ss i s → m ≡ n + scopes_in (stmt_view s)
    → from_stmt c.env n (get_or (map stmt_view ss) i empty) (perform m (stmts_view (drop (i + 1) ss)) k)
    (from_stmts c.env m (stmts_view (drop (i + 1) ss)) k go)
    ≡ from_stmts c.env n (stmts_view (drop i ss)) k go
stmts_more c n m ss i s k go less is count =
    let x = get_or (map stmt_view ss) i empty in
    let rest = stmts_view (drop (i + 1) ss) in
    let first : i < length ss = omega (arith, less) in
    let same : stmt_view s ≡ x = at_place ss i s first is in
    let number : m ≡ n + scopes_in x = count ∙ ap (λ y. n + scopes_in y) same in
    let kept : perform m rest k ≡ behind (n + scopes_in x) rest k =
    behind_more m k rest _ _ (first_stmt ss (i + 1) s less) ∙ ap (λ j. behind j rest k) number in
    ap₂ (λ r j. from_stmt c.env n x r (from_stmts c.env j rest k go)) kept number
    ∙ sym (ap (λ t. from_stmts c.env n t k go) (first_stmt ss i s first))

pub ruleset stmts = (stmts_none, stmts_last, stmts_more)
