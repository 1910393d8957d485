-- The readings of an `if` that is made.
use Rattle.std.proofs.Common.{◌≡◌, Some, None, rules}
use Rattle.std.specs.declared.boxed.Box.{Box}
use Rattle.std.specs.declared.alloc.Global.{Global}
use Rattle.pfc_base.specs.declared.places.Place.{Place}
use Rattle.pfc_tree.specs.declared.tree.Expr.{Expr}
use Rattle.pfc_tree.specs.declared.tree.Stmt.{Stmt}
use Rattle.pfc_tree.specs.declared.tree.Stmt.TheVariants.{If}
use Rattle.pfc_tree.specs.declared.tree.Comm.{the_lemmas}
use Rattle.pfc_tree.specs.trees.Stmts.{if_then, if_then_else}
use Rattle.pfc_tree.specs.views.Exprs.{expr_view}
use Rattle.pfc_tree.specs.views.Stmts.{stmt_view}

pub seen_if_then : (e : Box Expr Global) (s : Box Stmt Global) (x : Stmt) (p : Place) → s.value ≡ x →
    if_then (expr_view e.value) (stmt_view x) p ≡ stmt_view (If e s None p)
seen_if_then e s x p k = search (rules, the_lemmas)

pub seen_if_else : (e : Box Expr Global) (s t : Box Stmt Global) (x y : Stmt) (p : Place) → s.value ≡ x → t.value ≡ y →
    if_then_else (expr_view e.value) (stmt_view x) (stmt_view y) p ≡ stmt_view (If e s (Some t) p)
seen_if_else e s t x y p k l = search (rules, the_lemmas)
