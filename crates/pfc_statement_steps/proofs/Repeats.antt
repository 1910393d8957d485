-- The test of a `repeat`, which comes behind its statements.
use Rattle.std.proofs.Common.{◌≡◌, ℕ, sym, ap, ◌∙◌}
use Rattle.pfc_base.specs.declared.places.Place.{Place}
use Rattle.pfc_tree.specs.trees.Exprs.{ExprTree}
use Rattle.pfc_tree.specs.trees.Stmts.{StmtTree, StmtTrees, repeat_until}
use Rattle.pfc_types.specs.rules.Expressions.{Env}
use Rattle.pfc_semantics.specs.Remainders.{Remainder}
use Rattle.pfc_semantics.specs.Alternatives.{context}
use Rattle.pfc_semantics.specs.Expressions.{from_expr}
use Rattle.pfc_semantics.specs.Rewriting.{from_remainder, from_value}
use Rattle.pfc_pending.specs.Waiting.{until_of, until_true_of}

pub test_step :
    (env : Env) (n : ℕ) (st : StmtTree) (ss : StmtTrees) (e : ExprTree) (p : Place) (k : Remainder)
    → repeat_until ss e p ≡ st
    → from_expr (context env p.line) e (until_true_of n st k) (from_value (context env p.line) (until_true_of n st k)) ≡ from_remainder env (until_of n st k)
test_step env n st ss e p k is =
    let begun : from_expr (context env p.line) e (until_true_of n st k) (from_value (context env p.line) (until_true_of n st k))
    ≡ from_remainder env (until_of n (repeat_until ss e p) k) =
    ap (λ (y : StmtTree). from_expr (context env p.line) e (until_true_of n y k) (from_value (context env p.line) (until_true_of n y k))) (sym is) in
    begun ∙ ap (λ (y : StmtTree). from_remainder env (until_of n y k)) is

pub ruleset tests = test_step
