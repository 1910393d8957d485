-- The rules of quiet rewriting that the frequent steps follow, one equation each.
use Rattle.std.proofs.Common.{◌≡◌, ℕ, ℤ, Bool, true, false, Option, Some, None, refl, sym, ap, ◌∙◌}
use Rattle.std.specs.Prelude.{if◌then◌else◌, Ok, Err}
use Rattle.std.specs.declared.boxed.Box.{Box}
use Rattle.std.specs.declared.alloc.Global.{Global}
use Rattle.pfc_base.specs.declared.places.Place.{Place}
use Rattle.pfc_base.specs.declared.faults.RunFault.{RunFault}
use Rattle.pfc_tree.specs.declared.tree.AddOp.{AddOp}
use Rattle.pfc_tree.specs.declared.tree.MulOp.{MulOp}
use Rattle.pfc_tree.specs.declared.tree.Relation.{Relation}
use Rattle.pfc_tree.specs.declared.tree.Sign.{Sign}
use Rattle.pfc_tree.specs.trees.Exprs.{ExprTree, SimpleTree, TermTree, SummandTrees, FactorTree, MultiplierTrees, related, sum, more_summands, more_multipliers}
use Rattle.pfc_tree.specs.trees.Stmts.{StmtTree, StmtTrees, ArmTrees, case_of, while_do, repeat_until, repeat_forever}
use Rattle.pfc_tree.specs.views.Stmts.{if_of}
use Rattle.pfc_types.specs.rules.Expressions.{Env}
use Rattle.pfc_values.specs.Numbers.{Outcome}
use Rattle.pfc_semantics.specs.Values.{Value, ordinal}
use Rattle.pfc_semantics.specs.Remainders.{Context, Remainder, AwaitsValue, Action, compare_with, compare_to, begin_sum, add_to, multiply_by, turn, faults}
use Rattle.pfc_semantics.specs.Expressions.{with_number, from_expr, from_simple, from_term, from_factor, from_summands, from_multipliers}
use Rattle.pfc_semantics.specs.Statements.{from_stmt, from_stmts}
use Rattle.pfc_semantics.specs.Alternatives.{context}
use Rattle.pfc_semantics.specs.Rewriting.{from_remainder, from_value}
use Rattle.pfc_pending.specs.Waiting.{choose_of, choose_arm_of, while_true_of, until_of, until_true_of}

pub related_step :
    (c : Context) (left right : SimpleTree) (op : Relation × Place) (p : Place) (u : AwaitsValue)
    → from_simple c left (compare_with op.0 right u) (from_value c (compare_with op.0 right u)) ≡ from_expr c (related left op right p) u (from_value c u)
related_step c left right op p u = refl

pub signed_step :
    (c : Context) (sign : Sign × Place) (t : TermTree) (rest : SummandTrees) (u : AwaitsValue)
    → from_term c t (begin_sum (Some sign) rest u) (from_value c (begin_sum (Some sign) rest u)) ≡ from_simple c (sum (Some sign) t rest) u (from_value c u)
signed_step c sign t rest u = refl

pub add_step :
    (c : Context) (n : ℤ) (op : AddOp × Place) (t : TermTree) (rest : SummandTrees) (u : AwaitsValue)
    → from_term c t (add_to n op.0 rest u) (from_value c (add_to n op.0 rest u)) ≡ from_summands c (ordinal n) (more_summands op t rest) u (from_value c u)
add_step c n op t rest u = refl

pub multiply_step :
    (c : Context) (n : ℤ) (op : MulOp × Place) (f : FactorTree) (rest : MultiplierTrees) (u : AwaitsValue)
    → from_factor c f (multiply_by n op.0 rest u) (from_value c (multiply_by n op.0 rest u))
    ≡ from_multipliers c (ordinal n) (more_multipliers op f rest) u (from_value c u)
multiply_step c n op f rest u = refl

pub ruleset rules = (related_step, signed_step, add_step, multiply_step)

-- ## Numbers

pub with_ok : (c : Context) (o : Outcome) (go : Value → Action) (n : ℤ) → o ≡ Ok n → with_number c o go ≡ go (ordinal n)
with_ok c o go n is = ap (λ (x : Outcome). with_number c x go) is

pub with_fault : (c : Context) (o : Outcome) (go : Value → Action) (f : RunFault) → o ≡ Err f → with_number c o go ≡ faults c f
with_fault c o go f is = ap (λ (x : Outcome). with_number c x go) is

pub compared_step :
    (c : Context) (r : Relation) (t : SimpleTree) (u : AwaitsValue) (n : ℤ)
    → from_simple c t (compare_to n r u) (from_value c (compare_to n r u)) ≡ from_value c (compare_with r t u) (ordinal n)
compared_step c r t u n = refl

pub ruleset values = (with_ok, with_fault, compared_step)

-- ## Tests and loops

pub if_step :
    (env : Env) (n : ℕ) (st : StmtTree) (e : ExprTree) (first : StmtTree) (other : Option (Box StmtTree Global)) (p : Place) (k : Remainder)
    → st ≡ if_of e first other p
    → from_expr (context env p.line) e (choose_of n st k) (from_value (context env p.line) (choose_of n st k))
    ≡ from_stmt env n (if_of e first other p) k (from_remainder env k)
if_step env n st e first None p k is = ap (λ x. from_expr (context env p.line) e (choose_of n x k) (from_value (context env p.line) (choose_of n x k))) is
if_step env n st e first (Some other) p k is =
    ap (λ x. from_expr (context env p.line) e (choose_of n x k) (from_value (context env p.line) (choose_of n x k))) is

pub case_step :
    (env : Env) (n : ℕ) (st : StmtTree) (e : ExprTree) (arms : ArmTrees) (last : Bool) (p : Place) (k : Remainder)
    → st ≡ case_of e arms last p
    → from_expr (context env p.line) e (choose_arm_of n st k) (from_value (context env p.line) (choose_arm_of n st k))
    ≡ from_stmt env n (case_of e arms last p) k (from_remainder env k)
case_step env n st e arms last p k is =
    ap (λ x. from_expr (context env p.line) e (choose_arm_of n x k) (from_value (context env p.line) (choose_arm_of n x k))) is

pub while_step :
    (env : Env) (n : ℕ) (st : StmtTree) (e : ExprTree) (pass : StmtTree) (p : Place) (k : Remainder)
    → st ≡ while_do e pass p
    → from_expr (context env p.line) e (while_true_of n st k) (from_value (context env p.line) (while_true_of n st k))
    ≡ from_stmt env n (while_do e pass p) k (from_remainder env k)
while_step env n st e pass p k is = ap (λ x. from_expr (context env p.line) e (while_true_of n x k) (from_value (context env p.line) (while_true_of n x k))) is

pub until_step :
    (env : Env) (n : ℕ) (st : StmtTree) (ss : StmtTrees) (e : ExprTree) (p : Place) (k : Remainder)
    → st ≡ repeat_until ss e p
    → from_stmts env n ss (until_of n st k) (from_remainder env (until_of n st k)) ≡ from_stmt env n (repeat_until ss e p) k (from_remainder env k)
until_step env n st ss e p k is = ap (λ x. from_stmts env n ss (until_of n x k) (from_remainder env (until_of n x k))) is

pub forever_step :
    (env : Env) (n : ℕ) (st : StmtTree) (ss : StmtTrees) (p : Place) (k : Remainder)
    → st ≡ repeat_forever ss p
    → from_stmts env n ss (turn n st k) (from_remainder env (turn n st k)) ≡ from_stmt env n (repeat_forever ss p) k (from_remainder env k)
forever_step env n st ss p k is = ap (λ x. from_stmts env n ss (turn n x k) (from_remainder env (turn n x k))) is

pub ruleset tests = (if_step, case_step, while_step, until_step, forever_step)

-- the test of a `repeat` comes behind its statements
pub behind_statements :
    (env : Env) (n : ℕ) (st : StmtTree) (ss : StmtTrees) (e : ExprTree) (p : Place) (k : Remainder)
    → repeat_until ss e p ≡ st
    → from_expr (context env p.line) e (until_true_of n st k) (from_value (context env p.line) (until_true_of n st k)) ≡ from_remainder env (until_of n st k)
behind_statements env n st ss e p k is =
    ap (λ (y : StmtTree). from_expr (context env p.line) e (until_true_of n y k) (from_value (context env p.line) (until_true_of n y k))) (sym is)
    ∙ ap (λ (y : StmtTree). from_remainder env (until_of n y k)) is

pub ruleset untils = behind_statements

pub either_way : (b : Bool) (a : Action) → (if b then a else a) ≡ a
either_way true a = refl
either_way false a = refl

pub ruleset points = either_way
