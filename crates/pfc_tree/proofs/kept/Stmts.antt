-- Statements: a trace passes as many tokens as are written.
use Rattle.std.proofs.Common.{◌≡◌, Bool, true, false, length, refl, Option, Some, None, option_map}
use Rattle.pfc_base.specs.declared.places.Place.{Place}
use Rattle.pfc_tree.specs.kept.Exprs.{passed}
use Rattle.pfc_tree.proofs.kept.Passing.{passing}
use Rattle.pfc_tree.specs.trees.Stmts.{StmtTree, StmtTrees, BodyTree, ArmTree, ArmTrees, AcceptTree, AltTree, AltTrees, CommTree, empty, null, block, if_then}
use Rattle.pfc_tree.specs.trees.Stmts.{if_then_else, case_of, while_do, repeat_until, repeat_forever, for_do, cobegin, accepting, requeue, select, select_else}
use Rattle.pfc_tree.specs.trees.Stmts.{assign, send, receive, call, no_stmts, more_stmts, body, arm, no_arms, more_arms, accept, accept_do, alt, no_alts}
use Rattle.pfc_tree.specs.trees.Stmts.{more_alts, comm_accept, comm_send, comm_receive, timeout, terminate}
use Rattle.pfc_tree.specs.forget.Stmts.{forget_spread, forget_stmt, forget_stmts, forget_body, forget_arm, forget_arms, forget_accept, forget_alt, forget_alts}
use Rattle.pfc_tree.specs.forget.Stmts.{forget_comm}
use Rattle.pfc_tree.specs.tokens.Stmts.{stmt_tokens, stmts_tokens, semicolon_stmts_tokens, body_tokens, arm_tokens, arms_tokens, semicolon_arms_tokens}
use Rattle.pfc_tree.specs.tokens.Stmts.{accept_tokens, alt_tokens, alts_tokens, or_alts_tokens, comm_tokens, pri_tokens, replication_tokens, guard_tokens}
use Rattle.pfc_tree.specs.kept.Stmts.{stmt_trace, stmts_trace, semicolon_stmts_trace, body_trace, arm_trace, arms_trace, semicolon_arms_trace, accept_trace}
use Rattle.pfc_tree.specs.kept.Stmts.{alt_trace, alts_trace, or_alts_trace, comm_trace, pri_trace, replication_trace, guard_trace}
use Rattle.pfc_tree.specs.declared.tree.Spread.{Spread}
use Rattle.pfc_tree.specs.trees.Exprs.{ExprTree}
use Rattle.pfc_tree.specs.forget.Exprs.{forget_expr}
use Rattle.pfc_tree.proofs.kept.Exprs.{expr_passed, desig_passed, actuals_passed}
use Rattle.pfc_tree.proofs.kept.Types.{constant_passed, constants_passed, last_passed, formals_passed}

pri_passed : (b : Bool) (p : Place) → passed (pri_trace b p) ≡ length (pri_tokens b)
pri_passed false p = refl
pri_passed true p = refl

replication_passed : (r : Option Spread) → passed (replication_trace r) ≡ length (replication_tokens (option_map forget_spread r))
replication_passed None = refl
replication_passed (Some r) = search (passing, constant_passed r.low, constant_passed r.high) depth 14

guard_passed : (g : Option ExprTree) → passed (guard_trace g) ≡ length (guard_tokens (option_map forget_expr g))
guard_passed None = refl
guard_passed (Some e) = search (passing, expr_passed e) depth 14

mutual
  pub stmt_passed : (x : StmtTree) → passed (stmt_trace x) ≡ length (stmt_tokens (forget_stmt x))
  stmt_passed empty = search passing depth 14
  stmt_passed (null p) = search passing depth 14
  stmt_passed (block b p) = search (passing, body_passed b) depth 14
  stmt_passed (if_then e s p) = search (passing, expr_passed e, stmt_passed s) depth 14
  stmt_passed (if_then_else e s s' p) = search (passing, expr_passed e, stmt_passed s, stmt_passed s') depth 14
  stmt_passed (case_of e arms b p) = search (passing, expr_passed e, arms_passed arms, last_passed b) depth 14
  stmt_passed (while_do e s p) = search (passing, expr_passed e, stmt_passed s) depth 14
  stmt_passed (repeat_until ss e p) = search (passing, stmts_passed ss, expr_passed e) depth 14
  stmt_passed (repeat_forever ss p) = search (passing, stmts_passed ss) depth 14
  stmt_passed (for_do x e b e' s p p') = search (passing, expr_passed e, expr_passed e', stmt_passed s) depth 14
  stmt_passed (cobegin ss p p') = search (passing, stmts_passed ss) depth 14
  stmt_passed (accepting a p) = search (passing, accept_passed a) depth 14
  stmt_passed (requeue x args p) = search (passing, actuals_passed args) depth 14
  stmt_passed (select b alts p p') = search (passing, pri_passed b p, alts_passed alts) depth 14
  stmt_passed (select_else b alts ss p p' p'') = search (passing, pri_passed b p', alts_passed alts, stmts_passed ss) depth 14
  stmt_passed (assign d e p p') = search (passing, desig_passed d, expr_passed e) depth 14
  stmt_passed (send d e p p') = search (passing, desig_passed d, expr_passed e) depth 14
  stmt_passed (receive d d' p p') = search (passing, desig_passed d, desig_passed d') depth 14
  stmt_passed (call d args p) = search (passing, desig_passed d, actuals_passed args) depth 14

  pub stmts_passed : (xs : StmtTrees) → passed (stmts_trace xs) ≡ length (stmts_tokens (forget_stmts xs))
  stmts_passed no_stmts = refl
  stmts_passed (more_stmts s ss) = search (passing, stmt_passed s, semicolon_stmts_passed ss) depth 14

  pub semicolon_stmts_passed : (xs : StmtTrees) → passed (semicolon_stmts_trace xs) ≡ length (semicolon_stmts_tokens (forget_stmts xs))
  semicolon_stmts_passed no_stmts = refl
  semicolon_stmts_passed (more_stmts s ss) = search (passing, stmt_passed s, semicolon_stmts_passed ss) depth 14

  pub body_passed : (x : BodyTree) → passed (body_trace x) ≡ length (body_tokens (forget_body x))
  body_passed (body ss p p') = search (passing, stmts_passed ss) depth 14

  pub arm_passed : (x : ArmTree) → passed (arm_trace x) ≡ length (arm_tokens (forget_arm x))
  arm_passed (arm cs s) = search (passing, constants_passed cs, stmt_passed s) depth 14

  pub arms_passed : (xs : ArmTrees) → passed (arms_trace xs) ≡ length (arms_tokens (forget_arms xs))
  arms_passed no_arms = refl
  arms_passed (more_arms a arms) = search (passing, arm_passed a, semicolon_arms_passed arms) depth 14

  pub semicolon_arms_passed : (xs : ArmTrees) → passed (semicolon_arms_trace xs) ≡ length (semicolon_arms_tokens (forget_arms xs))
  semicolon_arms_passed no_arms = refl
  semicolon_arms_passed (more_arms a arms) = search (passing, arm_passed a, semicolon_arms_passed arms) depth 14

  pub accept_passed : (x : AcceptTree) → passed (accept_trace x) ≡ length (accept_tokens (forget_accept x))
  accept_passed (accept x gs p) = search (passing, formals_passed gs) depth 14
  accept_passed (accept_do x gs s p) = search (passing, formals_passed gs, stmt_passed s) depth 14

  pub alt_passed : (x : AltTree) → passed (alt_trace x) ≡ length (alt_tokens (forget_alt x))
  alt_passed (alt r e c ss) = search (passing, replication_passed r, guard_passed e, comm_passed c, semicolon_stmts_passed ss) depth 14

  pub alts_passed : (xs : AltTrees) → passed (alts_trace xs) ≡ length (alts_tokens (forget_alts xs))
  alts_passed no_alts = refl
  alts_passed (more_alts a alts) = search (passing, alt_passed a, or_alts_passed alts) depth 14

  pub or_alts_passed : (xs : AltTrees) → passed (or_alts_trace xs) ≡ length (or_alts_tokens (forget_alts xs))
  or_alts_passed no_alts = refl
  or_alts_passed (more_alts a alts) = search (passing, alt_passed a, or_alts_passed alts) depth 14

  pub comm_passed : (x : CommTree) → passed (comm_trace x) ≡ length (comm_tokens (forget_comm x))
  comm_passed (comm_accept a p) = search (passing, accept_passed a) depth 14
  comm_passed (comm_send d e p) = search (passing, desig_passed d, expr_passed e) depth 14
  comm_passed (comm_receive d d' p) = search (passing, desig_passed d, desig_passed d') depth 14
  comm_passed (timeout e p) = search (passing, expr_passed e) depth 14
  comm_passed (terminate p) = search passing depth 14
