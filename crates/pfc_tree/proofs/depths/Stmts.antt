-- Statements: as many depths as tokens.
use Rattle.std.proofs.Common.{◌≡◌, length, refl, Option, Some, None}
use Rattle.pfc_tree.proofs.depths.Evens.{evens, flat}
use Rattle.pfc_tree.specs.tokens.Types.{constants_tokens, formals_tokens}
use Rattle.pfc_tree.specs.shapes.Stmts.{StmtShape, StmtShapes, BodyShape, ArmShape, ArmShapes, AcceptShape, AltShape, AltShapes, CommShape, empty, null, block}
use Rattle.pfc_tree.specs.shapes.Stmts.{if_then, if_then_else, case_of, while_do, repeat_until, repeat_forever, for_do, cobegin, accepting, requeue, select}
use Rattle.pfc_tree.specs.shapes.Stmts.{select_else, assign, send, receive, call, no_stmts, more_stmts, body, arm, no_arms, more_arms, accept, accept_do, alt}
use Rattle.pfc_tree.specs.shapes.Stmts.{no_alts, more_alts, comm_accept, comm_send, comm_receive, timeout, terminate}
use Rattle.pfc_tree.specs.tokens.Stmts.{stmt_tokens, stmts_tokens, semicolon_stmts_tokens, body_tokens, arm_tokens, arms_tokens, semicolon_arms_tokens}
use Rattle.pfc_tree.specs.tokens.Stmts.{accept_tokens, alt_tokens, alts_tokens, or_alts_tokens, comm_tokens, replication_tokens, guard_tokens}
use Rattle.pfc_tree.specs.depths.Stmts.{stmt_depths, stmts_depths, semicolon_stmts_depths, body_depths, arm_depths, arms_depths, semicolon_arms_depths}
use Rattle.pfc_tree.specs.depths.Stmts.{accept_depths, alt_depths, alts_depths, or_alts_depths, comm_depths, guard_depths}
use Rattle.pfc_tree.specs.shapes.Exprs.{ExprShape}
use Rattle.pfc_tree.proofs.depths.Exprs.{expr_even, desig_even, actuals_even}

guard_even : (g : Option ExprShape) → length (guard_depths g) ≡ length (guard_tokens g)
guard_even None = refl
guard_even (Some e) = search (evens, expr_even e) depth 14

mutual
  pub stmt_even : (x : StmtShape) → length (stmt_depths x) ≡ length (stmt_tokens x)
  stmt_even empty = search evens depth 14
  stmt_even null = search evens depth 14
  stmt_even (block b) = search (evens, body_even b) depth 14
  stmt_even (if_then e s) = search (evens, expr_even e, stmt_even s) depth 14
  stmt_even (if_then_else e s s') = search (evens, expr_even e, stmt_even s, stmt_even s') depth 14
  stmt_even (case_of e arms b) = search (evens, expr_even e, arms_even arms) depth 14
  stmt_even (while_do e s) = search (evens, expr_even e, stmt_even s) depth 14
  stmt_even (repeat_until ss e) = search (evens, stmts_even ss, expr_even e) depth 14
  stmt_even (repeat_forever ss) = search (evens, stmts_even ss) depth 14
  stmt_even (for_do x e b e' s) = search (evens, expr_even e, expr_even e', stmt_even s) depth 14
  stmt_even (cobegin ss) = search (evens, stmts_even ss) depth 14
  stmt_even (accepting a) = search (evens, accept_even a) depth 14
  stmt_even (requeue x args) = search (evens, actuals_even args) depth 14
  stmt_even (select b alts) = search (evens, alts_even alts) depth 14
  stmt_even (select_else b alts ss) = search (evens, alts_even alts, stmts_even ss) depth 14
  stmt_even (assign d e) = search (evens, desig_even d, expr_even e) depth 14
  stmt_even (send d e) = search (evens, desig_even d, expr_even e) depth 14
  stmt_even (receive d d') = search (evens, desig_even d, desig_even d') depth 14
  stmt_even (call d args) = search (evens, desig_even d, actuals_even args) depth 14

  pub stmts_even : (xs : StmtShapes) → length (stmts_depths xs) ≡ length (stmts_tokens xs)
  stmts_even no_stmts = refl
  stmts_even (more_stmts s ss) = search (evens, stmt_even s, semicolon_stmts_even ss) depth 14

  pub semicolon_stmts_even : (xs : StmtShapes) → length (semicolon_stmts_depths xs) ≡ length (semicolon_stmts_tokens xs)
  semicolon_stmts_even no_stmts = refl
  semicolon_stmts_even (more_stmts s ss) = search (evens, stmt_even s, semicolon_stmts_even ss) depth 14

  pub body_even : (x : BodyShape) → length (body_depths x) ≡ length (body_tokens x)
  body_even (body ss) = search (evens, stmts_even ss) depth 14

  pub arm_even : (x : ArmShape) → length (arm_depths x) ≡ length (arm_tokens x)
  arm_even (arm cs s) = search (evens, flat (constants_tokens cs), stmt_even s) depth 14

  pub arms_even : (xs : ArmShapes) → length (arms_depths xs) ≡ length (arms_tokens xs)
  arms_even no_arms = refl
  arms_even (more_arms a arms) = search (evens, arm_even a, semicolon_arms_even arms) depth 14

  pub semicolon_arms_even : (xs : ArmShapes) → length (semicolon_arms_depths xs) ≡ length (semicolon_arms_tokens xs)
  semicolon_arms_even no_arms = refl
  semicolon_arms_even (more_arms a arms) = search (evens, arm_even a, semicolon_arms_even arms) depth 14

  pub accept_even : (x : AcceptShape) → length (accept_depths x) ≡ length (accept_tokens x)
  accept_even (accept x gs) = search (evens, flat (formals_tokens gs)) depth 14
  accept_even (accept_do x gs s) = search (evens, flat (formals_tokens gs), stmt_even s) depth 14

  pub alt_even : (x : AltShape) → length (alt_depths x) ≡ length (alt_tokens x)
  alt_even (alt r e c ss) = search (evens, flat (replication_tokens r), guard_even e, comm_even c, semicolon_stmts_even ss) depth 14

  pub alts_even : (xs : AltShapes) → length (alts_depths xs) ≡ length (alts_tokens xs)
  alts_even no_alts = refl
  alts_even (more_alts a alts) = search (evens, alt_even a, or_alts_even alts) depth 14

  pub or_alts_even : (xs : AltShapes) → length (or_alts_depths xs) ≡ length (or_alts_tokens xs)
  or_alts_even no_alts = refl
  or_alts_even (more_alts a alts) = search (evens, alt_even a, or_alts_even alts) depth 14

  pub comm_even : (x : CommShape) → length (comm_depths x) ≡ length (comm_tokens x)
  comm_even (comm_accept a) = search (evens, accept_even a) depth 14
  comm_even (comm_send d e) = search (evens, desig_even d, expr_even e) depth 14
  comm_even (comm_receive d d') = search (evens, desig_even d, desig_even d') depth 14
  comm_even (timeout e) = search (evens, expr_even e) depth 14
  comm_even terminate = search evens depth 14
