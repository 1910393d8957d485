-- The depth of each token of a statement, beside the depth of what stands around it: a statement adds one. The statements
-- of a body are none by themselves, so the tokens of a body that stands for no statement stay at the body's depth. What
-- an alternative waits for, its spread, its guard and its `;` stand in the statement of their `select`.
use Rattle.std.specs.Prelude.{ℕ, Option, Some, None, List, [], ◌∷◌, ◌++◌}
use Rattle.pfc_tree.specs.shapes.Exprs.{ExprShape}
use Rattle.pfc_tree.specs.shapes.Stmts.{StmtShape, StmtShapes, BodyShape, ArmShape, ArmShapes, AcceptShape, AltShape, AltShapes, CommShape, empty, null, block}
use Rattle.pfc_tree.specs.shapes.Stmts.{if_then, if_then_else, case_of, while_do, repeat_until, repeat_forever, for_do, cobegin, accepting, requeue, select}
use Rattle.pfc_tree.specs.shapes.Stmts.{select_else, assign, send, receive, call, no_stmts, more_stmts, body, arm, no_arms, more_arms, accept, accept_do, alt}
use Rattle.pfc_tree.specs.shapes.Stmts.{no_alts, more_alts, comm_accept, comm_send, comm_receive, timeout, terminate}
use Rattle.pfc_tree.specs.tokens.Types.{constants_tokens, last_tokens, formals_tokens}
use Rattle.pfc_tree.specs.tokens.Stmts.{pri_tokens, replication_tokens}
use Rattle.pfc_tree.specs.depths.Exprs.{deeper, level, expr_depths, desig_depths, actuals_depths}

abbrev pub guard_depths : Option ExprShape → List ℕ
guard_depths None = []
guard_depths (Some e) = 0 ∷ expr_depths e ++ 0 ∷ []

abbrev mutual
  pub stmt_depths : StmtShape → List ℕ
  stmt_depths empty = []
  stmt_depths null = deeper (0 ∷ [])
  stmt_depths (block b) = deeper (body_depths b)
  stmt_depths (if_then e s) = deeper (0 ∷ expr_depths e ++ 0 ∷ stmt_depths s)
  stmt_depths (if_then_else e s t) = deeper (0 ∷ expr_depths e ++ 0 ∷ stmt_depths s ++ 0 ∷ stmt_depths t)
  stmt_depths (case_of e arms last) = deeper (0 ∷ expr_depths e ++ 0 ∷ arms_depths arms ++ level (last_tokens last) ++ 0 ∷ [])
  stmt_depths (while_do e s) = deeper (0 ∷ expr_depths e ++ 0 ∷ stmt_depths s)
  stmt_depths (repeat_until ss e) = deeper (0 ∷ stmts_depths ss ++ 0 ∷ expr_depths e)
  stmt_depths (repeat_forever ss) = deeper (0 ∷ stmts_depths ss ++ 0 ∷ [])
  stmt_depths (for_do x from down to s) = deeper (0 ∷ 0 ∷ 0 ∷ expr_depths from ++ 0 ∷ expr_depths to ++ 0 ∷ stmt_depths s)
  stmt_depths (cobegin ss) = deeper (0 ∷ stmts_depths ss ++ 0 ∷ [])
  stmt_depths (accepting a) = deeper (0 ∷ accept_depths a)
  stmt_depths (requeue x args) = deeper (0 ∷ 0 ∷ actuals_depths args)
  stmt_depths (select pri alts) = deeper (level (pri_tokens pri) ++ 0 ∷ alts_depths alts ++ 0 ∷ [])
  stmt_depths (select_else pri alts ss) = deeper (level (pri_tokens pri) ++ 0 ∷ alts_depths alts ++ 0 ∷ stmts_depths ss ++ 0 ∷ [])
  stmt_depths (assign d e) = deeper (desig_depths d ++ 0 ∷ expr_depths e)
  stmt_depths (send d e) = deeper (desig_depths d ++ 0 ∷ expr_depths e)
  stmt_depths (receive d v) = deeper (desig_depths d ++ 0 ∷ desig_depths v)
  stmt_depths (call d args) = deeper (desig_depths d ++ actuals_depths args)

  pub stmts_depths : StmtShapes → List ℕ
  stmts_depths no_stmts = []
  stmts_depths (more_stmts s ss) = stmt_depths s ++ semicolon_stmts_depths ss

  pub semicolon_stmts_depths : StmtShapes → List ℕ
  semicolon_stmts_depths no_stmts = []
  semicolon_stmts_depths (more_stmts s ss) = 0 ∷ stmt_depths s ++ semicolon_stmts_depths ss

  pub body_depths : BodyShape → List ℕ
  body_depths (body ss) = 0 ∷ stmts_depths ss ++ 0 ∷ []

  pub arm_depths : ArmShape → List ℕ
  arm_depths (arm labels s) = level (constants_tokens labels) ++ 0 ∷ stmt_depths s

  pub arms_depths : ArmShapes → List ℕ
  arms_depths no_arms = []
  arms_depths (more_arms a arms) = arm_depths a ++ semicolon_arms_depths arms

  pub semicolon_arms_depths : ArmShapes → List ℕ
  semicolon_arms_depths no_arms = []
  semicolon_arms_depths (more_arms a arms) = 0 ∷ arm_depths a ++ semicolon_arms_depths arms

  pub accept_depths : AcceptShape → List ℕ
  accept_depths (accept x gs) = 0 ∷ level (formals_tokens gs)
  accept_depths (accept_do x gs s) = 0 ∷ level (formals_tokens gs) ++ 0 ∷ stmt_depths s

  pub alt_depths : AltShape → List ℕ
  alt_depths (alt spread guard c ss) = level (replication_tokens spread) ++ guard_depths guard ++ comm_depths c ++ semicolon_stmts_depths ss

  pub comm_depths : CommShape → List ℕ
  comm_depths (comm_accept a) = 0 ∷ accept_depths a
  comm_depths (comm_send d e) = desig_depths d ++ 0 ∷ expr_depths e
  comm_depths (comm_receive d v) = desig_depths d ++ 0 ∷ desig_depths v
  comm_depths (timeout e) = 0 ∷ expr_depths e
  comm_depths terminate = 0 ∷ []

  pub alts_depths : AltShapes → List ℕ
  alts_depths no_alts = []
  alts_depths (more_alts a alts) = alt_depths a ++ or_alts_depths alts

  pub or_alts_depths : AltShapes → List ℕ
  or_alts_depths no_alts = []
  or_alts_depths (more_alts a alts) = 0 ∷ alt_depths a ++ or_alts_depths alts
