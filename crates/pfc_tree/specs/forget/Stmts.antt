-- Forgetting the places of statements.
use Rattle.std.specs.Prelude.{map, option_map}
use Rattle.pfc_tree.specs.declared.tree.Spread.{Spread}
use Rattle.pfc_tree.specs.trees.Stmts.{StmtTree, StmtTrees, BodyTree, ArmTree, ArmTrees, AcceptTree, AltTree, AltTrees, CommTree, empty, null, block, if_then}
use Rattle.pfc_tree.specs.trees.Stmts.{if_then_else, case_of, while_do, repeat_until, repeat_forever, for_do, cobegin, accepting, requeue, select, select_else}
use Rattle.pfc_tree.specs.trees.Stmts.{assign, send, receive, call, no_stmts, more_stmts, body, arm, no_arms, more_arms, accept, accept_do, alt, no_alts}
use Rattle.pfc_tree.specs.trees.Stmts.{more_alts, comm_accept, comm_send, comm_receive, timeout, terminate}
use Rattle.pfc_tree.specs.shapes.Stmts.{SpreadShape, StmtShape, StmtShapes, BodyShape, ArmShape, ArmShapes, AcceptShape, AltShape, AltShapes, CommShape}
use Rattle.pfc_tree.specs.shapes.Stmts as shape
use Rattle.pfc_tree.specs.forget.Exprs.{forget_expr, forget_desig, forget_actuals}
use Rattle.pfc_tree.specs.forget.Types.{forget_constant, forget_group}

abbrev pub forget_spread : Spread → SpreadShape
forget_spread r = record { name = r.name; low = forget_constant r.low; high = forget_constant r.high }

abbrev mutual
  pub forget_stmt : StmtTree → StmtShape
  forget_stmt empty = shape.empty
  forget_stmt (null p) = shape.null
  forget_stmt (block b p) = shape.block (forget_body b)
  forget_stmt (if_then e s p) = shape.if_then (forget_expr e) (forget_stmt s)
  forget_stmt (if_then_else e s s' p) = shape.if_then_else (forget_expr e) (forget_stmt s) (forget_stmt s')
  forget_stmt (case_of e arms b p) = shape.case_of (forget_expr e) (forget_arms arms) b
  forget_stmt (while_do e s p) = shape.while_do (forget_expr e) (forget_stmt s)
  forget_stmt (repeat_until ss e p) = shape.repeat_until (forget_stmts ss) (forget_expr e)
  forget_stmt (repeat_forever ss p) = shape.repeat_forever (forget_stmts ss)
  forget_stmt (for_do x e b e' s p p') = shape.for_do x (forget_expr e) b (forget_expr e') (forget_stmt s)
  forget_stmt (cobegin ss p p') = shape.cobegin (forget_stmts ss)
  forget_stmt (accepting a p) = shape.accepting (forget_accept a)
  forget_stmt (requeue x args p) = shape.requeue x.0 (forget_actuals args)
  forget_stmt (select b alts p p') = shape.select b (forget_alts alts)
  forget_stmt (select_else b alts ss p p' p'') = shape.select_else b (forget_alts alts) (forget_stmts ss)
  forget_stmt (assign d e p p') = shape.assign (forget_desig d) (forget_expr e)
  forget_stmt (send d e p p') = shape.send (forget_desig d) (forget_expr e)
  forget_stmt (receive d d' p p') = shape.receive (forget_desig d) (forget_desig d')
  forget_stmt (call d args p) = shape.call (forget_desig d) (forget_actuals args)

  pub forget_stmts : StmtTrees → StmtShapes
  forget_stmts no_stmts = shape.no_stmts
  forget_stmts (more_stmts s ss) = shape.more_stmts (forget_stmt s) (forget_stmts ss)

  pub forget_body : BodyTree → BodyShape
  forget_body (body ss p p') = shape.body (forget_stmts ss)

  pub forget_arm : ArmTree → ArmShape
  forget_arm (arm cs s) = shape.arm (map forget_constant cs) (forget_stmt s)

  pub forget_arms : ArmTrees → ArmShapes
  forget_arms no_arms = shape.no_arms
  forget_arms (more_arms a arms) = shape.more_arms (forget_arm a) (forget_arms arms)

  pub forget_accept : AcceptTree → AcceptShape
  forget_accept (accept x gs p) = shape.accept x (map forget_group gs)
  forget_accept (accept_do x gs s p) = shape.accept_do x (map forget_group gs) (forget_stmt s)

  pub forget_alt : AltTree → AltShape
  forget_alt (alt r e c ss) = shape.alt (option_map forget_spread r) (option_map forget_expr e) (forget_comm c) (forget_stmts ss)

  pub forget_alts : AltTrees → AltShapes
  forget_alts no_alts = shape.no_alts
  forget_alts (more_alts a alts) = shape.more_alts (forget_alt a) (forget_alts alts)

  pub forget_comm : CommTree → CommShape
  forget_comm (comm_accept a p) = shape.comm_accept (forget_accept a)
  forget_comm (comm_send d e p) = shape.comm_send (forget_desig d) (forget_expr e)
  forget_comm (comm_receive d d' p) = shape.comm_receive (forget_desig d) (forget_desig d')
  forget_comm (timeout e p) = shape.timeout (forget_expr e)
  forget_comm (terminate p) = shape.terminate
