-- A statement is determined by its shape and the tokens.
use Rattle.std.proofs.Common.{refl, Bool, true, false, Option, Some, None, option_map, [], ◌∷◌}
use Rattle.pfc_base.specs.declared.places.Place.{Place}
use Rattle.pfc_tree.specs.shapes.Exprs.{ExprShape}
use Rattle.pfc_tree.specs.shapes.Stmts.{SpreadShape, StmtShape, StmtShapes, BodyShape, ArmShape, ArmShapes, AcceptShape, AltShape, AltShapes, CommShape}
use Rattle.pfc_tree.specs.shapes.Stmts as shape
use Rattle.pfc_tree.specs.declared.tree.Spread.{Spread}
use Rattle.pfc_tree.specs.trees.Exprs.{ExprTree}
use Rattle.pfc_tree.specs.trees.Stmts.{StmtTree, StmtTrees, BodyTree, ArmTree, ArmTrees, AcceptTree, AltTree, AltTrees, CommTree, empty, null, block, if_then}
use Rattle.pfc_tree.specs.trees.Stmts.{if_then_else, case_of, while_do, repeat_until, repeat_forever, for_do, cobegin, accepting, requeue, select, select_else}
use Rattle.pfc_tree.specs.trees.Stmts.{assign, send, receive, call, no_stmts, more_stmts, body, arm, no_arms, more_arms, accept, accept_do, alt, no_alts}
use Rattle.pfc_tree.specs.trees.Stmts.{more_alts, comm_accept, comm_send, comm_receive, timeout, terminate}
use Rattle.pfc_tree.specs.forget.Exprs.{forget_expr}
use Rattle.pfc_tree.specs.forget.Stmts.{forget_spread, forget_stmt, forget_stmts, forget_body, forget_arm, forget_arms, forget_accept, forget_alt, forget_alts}
use Rattle.pfc_tree.specs.forget.Stmts.{forget_comm}
use Rattle.pfc_tree.specs.kept.Exprs.{here, next, expr_trace}
use Rattle.pfc_tree.specs.kept.Types.{constant_trace, flag_trace}
use Rattle.pfc_tree.specs.kept.Stmts.{replication_trace, guard_trace, pri_trace, stmt_trace, stmts_trace, semicolon_stmts_trace, body_trace, arm_trace}
use Rattle.pfc_tree.specs.kept.Stmts.{arms_trace, semicolon_arms_trace, accept_trace, alt_trace, alts_trace, or_alts_trace, comm_trace}
use Rattle.pfc_grammar.proofs.placed_one.Filling.{Filler, fill_done, fill_here, fill_next, fill_part, fill_last, fill_flag, Fills, fills_done, fills_here}
use Rattle.pfc_grammar.proofs.placed_one.Filling.{fills_next, fills_part, fills_last, fills_three, fills_four, fills_flag}
use Rattle.pfc_grammar.proofs.placed_one.Exprs.{fill_expr, fill_desig, fill_actuals, fills_expr, fills_desig, fills_actuals}
use Rattle.pfc_grammar.proofs.placed_one.Types.{fill_constant, fill_constants, fill_formals, fills_constant, fills_constants, fills_formals}

abbrev fill_replication : Option SpreadShape → Filler (Option Spread)
fill_replication None = fill_done None
fill_replication (Some r) =
    fill_next (fill_here (λ p. fill_next (fill_next (fill_part (fill_constant r.low) (λ low. fill_next (fill_part (fill_constant r.high) (λ high.
    fill_next (fill_done (Some (record { name = r.name; low = low; high = high; place = p }))))))))))

fills_replication : (x : Option Spread) → Fills (replication_trace x) (fill_replication (option_map forget_spread x)) x
fills_replication None = fills_done _
fills_replication (Some r) = fills_next (fills_here _ (fills_next (fills_next (fills_three (constant_trace r.low) (next ∷ constant_trace r.high) (next ∷ [])
    (fills_part _ (fills_constant r.low) (fills_next (fills_part _ (fills_constant r.high) (fills_next (fills_done _)))))))))

abbrev fill_guard : Option ExprShape → Filler (Option ExprTree)
fill_guard None = fill_done None
fill_guard (Some e) = fill_next (fill_part (fill_expr e) (λ e'. fill_next (fill_done (Some e'))))

fills_guard : (x : Option ExprTree) → Fills (guard_trace x) (fill_guard (option_map forget_expr x)) x
fills_guard None = fills_done _
fills_guard (Some e) = fills_next (fills_part _ (fills_expr e) (fills_next (fills_done _)))

-- the place of the first token of a `select`
abbrev fill_pri : Bool → Filler Place
fill_pri false = fill_here (λ p. fill_done p)
fill_pri true = fill_here (λ p. fill_next (fill_done p))

fills_pri : (b : Bool) (p : Place) → Fills (pri_trace b p) (fill_pri b) p
fills_pri false p = fills_here _ (fills_done _)
fills_pri true p = fills_here _ (fills_next (fills_done _))

abbrev mutual
  pub fill_stmt : StmtShape → Filler StmtTree
  fill_stmt shape.empty = fill_done empty
  fill_stmt shape.null = fill_here (λ p. fill_next (fill_done (null p)))
  fill_stmt (shape.block b) = fill_here (λ p. fill_last (fill_body b) (λ b'. block b' p))
  fill_stmt (shape.if_then e s) = fill_here (λ p. fill_next (fill_part (fill_expr e) (λ e'. fill_next (fill_last (fill_stmt s) (λ s'. if_then e' s' p)))))
  fill_stmt (shape.if_then_else e s t) =
      fill_here (λ p. fill_next
      (fill_part (fill_expr e) (λ e'. fill_next (fill_part (fill_stmt s) (λ s'. fill_next (fill_last (fill_stmt t) (λ t'. if_then_else e' s' t' p)))))))
  fill_stmt (shape.case_of e arms b) =
      fill_here (λ p. fill_next
      (fill_part (fill_expr e)
      (λ e'. fill_next (fill_part (fill_arms arms) (λ arms'. fill_part (fill_flag b) (λ b'. fill_next (fill_done (case_of e' arms' b' p))))))))
  fill_stmt (shape.while_do e s) = fill_here (λ p. fill_next (fill_part (fill_expr e) (λ e'. fill_next (fill_last (fill_stmt s) (λ s'. while_do e' s' p)))))
  fill_stmt (shape.repeat_until ss e) =
      fill_here (λ p. fill_next (fill_part (fill_stmts ss) (λ ss'. fill_next (fill_last (fill_expr e) (λ e'. repeat_until ss' e' p)))))
  fill_stmt (shape.repeat_forever ss) = fill_here (λ p. fill_next (fill_part (fill_stmts ss) (λ ss'. fill_next (fill_done (repeat_forever ss' p)))))
  fill_stmt (shape.for_do x from down to s) =
      fill_here (λ first. fill_next
      (fill_here (λ p. fill_next
      (fill_next (fill_part (fill_expr from)
      (λ from'. fill_next (fill_part (fill_expr to) (λ to'. fill_next (fill_last (fill_stmt s) (λ s'. for_do x from' down to' s' first p))))))))))
  fill_stmt (shape.cobegin ss) = fill_here (λ p. fill_next (fill_part (fill_stmts ss) (λ ss'. fill_here (λ last. fill_next (fill_done (cobegin ss' last p))))))
  fill_stmt (shape.accepting a) = fill_here (λ p. fill_next (fill_last (fill_accept a) (λ a'. accepting a' p)))
  fill_stmt (shape.requeue x args) = fill_here (λ p. fill_next (fill_here (λ q. fill_next (fill_last (fill_actuals args) (λ args'. requeue (x, q) args' p)))))
  fill_stmt (shape.select pri alts) =
      fill_part (fill_pri pri) (λ first. fill_here (λ p. fill_next (fill_part (fill_alts alts) (λ alts'. fill_next (fill_done (select pri alts' first p))))))
  fill_stmt (shape.select_else pri alts ss) =
      fill_part (fill_pri pri)
      (λ first. fill_here (λ p. fill_next
      (fill_part (fill_alts alts)
      (λ alts'. fill_here (λ other. fill_next (fill_part (fill_stmts ss) (λ ss'. fill_next (fill_done (select_else pri alts' ss' other first p)))))))))
  fill_stmt (shape.assign d e) =
      fill_here (λ first. fill_part (fill_desig d) (λ d'. fill_here (λ p. fill_next (fill_last (fill_expr e) (λ e'. assign d' e' first p)))))
  fill_stmt (shape.send d e) =
      fill_here (λ first. fill_part (fill_desig d) (λ d'. fill_here (λ p. fill_next (fill_last (fill_expr e) (λ e'. send d' e' first p)))))
  fill_stmt (shape.receive d v) =
      fill_here (λ first. fill_part (fill_desig d) (λ d'. fill_here (λ p. fill_next (fill_last (fill_desig v) (λ v'. receive d' v' first p)))))
  fill_stmt (shape.call d args) = fill_here (λ p. fill_part (fill_desig d) (λ d'. fill_last (fill_actuals args) (λ args'. call d' args' p)))

  pub fill_stmts : StmtShapes → Filler StmtTrees
  fill_stmts shape.no_stmts = fill_done no_stmts
  fill_stmts (shape.more_stmts s ss) = fill_part (fill_stmt s) (λ s'. fill_last (fill_semicolon_stmts ss) (λ ss'. more_stmts s' ss'))

  fill_semicolon_stmts : StmtShapes → Filler StmtTrees
  fill_semicolon_stmts shape.no_stmts = fill_done no_stmts
  fill_semicolon_stmts (shape.more_stmts s ss) = fill_next (fill_part (fill_stmt s) (λ s'. fill_last (fill_semicolon_stmts ss) (λ ss'. more_stmts s' ss')))

  pub fill_body : BodyShape → Filler BodyTree
  fill_body (shape.body ss) =
      fill_here (λ first. fill_next (fill_part (fill_stmts ss) (λ ss'. fill_here (λ last. fill_next (fill_done (body ss' first last))))))

  fill_arm : ArmShape → Filler ArmTree
  fill_arm (shape.arm cs s) = fill_part (fill_constants cs) (λ cs'. fill_next (fill_last (fill_stmt s) (λ s'. arm cs' s')))

  fill_arms : ArmShapes → Filler ArmTrees
  fill_arms shape.no_arms = fill_done no_arms
  fill_arms (shape.more_arms a arms) = fill_part (fill_arm a) (λ a'. fill_last (fill_semicolon_arms arms) (λ arms'. more_arms a' arms'))

  fill_semicolon_arms : ArmShapes → Filler ArmTrees
  fill_semicolon_arms shape.no_arms = fill_done no_arms
  fill_semicolon_arms (shape.more_arms a arms) = fill_next (fill_part (fill_arm a) (λ a'. fill_last (fill_semicolon_arms arms) (λ arms'. more_arms a' arms')))

  fill_accept : AcceptShape → Filler AcceptTree
  fill_accept (shape.accept x gs) = fill_here (λ p. fill_next (fill_last (fill_formals gs) (λ gs'. accept x gs' p)))
  fill_accept (shape.accept_do x gs s) =
      fill_here (λ p. fill_next (fill_part (fill_formals gs) (λ gs'. fill_next (fill_last (fill_stmt s) (λ s'. accept_do x gs' s' p)))))

  fill_alt : AltShape → Filler AltTree
  fill_alt (shape.alt r g c ss) =
      fill_part (fill_replication r)
      (λ r'. fill_part (fill_guard g) (λ g'. fill_part (fill_comm c) (λ c'. fill_last (fill_semicolon_stmts ss) (λ ss'. alt r' g' c' ss'))))

  fill_alts : AltShapes → Filler AltTrees
  fill_alts shape.no_alts = fill_done no_alts
  fill_alts (shape.more_alts a alts) = fill_part (fill_alt a) (λ a'. fill_last (fill_or_alts alts) (λ alts'. more_alts a' alts'))

  fill_or_alts : AltShapes → Filler AltTrees
  fill_or_alts shape.no_alts = fill_done no_alts
  fill_or_alts (shape.more_alts a alts) = fill_next (fill_part (fill_alt a) (λ a'. fill_last (fill_or_alts alts) (λ alts'. more_alts a' alts')))

  fill_comm : CommShape → Filler CommTree
  fill_comm (shape.comm_accept a) = fill_here (λ p. fill_next (fill_last (fill_accept a) (λ a'. comm_accept a' p)))
  fill_comm (shape.comm_send d e) = fill_part (fill_desig d) (λ d'. fill_here (λ p. fill_next (fill_last (fill_expr e) (λ e'. comm_send d' e' p))))
  fill_comm (shape.comm_receive d v) = fill_part (fill_desig d) (λ d'. fill_here (λ p. fill_next (fill_last (fill_desig v) (λ v'. comm_receive d' v' p))))
  fill_comm (shape.timeout e) = fill_here (λ p. fill_next (fill_last (fill_expr e) (λ e'. timeout e' p)))
  fill_comm shape.terminate = fill_here (λ p. fill_next (fill_done (terminate p)))

mutual
  pub fills_stmt : (x : StmtTree) → Fills (stmt_trace x) (fill_stmt (forget_stmt x)) x
  fills_stmt empty = fills_done _
  fills_stmt (null p) = fills_here _ (fills_next (fills_done _))
  fills_stmt (block b p) = fills_here _ (fills_last _ (fills_body b) refl)
  fills_stmt (if_then e s p) = fills_here _ (fills_next (fills_part _ (fills_expr e) (fills_next (fills_last _ (fills_stmt s) refl))))
  fills_stmt (if_then_else e s t p) =
      fills_here _ (fills_next (fills_three (expr_trace e) (next ∷ stmt_trace s) (next ∷ stmt_trace t)
      (fills_part _ (fills_expr e) (fills_next (fills_part _ (fills_stmt s) (fills_next (fills_last _ (fills_stmt t) refl)))))))
  fills_stmt (case_of e arms b p) =
      fills_here _ (fills_next (fills_four (expr_trace e) (next ∷ arms_trace arms) (flag_trace b) (next ∷ [])
      (fills_part _ (fills_expr e) (fills_next (fills_part _ (fills_arms arms) (fills_part _ (fills_flag b) (fills_next (fills_done _))))))))
  fills_stmt (while_do e s p) = fills_here _ (fills_next (fills_part _ (fills_expr e) (fills_next (fills_last _ (fills_stmt s) refl))))
  fills_stmt (repeat_until ss e p) = fills_here _ (fills_next (fills_part _ (fills_stmts ss) (fills_next (fills_last _ (fills_expr e) refl))))
  fills_stmt (repeat_forever ss p) = fills_here _ (fills_next (fills_part _ (fills_stmts ss) (fills_next (fills_done _))))
  fills_stmt (for_do x from down to s first p) =
      fills_here _ (fills_next
      (fills_here _ (fills_next (fills_next (fills_three (expr_trace from) (next ∷ expr_trace to) (next ∷ stmt_trace s)
      (fills_part _ (fills_expr from) (fills_next (fills_part _ (fills_expr to) (fills_next (fills_last _ (fills_stmt s) refl))))))))))
  fills_stmt (cobegin ss last p) = fills_here _ (fills_next (fills_part _ (fills_stmts ss) (fills_here _ (fills_next (fills_done _)))))
  fills_stmt (accepting a p) = fills_here _ (fills_next (fills_last _ (fills_accept a) refl))
  fills_stmt (requeue x args p) = fills_here _ (fills_next (fills_here _ (fills_next (fills_last _ (fills_actuals args) refl))))
  fills_stmt (select pri alts first p) = fills_three (pri_trace pri first) (here p ∷ next ∷ alts_trace alts) (next ∷ [])
      (fills_part _ (fills_pri pri first) (fills_here _ (fills_next (fills_part _ (fills_alts alts) (fills_next (fills_done _))))))
  fills_stmt (select_else pri alts ss other first p) = fills_four (pri_trace pri first) (here p ∷ next ∷ alts_trace alts) (here other ∷ next ∷ stmts_trace ss)
      (next ∷ []) (fills_part _ (fills_pri pri first)
      (fills_here _ (fills_next (fills_part _ (fills_alts alts) (fills_here _ (fills_next (fills_part _ (fills_stmts ss) (fills_next (fills_done _)))))))))
  fills_stmt (assign d e first p) = fills_here _ (fills_part _ (fills_desig d) (fills_here _ (fills_next (fills_last _ (fills_expr e) refl))))
  fills_stmt (send d e first p) = fills_here _ (fills_part _ (fills_desig d) (fills_here _ (fills_next (fills_last _ (fills_expr e) refl))))
  fills_stmt (receive d v first p) = fills_here _ (fills_part _ (fills_desig d) (fills_here _ (fills_next (fills_last _ (fills_desig v) refl))))
  fills_stmt (call d args p) = fills_here _ (fills_part _ (fills_desig d) (fills_last _ (fills_actuals args) refl))

  pub fills_stmts : (xs : StmtTrees) → Fills (stmts_trace xs) (fill_stmts (forget_stmts xs)) xs
  fills_stmts no_stmts = fills_done _
  fills_stmts (more_stmts s ss) = fills_part _ (fills_stmt s) (fills_last _ (fills_semicolon_stmts ss) refl)

  fills_semicolon_stmts : (xs : StmtTrees) → Fills (semicolon_stmts_trace xs) (fill_semicolon_stmts (forget_stmts xs)) xs
  fills_semicolon_stmts no_stmts = fills_done _
  fills_semicolon_stmts (more_stmts s ss) = fills_next (fills_part _ (fills_stmt s) (fills_last _ (fills_semicolon_stmts ss) refl))

  pub fills_body : (x : BodyTree) → Fills (body_trace x) (fill_body (forget_body x)) x
  fills_body (body ss first last) = fills_here _ (fills_next (fills_part _ (fills_stmts ss) (fills_here _ (fills_next (fills_done _)))))

  fills_arm : (x : ArmTree) → Fills (arm_trace x) (fill_arm (forget_arm x)) x
  fills_arm (arm cs s) = fills_part _ (fills_constants cs) (fills_next (fills_last _ (fills_stmt s) refl))

  fills_arms : (xs : ArmTrees) → Fills (arms_trace xs) (fill_arms (forget_arms xs)) xs
  fills_arms no_arms = fills_done _
  fills_arms (more_arms a arms) = fills_part _ (fills_arm a) (fills_last _ (fills_semicolon_arms arms) refl)

  fills_semicolon_arms : (xs : ArmTrees) → Fills (semicolon_arms_trace xs) (fill_semicolon_arms (forget_arms xs)) xs
  fills_semicolon_arms no_arms = fills_done _
  fills_semicolon_arms (more_arms a arms) = fills_next (fills_part _ (fills_arm a) (fills_last _ (fills_semicolon_arms arms) refl))

  fills_accept : (x : AcceptTree) → Fills (accept_trace x) (fill_accept (forget_accept x)) x
  fills_accept (accept x gs p) = fills_here _ (fills_next (fills_last _ (fills_formals gs) refl))
  fills_accept (accept_do x gs s p) = fills_here _ (fills_next (fills_part _ (fills_formals gs) (fills_next (fills_last _ (fills_stmt s) refl))))

  fills_alt : (x : AltTree) → Fills (alt_trace x) (fill_alt (forget_alt x)) x
  fills_alt (alt r g c ss) = fills_four (replication_trace r) (guard_trace g) (comm_trace c) (semicolon_stmts_trace ss)
      (fills_part _ (fills_replication r) (fills_part _ (fills_guard g) (fills_part _ (fills_comm c) (fills_last _ (fills_semicolon_stmts ss) refl))))

  fills_alts : (xs : AltTrees) → Fills (alts_trace xs) (fill_alts (forget_alts xs)) xs
  fills_alts no_alts = fills_done _
  fills_alts (more_alts a alts) = fills_part _ (fills_alt a) (fills_last _ (fills_or_alts alts) refl)

  fills_or_alts : (xs : AltTrees) → Fills (or_alts_trace xs) (fill_or_alts (forget_alts xs)) xs
  fills_or_alts no_alts = fills_done _
  fills_or_alts (more_alts a alts) = fills_next (fills_part _ (fills_alt a) (fills_last _ (fills_or_alts alts) refl))

  fills_comm : (x : CommTree) → Fills (comm_trace x) (fill_comm (forget_comm x)) x
  fills_comm (comm_accept a p) = fills_here _ (fills_next (fills_last _ (fills_accept a) refl))
  fills_comm (comm_send d e p) = fills_part _ (fills_desig d) (fills_here _ (fills_next (fills_last _ (fills_expr e) refl)))
  fills_comm (comm_receive d v p) = fills_part _ (fills_desig d) (fills_here _ (fills_next (fills_last _ (fills_desig v) refl)))
  fills_comm (timeout e p) = fills_here _ (fills_next (fills_last _ (fills_expr e) refl))
  fills_comm (terminate p) = fills_here _ (fills_next (fills_done _))
