-- The traces of statements.
use Rattle.std.specs.Prelude.{Bool, true, false, Option, Some, None, List, [], ◌∷◌, ◌++◌}
use Rattle.pfc_base.specs.declared.places.Place.{Place}
use Rattle.pfc_tree.specs.declared.tree.Spread.{Spread}
use Rattle.pfc_tree.specs.trees.Exprs.{ExprTree}
use Rattle.pfc_tree.specs.trees.Stmts.{StmtTree, StmtTrees, BodyTree, ArmTree, ArmTrees, AcceptTree, AltTree, AltTrees, CommTree, empty, null, block, if_then}
use Rattle.pfc_tree.specs.trees.Stmts.{if_then_else, case_of, while_do, repeat_until, repeat_forever, for_do, cobegin, accepting, requeue, select, select_else}
use Rattle.pfc_tree.specs.trees.Stmts.{assign, send, receive, call, no_stmts, more_stmts, body, arm, no_arms, more_arms, accept, accept_do, alt, no_alts}
use Rattle.pfc_tree.specs.trees.Stmts.{more_alts, comm_accept, comm_send, comm_receive, timeout, terminate}
use Rattle.pfc_tree.specs.kept.Exprs.{Step, here, next, at, expr_trace, desig_trace, actuals_trace}
use Rattle.pfc_tree.specs.kept.Types.{constant_trace, constants_trace, flag_trace, formals_trace}

abbrev pub spread_trace : Spread → List Step
spread_trace r = next ∷ at r.place ++ next ∷ constant_trace r.low ++ next ∷ constant_trace r.high ++ next ∷ []

abbrev pub replication_trace : Option Spread → List Step
replication_trace None = []
replication_trace (Some r) = spread_trace r

abbrev pub guard_trace : Option ExprTree → List Step
guard_trace None = []
guard_trace (Some e) = next ∷ expr_trace e ++ next ∷ []

-- the first token of a `select`, at p: the `pri`, where it stands, and else the `select`
abbrev pub pri_trace : Bool → Place → List Step
pri_trace false p = here p ∷ []
pri_trace true p = at p

abbrev mutual
  pub stmt_trace : StmtTree → List Step
  stmt_trace empty = []
  stmt_trace (null p) = at p
  stmt_trace (block b p) = here p ∷ body_trace b
  stmt_trace (if_then e s p) = at p ++ expr_trace e ++ next ∷ stmt_trace s
  stmt_trace (if_then_else e s t p) = at p ++ expr_trace e ++ next ∷ stmt_trace s ++ next ∷ stmt_trace t
  stmt_trace (case_of e arms last p) = at p ++ expr_trace e ++ next ∷ arms_trace arms ++ flag_trace last ++ next ∷ []
  stmt_trace (while_do e s p) = at p ++ expr_trace e ++ next ∷ stmt_trace s
  stmt_trace (repeat_until ss e p) = at p ++ stmts_trace ss ++ next ∷ expr_trace e
  stmt_trace (repeat_forever ss p) = at p ++ stmts_trace ss ++ next ∷ []
  stmt_trace (for_do x from down to s first p) = at first ++ here p ∷ next ∷ next ∷ expr_trace from ++ next ∷ expr_trace to ++ next ∷ stmt_trace s
  stmt_trace (cobegin ss last p) = at p ++ stmts_trace ss ++ at last
  stmt_trace (accepting a p) = at p ++ accept_trace a
  stmt_trace (requeue x args p) = at p ++ here x.1 ∷ next ∷ actuals_trace args
  stmt_trace (select pri alts first p) = pri_trace pri first ++ here p ∷ next ∷ alts_trace alts ++ next ∷ []
  stmt_trace (select_else pri alts ss other first p) = pri_trace pri first ++ here p ∷ next ∷ alts_trace alts ++ here other ∷ next ∷ stmts_trace ss ++ next ∷ []
  stmt_trace (assign d e first p) = here first ∷ desig_trace d ++ here p ∷ next ∷ expr_trace e
  stmt_trace (send d e first p) = here first ∷ desig_trace d ++ here p ∷ next ∷ expr_trace e
  stmt_trace (receive d v first p) = here first ∷ desig_trace d ++ here p ∷ next ∷ desig_trace v
  stmt_trace (call d args p) = here p ∷ desig_trace d ++ actuals_trace args

  pub stmts_trace : StmtTrees → List Step
  stmts_trace no_stmts = []
  stmts_trace (more_stmts s ss) = stmt_trace s ++ semicolon_stmts_trace ss

  pub semicolon_stmts_trace : StmtTrees → List Step
  semicolon_stmts_trace no_stmts = []
  semicolon_stmts_trace (more_stmts s ss) = next ∷ stmt_trace s ++ semicolon_stmts_trace ss

  pub body_trace : BodyTree → List Step
  body_trace (body ss first last) = at first ++ stmts_trace ss ++ at last

  pub arm_trace : ArmTree → List Step
  arm_trace (arm labels s) = constants_trace labels ++ next ∷ stmt_trace s

  pub arms_trace : ArmTrees → List Step
  arms_trace no_arms = []
  arms_trace (more_arms a arms) = arm_trace a ++ semicolon_arms_trace arms

  pub semicolon_arms_trace : ArmTrees → List Step
  semicolon_arms_trace no_arms = []
  semicolon_arms_trace (more_arms a arms) = next ∷ arm_trace a ++ semicolon_arms_trace arms

  pub accept_trace : AcceptTree → List Step
  accept_trace (accept x gs p) = at p ++ formals_trace gs
  accept_trace (accept_do x gs s p) = at p ++ formals_trace gs ++ next ∷ stmt_trace s

  pub alt_trace : AltTree → List Step
  alt_trace (alt spread guard c ss) = replication_trace spread ++ guard_trace guard ++ comm_trace c ++ semicolon_stmts_trace ss

  pub comm_trace : CommTree → List Step
  comm_trace (comm_accept a p) = at p ++ accept_trace a
  comm_trace (comm_send d e p) = desig_trace d ++ here p ∷ next ∷ expr_trace e
  comm_trace (comm_receive d v p) = desig_trace d ++ here p ∷ next ∷ desig_trace v
  comm_trace (timeout e p) = at p ++ expr_trace e
  comm_trace (terminate p) = at p

  pub alts_trace : AltTrees → List Step
  alts_trace no_alts = []
  alts_trace (more_alts a alts) = alt_trace a ++ or_alts_trace alts

  pub or_alts_trace : AltTrees → List Step
  or_alts_trace no_alts = []
  or_alts_trace (more_alts a alts) = next ∷ alt_trace a ++ or_alts_trace alts
