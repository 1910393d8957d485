-- In a lawful tree each `case` has a label.
use Rattle.std.proofs.Common.{List, [], ◌∷◌, map}
use Rattle.pfc_tree.specs.declared.tree.Constant.{Constant}
use Rattle.pfc_tree.specs.trees.Stmts.{StmtTree, StmtTrees, ArmTrees, AcceptTree, AltTrees, CommTree, empty, null, block, if_then, if_then_else, case_of}
use Rattle.pfc_tree.specs.trees.Stmts.{while_do, repeat_until, repeat_forever, for_do, cobegin, accepting, requeue, select, select_else, assign, send, receive}
use Rattle.pfc_tree.specs.trees.Stmts.{call, no_stmts, more_stmts, body, arm, no_arms, more_arms, accept, accept_do, alt, no_alts, more_alts, comm_accept}
use Rattle.pfc_tree.specs.trees.Stmts.{comm_send, comm_receive, timeout, terminate}
use Rattle.pfc_tree.specs.forget.Types.{forget_constant}
use Rattle.pfc_tree.specs.forget.Stmts.{forget_stmt, forget_stmts, forget_arms, forget_accept, forget_alts, forget_comm}
use Rattle.pfc_tree.specs.lawful.Types.{IsFilled}
use Rattle.pfc_tree.specs.lawful.Stmts.{IsLawfulStmt, HasLawfulStmts, AreLawfulStmts, HasLawfulArms, AreLawfulArms, IsLawfulAccept, HasLawfulAlts}
use Rattle.pfc_tree.specs.lawful.Stmts.{AreLawfulAlts, IsLawfulComm}
use Rattle.pfc_typed_structures.specs.Inside.{HasLabel, HasLabels, IsLabelled, AreLabelled, AreArmsLabelled, IsAcceptLabelled, IsCommLabelled, AreAltsLabelled}

one_label : (ls : List Constant) → IsFilled (map forget_constant ls) → HasLabel ls
one_label [] h = h
one_label (l ∷ ls) h = tt

first_label : (arms : ArmTrees) → HasLawfulArms (forget_arms arms) → HasLabels arms
first_label no_arms h = h
first_label (more_arms (arm ls t) arms) h = let first = h.0 in one_label ls first.0

mutual
  stmt_labelled : (t : StmtTree) → IsLawfulStmt (forget_stmt t) → IsLabelled t
  stmt_labelled empty h = tt
  stmt_labelled (null p) h = tt
  stmt_labelled (block (body ss first last) p) h = some_labelled ss h
  stmt_labelled (if_then e t p) h = stmt_labelled t h.1
  stmt_labelled (if_then_else e t u p) h = (stmt_labelled t h.1, stmt_labelled u h.3)
  stmt_labelled (case_of e arms last p) h = (first_label arms h.1, some_arms_labelled arms h.1)
  stmt_labelled (while_do e t p) h = stmt_labelled t h.1
  stmt_labelled (repeat_until ss e p) h = some_labelled ss h.0
  stmt_labelled (repeat_forever ss p) h = some_labelled ss h
  stmt_labelled (for_do x a down b t p q) h = stmt_labelled t h.2
  stmt_labelled (cobegin ss last p) h = some_labelled ss h
  stmt_labelled (accepting a p) h = accept_labelled a h
  stmt_labelled (requeue x args p) h = tt
  stmt_labelled (select pri alts p q) h = some_alts_labelled alts h
  stmt_labelled (select_else pri alts ss at p q) h = (some_alts_labelled alts h.0, some_labelled ss h.2)
  stmt_labelled (assign d e p q) h = tt
  stmt_labelled (send d e p q) h = tt
  stmt_labelled (receive d v p q) h = tt
  stmt_labelled (call d args p) h = tt

  pub some_labelled : (ts : StmtTrees) → HasLawfulStmts (forget_stmts ts) → AreLabelled ts
  some_labelled no_stmts h = tt
  some_labelled (more_stmts t ts) h = (stmt_labelled t h.0, stmts_labelled ts h.1)

  stmts_labelled : (ts : StmtTrees) → AreLawfulStmts (forget_stmts ts) → AreLabelled ts
  stmts_labelled no_stmts h = tt
  stmts_labelled (more_stmts t ts) h = (stmt_labelled t h.0, stmts_labelled ts h.1)

  some_arms_labelled : (arms : ArmTrees) → HasLawfulArms (forget_arms arms) → AreArmsLabelled arms
  some_arms_labelled no_arms h = tt
  some_arms_labelled (more_arms (arm ls t) arms) h = let first = h.0 in (stmt_labelled t first.2, arms_labelled arms h.1)

  arms_labelled : (arms : ArmTrees) → AreLawfulArms (forget_arms arms) → AreArmsLabelled arms
  arms_labelled no_arms h = tt
  arms_labelled (more_arms (arm ls t) arms) h = let first = h.0 in (stmt_labelled t first.2, arms_labelled arms h.1)

  accept_labelled : (a : AcceptTree) → IsLawfulAccept (forget_accept a) → IsAcceptLabelled a
  accept_labelled (accept x gs p) h = tt
  accept_labelled (accept_do x gs t p) h = stmt_labelled t h.1

  some_alts_labelled : (alts : AltTrees) → HasLawfulAlts (forget_alts alts) → AreAltsLabelled alts
  some_alts_labelled no_alts h = tt
  some_alts_labelled (more_alts (alt spread guard comm ss) alts) h =
      let first = h.0 in ((comm_labelled comm first.3, stmts_labelled ss first.4), alts_labelled alts h.2)

  alts_labelled : (alts : AltTrees) → AreLawfulAlts (forget_alts alts) → AreAltsLabelled alts
  alts_labelled no_alts h = tt
  alts_labelled (more_alts (alt spread guard comm ss) alts) h =
      let first = h.0 in ((comm_labelled comm first.3, stmts_labelled ss first.4), alts_labelled alts h.2)

  comm_labelled : (c : CommTree) → IsLawfulComm (forget_comm c) → IsCommLabelled c
  comm_labelled (comm_accept a p) h = accept_labelled a h
  comm_labelled (comm_send d e p) h = tt
  comm_labelled (comm_receive d v p) h = tt
  comm_labelled (timeout e p) h = tt
  comm_labelled (terminate p) h = tt
