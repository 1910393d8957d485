-- When a statement is lawful. Beside the lengths of its lists there are three conditions: a statement that ends in an `if`
-- without `else` is not directly followed by `else`, an alternative that is followed by `or` does not end in an
-- expression, and no `timeout` and no `terminate` is replicated.
use Rattle.std.specs.Prelude.{◌≡◌, Bool, true, false, Option, Some, None}
use Rattle.pfc_tree.specs.shapes.Exprs.{ExprShape}
use Rattle.pfc_tree.specs.shapes.Stmts.{SpreadShape, StmtShape, StmtShapes, BodyShape, ArmShape, ArmShapes, AcceptShape, AltShape, AltShapes, CommShape, empty}
use Rattle.pfc_tree.specs.shapes.Stmts.{null, block, if_then, if_then_else, case_of, while_do, repeat_until, repeat_forever, for_do, cobegin, accepting}
use Rattle.pfc_tree.specs.shapes.Stmts.{requeue, select, select_else, assign, send, receive, call, no_stmts, more_stmts, body, arm, no_arms, more_arms, accept}
use Rattle.pfc_tree.specs.shapes.Stmts.{accept_do, alt, no_alts, more_alts, comm_accept, comm_send, comm_receive, timeout, terminate}
use Rattle.pfc_tree.specs.lawful.Exprs.{IsLawfulExpr, IsLawfulDesig, AreLawfulActuals}
use Rattle.pfc_tree.specs.lawful.Types.{IsFilled, IsLawfulConstant, AreLawfulConstants, AreLawfulFormals}

abbrev mutual
  -- whether a statement ends in an `if` without `else`: it is one, or the last statement in it does
  pub ends_in_if : StmtShape → Bool
  ends_in_if empty = false
  ends_in_if null = false
  ends_in_if (block b) = false
  ends_in_if (if_then e s) = true
  ends_in_if (if_then_else e s t) = ends_in_if t
  ends_in_if (case_of e arms last) = false
  ends_in_if (while_do e s) = ends_in_if s
  ends_in_if (repeat_until ss e) = false
  ends_in_if (repeat_forever ss) = false
  ends_in_if (for_do x from down to s) = ends_in_if s
  ends_in_if (cobegin ss) = false
  ends_in_if (accepting a) = accept_ends_in_if a
  ends_in_if (requeue x args) = false
  ends_in_if (select pri alts) = false
  ends_in_if (select_else pri alts ss) = false
  ends_in_if (assign d e) = false
  ends_in_if (send d e) = false
  ends_in_if (receive d v) = false
  ends_in_if (call d args) = false

  pub accept_ends_in_if : AcceptShape → Bool
  accept_ends_in_if (accept x gs) = false
  accept_ends_in_if (accept_do x gs s) = ends_in_if s

abbrev mutual
  -- whether a statement ends in an expression: the last thing in it is one. Arguments and a receiving variable are none.
  pub ends_in_expr : StmtShape → Bool
  ends_in_expr empty = false
  ends_in_expr null = false
  ends_in_expr (block b) = false
  ends_in_expr (if_then e s) = ends_in_expr s
  ends_in_expr (if_then_else e s t) = ends_in_expr t
  ends_in_expr (case_of e arms last) = false
  ends_in_expr (while_do e s) = ends_in_expr s
  ends_in_expr (repeat_until ss e) = true
  ends_in_expr (repeat_forever ss) = false
  ends_in_expr (for_do x from down to s) = ends_in_expr s
  ends_in_expr (cobegin ss) = false
  ends_in_expr (accepting a) = accept_ends_in_expr a
  ends_in_expr (requeue x args) = false
  ends_in_expr (select pri alts) = false
  ends_in_expr (select_else pri alts ss) = false
  ends_in_expr (assign d e) = true
  ends_in_expr (send d e) = true
  ends_in_expr (receive d v) = false
  ends_in_expr (call d args) = false

  pub accept_ends_in_expr : AcceptShape → Bool
  accept_ends_in_expr (accept x gs) = false
  accept_ends_in_expr (accept_do x gs s) = ends_in_expr s

-- the same of what an alternative waits for
abbrev pub comm_ends_in_if : CommShape → Bool
comm_ends_in_if (comm_accept a) = accept_ends_in_if a
comm_ends_in_if (comm_send d e) = false
comm_ends_in_if (comm_receive d v) = false
comm_ends_in_if (timeout e) = false
comm_ends_in_if terminate = false

abbrev pub comm_ends_in_expr : CommShape → Bool
comm_ends_in_expr (comm_accept a) = accept_ends_in_expr a
comm_ends_in_expr (comm_send d e) = true
comm_ends_in_expr (comm_receive d v) = false
comm_ends_in_expr (timeout e) = true
comm_ends_in_expr terminate = false

-- the same of the last of several statements, or else, where there is none, what `before` says
abbrev pub last_ends_in_if : Bool → StmtShapes → Bool
last_ends_in_if before no_stmts = before
last_ends_in_if before (more_stmts s ss) = last_ends_in_if (ends_in_if s) ss

abbrev pub last_ends_in_expr : Bool → StmtShapes → Bool
last_ends_in_expr before no_stmts = before
last_ends_in_expr before (more_stmts s ss) = last_ends_in_expr (ends_in_expr s) ss

-- the same of an alternative, which ends as its last statement does, or else as what it waits for
abbrev pub alt_ends_in_if : AltShape → Bool
alt_ends_in_if (alt spread guard c ss) = last_ends_in_if (comm_ends_in_if c) ss

abbrev pub alt_ends_in_expr : AltShape → Bool
alt_ends_in_expr (alt spread guard c ss) = last_ends_in_expr (comm_ends_in_expr c) ss

-- the last alternative ends in an `if` without `else`
abbrev pub alts_end_in_if : AltShapes → Bool
alts_end_in_if no_alts = false
alts_end_in_if (more_alts a no_alts) = alt_ends_in_if a
alts_end_in_if (more_alts a (more_alts b alts)) = alts_end_in_if (more_alts b alts)

-- where an alternative follows, and so an `or` stands between, this one does not end in an expression
abbrev pub OrMayFollow : AltShape → AltShapes → Type 0
OrMayFollow a no_alts = Unit {0}
OrMayFollow a (more_alts b alts) = alt_ends_in_expr a ≡ false

abbrev pub IsLawfulGuard : Option ExprShape → Type 0
IsLawfulGuard None = Unit {0}
IsLawfulGuard (Some e) = IsLawfulExpr e

abbrev pub IsLawfulSpread : Option SpreadShape → Type 0
IsLawfulSpread None = Unit {0}
IsLawfulSpread (Some r) = IsLawfulConstant r.low × IsLawfulConstant r.high

-- what an alternative waits for may be replicated
abbrev pub IsReplicable : CommShape → Type 0
IsReplicable (comm_accept a) = Unit {0}
IsReplicable (comm_send d e) = Unit {0}
IsReplicable (comm_receive d v) = Unit {0}
IsReplicable (timeout e) = ⊥
IsReplicable terminate = ⊥

-- where there is a spread, what is waited for may be replicated
abbrev pub MayStandBehind : Option SpreadShape → CommShape → Type 0
MayStandBehind None c = Unit {0}
MayStandBehind (Some r) c = IsReplicable c

abbrev mutual
  pub IsLawfulStmt : StmtShape → Type 0
  IsLawfulStmt empty = Unit {0}
  IsLawfulStmt null = Unit {0}
  IsLawfulStmt (block b) = IsLawfulBody b
  IsLawfulStmt (if_then e s) = IsLawfulExpr e × IsLawfulStmt s
  IsLawfulStmt (if_then_else e s t) = IsLawfulExpr e × IsLawfulStmt s × (ends_in_if s ≡ false) × IsLawfulStmt t
  IsLawfulStmt (case_of e arms last) = IsLawfulExpr e × HasLawfulArms arms
  IsLawfulStmt (while_do e s) = IsLawfulExpr e × IsLawfulStmt s
  IsLawfulStmt (repeat_until ss e) = HasLawfulStmts ss × IsLawfulExpr e
  IsLawfulStmt (repeat_forever ss) = HasLawfulStmts ss
  IsLawfulStmt (for_do x from down to s) = IsLawfulExpr from × IsLawfulExpr to × IsLawfulStmt s
  IsLawfulStmt (cobegin ss) = HasLawfulStmts ss
  IsLawfulStmt (accepting a) = IsLawfulAccept a
  IsLawfulStmt (requeue x args) = AreLawfulActuals args
  IsLawfulStmt (select pri alts) = HasLawfulAlts alts
  IsLawfulStmt (select_else pri alts ss) = HasLawfulAlts alts × (alts_end_in_if alts ≡ false) × HasLawfulStmts ss
  IsLawfulStmt (assign d e) = IsLawfulDesig d × IsLawfulExpr e
  IsLawfulStmt (send d e) = IsLawfulDesig d × IsLawfulExpr e
  IsLawfulStmt (receive d v) = IsLawfulDesig d × IsLawfulDesig v
  IsLawfulStmt (call d args) = IsLawfulDesig d × AreLawfulActuals args

  -- statements between two words are one or more, where one may be empty
  pub HasLawfulStmts : StmtShapes → Type 0
  HasLawfulStmts no_stmts = ⊥
  HasLawfulStmts (more_stmts s ss) = IsLawfulStmt s × AreLawfulStmts ss

  pub AreLawfulStmts : StmtShapes → Type 0
  AreLawfulStmts no_stmts = Unit {0}
  AreLawfulStmts (more_stmts s ss) = IsLawfulStmt s × AreLawfulStmts ss

  pub IsLawfulBody : BodyShape → Type 0
  IsLawfulBody (body ss) = HasLawfulStmts ss

  pub IsLawfulArm : ArmShape → Type 0
  IsLawfulArm (arm labels s) = IsFilled labels × AreLawfulConstants labels × IsLawfulStmt s

  pub HasLawfulArms : ArmShapes → Type 0
  HasLawfulArms no_arms = ⊥
  HasLawfulArms (more_arms a arms) = IsLawfulArm a × AreLawfulArms arms

  pub AreLawfulArms : ArmShapes → Type 0
  AreLawfulArms no_arms = Unit {0}
  AreLawfulArms (more_arms a arms) = IsLawfulArm a × AreLawfulArms arms

  pub IsLawfulAccept : AcceptShape → Type 0
  IsLawfulAccept (accept x gs) = AreLawfulFormals gs
  IsLawfulAccept (accept_do x gs s) = AreLawfulFormals gs × IsLawfulStmt s

  -- the statements behind what an alternative waits for may be none
  pub IsLawfulAlt : AltShape → Type 0
  IsLawfulAlt (alt spread guard c ss) = IsLawfulSpread spread × IsLawfulGuard guard × MayStandBehind spread c × IsLawfulComm c × AreLawfulStmts ss

  pub IsLawfulComm : CommShape → Type 0
  IsLawfulComm (comm_accept a) = IsLawfulAccept a
  IsLawfulComm (comm_send d e) = IsLawfulDesig d × IsLawfulExpr e
  IsLawfulComm (comm_receive d v) = IsLawfulDesig d × IsLawfulDesig v
  IsLawfulComm (timeout e) = IsLawfulExpr e
  IsLawfulComm terminate = Unit {0}

  pub HasLawfulAlts : AltShapes → Type 0
  HasLawfulAlts no_alts = ⊥
  HasLawfulAlts (more_alts a alts) = IsLawfulAlt a × OrMayFollow a alts × AreLawfulAlts alts

  pub AreLawfulAlts : AltShapes → Type 0
  AreLawfulAlts no_alts = Unit {0}
  AreLawfulAlts (more_alts a alts) = IsLawfulAlt a × OrMayFollow a alts × AreLawfulAlts alts
