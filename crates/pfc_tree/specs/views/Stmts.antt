-- The program's statements read as plain trees.
use Rattle.std.specs.Prelude.{Bool, Option, Some, None, List, [], ◌∷◌, map, option_map}
use Rattle.std.specs.declared.boxed.Box.{Box}
use Rattle.std.specs.declared.vec.Vec.{Vec}
use Rattle.std.specs.declared.alloc.Global.{Global}
use Rattle.pfc_base.specs.declared.places.Place.{Place}
use Rattle.pfc_tree.specs.declared.tree.Comm.{Comm, Comm-F, fold-Comm}
use Rattle.pfc_tree.specs.declared.tree.Stmt.{Stmt, Stmt-F, fold-Stmt}
use Rattle.pfc_tree.specs.declared.tree.Accept.{Accept, Accept-F, fold-Accept}
use Rattle.pfc_tree.specs.declared.tree.Alt.{Alt, Alt-F, fold-Alt}
use Rattle.pfc_tree.specs.declared.tree.Body.{Body, Body-F, fold-Body}
use Rattle.pfc_tree.specs.declared.tree.CaseArm.{CaseArm, CaseArm-F, fold-CaseArm}
use Rattle.pfc_tree.specs.declared.tree.Comm.TheOpen as layer
use Rattle.pfc_tree.specs.Symbols.{Text}
use Rattle.pfc_tree.specs.trees.Exprs.{ExprTree}
use Rattle.pfc_tree.specs.trees.Types.{GroupTree}
use Rattle.pfc_tree.specs.trees.Stmts.{StmtTree, StmtTrees, BodyTree, ArmTree, ArmTrees, AcceptTree, AltTree, AltTrees, CommTree, empty, null, block, if_then}
use Rattle.pfc_tree.specs.trees.Stmts.{if_then_else, case_of, while_do, repeat_until, repeat_forever, for_do, cobegin, accepting, requeue, select, select_else}
use Rattle.pfc_tree.specs.trees.Stmts.{assign, send, receive, call, no_stmts, more_stmts, body, arm, no_arms, more_arms, accept, accept_do, alt, no_alts}
use Rattle.pfc_tree.specs.trees.Stmts.{more_alts, comm_accept, comm_send, comm_receive, timeout, terminate}
use Rattle.pfc_tree.specs.views.Exprs.{expr_view, desig_view, actuals_view}
use Rattle.pfc_tree.specs.views.Types.{group_view}

-- lists of nodes
abbrev pub stmts_of : List StmtTree → StmtTrees
stmts_of [] = no_stmts
stmts_of (s ∷ ss) = more_stmts s (stmts_of ss)

abbrev pub arms_of : List ArmTree → ArmTrees
arms_of [] = no_arms
arms_of (a ∷ arms) = more_arms a (arms_of arms)

abbrev pub alts_of : List AltTree → AltTrees
alts_of [] = no_alts
alts_of (a ∷ alts) = more_alts a (alts_of alts)

-- one node, whose parts are read
abbrev pub if_of : ExprTree → StmtTree → Option (Box StmtTree Global) → Place → StmtTree
if_of e s None p = if_then e s p
if_of e s (Some other) p = if_then_else e s other.value p

abbrev pub repeat_of : StmtTrees → Option ExprTree → Place → StmtTree
repeat_of ss None p = repeat_forever ss p
repeat_of ss (Some e) p = repeat_until ss e p

abbrev pub select_of : Bool → AltTrees → Option (Vec StmtTree Global × Place) → Place → Place → StmtTree
select_of pri alts None p q = select pri alts p q
select_of pri alts (Some other) p q = select_else pri alts (stmts_of other.0.items) other.1 p q

abbrev pub accept_of : Text → List GroupTree → Option (Box StmtTree Global) → Place → AcceptTree
accept_of x gs None p = accept x gs p
accept_of x gs (Some s) p = accept_do x gs s.value p

abbrev pub comm_step : Comm-F CommTree StmtTree AcceptTree AltTree BodyTree ArmTree → CommTree
comm_step (layer.Comm::Accept a p) = comm_accept a p
comm_step (layer.Comm::Send d e p) = comm_send (desig_view d) (expr_view e) p
comm_step (layer.Comm::Receive d v p) = comm_receive (desig_view d) (desig_view v) p
comm_step (layer.Timeout e p) = timeout (expr_view e) p
comm_step (layer.Terminate p) = terminate p

abbrev pub stmt_step : Stmt-F CommTree StmtTree AcceptTree AltTree BodyTree ArmTree → StmtTree
stmt_step layer.Empty = empty
stmt_step (layer.Null p) = null p
stmt_step (layer.Block b p) = block b p
stmt_step (layer.If e s other p) = if_of (expr_view e.value) s.value other p
stmt_step (layer.Case e arms last p) = case_of (expr_view e.value) (arms_of arms.items) last p
stmt_step (layer.While e s p) = while_do (expr_view e.value) s.value p
stmt_step (layer.Repeat ss e p) = repeat_of (stmts_of ss.items) (option_map (λ test. expr_view test.value) e) p
stmt_step (layer.For x from down to s p q) = for_do x (expr_view from.value) down (expr_view to.value) s.value p q
stmt_step (layer.Cobegin ss last p) = cobegin (stmts_of ss.items) last p
stmt_step (layer.Stmt::Accept a p) = accepting a p
stmt_step (layer.Requeue x args p) = requeue x (actuals_view args.items) p
stmt_step (layer.Select pri alts other p q) = select_of pri (alts_of alts.items) other p q
stmt_step (layer.Assign d e p q) = assign (desig_view d) (expr_view e.value) p q
stmt_step (layer.Stmt::Send d e p q) = send (desig_view d) (expr_view e.value) p q
stmt_step (layer.Stmt::Receive d v p q) = receive (desig_view d) (desig_view v.value) p q
stmt_step (layer.Call d args p) = call (desig_view d) (actuals_view args.items) p

abbrev pub accept_step : Accept-F CommTree StmtTree AcceptTree AltTree BodyTree ArmTree → AcceptTree
accept_step a = accept_of a.name (map group_view a.formals.items) a.stmt a.place

abbrev pub alt_step : Alt-F CommTree StmtTree AcceptTree AltTree BodyTree ArmTree → AltTree
alt_step a = alt a.spread (option_map expr_view a.guard) a.comm (stmts_of a.rest.items)

abbrev pub body_step : Body-F CommTree StmtTree AcceptTree AltTree BodyTree ArmTree → BodyTree
body_step b = body (stmts_of b.stmts.items) b.first b.last

abbrev pub arm_step : CaseArm-F CommTree StmtTree AcceptTree AltTree BodyTree ArmTree → ArmTree
arm_step a = arm a.labels.items a.stmt.value

-- the readings
abbrev pub comm_view : Comm → CommTree
comm_view = fold-Comm CommTree StmtTree AcceptTree AltTree BodyTree ArmTree comm_step stmt_step accept_step alt_step body_step arm_step

abbrev pub stmt_view : Stmt → StmtTree
stmt_view = fold-Stmt CommTree StmtTree AcceptTree AltTree BodyTree ArmTree comm_step stmt_step accept_step alt_step body_step arm_step

abbrev pub accept_view : Accept → AcceptTree
accept_view = fold-Accept CommTree StmtTree AcceptTree AltTree BodyTree ArmTree comm_step stmt_step accept_step alt_step body_step arm_step

abbrev pub alt_view : Alt → AltTree
alt_view = fold-Alt CommTree StmtTree AcceptTree AltTree BodyTree ArmTree comm_step stmt_step accept_step alt_step body_step arm_step

abbrev pub body_view : Body → BodyTree
body_view = fold-Body CommTree StmtTree AcceptTree AltTree BodyTree ArmTree comm_step stmt_step accept_step alt_step body_step arm_step

abbrev pub arm_view : CaseArm → ArmTree
arm_view = fold-CaseArm CommTree StmtTree AcceptTree AltTree BodyTree ArmTree comm_step stmt_step accept_step alt_step body_step arm_step

abbrev pub stmts_view : List Stmt → StmtTrees
stmts_view ss = stmts_of (map stmt_view ss)

abbrev pub arms_view : List CaseArm → ArmTrees
arms_view arms = arms_of (map arm_view arms)

abbrev pub alts_view : List Alt → AltTrees
alts_view alts = alts_of (map alt_view alts)
