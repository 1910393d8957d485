-- What is called by a text. A sub that is called by its name, or in an expression, has no guard; an exported procedure stands in its module; and a requeue,
-- which stands in a guarded procedure alone, names one of the same resource.
use Rattle.std.specs.Prelude.{ℕ, ◌+◌, ◌≡◌, Bool, true, false, Option, Some, None, is_some}
use Rattle.pfc_base.specs.declared.places.Place.{Place}
use Rattle.pfc_tree.specs.Symbols.{Text}
use Rattle.pfc_tree.specs.trees.Exprs.{ExprTree, SimpleTree, SummandTrees, TermTree, MultiplierTrees, FactorTree, DesigTree, SelectorTree, SelectorTrees}
use Rattle.pfc_tree.specs.trees.Exprs.{ExprTrees, ActualTree, ActualTrees, plain, related, sum, no_summands, more_summands, product, no_multipliers}
use Rattle.pfc_tree.specs.trees.Exprs.{more_multipliers, number, literal, negation, paren, applied, desig, index, field, no_selectors, more_selectors, no_exprs}
use Rattle.pfc_tree.specs.trees.Exprs.{more_exprs, actual, actual_width, no_actuals, more_actuals}
use Rattle.pfc_tree.specs.trees.Stmts.{StmtTree, StmtTrees, ArmTrees, AcceptTree, AltTrees, CommTree, empty, null, block, if_then, if_then_else, case_of}
use Rattle.pfc_tree.specs.trees.Stmts.{while_do, repeat_until, repeat_forever, for_do, cobegin, accepting, requeue, select, select_else, assign, send, receive}
use Rattle.pfc_tree.specs.trees.Stmts.{call, no_stmts, more_stmts, body, arm, no_arms, more_arms, accept, accept_do, alt, no_alts, more_alts, comm_accept}
use Rattle.pfc_tree.specs.trees.Stmts.{comm_send, comm_receive, timeout, terminate}
use Rattle.pfc_types.specs.Scopes.{meaning_of, meaning_in, scope_at}
use Rattle.pfc_types.specs.Blocks.{sub_at, module_at}
use Rattle.pfc_types.specs.declared.scope.Meaning.{Meaning}
use Rattle.pfc_types.specs.declared.scope.Meaning.TheVariants.{Sub, Module}
use Rattle.pfc_types.specs.rules.Expressions.{Env, find}
use Rattle.pfc_types.specs.rules.Calls.{last_field}
use Rattle.pfc_types.specs.rules.Statements.{within_accept, scopes_in, arm_scopes, comm_scopes, alt_scopes, alts_scopes}
use Rattle.pfc_semantics.specs.Objects.{module_number}
use Rattle.pfc_semantics.specs.Programs.{Program, block_at}
use Rattle.pfc_semantics.specs.Configurations.{Mark, plain as unmarked, of_monitor, of_resource}
use Rattle.pfc_translation.specs.Calls.{resource_of}
use Rattle.pfc_translation.specs.Images.{site_in}
use Rattle.pfc_guard_laws.specs.Tops.{Standing, Comes, Beside}

-- ## Subs

-- the sub with this scope has no guard
abbrev pub IsUnguarded : Program → ℕ → Type 0
IsUnguarded g scope = (block_at g scope).guard ≡ None

-- and comes in the order of what may be called from here
abbrev pub IsCalled : Program → Standing → ℕ → Type 0
IsCalled g standing scope = IsUnguarded g scope × Comes standing.tops unmarked (block_at g scope).scope standing.scope

-- it stands in this resource
abbrev pub IsInResource : Program → ℕ → ℕ → Type 0
IsInResource g r scope = r ≡ resource_of (site_in g (block_at g scope))

-- an exported procedure of the n-th module, which is a resource or a monitor
abbrev pub IsOfModule : Program → Standing → Bool → ℕ → ℕ → Type 0
IsOfModule g standing true r scope = IsInResource g r scope × Comes standing.tops (of_resource r) (block_at g scope).scope standing.scope
IsOfModule g standing false m scope = IsUnguarded g scope × Comes standing.tops (of_monitor m) (block_at g scope).scope standing.scope

abbrev pub IsEntered : Program → Standing → ℕ → ℕ → Type 0
IsEntered g standing n scope = IsOfModule g standing (module_at g.state.blocks n).resource (module_number g.state.blocks n) scope

-- where an activation with this mark may requeue: it has entered the resource, and the procedure is guarded
abbrev pub RequeuesFrom : Program → Mark → ℕ → Type 0
RequeuesFrom g (of_resource r) scope = IsInResource g r scope × (is_some (block_at g scope).guard ≡ true)
RequeuesFrom g (of_monitor m) scope = ⊥
RequeuesFrom g unmarked scope = ⊥

-- and the procedure stands beside that in which the process is
abbrev pub MayRequeue : Program → Standing → ℕ → Type 0
MayRequeue g standing scope = RequeuesFrom g standing.mark scope × Beside standing.tops (block_at g scope).scope standing.scope

-- ## Names

abbrev pub SuitsName : Program → Standing → Env → Option Meaning → Type 0
SuitsName g standing env (Some (Sub n)) = IsCalled g standing (sub_at env.state.blocks n).scope
SuitsName g standing env m = Unit {0}

abbrev pub SuitsExport : Program → Standing → Env → ℕ → Option Meaning → Type 0
SuitsExport g standing env n (Some (Sub p)) = IsEntered g standing n (sub_at env.state.blocks p).scope
SuitsExport g standing env n m = Unit {0}

abbrev pub SuitsModule : Program → Standing → Env → ℕ → Option (Text × Place) → Type 0
SuitsModule g standing env n None = Unit {0}
SuitsModule g standing env n (Some x) = SuitsExport g standing env n (meaning_in (scope_at env.state.blocks.scopes (module_at env.state.blocks n).scope) x.0)

abbrev pub SuitsCalled : Program → Standing → Env → Option Meaning → SelectorTrees → Type 0
SuitsCalled g standing env (Some (Sub n)) ss = IsCalled g standing (sub_at env.state.blocks n).scope
SuitsCalled g standing env (Some (Module n)) ss = SuitsModule g standing env n (last_field ss)
SuitsCalled g standing env m ss = Unit {0}

abbrev pub SuitsRequeue : Program → Standing → Env → Option Meaning → Type 0
SuitsRequeue g standing env (Some (Sub n)) = MayRequeue g standing (sub_at env.state.blocks n).scope
SuitsRequeue g standing env m = Unit {0}

-- ## Expressions

abbrev mutual
  pub SuitsExpr : Program → Standing → Env → ExprTree → Type 0
  SuitsExpr g standing env (plain s p) = SuitsSimple g standing env s
  SuitsExpr g standing env (related s r t p) = SuitsSimple g standing env s × SuitsSimple g standing env t

  pub SuitsSimple : Program → Standing → Env → SimpleTree → Type 0
  SuitsSimple g standing env (sum sign first rest) = SuitsTerm g standing env first × SuitSummands g standing env rest

  pub SuitSummands : Program → Standing → Env → SummandTrees → Type 0
  SuitSummands g standing env no_summands = Unit {0}
  SuitSummands g standing env (more_summands op t rest) = SuitsTerm g standing env t × SuitSummands g standing env rest

  pub SuitsTerm : Program → Standing → Env → TermTree → Type 0
  SuitsTerm g standing env (product f rest) = SuitsFactor g standing env f × SuitMultipliers g standing env rest

  pub SuitMultipliers : Program → Standing → Env → MultiplierTrees → Type 0
  SuitMultipliers g standing env no_multipliers = Unit {0}
  SuitMultipliers g standing env (more_multipliers op f rest) = SuitsFactor g standing env f × SuitMultipliers g standing env rest

  pub SuitsFactor : Program → Standing → Env → FactorTree → Type 0
  SuitsFactor g standing env (number n p) = Unit {0}
  SuitsFactor g standing env (literal x p) = Unit {0}
  SuitsFactor g standing env (negation f p) = SuitsFactor g standing env f
  SuitsFactor g standing env (paren e p) = SuitsExpr g standing env e
  SuitsFactor g standing env (applied (desig x ss q) args p) = SuitsName g standing env (meaning_of (find env x)) ×
      SuitSelectors g standing env ss × SuitActuals g standing env args

  pub SuitSelectors : Program → Standing → Env → SelectorTrees → Type 0
  SuitSelectors g standing env no_selectors = Unit {0}
  SuitSelectors g standing env (more_selectors s ss) = SuitsSelector g standing env s × SuitSelectors g standing env ss

  pub SuitsSelector : Program → Standing → Env → SelectorTree → Type 0
  SuitsSelector g standing env (index es p) = SuitExprs g standing env es
  SuitsSelector g standing env (field x p) = Unit {0}

  pub SuitExprs : Program → Standing → Env → ExprTrees → Type 0
  SuitExprs g standing env no_exprs = Unit {0}
  SuitExprs g standing env (more_exprs e es) = SuitsExpr g standing env e × SuitExprs g standing env es

  pub SuitsActual : Program → Standing → Env → ActualTree → Type 0
  SuitsActual g standing env (actual e) = SuitsExpr g standing env e
  SuitsActual g standing env (actual_width e w) = SuitsExpr g standing env e × SuitsExpr g standing env w

  pub SuitActuals : Program → Standing → Env → ActualTrees → Type 0
  SuitActuals g standing env no_actuals = Unit {0}
  SuitActuals g standing env (more_actuals a rest) = SuitsActual g standing env a × SuitActuals g standing env rest

abbrev pub SuitsDesig : Program → Standing → Env → DesigTree → Type 0
SuitsDesig g standing env (desig x ss p) = SuitSelectors g standing env ss

abbrev pub SuitsPerhaps : Program → Standing → Env → Option ExprTree → Type 0
SuitsPerhaps g standing env None = Unit {0}
SuitsPerhaps g standing env (Some e) = SuitsExpr g standing env e

abbrev pub SuitsTarget : Program → Standing → Env → Option DesigTree → Type 0
SuitsTarget g standing env None = Unit {0}
SuitsTarget g standing env (Some d) = SuitsDesig g standing env d

abbrev pub SuitsCall : Program → Standing → Env → DesigTree → ActualTrees → Type 0
SuitsCall g standing env (desig x ss p) args = SuitsCalled g standing env (meaning_of (find env x)) ss ×
    SuitSelectors g standing env ss × SuitActuals g standing env args

-- ## Statements, in an activation with this standing; the next scope of the text has the number n

module _ (g : Program) (standing : Standing) where
  abbrev mutual
    pub SuitsStmt : Env → ℕ → StmtTree → Type 0
    SuitsStmt env n empty = Unit {0}
    SuitsStmt env n (null p) = Unit {0}
    SuitsStmt env n (block (body ss first last) p) = SuitStmts env n ss
    SuitsStmt env n (if_then e s p) = SuitsExpr g standing env e × SuitsStmt env n s
    SuitsStmt env n (if_then_else e s t p) = SuitsExpr g standing env e × SuitsStmt env n s × SuitsStmt env (n + scopes_in s) t
    SuitsStmt env n (case_of e arms last p) = SuitsExpr g standing env e × SuitArms env n arms
    SuitsStmt env n (while_do e s p) = SuitsExpr g standing env e × SuitsStmt env n s
    SuitsStmt env n (repeat_until ss e p) = SuitStmts env n ss × SuitsExpr g standing env e
    SuitsStmt env n (repeat_forever ss p) = SuitStmts env n ss
    SuitsStmt env n (for_do x a down b s p q) = SuitsExpr g standing env a × SuitsExpr g standing env b × SuitsStmt env n s
    SuitsStmt env n (cobegin ss last p) = SuitStmts env n ss
    SuitsStmt env n (accepting a p) = SuitsAccept env n a
    SuitsStmt env n (requeue x args p) = SuitsRequeue g standing env (meaning_of (find env x.0)) × SuitActuals g standing env args
    SuitsStmt env n (select pri alts p q) = SuitAlts env n alts
    SuitsStmt env n (select_else pri alts ss at p q) = SuitAlts env n alts × SuitStmts env (n + alts_scopes alts) ss
    SuitsStmt env n (assign d e p q) = SuitsDesig g standing env d × SuitsExpr g standing env e
    SuitsStmt env n (send d e p q) = SuitsDesig g standing env d × SuitsExpr g standing env e
    SuitsStmt env n (receive d v p q) = SuitsDesig g standing env d × SuitsDesig g standing env v
    SuitsStmt env n (call d args p) = SuitsCall g standing env d args

    pub SuitStmts : Env → ℕ → StmtTrees → Type 0
    SuitStmts env n no_stmts = Unit {0}
    SuitStmts env n (more_stmts s ss) = SuitsStmt env n s × SuitStmts env (n + scopes_in s) ss

    pub SuitArms : Env → ℕ → ArmTrees → Type 0
    SuitArms env n no_arms = Unit {0}
    SuitArms env n (more_arms (arm ls s) arms) = SuitsStmt env n s × SuitArms env (n + arm_scopes (arm ls s)) arms

    pub SuitsAccept : Env → ℕ → AcceptTree → Type 0
    SuitsAccept env n (accept x gs p) = Unit {0}
    SuitsAccept env n (accept_do x gs s p) = SuitsStmt (within_accept env n) (n + 1) s

    pub SuitsComm : Env → ℕ → CommTree → Type 0
    SuitsComm env n (comm_accept a p) = SuitsAccept env n a
    SuitsComm env n (comm_send d e p) = SuitsDesig g standing env d × SuitsExpr g standing env e
    SuitsComm env n (comm_receive d v p) = SuitsDesig g standing env d × SuitsDesig g standing env v
    SuitsComm env n (timeout e p) = SuitsExpr g standing env e
    SuitsComm env n (terminate p) = Unit {0}

    pub SuitAlts : Env → ℕ → AltTrees → Type 0
    SuitAlts env n no_alts = Unit {0}
    SuitAlts env n (more_alts (alt spread guard comm ss) alts) =
        (SuitsPerhaps g standing env guard × SuitsComm env n comm × SuitStmts env (n + comm_scopes comm) ss)
        × SuitAlts env (n + alt_scopes (alt spread guard comm ss)) alts
