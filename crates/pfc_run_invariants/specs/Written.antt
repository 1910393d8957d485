-- Numbers that are written in a text have 32 bits: those of expressions and of constants. A number that a text can be read with has, and a char is a byte.
use Rattle.std.specs.Prelude.{ℕ, ◌+◌, Option, Some, None}
use Rattle.pfc_tree.specs.declared.tree.Constant.{Constant}
use Rattle.pfc_tree.specs.declared.tree.Constant.TheVariants.{Number, Named, Literal}
use Rattle.pfc_tree.specs.declared.tree.Spread.{Spread}
use Rattle.pfc_tree.specs.trees.Exprs.{ExprTree, SimpleTree, SummandTrees, TermTree, MultiplierTrees, FactorTree, DesigTree, SelectorTree, SelectorTrees}
use Rattle.pfc_tree.specs.trees.Exprs.{ExprTrees, ActualTree, ActualTrees, plain, related, sum, no_summands, more_summands, product, no_multipliers}
use Rattle.pfc_tree.specs.trees.Exprs.{more_multipliers, number, literal, negation, paren, applied, desig, index, field, no_selectors, more_selectors, no_exprs}
use Rattle.pfc_tree.specs.trees.Exprs.{more_exprs, actual, actual_width, no_actuals, more_actuals}
use Rattle.pfc_tree.specs.trees.Stmts.{StmtTree, StmtTrees, BodyTree, ArmTrees, AcceptTree, AltTree, AltTrees, CommTree, empty, null, block, if_then}
use Rattle.pfc_tree.specs.trees.Stmts.{if_then_else, case_of, while_do, repeat_until, repeat_forever, for_do, cobegin, accepting, requeue, select, select_else}
use Rattle.pfc_tree.specs.trees.Stmts.{assign, send, receive, call, no_stmts, more_stmts, body, arm, no_arms, more_arms, accept, accept_do, alt, no_alts}
use Rattle.pfc_tree.specs.trees.Stmts.{more_alts, comm_accept, comm_send, comm_receive, timeout, terminate}
use Rattle.pfc_types.specs.rules.Statements.{scopes_in, arm_scopes, comm_scopes, alt_scopes, alts_scopes}
use Rattle.pfc_semantics.specs.Expressions.{char_in}
use Rattle.pfc_run_invariants.specs.Fitting.{Fits}

-- ## Expressions

abbrev mutual
  pub FitsExpr : ExprTree → Type 0
  FitsExpr (plain s p) = FitsSimple s
  FitsExpr (related s r t p) = FitsSimple s × FitsSimple t

  pub FitsSimple : SimpleTree → Type 0
  FitsSimple (sum sign first rest) = FitsTerm first × FitSummands rest

  pub FitSummands : SummandTrees → Type 0
  FitSummands no_summands = Unit {0}
  FitSummands (more_summands op t rest) = FitsTerm t × FitSummands rest

  pub FitsTerm : TermTree → Type 0
  FitsTerm (product f rest) = FitsFactor f × FitMultipliers rest

  pub FitMultipliers : MultiplierTrees → Type 0
  FitMultipliers no_multipliers = Unit {0}
  FitMultipliers (more_multipliers op f rest) = FitsFactor f × FitMultipliers rest

  pub FitsFactor : FactorTree → Type 0
  FitsFactor (number n p) = Fits n
  FitsFactor (literal x p) = Fits (char_in x)
  FitsFactor (negation f p) = FitsFactor f
  FitsFactor (paren e p) = FitsExpr e
  FitsFactor (applied d args p) = FitsDesig d × FitActuals args

  pub FitsDesig : DesigTree → Type 0
  FitsDesig (desig x ss p) = FitSelectors ss

  pub FitSelectors : SelectorTrees → Type 0
  FitSelectors no_selectors = Unit {0}
  FitSelectors (more_selectors s ss) = FitsSelector s × FitSelectors ss

  pub FitsSelector : SelectorTree → Type 0
  FitsSelector (index es p) = FitExprs es
  FitsSelector (field x p) = Unit {0}

  pub FitExprs : ExprTrees → Type 0
  FitExprs no_exprs = Unit {0}
  FitExprs (more_exprs e es) = FitsExpr e × FitExprs es

  pub FitsActual : ActualTree → Type 0
  FitsActual (actual e) = FitsExpr e
  FitsActual (actual_width e w) = FitsExpr e × FitsExpr w

  pub FitActuals : ActualTrees → Type 0
  FitActuals no_actuals = Unit {0}
  FitActuals (more_actuals a rest) = FitsActual a × FitActuals rest

abbrev pub FitsPerhaps : Option ExprTree → Type 0
FitsPerhaps None = Unit {0}
FitsPerhaps (Some e) = FitsExpr e

abbrev pub FitsTarget : Option DesigTree → Type 0
FitsTarget None = Unit {0}
FitsTarget (Some d) = FitsDesig d

-- ## Constants

abbrev pub FitsConstant : Constant → Type 0
FitsConstant (Number sign n p) = Fits n
FitsConstant (Named sign x p) = Unit {0}
FitsConstant (Literal x p) = Fits (char_in x)

abbrev pub FitsSpread : Option Spread → Type 0
FitsSpread None = Unit {0}
FitsSpread (Some s) = FitsConstant s.low × FitsConstant s.high

-- ## Statements; labels are compared alone

-- The number is that of the next scope of the text; each accept asks this of the number of its own scope.
module _ (accept_asks : ℕ → Type 0) where
  abbrev mutual
    pub FitsStmt : ℕ → StmtTree → Type 0
    FitsStmt n empty = Unit {0}
    FitsStmt n (null p) = Unit {0}
    FitsStmt n (block b p) = FitsBody n b
    FitsStmt n (if_then e s p) = FitsExpr e × FitsStmt n s
    FitsStmt n (if_then_else e s t p) = FitsExpr e × FitsStmt n s × FitsStmt (n + scopes_in s) t
    FitsStmt n (case_of e arms last p) = FitsExpr e × FitArms n arms
    FitsStmt n (while_do e s p) = FitsExpr e × FitsStmt n s
    FitsStmt n (repeat_until ss e p) = FitStmts n ss × FitsExpr e
    FitsStmt n (repeat_forever ss p) = FitStmts n ss
    FitsStmt n (for_do x a down b s p q) = FitsExpr a × FitsExpr b × FitsStmt n s
    FitsStmt n (cobegin ss last p) = FitStmts n ss
    FitsStmt n (accepting a p) = FitsAccept n a
    FitsStmt n (requeue x args p) = FitActuals args
    FitsStmt n (select pri alts p q) = FitAlts n alts
    FitsStmt n (select_else pri alts ss at p q) = FitAlts n alts × FitStmts (n + alts_scopes alts) ss
    FitsStmt n (assign d e p q) = FitsDesig d × FitsExpr e
    FitsStmt n (send d e p q) = FitsDesig d × FitsExpr e
    FitsStmt n (receive d v p q) = FitsDesig d × FitsDesig v
    FitsStmt n (call d args p) = FitsDesig d × FitActuals args

    pub FitStmts : ℕ → StmtTrees → Type 0
    FitStmts n no_stmts = Unit {0}
    FitStmts n (more_stmts s ss) = FitsStmt n s × FitStmts (n + scopes_in s) ss

    pub FitsBody : ℕ → BodyTree → Type 0
    FitsBody n (body ss first last) = FitStmts n ss

    pub FitArms : ℕ → ArmTrees → Type 0
    FitArms n no_arms = Unit {0}
    FitArms n (more_arms (arm ls s) arms) = FitsStmt n s × FitArms (n + arm_scopes (arm ls s)) arms

    pub FitsAccept : ℕ → AcceptTree → Type 0
    FitsAccept n (accept x gs p) = accept_asks n
    FitsAccept n (accept_do x gs s p) = accept_asks n × FitsStmt (n + 1) s

    pub FitsAlt : ℕ → AltTree → Type 0
    FitsAlt n (alt spread guard comm ss) = FitsSpread spread × FitsPerhaps guard × FitsComm n comm × FitStmts (n + comm_scopes comm) ss

    pub FitAlts : ℕ → AltTrees → Type 0
    FitAlts n no_alts = Unit {0}
    FitAlts n (more_alts a alts) = FitsAlt n a × FitAlts (n + alt_scopes a) alts

    pub FitsComm : ℕ → CommTree → Type 0
    FitsComm n (comm_accept a p) = FitsAccept n a
    FitsComm n (comm_send d e p) = FitsDesig d × FitsExpr e
    FitsComm n (comm_receive d v p) = FitsDesig d × FitsDesig v
    FitsComm n (timeout e p) = FitsExpr e
    FitsComm n (terminate p) = Unit {0}
