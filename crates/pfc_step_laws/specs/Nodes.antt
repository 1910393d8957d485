-- How many nodes a tree has.
--
-- Each value of a struct or enum of the tree is a node. Names, texts, numbers, flags and places are none; a list has the nodes of its
-- items, and an option those of what is in it.
use Rattle.std.specs.Prelude.{ℕ, ◌+◌, max, List, [], ◌∷◌, length, sum_by, Option, Some, None}
use Rattle.pfc_base.specs.declared.places.Place.{Place}
use Rattle.pfc_tree.specs.declared.tree.Sign.{Sign}
use Rattle.pfc_tree.specs.declared.tree.Constant.{Constant}
use Rattle.pfc_tree.specs.declared.tree.Constant.TheVariants.{Number, Named, Literal}
use Rattle.pfc_tree.specs.declared.tree.Spread.{Spread}
use Rattle.pfc_tree.specs.trees.Exprs.{ExprTree, SimpleTree, SummandTrees, TermTree, MultiplierTrees, FactorTree, DesigTree, SelectorTree, SelectorTrees}
use Rattle.pfc_tree.specs.trees.Exprs.{ExprTrees, ActualTree, ActualTrees, plain, related, sum, no_summands, more_summands, product, no_multipliers}
use Rattle.pfc_tree.specs.trees.Exprs.{more_multipliers, number, literal, negation, paren, applied, desig, index, field, no_selectors, more_selectors}
use Rattle.pfc_tree.specs.trees.Exprs.{no_exprs, more_exprs, actual, actual_width, no_actuals, more_actuals}
use Rattle.pfc_tree.specs.trees.Stmts.{StmtTree, StmtTrees, BodyTree, ArmTree, ArmTrees, AcceptTree, AltTree, AltTrees, CommTree, empty, null, block, if_then}
use Rattle.pfc_tree.specs.trees.Stmts.{if_then_else, case_of, while_do, repeat_until, repeat_forever, for_do, cobegin, accepting, requeue, select}
use Rattle.pfc_tree.specs.trees.Stmts.{select_else, assign, send, receive, call, no_stmts, more_stmts, body, arm, no_arms, more_arms, accept, accept_do, alt}
use Rattle.pfc_tree.specs.trees.Stmts.{no_alts, more_alts, comm_accept, comm_send, comm_receive, timeout, terminate}
use Rattle.pfc_tree.specs.trees.Parts.{ProgramTree}
use Rattle.pfc_semantics.specs.Programs.{Block, Guard, Program, program_of}

-- ## Constants

-- a sign, where there is one
abbrev pub sign_nodes : Option (Sign × Place) → ℕ
sign_nodes None = 0
sign_nodes (Some sign) = 1

-- a constant: it and its sign
abbrev pub constant_nodes : Constant → ℕ
constant_nodes (Number sign n p) = 1 + sign_nodes sign
constant_nodes (Named sign x p) = 1 + sign_nodes sign
constant_nodes (Literal x p) = 1

-- ## Expressions

abbrev mutual
  -- an expression: it, its relation and the sums at both sides of that
  pub expr_nodes : ExprTree → ℕ
  expr_nodes (plain a p) = 1 + simple_nodes a
  expr_nodes (related a r b p) = 2 + simple_nodes a + simple_nodes b

  -- a sum: it, its sign and its terms
  pub simple_nodes : SimpleTree → ℕ
  simple_nodes (sum sign first rest) = 1 + sign_nodes sign + term_nodes first + summands_nodes rest

  -- the terms behind the first, each with its operator
  pub summands_nodes : SummandTrees → ℕ
  summands_nodes no_summands = 0
  summands_nodes (more_summands op t rest) = 1 + term_nodes t + summands_nodes rest

  -- a product: it and its factors
  pub term_nodes : TermTree → ℕ
  term_nodes (product f rest) = 1 + factor_nodes f + multipliers_nodes rest

  -- the factors behind the first, each with its operator
  pub multipliers_nodes : MultiplierTrees → ℕ
  multipliers_nodes no_multipliers = 0
  multipliers_nodes (more_multipliers op f rest) = 1 + factor_nodes f + multipliers_nodes rest

  -- a factor: it and what stands in it
  pub factor_nodes : FactorTree → ℕ
  factor_nodes (number n p) = 1
  factor_nodes (literal x p) = 1
  factor_nodes (negation f p) = 1 + factor_nodes f
  factor_nodes (paren e p) = 1 + expr_nodes e
  factor_nodes (applied d args p) = 1 + desig_nodes d + actuals_nodes args

  -- a name with its selectors: it and these
  pub desig_nodes : DesigTree → ℕ
  desig_nodes (desig x ss p) = 1 + selectors_nodes ss

  -- a selector: it and its indices
  pub selector_nodes : SelectorTree → ℕ
  selector_nodes (index es p) = 1 + exprs_nodes es
  selector_nodes (field x p) = 1

  -- all selectors
  pub selectors_nodes : SelectorTrees → ℕ
  selectors_nodes no_selectors = 0
  selectors_nodes (more_selectors s ss) = selector_nodes s + selectors_nodes ss

  -- all expressions
  pub exprs_nodes : ExprTrees → ℕ
  exprs_nodes no_exprs = 0
  exprs_nodes (more_exprs e es) = expr_nodes e + exprs_nodes es

  -- an argument: it, its value and its width
  pub actual_nodes : ActualTree → ℕ
  actual_nodes (actual e) = 1 + expr_nodes e
  actual_nodes (actual_width e w) = 1 + expr_nodes e + expr_nodes w

  -- all arguments
  pub actuals_nodes : ActualTrees → ℕ
  actuals_nodes no_actuals = 0
  actuals_nodes (more_actuals a rest) = actual_nodes a + actuals_nodes rest

-- ## Statements

-- a spread, where there is one: it and its two constants
abbrev pub spread_nodes : Option Spread → ℕ
spread_nodes None = 0
spread_nodes (Some s) = 1 + constant_nodes s.low + constant_nodes s.high

-- the guard of an alternative, where there is one
abbrev pub guard_nodes : Option ExprTree → ℕ
guard_nodes None = 0
guard_nodes (Some e) = expr_nodes e

abbrev mutual
  -- a statement: it and what stands in it
  pub stmt_nodes : StmtTree → ℕ
  stmt_nodes empty = 1
  stmt_nodes (null p) = 1
  stmt_nodes (block b p) = 1 + inner_nodes b
  stmt_nodes (if_then e t p) = 1 + expr_nodes e + stmt_nodes t
  stmt_nodes (if_then_else e t u p) = 1 + expr_nodes e + stmt_nodes t + stmt_nodes u
  stmt_nodes (case_of e arms last p) = 1 + expr_nodes e + arms_nodes arms
  stmt_nodes (while_do e t p) = 1 + expr_nodes e + stmt_nodes t
  stmt_nodes (repeat_until ss e p) = 1 + stmts_nodes ss + expr_nodes e
  stmt_nodes (repeat_forever ss p) = 1 + stmts_nodes ss
  stmt_nodes (for_do x a down b t p q) = 1 + expr_nodes a + expr_nodes b + stmt_nodes t
  stmt_nodes (cobegin ss last p) = 1 + stmts_nodes ss
  stmt_nodes (accepting a p) = 1 + accept_nodes a
  stmt_nodes (requeue x args p) = 1 + actuals_nodes args
  stmt_nodes (select pri alts p q) = 1 + alts_nodes alts
  stmt_nodes (select_else pri alts ss at p q) = 1 + alts_nodes alts + stmts_nodes ss
  stmt_nodes (assign d e p q) = 1 + desig_nodes d + expr_nodes e
  stmt_nodes (send d e p q) = 1 + desig_nodes d + expr_nodes e
  stmt_nodes (receive d v p q) = 1 + desig_nodes d + desig_nodes v
  stmt_nodes (call d args p) = 1 + desig_nodes d + actuals_nodes args

  -- all statements
  pub stmts_nodes : StmtTrees → ℕ
  stmts_nodes no_stmts = 0
  stmts_nodes (more_stmts t ts) = stmt_nodes t + stmts_nodes ts

  -- a body: it and its statements
  pub inner_nodes : BodyTree → ℕ
  inner_nodes (body ss first last) = 1 + stmts_nodes ss

  -- an arm of a `case`: it, its labels and its statement
  pub arm_nodes : ArmTree → ℕ
  arm_nodes (arm ls t) = 1 + sum_by constant_nodes ls + stmt_nodes t

  -- all arms
  pub arms_nodes : ArmTrees → ℕ
  arms_nodes no_arms = 0
  arms_nodes (more_arms a arms) = arm_nodes a + arms_nodes arms

  -- what stands behind `accept`: it, a node for each group of parameters, and its statement
  pub accept_nodes : AcceptTree → ℕ
  accept_nodes (accept x gs p) = 1 + length gs
  accept_nodes (accept_do x gs t p) = 1 + length gs + stmt_nodes t

  -- an alternative: it, its spread, its guard, what it waits for and its statements
  pub alt_nodes : AltTree → ℕ
  alt_nodes (alt spread guard comm ss) = 1 + spread_nodes spread + guard_nodes guard + comm_nodes comm + stmts_nodes ss

  -- all alternatives
  pub alts_nodes : AltTrees → ℕ
  alts_nodes no_alts = 0
  alts_nodes (more_alts a alts) = alt_nodes a + alts_nodes alts

  -- what an alternative waits for: it and what stands in it
  pub comm_nodes : CommTree → ℕ
  comm_nodes (comm_accept a p) = 1 + accept_nodes a
  comm_nodes (comm_send d e p) = 1 + desig_nodes d + expr_nodes e
  comm_nodes (comm_receive d v p) = 1 + desig_nodes d + desig_nodes v
  comm_nodes (timeout e p) = 1 + expr_nodes e
  comm_nodes (terminate p) = 1

-- ## Programs

-- the guard of a guarded procedure
abbrev pub test_nodes : Option Guard → ℕ
test_nodes None = 0
test_nodes (Some guard) = expr_nodes guard.test

-- a block: its guard and the statements of its body
abbrev pub body_nodes : Block → ℕ
body_nodes b = test_nodes b.guard + stmts_nodes b.stmts

-- what the main process goes through: the initialising bodies and the main body
abbrev pub main_nodes : Program → ℕ
main_nodes g = sum_by body_nodes g.modules + body_nodes g.main

-- the most nodes of a block
abbrev pub most_nodes : List Block → ℕ
most_nodes [] = 0
most_nodes (b ∷ bs) = max (body_nodes b) (most_nodes bs)

-- the nodes of the largest body of a program, where main's are one
abbrev pub largest_body : ProgramTree → ℕ
largest_body t = max (most_nodes (program_of t).blocks) (main_nodes (program_of t))
