-- A tree that is read from tokens whose numbers have 32 bits has such numbers alone.
use Rattle.std.proofs.Common.{◌+◌, ℕ, true, false, List, [], ◌∷◌, ◌++◌, map, Option, Some, None, option_map}
use Rattle.std.specs.List.{AllByRecursion}
use Rattle.pfc_base.specs.declared.tokens.Kind.TheVariants.{Word, Sign}
use Rattle.pfc_base.specs.declared.word.TheConstants.{DO, ELSE, END, OF, REPLICATE, THEN, TO, WHEN}
use Rattle.pfc_base.specs.declared.sign.TheConstants.{COLON, DOT, SEMICOLON}
use Rattle.pfc_tree.specs.Symbols.{Text, Symbol}
use Rattle.pfc_tree.specs.declared.tree.Constant.{Constant}
use Rattle.pfc_tree.specs.declared.tree.Constant.TheVariants.{Number, Named, Literal}
use Rattle.pfc_tree.specs.declared.tree.ConstItem.{ConstItem}
use Rattle.pfc_tree.specs.declared.tree.Spread.{Spread}
use Rattle.pfc_tree.specs.trees.Exprs.{ExprTree, SimpleTree, SummandTrees, TermTree, MultiplierTrees, FactorTree, DesigTree, SelectorTree, SelectorTrees}
use Rattle.pfc_tree.specs.trees.Exprs.{ExprTrees, ActualTree, ActualTrees, plain, related, sum, no_summands, more_summands, product, no_multipliers}
use Rattle.pfc_tree.specs.trees.Exprs.{more_multipliers, number, literal, negation, paren, applied, desig, index, field, no_selectors, more_selectors, no_exprs}
use Rattle.pfc_tree.specs.trees.Exprs.{more_exprs, actual, actual_width, no_actuals, more_actuals}
use Rattle.pfc_tree.specs.trees.Types.{GroupTree}
use Rattle.pfc_tree.specs.trees.Stmts.{StmtTree, StmtTrees, BodyTree, ArmTrees, AcceptTree, AltTree, AltTrees, CommTree, empty, null, block, if_then}
use Rattle.pfc_tree.specs.trees.Stmts.{if_then_else, case_of, while_do, repeat_until, repeat_forever, for_do, cobegin, accepting, requeue, select, select_else}
use Rattle.pfc_tree.specs.trees.Stmts.{assign, send, receive, call, no_stmts, more_stmts, body, arm, no_arms, more_arms, accept, accept_do, alt, no_alts}
use Rattle.pfc_tree.specs.trees.Stmts.{more_alts, comm_accept, comm_send, comm_receive, timeout, terminate}
use Rattle.pfc_tree.specs.trees.Parts.{KindTree, PartTree, PartTrees, SubTree, ModuleTree, ProcessTree, ProgramTree, procedure, function, guarded, consts}
use Rattle.pfc_tree.specs.trees.Parts.{types, vars, sub_part, monitor, resource, process_part, no_parts, more_parts, sub, the_module, process}
use Rattle.pfc_tree.specs.forget.Types.{bare, forget_constant, forget_const_item, forget_group}
use Rattle.pfc_tree.specs.forget.Stmts.{forget_spread, forget_stmt, forget_stmts, forget_body, forget_arm, forget_arms, forget_accept, forget_alt, forget_alts}
use Rattle.pfc_tree.specs.forget.Stmts.{forget_comm}
use Rattle.pfc_tree.specs.forget.Parts.{forget_entry, forget_part, forget_parts, forget_sub, forget_module, forget_process, forget_kind, forget_program}
use Rattle.pfc_tree.specs.tokens.Types.{constant_tokens, constants_tokens, const_items_tokens, last_tokens, formals_tokens}
use Rattle.pfc_tree.specs.tokens.Stmts.{direction_symbol, spread_tokens, guard_tokens, stmt_tokens, stmts_tokens, semicolon_stmts_tokens, body_tokens}
use Rattle.pfc_tree.specs.tokens.Stmts.{arm_tokens, arms_tokens, semicolon_arms_tokens, accept_tokens, alt_tokens, comm_tokens, alts_tokens, or_alts_tokens}
use Rattle.pfc_tree.specs.tokens.Parts.{exports_tokens, entries_tokens, ending_tokens, heading_tokens, part_tokens, parts_tokens, sub_tokens, module_tokens}
use Rattle.pfc_tree.specs.tokens.Parts.{process_tokens, params_tokens, tokens_of}
use Rattle.pfc_tree.specs.forget.Exprs.{forget_expr, forget_simple, forget_summands, forget_term, forget_multipliers, forget_factor, forget_desig}
use Rattle.pfc_tree.specs.forget.Exprs.{forget_selector, forget_selectors, forget_exprs, forget_actual, forget_actuals}
use Rattle.pfc_tree.specs.tokens.Exprs.{expr_tokens, simple_tokens, summands_tokens, term_tokens, multipliers_tokens, factor_tokens, desig_tokens}
use Rattle.pfc_tree.specs.tokens.Exprs.{selectors_tokens, selector_tokens, exprs_tokens, comma_exprs_tokens, actuals_tokens, comma_actuals_tokens}
use Rattle.pfc_tree.specs.tokens.Exprs.{actual_tokens}
use Rattle.pfc_number_laws.specs.Written.{any, FitsKind, FitsEnding, FitsItem, FitsPart, FitParts, FitsSub, FitsModule, FitsProcess, FitsTree}
use Rattle.pfc_run_invariants.specs.Written.{FitsConstant, FitsSpread, FitsStmt, FitStmts, FitsBody, FitArms, FitsAccept, FitsAlt, FitAlts, FitsComm, FitsExpr}
use Rattle.pfc_run_invariants.specs.Written.{FitsSimple, FitSummands, FitsTerm, FitMultipliers, FitsFactor, FitsDesig, FitSelectors, FitsSelector, FitExprs}
use Rattle.pfc_run_invariants.specs.Written.{FitsActual, FitActuals}
use Rattle.pfc_number_laws.specs.Tokens.{FitSymbols}

front : (xs ys : List Symbol) → FitSymbols (xs ++ ys) → FitSymbols xs
front [] ys all = tt
front (x ∷ xs) ys all = (all.0, front xs ys all.1)

back : (xs ys : List Symbol) → FitSymbols (xs ++ ys) → FitSymbols ys
back [] ys all = all
back (x ∷ xs) ys all = back xs ys all.1

-- three, and four, behind one another
three : (xs ys zs : List Symbol) → FitSymbols (xs ++ ys ++ zs) → FitSymbols xs × FitSymbols ys × FitSymbols zs
three xs ys zs all = let first = front (xs ++ ys) zs all in (front xs ys first, back xs ys first, back (xs ++ ys) zs all)

four : (ws xs ys zs : List Symbol) → FitSymbols (ws ++ xs ++ ys ++ zs) → FitSymbols ws × FitSymbols xs × FitSymbols ys × FitSymbols zs
four ws xs ys zs all =
    let first = three ws xs ys (front (ws ++ xs ++ ys) zs all) in (first.0, first.1, first.2, back (ws ++ xs ++ ys) zs all)

mutual
  expr_fits : (e : ExprTree) → FitSymbols (expr_tokens (forget_expr e)) → FitsExpr e
  expr_fits (plain s p) all = simple_fits s all
  expr_fits (related s r t p) all =
      let first = simple_tokens (forget_simple s) in
      (simple_fits s (front first _ all), simple_fits t (back first _ all).1)

  simple_fits : (s : SimpleTree) → FitSymbols (simple_tokens (forget_simple s)) → FitsSimple s
  simple_fits (sum None t rest) all =
      let first = term_tokens (forget_term t) in (term_fits t (front first _ all), summands_fit rest (back first _ all))
  simple_fits (sum (Some sign) t rest) all =
      let first = term_tokens (forget_term t) in (term_fits t (front first _ all.1), summands_fit rest (back first _ all.1))

  summands_fit : (rest : SummandTrees) → FitSymbols (summands_tokens (forget_summands rest)) → FitSummands rest
  summands_fit no_summands all = tt
  summands_fit (more_summands op t rest) all =
      let first = term_tokens (forget_term t) in (term_fits t (front first _ all.1), summands_fit rest (back first _ all.1))

  term_fits : (t : TermTree) → FitSymbols (term_tokens (forget_term t)) → FitsTerm t
  term_fits (product f rest) all =
      let first = factor_tokens (forget_factor f) in (factor_fits f (front first _ all), multipliers_fit rest (back first _ all))

  multipliers_fit : (rest : MultiplierTrees) → FitSymbols (multipliers_tokens (forget_multipliers rest)) → FitMultipliers rest
  multipliers_fit no_multipliers all = tt
  multipliers_fit (more_multipliers op f rest) all =
      let first = factor_tokens (forget_factor f) in (factor_fits f (front first _ all.1), multipliers_fit rest (back first _ all.1))

  factor_fits : (f : FactorTree) → FitSymbols (factor_tokens (forget_factor f)) → FitsFactor f
  factor_fits (number n p) all = all.0
  factor_fits (literal x p) all = all.0
  factor_fits (negation f p) all = factor_fits f all.1
  factor_fits (paren e p) all = expr_fits e (front (expr_tokens (forget_expr e)) _ all.1)
  factor_fits (applied d args p) all =
      let first = desig_tokens (forget_desig d) in (desig_fits d (front first _ all), actuals_fit args (back first _ all))

  desig_fits : (d : DesigTree) → FitSymbols (desig_tokens (forget_desig d)) → FitsDesig d
  desig_fits (desig x ss p) all = selectors_fit ss all.1

  selectors_fit : (ss : SelectorTrees) → FitSymbols (selectors_tokens (forget_selectors ss)) → FitSelectors ss
  selectors_fit no_selectors all = tt
  selectors_fit (more_selectors s ss) all =
      let first = selector_tokens (forget_selector s) in (selector_fits s (front first _ all), selectors_fit ss (back first _ all))

  selector_fits : (s : SelectorTree) → FitSymbols (selector_tokens (forget_selector s)) → FitsSelector s
  selector_fits (index es p) all = exprs_fit es (front (exprs_tokens (forget_exprs es)) _ all.1)
  selector_fits (field x p) all = tt

  exprs_fit : (es : ExprTrees) → FitSymbols (exprs_tokens (forget_exprs es)) → FitExprs es
  exprs_fit no_exprs all = tt
  exprs_fit (more_exprs e es) all =
      let first = expr_tokens (forget_expr e) in (expr_fits e (front first _ all), comma_fit es (back first _ all))

  comma_fit : (es : ExprTrees) → FitSymbols (comma_exprs_tokens (forget_exprs es)) → FitExprs es
  comma_fit no_exprs all = tt
  comma_fit (more_exprs e es) all =
      let first = expr_tokens (forget_expr e) in (expr_fits e (front first _ all.1), comma_fit es (back first _ all.1))

  actuals_fit : (args : ActualTrees) → FitSymbols (actuals_tokens (forget_actuals args)) → FitActuals args
  actuals_fit no_actuals all = tt
  actuals_fit (more_actuals a args) all =
      let first = actual_tokens (forget_actual a) in (actual_fits a (front first _ all.1), more_fit args (back first _ all.1))

  more_fit : (args : ActualTrees) → FitSymbols (comma_actuals_tokens (forget_actuals args)) → FitActuals args
  more_fit no_actuals all = tt
  more_fit (more_actuals a args) all =
      let first = actual_tokens (forget_actual a) in (actual_fits a (front first _ all.1), more_fit args (back first _ all.1))

  actual_fits : (a : ActualTree) → FitSymbols (actual_tokens (forget_actual a)) → FitsActual a
  actual_fits (actual e) all = expr_fits e all
  actual_fits (actual_width e w) all =
      let first = expr_tokens (forget_expr e) in (expr_fits e (front first _ all), expr_fits w (back first _ all).1)

-- ## Constants, spreads and guards

constant_fits : (k : Constant) → FitSymbols (constant_tokens (forget_constant k)) → FitsConstant k
constant_fits (Number None n p) all = all.0
constant_fits (Number (Some sign) n p) all = all.1.0
constant_fits (Named sign x p) all = tt
constant_fits (Literal x p) all = all.0

items_fit : (items : List ConstItem) → FitSymbols (const_items_tokens (map forget_const_item items)) → AllByRecursion FitsItem items
items_fit [] all = tt
items_fit (i ∷ items) all =
    let value = constant_tokens (forget_constant i.value) in
    (constant_fits i.value (front value _ all.1.1), items_fit items (back value _ all.1.1).1)

guard_fits : (e : ExprTree) → FitSymbols (guard_tokens (Some (forget_expr e))) → FitsExpr e
guard_fits e all = expr_fits e (front (expr_tokens (forget_expr e)) _ all.1)

spread_fits : (r : Spread) → FitSymbols (spread_tokens (forget_spread r)) → FitsSpread (Some r)
spread_fits r all =
    let low = constant_tokens (forget_constant r.low) in
    let both = three low (Word TO ∷ constant_tokens (forget_constant r.high)) (Word REPLICATE ∷ []) all.1.1.1 in
    (constant_fits r.low both.0, constant_fits r.high both.1.1)

-- ## Statements

mutual
  stmt_fits : (n : ℕ) (s : StmtTree) → FitSymbols (stmt_tokens (forget_stmt s)) → FitsStmt any n s
  stmt_fits n empty all = tt
  stmt_fits n (null p) all = tt
  stmt_fits n (block b p) all = body_fits _ b all
  stmt_fits n (if_then e s p) all =
      let first = expr_tokens (forget_expr e) in (expr_fits e (front first _ all.1), stmt_fits _ s (back first _ all.1).1)
  stmt_fits n (if_then_else e s t p) all =
      let parts = three (expr_tokens (forget_expr e)) (Word THEN ∷ stmt_tokens (forget_stmt s)) (Word ELSE ∷ stmt_tokens (forget_stmt t)) all.1 in
      (expr_fits e parts.0, stmt_fits _ s parts.1.1, stmt_fits _ t parts.2.1)
  stmt_fits n (case_of e arms last p) all =
      let parts = four (expr_tokens (forget_expr e)) (Word OF ∷ arms_tokens (forget_arms arms)) (last_tokens last) (Word END ∷ []) all.1 in
      (expr_fits e parts.0, arms_fit _ arms parts.1.1)
  stmt_fits n (while_do e s p) all =
      let first = expr_tokens (forget_expr e) in (expr_fits e (front first _ all.1), stmt_fits _ s (back first _ all.1).1)
  stmt_fits n (repeat_until ss e p) all =
      let first = stmts_tokens (forget_stmts ss) in (stmts_fit _ ss (front first _ all.1), expr_fits e (back first _ all.1).1)
  stmt_fits n (repeat_forever ss p) all = stmts_fit _ ss (front (stmts_tokens (forget_stmts ss)) _ all.1)
  stmt_fits n (for_do x a down b s p q) all =
      let parts =
      three (expr_tokens (forget_expr a)) (direction_symbol down ∷ expr_tokens (forget_expr b)) (Word DO ∷ stmt_tokens (forget_stmt s)) all.1.1.1 in
      (expr_fits a parts.0, expr_fits b parts.1.1, stmt_fits _ s parts.2.1)
  stmt_fits n (cobegin ss last p) all = stmts_fit _ ss (front (stmts_tokens (forget_stmts ss)) _ all.1)
  stmt_fits n (accepting a p) all = accept_fits _ a all.1
  stmt_fits n (requeue x args p) all = actuals_fit args all.1.1
  stmt_fits n (select true alts p q) all = alts_fit _ alts (front (alts_tokens (forget_alts alts)) _ all.1.1)
  stmt_fits n (select false alts p q) all = alts_fit _ alts (front (alts_tokens (forget_alts alts)) _ all.1)
  stmt_fits n (select_else true alts ss at p q) all =
      let parts = three (alts_tokens (forget_alts alts)) (Word ELSE ∷ stmts_tokens (forget_stmts ss)) (Word END ∷ []) all.1.1 in
      (alts_fit _ alts parts.0, stmts_fit _ ss parts.1.1)
  stmt_fits n (select_else false alts ss at p q) all =
      let parts = three (alts_tokens (forget_alts alts)) (Word ELSE ∷ stmts_tokens (forget_stmts ss)) (Word END ∷ []) all.1 in
      (alts_fit _ alts parts.0, stmts_fit _ ss parts.1.1)
  stmt_fits n (assign d e p q) all =
      let first = desig_tokens (forget_desig d) in (desig_fits d (front first _ all), expr_fits e (back first _ all).1)
  stmt_fits n (send d e p q) all =
      let first = desig_tokens (forget_desig d) in (desig_fits d (front first _ all), expr_fits e (back first _ all).1)
  stmt_fits n (receive d v p q) all =
      let first = desig_tokens (forget_desig d) in (desig_fits d (front first _ all), desig_fits v (back first _ all).1)
  stmt_fits n (call d args p) all =
      let first = desig_tokens (forget_desig d) in (desig_fits d (front first _ all), actuals_fit args (back first _ all))

  stmts_fit : (n : ℕ) (ss : StmtTrees) → FitSymbols (stmts_tokens (forget_stmts ss)) → FitStmts any n ss
  stmts_fit n no_stmts all = tt
  stmts_fit n (more_stmts s ss) all =
      let first = stmt_tokens (forget_stmt s) in (stmt_fits _ s (front first _ all), behind_fit _ ss (back first _ all))

  behind_fit : (n : ℕ) (ss : StmtTrees) → FitSymbols (semicolon_stmts_tokens (forget_stmts ss)) → FitStmts any n ss
  behind_fit n no_stmts all = tt
  behind_fit n (more_stmts s ss) all =
      let first = stmt_tokens (forget_stmt s) in (stmt_fits _ s (front first _ all.1), behind_fit _ ss (back first _ all.1))

  body_fits : (n : ℕ) (b : BodyTree) → FitSymbols (body_tokens (forget_body b)) → FitsBody any n b
  body_fits n (body ss first last) all = stmts_fit _ ss (front (stmts_tokens (forget_stmts ss)) _ all.1)

  arms_fit : (n : ℕ) (arms : ArmTrees) → FitSymbols (arms_tokens (forget_arms arms)) → FitArms any n arms
  arms_fit n no_arms all = tt
  arms_fit n (more_arms (arm ls s) arms) all =
      let first = arm_tokens (forget_arm (arm ls s)) in (
        stmt_fits _ s (back (constants_tokens (map forget_constant ls)) (Sign COLON ∷ stmt_tokens (forget_stmt s)) (front first _ all)).1,
        more_arms_fit _ arms (back first _ all),
      )

  more_arms_fit : (n : ℕ) (arms : ArmTrees) → FitSymbols (semicolon_arms_tokens (forget_arms arms)) → FitArms any n arms
  more_arms_fit n no_arms all = tt
  more_arms_fit n (more_arms (arm ls s) arms) all =
      let first = arm_tokens (forget_arm (arm ls s)) in (
        stmt_fits _ s (back (constants_tokens (map forget_constant ls)) (Sign COLON ∷ stmt_tokens (forget_stmt s)) (front first _ all.1)).1,
        more_arms_fit _ arms (back first _ all.1),
      )

  accept_fits : (n : ℕ) (a : AcceptTree) → FitSymbols (accept_tokens (forget_accept a)) → FitsAccept any n a
  accept_fits n (accept x gs p) all = tt
  accept_fits n (accept_do x gs s p) all =
      (tt, stmt_fits (n + 1) s (back (formals_tokens (map forget_group gs)) (Word DO ∷ stmt_tokens (forget_stmt s)) all.1).1)

  alts_fit : (n : ℕ) (alts : AltTrees) → FitSymbols (alts_tokens (forget_alts alts)) → FitAlts any n alts
  alts_fit n no_alts all = tt
  alts_fit n (more_alts a alts) all =
      let first = alt_tokens (forget_alt a) in (alt_fits _ a (front first _ all), more_alts_fit _ alts (back first _ all))

  more_alts_fit : (n : ℕ) (alts : AltTrees) → FitSymbols (or_alts_tokens (forget_alts alts)) → FitAlts any n alts
  more_alts_fit n no_alts all = tt
  more_alts_fit n (more_alts a alts) all =
      let first = alt_tokens (forget_alt a) in (alt_fits _ a (front first _ all.1), more_alts_fit _ alts (back first _ all.1))

  alt_fits : (n : ℕ) (a : AltTree) → FitSymbols (alt_tokens (forget_alt a)) → FitsAlt any n a
  alt_fits n (alt None None comm ss) all =
      let first = comm_tokens (forget_comm comm) in (tt, tt, comm_fits _ comm (front first _ all), behind_fit _ ss (back first _ all))
  alt_fits n (alt None (Some e) comm ss) all =
      let parts = three (guard_tokens (Some (forget_expr e))) (comm_tokens (forget_comm comm)) (semicolon_stmts_tokens (forget_stmts ss)) all in
      (tt, guard_fits e parts.0, comm_fits _ comm parts.1, behind_fit _ ss parts.2)
  alt_fits n (alt (Some r) None comm ss) all =
      let parts = four (spread_tokens (forget_spread r)) [] (comm_tokens (forget_comm comm)) (semicolon_stmts_tokens (forget_stmts ss)) all in
      (spread_fits r parts.0, tt, comm_fits _ comm parts.2, behind_fit _ ss parts.3)
  alt_fits n (alt (Some r) (Some e) comm ss) all =
      let guard = guard_tokens (Some (forget_expr e)) in
      let parts = four (spread_tokens (forget_spread r)) guard (comm_tokens (forget_comm comm)) (semicolon_stmts_tokens (forget_stmts ss)) all in
      (spread_fits r parts.0, guard_fits e parts.1, comm_fits _ comm parts.2, behind_fit _ ss parts.3)

  comm_fits : (n : ℕ) (comm : CommTree) → FitSymbols (comm_tokens (forget_comm comm)) → FitsComm any n comm
  comm_fits n (comm_accept a p) all = accept_fits _ a all.1
  comm_fits n (comm_send d e p) all =
      let first = desig_tokens (forget_desig d) in (desig_fits d (front first _ all), expr_fits e (back first _ all).1)
  comm_fits n (comm_receive d v p) all =
      let first = desig_tokens (forget_desig d) in (desig_fits d (front first _ all), desig_fits v (back first _ all).1)
  comm_fits n (timeout e p) all = expr_fits e all.1
  comm_fits n (terminate p) all = tt

-- ## Parts

ending_fits : (b : Option BodyTree) → FitSymbols (ending_tokens (option_map forget_body b)) → FitsEnding b
ending_fits None all = tt
ending_fits (Some b) all = λ n. body_fits n b all

kind_fits : (x : Text) (gs : List GroupTree) (kind : KindTree) → FitSymbols (heading_tokens x (map forget_group gs) (forget_kind kind)) → FitsKind kind
kind_fits x gs procedure all = tt
kind_fits x gs (function t p) all = tt
kind_fits x gs (guarded e p) all =
    let parts = three (formals_tokens (map forget_group gs)) (Word WHEN ∷ expr_tokens (forget_expr e)) (Sign SEMICOLON ∷ []) all.1.1.1 in
    expr_fits e parts.1.1

mutual
  part_fits : (q : PartTree) → FitSymbols (part_tokens (forget_part q)) → FitsPart q
  part_fits (consts items) all = items_fit items all.1
  part_fits (types items) all = tt
  part_fits (vars vs) all = tt
  part_fits (sub_part b) all = sub_fits b all
  part_fits (monitor m) all = module_fits m all.1
  part_fits (resource m) all = module_fits m all.1
  part_fits (process_part q) all = process_fits q all

  parts_fit : (qs : PartTrees) → FitSymbols (parts_tokens (forget_parts qs)) → FitParts qs
  parts_fit no_parts all = tt
  parts_fit (more_parts q qs) all =
      let first = part_tokens (forget_part q) in (part_fits q (front first _ all), parts_fit qs (back first _ all))

  sub_fits : (b : SubTree) → FitSymbols (sub_tokens (forget_sub b)) → FitsSub b
  sub_fits (sub x gs kind ps b p) all =
      let heading = heading_tokens x (map forget_group gs) (forget_kind kind) in
      let all_of = four heading (parts_tokens (forget_parts ps)) (body_tokens (forget_body b)) (Sign SEMICOLON ∷ []) all in
      (kind_fits x gs kind all_of.0, parts_fit ps all_of.1, (λ n. body_fits n b all_of.2))

  module_fits : (m : ModuleTree) → FitSymbols (module_tokens (forget_module m)) → FitsModule m
  module_fits (the_module x exports ps b last p) all =
      let all_of =
      four (exports_tokens (map bare exports)) (parts_tokens (forget_parts ps)) (ending_tokens (option_map forget_body b)) (Sign SEMICOLON ∷ []) all.1.1 in
      (parts_fit ps all_of.1, ending_fits b all_of.2)

  process_fits : (q : ProcessTree) → FitSymbols (process_tokens (forget_process q)) → FitsProcess q
  process_fits (process true x gs es ps b p) all =
      let begin = formals_tokens (map forget_group gs) ++ Sign SEMICOLON ∷ entries_tokens (map forget_entry es) in
      let all_of = four begin (parts_tokens (forget_parts ps)) (body_tokens (forget_body b)) (Sign SEMICOLON ∷ []) all.1.1.1 in
      (parts_fit ps all_of.1, (λ n. body_fits n b all_of.2))
  process_fits (process false x gs es ps b p) all =
      let begin = formals_tokens (map forget_group gs) ++ Sign SEMICOLON ∷ entries_tokens (map forget_entry es) in
      let all_of = four begin (parts_tokens (forget_parts ps)) (body_tokens (forget_body b)) (Sign SEMICOLON ∷ []) all.1.1 in
      (parts_fit ps all_of.1, (λ n. body_fits n b all_of.2))

pub tree_fits : (t : ProgramTree) → FitSymbols (tokens_of (forget_program t)) → FitsTree t
tree_fits t all =
    let all_of =
    four (params_tokens (bare t.params)) (Sign SEMICOLON ∷ parts_tokens (forget_parts t.parts)) (body_tokens (forget_body t.body)) (Sign DOT ∷ []) all.1.1 in
    record { parts = parts_fit t.parts all_of.1.1; body = λ n. body_fits n t.body all_of.2 }
