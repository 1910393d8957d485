-- Types of expressions ask of the tree around only whether it is the main body, a sub or a guard.
use Rattle.std.proofs.Common.{◌≡◌, ℕ, Bool, not, ◌&&◌, ◌||◌, List, [], ◌∷◌, Option, Some, None, if◌then◌else◌, refl, ap, ◌∙◌}
use Rattle.pfc_tree.specs.trees.Exprs.{ExprTree, SimpleTree, SummandTrees, TermTree, MultiplierTrees, FactorTree, SelectorTree, SelectorTrees, ExprTrees}
use Rattle.pfc_tree.specs.trees.Exprs.{ActualTree, ActualTrees, plain, related, sum, no_summands, more_summands, product, no_multipliers, more_multipliers}
use Rattle.pfc_tree.specs.trees.Exprs.{number, literal, negation, paren, applied, desig, index, field, no_selectors, more_selectors, no_exprs, more_exprs}
use Rattle.pfc_tree.specs.trees.Exprs.{actual, actual_width, no_actuals, more_actuals}
use Rattle.pfc_types.specs.declared.types.TypeId.{TypeId}
use Rattle.pfc_types.specs.declared.scope.Meaning.{Meaning}
use Rattle.pfc_types.specs.declared.scope.Meaning.TheVariants.{Constant, Named, Variable, Sub, Module, Process, Entry, Predeclared, Faulty}
use Rattle.pfc_types.specs.declared.view.Found.{Found}
use Rattle.pfc_types.specs.declared.view.Around.{Around}
use Rattle.pfc_types.specs.Types.{boolean, condition}
use Rattle.pfc_types.specs.Scopes.{Level, meaning_of}
use Rattle.pfc_types.specs.Blocks.{State}
use Rattle.pfc_types.specs.rules.Kinds.{where_so, has, variable_type}
use Rattle.pfc_types.specs.rules.Routines.{Want, Site, anywhere, in_main, in_monitor_sub, site_fits, called_function, fits_want}
use Rattle.pfc_types.specs.rules.Expressions.{Env, find, no_selector, no_actual, guard_allows, plain_use, use_type, related_type, signed_type, operated}
use Rattle.pfc_types.specs.rules.Expressions.{add_operand, mul_operand, element_type, is_variable, expr_type, simple_type, summed, term_type, multiplied}
use Rattle.pfc_types.specs.rules.Expressions.{factor_type, selected, selected_by, indexed, args_fit, arg_fits, first_type, arg_type}

pub record AreAlike (c d : Around) : Type 0 where
  pub main : c.main ≡ d.main
  pub sub : c.sub ≡ d.sub
  pub guard : c.guard ≡ d.guard

module _ (s : State) (v : List Level) (c d : Around) (alike : AreAlike c d) where
  abbrev one : Env
  one = record { state = s; view = v; around = c }

  abbrev other : Env
  other = record { state = s; view = v; around = d }

  plain_same : (m : Meaning) (lone bare : Bool) (part : Option TypeId) (fit : Bool) (first : Option TypeId)
      → plain_use one m lone bare part fit first ≡ plain_use other m lone bare part fit first
  plain_same (Constant t v) lone bare part fit first = refl
  plain_same (Named t) lone bare part fit first = refl
  plain_same (Variable t r) lone bare part fit first = refl
  plain_same (Sub n) lone bare part fit first = refl
  plain_same (Module n) lone bare part fit first = refl
  plain_same (Process n) lone bare part fit first = refl
  plain_same (Entry n) lone bare part fit first = refl
  plain_same (Predeclared k) lone bare part fit first = refl
  plain_same Faulty lone bare part fit first = refl

  site_same : (site : Site) (first : Option TypeId) → site_fits c site first ≡ site_fits d site first
  site_same anywhere first = refl
  site_same in_main first = alike.main
  site_same in_monitor_sub first = ap (λ (r : Bool). r || not (has condition first)) alike.sub

  use_same : (o : Option Found) (lone bare : Bool) (part : Option TypeId) (fit : Bool) (first : Option TypeId)
      → use_type one o lone bare part fit first ≡ use_type other o lone bare part fit first
  use_same None lone bare part fit first = refl
  use_same (Some f) lone bare part fit first =
      ap (λ (r : Option ℕ). if guard_allows r (Some f) then plain_use one f.meaning lone bare part fit first else None) alike.guard
      ∙ ap (λ (t : Option TypeId). if guard_allows d.guard (Some f) then t else None) (plain_same f.meaning lone bare part fit first)

  mutual
    pub expr_same : (e : ExprTree) → expr_type one e ≡ expr_type other e
    expr_same (plain a p) = simple_same a
    expr_same (related a r u p) =
        ap (λ (t : Option TypeId). related_type t (simple_type one u)) (simple_same a)
        ∙ ap (λ (t : Option TypeId). related_type (simple_type other a) t) (simple_same u)

    simple_same : (e : SimpleTree) → simple_type one e ≡ simple_type other e
    simple_same (sum sign first rest) =
        ap (λ (t : Option TypeId). summed one (signed_type sign t) rest) (term_same first) ∙ summed_same (signed_type sign (term_type other first)) rest

    summed_same : (t : Option TypeId) (e : SummandTrees) → summed one t e ≡ summed other t e
    summed_same t no_summands = refl
    summed_same t (more_summands op u rest) =
        ap (λ (w : Option TypeId). summed one (operated (add_operand op.0) t w) rest) (term_same u)
        ∙ summed_same (operated (add_operand op.0) t (term_type other u)) rest

    term_same : (e : TermTree) → term_type one e ≡ term_type other e
    term_same (product f rest) = ap (λ (t : Option TypeId). multiplied one t rest) (factor_same f) ∙ multiplied_same (factor_type other f) rest

    multiplied_same : (t : Option TypeId) (e : MultiplierTrees) → multiplied one t e ≡ multiplied other t e
    multiplied_same t no_multipliers = refl
    multiplied_same t (more_multipliers op f rest) =
        ap (λ (w : Option TypeId). multiplied one (operated (mul_operand op.0) t w) rest) (factor_same f)
        ∙ multiplied_same (operated (mul_operand op.0) t (factor_type other f)) rest

    factor_same : (e : FactorTree) → factor_type one e ≡ factor_type other e
    factor_same (number n p) = refl
    factor_same (literal x p) = refl
    factor_same (negation f p) = ap (λ (t : Option TypeId). where_so (has boolean t) boolean) (factor_same f)
    factor_same (paren e p) = expr_same e
    factor_same (applied (desig x ss q) args p) =
        let o = find one x in
        let callee = called_function s.blocks (meaning_of o) in
        let lone = no_selector ss in
        let bare = no_actual args in
        let t = variable_type (meaning_of o) in
        ap
        (λ (part : Option TypeId). use_type one o lone bare part (args_fit one callee.wants args && site_fits c callee.site (first_type one args))
        (first_type one args)) (selected_same t ss)
        ∙ ap
        (λ (fit : Bool). use_type one o lone bare (selected other t ss) (fit && site_fits c callee.site (first_type one args)) (first_type one args))
        (args_same callee.wants args)
        ∙ ap
        (λ (first : Option TypeId). use_type one o lone bare (selected other t ss) (args_fit other callee.wants args && site_fits c callee.site first) first)
        (first_same args)
        ∙ ap
        (λ (fit : Bool). use_type one o lone bare (selected other t ss) (args_fit other callee.wants args && fit) (first_type other args))
        (site_same callee.site (first_type other args))
        ∙ use_same o lone bare (selected other t ss) (args_fit other callee.wants args && site_fits d callee.site (first_type other args))
        (first_type other args)

    pub selected_same : (t : Option TypeId) (ss : SelectorTrees) → selected one t ss ≡ selected other t ss
    selected_same t no_selectors = refl
    selected_same t (more_selectors x ss) = ap (λ (u : Option TypeId). selected one u ss) (selected_by_same t x) ∙ selected_same (selected_by other t x) ss

    selected_by_same : (t : Option TypeId) (x : SelectorTree) → selected_by one t x ≡ selected_by other t x
    selected_by_same t (index es p) = indexed_same t es
    selected_by_same t (field x p) = refl

    indexed_same : (t : Option TypeId) (es : ExprTrees) → indexed one t es ≡ indexed other t es
    indexed_same t no_exprs = refl
    indexed_same t (more_exprs e es) =
        ap (λ (u : Option TypeId). indexed one (element_type s.forms t u) es) (expr_same e)
        ∙ indexed_same (element_type s.forms t (expr_type other e)) es

    args_same : (ws : List Want) (args : ActualTrees) → args_fit one ws args ≡ args_fit other ws args
    args_same [] no_actuals = refl
    args_same [] (more_actuals x rest) = refl
    args_same (w ∷ ws) no_actuals = refl
    args_same (w ∷ ws) (more_actuals x rest) =
        ap (λ (r : Bool). r && args_fit one ws rest) (arg_same w x) ∙ ap (λ (r : Bool). arg_fits other w x && r) (args_same ws rest)

    arg_same : (w : Want) (x : ActualTree) → arg_fits one w x ≡ arg_fits other w x
    arg_same w (actual e) = ap (λ (t : Option TypeId). fits_want s.forms w (is_variable one None e) t) (expr_same e)
    arg_same w (actual_width e width) = refl

    first_same : (args : ActualTrees) → first_type one args ≡ first_type other args
    first_same no_actuals = refl
    first_same (more_actuals x rest) = arg_type_same x

    arg_type_same : (x : ActualTree) → arg_type one x ≡ arg_type other x
    arg_type_same (actual e) = expr_same e
    arg_type_same (actual_width e w) = expr_same e
