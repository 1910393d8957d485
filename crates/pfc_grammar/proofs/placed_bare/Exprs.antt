-- The readers of expressions from tokens agree with those from kinds but for places.
use Rattle.std.proofs.Common.{◌≡◌, ℕ, zero, suc, List, [], ◌∷◌, map, Bool, true, false, Option, Some, None, option_map, refl, ap}
use Rattle.pfc_base.specs.declared.places.Place.{Place}
use Rattle.pfc_tree.specs.declared.tree.Sign as plus_or_minus
use Rattle.pfc_tree.specs.declared.tree.AddOp.{AddOp}
use Rattle.pfc_tree.specs.declared.tree.MulOp.{MulOp}
use Rattle.pfc_tree.specs.Symbols.{Text}
use Rattle.pfc_tree.specs.shapes.Exprs.{ExprShape, TermShape, FactorShape, sum, more_summands, product, more_multipliers, desig, index, more_selectors}
use Rattle.pfc_tree.specs.shapes.Exprs.{more_exprs, more_actuals}
use Rattle.pfc_tree.specs.trees.Exprs.{ExprTree, TermTree, FactorTree, SelectorTree, ActualTree}
use Rattle.pfc_tree.specs.views.Exprs.{exprs_of, selectors_of, actuals_of, multipliers_of, summands_of}
use Rattle.pfc_tree.specs.forget.Exprs.{forget_expr, forget_exprs, forget_simple, forget_summands, forget_term, forget_multipliers, forget_factor, forget_desig}
use Rattle.pfc_tree.specs.forget.Exprs.{forget_selector, forget_selectors, forget_actual, forget_actuals}
use Rattle.pfc_grammar.specs.Heads.{as_selector}
use Rattle.pfc_grammar.specs.Reading.{Reader as KindReader}
use Rattle.pfc_grammar.specs.grammar.Exprs as kinds
use Rattle.pfc_grammar.specs.placed.Reading.{Reader}
use Rattle.pfc_grammar.specs.placed.Exprs.{selector_behind, desig_behind, desig_with, actual_with, actuals_with, paren_behind, applied_behind, plain_factor}
use Rattle.pfc_grammar.specs.placed.Exprs.{factor_with, multiplier_behind, term_with, summand_behind, simple_behind, simple_with, expr_from, expr_with, no_expr}
use Rattle.pfc_grammar.specs.placed.Exprs.{factor_at, expr_at}
use Rattle.pfc_grammar.proofs.placed_bare.Readers.{Bares, bare_pure, bare_stop, bare_stop_deep, bare_bind, bare_branch, bare_choose, bare_take, bare_peek}
use Rattle.pfc_grammar.proofs.placed_bare.Loops.{bare_many, bare_list}

-- lists without places
bare_exprs : (es : List ExprTree) → forget_exprs (exprs_of es) ≡ kinds.exprs_of (map forget_expr es)
bare_exprs [] = refl
bare_exprs (e ∷ es) = ap (λ z. more_exprs (forget_expr e) z) (bare_exprs es)

bare_selectors : (ss : List SelectorTree) → forget_selectors (selectors_of ss) ≡ kinds.selectors_of (map forget_selector ss)
bare_selectors [] = refl
bare_selectors (s ∷ ss) = ap (λ z. more_selectors (forget_selector s) z) (bare_selectors ss)

bare_arguments : (args : List ActualTree) → forget_actuals (actuals_of args) ≡ kinds.actuals_of (map forget_actual args)
bare_arguments [] = refl
bare_arguments (a ∷ args) = ap (λ z. more_actuals (forget_actual a) z) (bare_arguments args)

abbrev forget_multiplier : (MulOp × Place) × FactorTree → MulOp × FactorShape
forget_multiplier m = (m.0.0, forget_factor m.1)

bare_multipliers : (ms : List ((MulOp × Place) × FactorTree)) → forget_multipliers (multipliers_of ms) ≡ kinds.multipliers_of (map forget_multiplier ms)
bare_multipliers [] = refl
bare_multipliers (m ∷ ms) = ap (λ z. more_multipliers m.0.0 (forget_factor m.1) z) (bare_multipliers ms)

abbrev forget_summand : (AddOp × Place) × TermTree → AddOp × TermShape
forget_summand u = (u.0.0, forget_term u.1)

bare_summands : (us : List ((AddOp × Place) × TermTree)) → forget_summands (summands_of us) ≡ kinds.summands_of (map forget_summand us)
bare_summands [] = refl
bare_summands (u ∷ us) = ap (λ z. more_summands u.0.0 (forget_term u.1) z) (bare_summands us)

module _ {e : Reader ExprTree} {q : KindReader ExprShape} (h : Bares forget_expr e q) where
  bare_selector : (b : Bool) (p : Place) → Bares forget_selector (selector_behind e b p) (kinds.selector_behind q b)
  unfolding selector_behind kinds.selector_behind
  bare_selector true p = bare_bind _ (bare_list _ h) (λ es. bare_bind _ (bare_take _) (λ t. bare_pure _ (ap (λ z. index z) (bare_exprs es))))
  bare_selector false p = bare_bind _ (bare_take _) (λ x. bare_pure _ refl)

  pub bare_desig_behind : (x : Text × Place) → Bares forget_desig (desig_behind e x) (kinds.desig_behind q x.0)
  unfolding desig_behind kinds.desig_behind
  bare_desig_behind x = bare_bind _ (bare_many as_selector _ (λ o. bare_selector o.0 o.1)) (λ ss. bare_pure _ (ap (λ z. desig x.0 z) (bare_selectors ss)))

  pub bare_desig : Bares forget_desig (desig_with e) (kinds.desig_with q)
  unfolding desig_with kinds.desig_with
  bare_desig = bare_bind _ (bare_take _) (λ x. bare_desig_behind x)

  bare_actual : Bares forget_actual (actual_with e) (kinds.actual_with q)
  unfolding actual_with kinds.actual_with
  bare_actual = bare_bind _ h (λ value. bare_branch _ _ (λ t. bare_bind _ h (λ width. bare_pure _ refl)) (bare_pure _ refl))

  pub bare_actuals : Bares forget_actuals (actuals_with e) (kinds.actuals_with q)
  unfolding actuals_with kinds.actuals_with
  bare_actuals = bare_branch _ _ (λ t. bare_bind _ (bare_list _ bare_actual) (λ args. bare_bind _ (bare_take _) (λ u. bare_pure _ (bare_arguments args))))
      (bare_pure _ refl)

  bare_paren : (p : Place) → Bares forget_factor (paren_behind e p) (kinds.paren_behind q)
  unfolding paren_behind kinds.paren_behind
  bare_paren p = bare_bind _ h (λ x. bare_bind _ (bare_take _) (λ t. bare_pure _ refl))

  bare_applied : (x : Text × Place) → Bares forget_factor (applied_behind e x) (kinds.applied_behind q x.0)
  unfolding applied_behind kinds.applied_behind
  bare_applied x = bare_bind _ (bare_desig_behind x) (λ d. bare_bind _ bare_actuals (λ args. bare_pure _ refl))

  pub bare_plain_factor : Bares forget_factor (plain_factor e) (kinds.plain_factor q)
  unfolding plain_factor kinds.plain_factor
  bare_plain_factor = bare_branch _ _ (λ n. bare_pure _ refl) (bare_branch _ _ (λ x. bare_pure _ refl)
      (bare_branch _ _ (λ t. bare_paren t.1) (bare_branch _ _ bare_applied bare_stop)))

module _ {f : Reader FactorTree} {q : KindReader FactorShape} (h : Bares forget_factor f q) where
  bare_multiplier : (op : MulOp × Place) → Bares forget_multiplier (multiplier_behind f op) (kinds.multiplier_behind q op.0)
  unfolding multiplier_behind kinds.multiplier_behind
  bare_multiplier op = bare_bind _ h (λ x. bare_pure _ refl)

  bare_term : Bares forget_term (term_with f) (kinds.term_with q)
  unfolding term_with kinds.term_with
  bare_term = bare_bind _ h (λ x. bare_bind _ (bare_many _ _ bare_multiplier) (λ ms. bare_pure _ (ap (λ z. product (forget_factor x) z) (bare_multipliers ms))))

  bare_summand : (op : AddOp × Place) → Bares forget_summand (summand_behind f op) (kinds.summand_behind q op.0)
  unfolding summand_behind kinds.summand_behind
  bare_summand op = bare_bind _ bare_term (λ x. bare_pure _ refl)

  bare_simple_behind : (sign : Option (plus_or_minus.Sign × Place)) →
      Bares forget_simple (simple_behind f sign) (kinds.simple_behind q (option_map (λ x. x.0) sign))
  unfolding simple_behind kinds.simple_behind
  bare_simple_behind sign =
      bare_bind _ bare_term (λ t. bare_bind _ (bare_many _ _ bare_summand)
      (λ us. bare_pure _ (ap (λ z. sum (option_map (λ x. x.0) sign) (forget_term t) z) (bare_summands us))))

  bare_simple : Bares forget_simple (simple_with f) (kinds.simple_with q)
  unfolding simple_with kinds.simple_with
  bare_simple = bare_branch _ _ (λ s. bare_simple_behind (Some s)) (bare_simple_behind None)

  pub bare_expr_with : Bares forget_expr (expr_with f) (kinds.expr_with q)
  unfolding expr_with expr_from kinds.expr_with
  bare_expr_with = bare_peek
      (λ p. bare_bind _ bare_simple (λ left. bare_branch _ _ (λ r. bare_bind _ bare_simple (λ right. bare_pure _ refl)) (bare_pure _ refl)))

  pub bare_factor_with : {e : Reader ExprTree} {q' : KindReader ExprShape} → Bares forget_expr e q' →
      Bares forget_factor (factor_with f e) (kinds.factor_with q q')
  unfolding factor_with kinds.factor_with
  bare_factor_with k = bare_branch _ _ (λ t. bare_bind _ h (λ x. bare_pure _ refl)) (bare_plain_factor k)

-- Whatever the number of levels.
bare_no_expr : Bares forget_expr no_expr kinds.no_expr
unfolding no_expr kinds.no_expr
bare_no_expr = bare_choose _ bare_stop_deep bare_stop

pub bare_factor_at : (n : ℕ) → Bares forget_factor (factor_at n) (kinds.factor_at n)
unfolding factor_at kinds.factor_at
bare_factor_at zero = bare_choose _ bare_stop_deep (bare_plain_factor bare_no_expr)
bare_factor_at (suc n) = bare_factor_with (bare_factor_at n) (bare_expr_with (bare_factor_at n))

pub bare_expr_at : (n : ℕ) → Bares forget_expr (expr_at n) (kinds.expr_at n)
unfolding expr_at kinds.expr_at
bare_expr_at zero = bare_no_expr
bare_expr_at (suc n) = bare_expr_with (bare_factor_at n)
