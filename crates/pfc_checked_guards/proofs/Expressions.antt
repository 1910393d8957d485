-- Expressions in which no rule is broken call functions alone.
use Rattle.std.proofs.Common.{◌≡◌, ◌≢◌, ℕ, Bool, true, false, List, [], ◌∷◌, Option, Some, None, refl, sym, ap, ◌∙◌}
use Rattle.pfc_base.specs.declared.places.Place.{Place}
use Rattle.pfc_tree.specs.trees.Exprs.{ExprTree, SimpleTree, SummandTrees, TermTree, MultiplierTrees, FactorTree, DesigTree, SelectorTree, SelectorTrees}
use Rattle.pfc_tree.specs.trees.Exprs.{ExprTrees, ActualTree, ActualTrees, plain, related, sum, no_summands, more_summands, product, no_multipliers}
use Rattle.pfc_tree.specs.trees.Exprs.{more_multipliers, number, literal, negation, paren, applied, desig, index, field, no_selectors, more_selectors, no_exprs}
use Rattle.pfc_tree.specs.trees.Exprs.{more_exprs, actual, actual_width, no_actuals, more_actuals}
use Rattle.pfc_tree.specs.Symbols.{Text}
use Rattle.pfc_types.specs.Scopes.{meaning_of}
use Rattle.pfc_types.specs.Blocks.{sub_at}
use Rattle.pfc_types.specs.declared.types.TypeId.{TypeId}
use Rattle.pfc_types.specs.declared.view.Around.{Around}
use Rattle.pfc_types.specs.declared.view.Found.{Found}
use Rattle.pfc_types.specs.declared.scope.Meaning.{Meaning}
use Rattle.pfc_types.specs.declared.scope.Meaning.TheVariants.{Sub}
use Rattle.pfc_types.specs.declared.heads.SubSort.{SubSort}
use Rattle.pfc_types.specs.declared.heads.SubSort.TheVariants.{Procedure, Guarded, Function}
use Rattle.pfc_types.specs.rules.Routines.{Want, is_function_sort, fits_use}
use Rattle.pfc_types.specs.rules.Expressions.{Env, find, no_selector, no_actual, guard_names, guard_allows, use_rules, broken_expr, broken_simple}
use Rattle.pfc_types.specs.rules.Expressions.{broken_summands, broken_term, broken_multipliers, broken_factor, broken_selectors, broken_selector}
use Rattle.pfc_types.specs.rules.Expressions.{broken_indexes, broken_actuals, broken_actual, broken_desig}
use Rattle.pfc_semantics.specs.Programs.{Program}
use Rattle.pfc_semantics.specs.Configurations.{plain as none_entered}
use Rattle.pfc_image_numbers.proofs.Rules.{IsClean, held, and_right}
use Rattle.pfc_guard_laws.specs.Tops.{Standing, Comes}
use Rattle.pfc_guard_laws.specs.Written.{SuitsName, SuitsExpr, SuitsSimple, SuitSummands, SuitsTerm, SuitMultipliers, SuitsFactor, SuitsDesig, SuitSelectors}
use Rattle.pfc_guard_laws.specs.Written.{SuitsSelector, SuitExprs, SuitsActual, SuitActuals}
use Rattle.pfc_checked_guards.specs.Subs.{SubsStand}
use Rattle.pfc_checked_guards.specs.Order.{scope_of_sub}

pub no_guard_sort : (s : SubSort) → is_function_sort s ≡ true → s ≢ Guarded
no_guard_sort Procedure e = cc
no_guard_sort Guarded e = cc
no_guard_sort (Function t) e = λ (h : Function t ≡ Guarded). cc

-- at a place of a body the rules ask of the names in view, and of the tree around
abbrev pub under : Env → Around → Env
under env a = record env { around = a }

-- outside guards each sub that is named may be called from here
abbrev pub CallsInOrder : Program → Standing → Env → Around → Type 0
CallsInOrder g standing env a =
    (x : Text) (n : ℕ) → a.guard ≡ None → meaning_of (find env x) ≡ Some (Sub n)
    → Comes standing.tops none_entered (scope_of_sub g env.state.blocks n) standing.scope

module _ (g : Program) (standing : Standing) (env : Env) (a : Around) (subs : SubsStand g env.state.blocks) (order : CallsInOrder g standing env a) where
  -- a guard names no sub
  unless_guard : (o : Option ℕ) (f : Found) (n : ℕ) → f.meaning ≡ Sub n → guard_allows o (Some f) ≡ true → o ≡ None
  unless_guard None f n is allowed = refl
  unless_guard (Some r) f n is allowed =
      absurd (false_true (ap (λ (m : Meaning). guard_names r f.scope m) (sym is) ∙ allowed))
    where
      false_true : false ≡ true → ⊥
      false_true e = cc

  name_called : (x : Text) (found : Option Found) → find env x ≡ found → (alone bare : Bool) (q : Place)
      → IsClean (use_rules (under env a) found alone bare q) → SuitsName g standing env (meaning_of found)
  name_called x None there alone bare q h = tt
  name_called x (Some f) there alone bare q h = by f.meaning refl (held (fits_use env.state.blocks alone bare f.meaning) q 310 h.0)
    where
      by : (m : Meaning) → f.meaning ≡ m → fits_use env.state.blocks alone bare m ≡ true → SuitsName g standing env (Some m)
      by (Sub n) same e =
          let is = and_right alone (is_function_sort (sub_at env.state.blocks n).sort) e in
          let outside = unless_guard a.guard f n same (held (guard_allows a.guard (Some f)) q 420 h.1.1) in (
            subs.unguarded n (no_guard_sort (sub_at env.state.blocks n).sort is),
            order x n outside
                (ap (λ (o : Option Found). meaning_of o) there ∙ ap Some same),
          )
      by m same e = tt

  mutual
    pub expr_called : (e : ExprTree) → IsClean (broken_expr (under env a) e) → SuitsExpr g standing env e
    expr_called (plain s p) h = simple_called s h
    expr_called (related s r u p) h = (simple_called s h.0, simple_called u h.1.0)

    pub simple_called : (s : SimpleTree) → IsClean (broken_simple (under env a) s) → SuitsSimple g standing env s
    simple_called (sum sign first rest) h = (term_called first h.0, summands_called _ rest h.1.1)

    summands_called : (t : Option TypeId) (rest : SummandTrees) → IsClean (broken_summands (under env a) t rest) → SuitSummands g standing env rest
    summands_called t no_summands h = tt
    summands_called t (more_summands op u rest) h = (term_called u h.0, summands_called _ rest h.1.1)

    term_called : (t : TermTree) → IsClean (broken_term (under env a) t) → SuitsTerm g standing env t
    term_called (product f rest) h = (factor_called f h.0, multipliers_called _ rest h.1)

    multipliers_called : (t : Option TypeId) (rest : MultiplierTrees) → IsClean (broken_multipliers (under env a) t rest) → SuitMultipliers g standing env rest
    multipliers_called t no_multipliers h = tt
    multipliers_called t (more_multipliers op f rest) h = (factor_called f h.0, multipliers_called _ rest h.1.1)

    factor_called : (f : FactorTree) → IsClean (broken_factor (under env a) f) → SuitsFactor g standing env f
    factor_called (number n p) h = tt
    factor_called (literal x p) h = tt
    factor_called (negation f p) h = factor_called f h.0
    factor_called (paren e p) h = expr_called e h
    factor_called (applied (desig x ss q) args p) h =
        (name_called x (find env x) refl (no_selector ss) (no_actual args) q h.0, selectors_called _ ss h.1.0, actuals_called None _ _ args h.1.1.1.0)

    pub selectors_called : (t : Option TypeId) (ss : SelectorTrees) → IsClean (broken_selectors (under env a) t ss) → SuitSelectors g standing env ss
    selectors_called t no_selectors h = tt
    selectors_called t (more_selectors s ss) h = (selector_called t s h.0, selectors_called _ ss h.1)

    selector_called : (t : Option TypeId) (s : SelectorTree) → IsClean (broken_selector (under env a) t s) → SuitsSelector g standing env s
    selector_called t (index es p) h = indices_called t es p h
    selector_called t (field x p) h = tt

    indices_called : (t : Option TypeId) (es : ExprTrees) (p : Place) → IsClean (broken_indexes (under env a) t es p) → SuitExprs g standing env es
    indices_called t no_exprs p h = tt
    indices_called t (more_exprs e es) p h = (expr_called e h.0, indices_called _ es p h.1.1)

    pub actuals_called :
        (ending : Option ℕ) (known : Bool) (ws : List Want) (args : ActualTrees) → IsClean (broken_actuals (under env a) ending known ws args)
        → SuitActuals g standing env args
    actuals_called ending known ws no_actuals h = tt
    actuals_called ending known [] (more_actuals b rest) h = (actual_called known b h.0, actuals_called ending known [] rest h.1)
    actuals_called ending known (w ∷ ws) (more_actuals b rest) h = (actual_called known b h.0, actuals_called ending known ws rest h.1.1)

    actual_called : (known : Bool) (b : ActualTree) → IsClean (broken_actual (under env a) known b) → SuitsActual g standing env b
    actual_called known (actual e) h = expr_called e h
    actual_called known (actual_width e width) h = (expr_called e h.0, expr_called width h.1.0)

  pub desig_called : (d : DesigTree) → IsClean (broken_desig (under env a) d) → SuitsDesig g standing env d
  desig_called (desig x ss p) h = selectors_called _ ss h.1
