-- Expressions, selectors and arguments in which no rule is broken have types, and the shapes of their types. One induction over all their forms.
use Rattle.std.proofs.Common.{◌≡◌, ℕ, suc, ◌+◌, ◌==◌, Bool, true, false, not, ◌&&◌, ◌||◌, if◌then◌else◌, List, [], ◌∷◌, length, option_map, int_le, Option}
use Rattle.std.proofs.Common.{Some, None, refl, sym, ap, ◌∙◌, subst, arith}
use Rattle.std.proofs.lemmas.Bool.Decides.{nat_tests}
use Rattle.pfc_base.specs.declared.places.Place.{Place}
use Rattle.pfc_tree.specs.trees.Exprs.{ExprTree, SimpleTree, SummandTrees, TermTree, MultiplierTrees, FactorTree, SelectorTrees, ExprTrees, ActualTrees, plain}
use Rattle.pfc_tree.specs.trees.Exprs.{related, sum, no_summands, more_summands, product, no_multipliers, more_multipliers, number, literal, negation, paren}
use Rattle.pfc_tree.specs.trees.Exprs.{applied, desig, index, field, no_selectors, more_selectors, no_exprs, more_exprs, actual, actual_width, no_actuals}
use Rattle.pfc_tree.specs.trees.Exprs.{more_actuals}
use Rattle.pfc_types.specs.Faults.{◌⨾◌, unless}
use Rattle.pfc_types.specs.Types.{integer, boolean, char, condition, array_form, is_same, is_simple, is_object}
use Rattle.pfc_types.specs.Scopes.{Level, meaning_of}
use Rattle.pfc_types.specs.declared.types.TypeId.{TypeId}
use Rattle.pfc_types.specs.declared.types.TypeForm.{TypeForm}
use Rattle.pfc_types.specs.declared.types.TypeForm.TheVariants.{Array}
use Rattle.pfc_types.specs.declared.scope.Meaning.{Meaning}
use Rattle.pfc_types.specs.declared.scope.Meaning.TheVariants.{Constant, Named, Variable, Sub, Module, Process, Entry, Predeclared, Faulty}
use Rattle.pfc_types.specs.declared.view.Found.{Found}
use Rattle.pfc_types.specs.declared.view.Around.{Around}
use Rattle.pfc_types.specs.rules.Kinds.{where_so, may_have, has, value_rule, variable_type, has_object}
use Rattle.pfc_types.specs.rules.Constants.{is_char}
use Rattle.pfc_types.specs.rules.Routines.{Want, a_value, a_simple_value, a_variable_of, may_suit, suits, fits_want, want_rules, nothing_called}
use Rattle.pfc_types.specs.rules.Routines.{called_function, site_fits, site_rule}
use Rattle.pfc_types.specs.rules.Expressions.{find, simple_place, expr_place, add_operand, mul_operand, operated, operator_rule, signed_type, signed_rule}
use Rattle.pfc_types.specs.rules.Expressions.{related_type, relation_rule, element_type, index_rule, field_type, field_rule, no_selector, no_actual}
use Rattle.pfc_types.specs.rules.Expressions.{guard_allows, use_rules, plain_use, use_type, actual_count, count_rule, lends, found_lends, is_variable}
use Rattle.pfc_types.specs.rules.Expressions.{expr_type, simple_type, summed, term_type, multiplied, factor_type, selected, indexed, args_fit, arg_fits}
use Rattle.pfc_types.specs.rules.Expressions.{first_type, broken_expr, broken_simple, broken_summands, broken_term, broken_multipliers, broken_factor}
use Rattle.pfc_types.specs.rules.Expressions.{broken_selectors, broken_indexes, broken_actuals, broken_actual, broken_wanted}
use Rattle.pfc_types.proofs.Clean.{clean, and-left, and-right}
use Rattle.pfc_semantics.specs.Displays.{TypedSpot}
use Rattle.pfc_semantics.specs.Programs.{Block, Program}
use Rattle.pfc_semantics.specs.Predeclared.{Function}
use Rattle.pfc_semantics.specs.Expressions.{spot_of}
use Rattle.pfc_translation.specs.Sites.{Site, forms_of}
use Rattle.pfc_translation.specs.Addresses.{type_behind}
use Rattle.pfc_standing_code.specs.Shapes.{Shape, a_number, shape_of}
use Rattle.pfc_standing_code.specs.Typed.{IsDeclared, IsFunction, IsUse, HasShape, HasShapeSimple, AreSummands, HasShapeTerm, AreMultipliers, HasShapeFactor}
use Rattle.pfc_standing_code.specs.Typed.{IsGivenFirst, IsLentFirst, IsVariable, AreArguments, AreSelectors, AreIndices}
use Rattle.pfc_typed_phrases.specs.Names.{AreKnown}
use Rattle.pfc_typed_phrases.specs.Phrases.{IsWanted, AreWanted, IsAsked, AreAsked}
use Rattle.pfc_typed_phrases.proofs.Rules.{holds, never, where_true, same_type, simple_shape, both, operator_known, add_simple, multiply_simple, signed_known}
use Rattle.pfc_typed_phrases.proofs.Rules.{relation_known, index_known, field_known}
use Rattle.pfc_typed_phrases.proofs.Names.{site_in, name_allowed, name_used}
use Rattle.pfc_standing_code.specs.ValueTypes.{IsValueType}
use Rattle.pfc_typed_phrases.proofs.Values.{expr_value, not_true}

-- ## As many arguments as are wanted

none_some : (n : ℕ) → (0 == 1 + n) ≡ true → ⊥
none_some n h = grind (arith, nat_tests)

some_none : (n : ℕ) → (suc n == 0) ≡ true → ⊥
some_none n h = grind (arith, nat_tests)

one_less : (n m : ℕ) → (suc n == 1 + m) ≡ true → (n == m) ≡ true
one_less n m h = grind (arith, nat_tests)

if_some : (b : Bool) (o : Option TypeId) (t : TypeId) → (if b then o else None) ≡ Some t → o ≡ Some t
if_some true o t h = h
if_some false o t h = absurd (cc)

-- ## Sums and products

-- a sum of more than one term is of numbers
abbrev AddsUp : SummandTrees → TypeId → TypeId → Type 0
AddsUp no_summands t u = t ≡ u
AddsUp (more_summands op k rest) t u = (is_simple t ≡ true) × (is_simple u ≡ true)

summed_simple : (rest : SummandTrees) (t u : TypeId) → AddsUp rest t u → is_simple t ≡ true → is_simple u ≡ true
summed_simple no_summands t u e h = ap is_simple (sym e) ∙ h
summed_simple (more_summands op k rest) t u e h = e.1

abbrev Multiplies : MultiplierTrees → TypeId → TypeId → Type 0
Multiplies no_multipliers t u = t ≡ u
Multiplies (more_multipliers op k rest) t u = (is_simple t ≡ true) × (is_simple u ≡ true)

multiplied_simple : (rest : MultiplierTrees) (t u : TypeId) → Multiplies rest t u → is_simple t ≡ true → is_simple u ≡ true
multiplied_simple no_multipliers t u e h = ap is_simple (sym e) ∙ h
multiplied_simple (more_multipliers op k rest) t u e h = e.1

module _ (g : Program) (block : Block) (view : List Level) (around : Around) (line : ℕ) (known : AreKnown (site_in g block view around line)) where
  abbrev pub s : Site
  s = site_in g block view around line

  -- an operand is a number
  as_simple : (a : SimpleTree) (t : TypeId) → HasShapeSimple s a (shape_of t) → is_simple t ≡ true → HasShapeSimple s a a_number
  as_simple a t h is = subst (λ (k : Shape). HasShapeSimple s a k) (simple_shape t is) h

  as_term : (a : TermTree) (t : TypeId) → HasShapeTerm s a (shape_of t) → is_simple t ≡ true → HasShapeTerm s a a_number
  as_term a t h is = subst (λ (k : Shape). HasShapeTerm s a k) (simple_shape t is) h

  as_factor : (f : FactorTree) (t : TypeId) → HasShapeFactor s f (shape_of t) → is_simple t ≡ true → HasShapeFactor s f a_number
  as_factor f t h is = subst (λ (k : Shape). HasShapeFactor s f k) (simple_shape t is) h

  pub as_number : (e : ExprTree) (t : TypeId) → HasShape s e (shape_of t) → is_simple t ≡ true → HasShape s e a_number
  as_number e t h is = subst (λ (k : Shape). HasShape s e k) (simple_shape t is) h

  -- ## A variable that is lent

  -- an expression that may be lent is a variable
  pub lent_variable :
      (ending : Option ℕ) (e : ExprTree) (t : TypeId) → is_variable s.env ending e ≡ true → expr_type s.env e ≡ Some t → HasShape s e (shape_of t)
      → IsVariable s e (Some t) × (is_variable s.env None e ≡ true)
  lent_variable ending (related a r u q) t lent typed is = never lent
  lent_variable ending (plain (sum (Some sign) k us) q) t lent typed is = never lent
  lent_variable ending (plain (sum None (product (number k r) ms) us) q) t lent typed is = never lent
  lent_variable ending (plain (sum None (product (literal x r) ms) us) q) t lent typed is = never lent
  lent_variable ending (plain (sum None (product (negation f r) ms) us) q) t lent typed is = never lent
  lent_variable ending (plain (sum None (product (paren e r) ms) us) q) t lent typed is = never lent
  lent_variable ending (plain (sum None (product (applied d (more_actuals a args) o) ms) us) q) t lent typed is = never lent
  lent_variable ending (plain (sum None (product (applied d no_actuals o) (more_multipliers op f ms)) us) q) t lent typed is = never lent
  lent_variable ending (plain (sum None (product (applied d no_actuals o) no_multipliers) (more_summands op k us)) q) t lent typed is = never lent
  lent_variable ending (plain (sum None (product (applied (desig x ss r) no_actuals o) no_multipliers) no_summands) q) t lent typed is =
      by (find s.env x) lent typed is.1
    where
      v : TypedSpot
      v = spot_of s.env (find s.env x)

      by : (found : Option Found) → found_lends ending found ≡ true
          → use_type s.env found (no_selector ss) true (selected s.env (variable_type (meaning_of found)) ss)
          (args_fit s.env (called_function s.env.state.blocks (meaning_of found)).wants no_actuals
          && site_fits s.env.around (called_function s.env.state.blocks (meaning_of found)).site None)
          None
          ≡ Some t
          → IsUse s (meaning_of found) (shape_of t) (IsDeclared s v.spot v.t) (λ u. AreSelectors s v.t ss u) ss (λ formals. AreArguments s formals no_actuals)
          (λ (f : Function). IsFunction f (shape_of t) (IsGivenFirst s no_actuals) (IsLentFirst s no_actuals (Some condition)))
          → (IsDeclared s v.spot v.t × AreSelectors s v.t ss (Some t)) × (found_lends None found ≡ true)
      by None lent typed is = absurd is
      by (Some f) lent typed is = of f.meaning lent (if_some (guard_allows s.env.around.guard (Some f)) _ t typed) is
        where
          of : (m : Meaning) → lends ending f.scope m ≡ true
              → plain_use s.env m (no_selector ss) true (selected s.env (variable_type (Some m)) ss)
              (args_fit s.env (called_function s.env.state.blocks (Some m)).wants no_actuals
              && site_fits s.env.around (called_function s.env.state.blocks (Some m)).site None)
              None
              ≡ Some t
              → IsUse s (Some m) (shape_of t) (IsDeclared s v.spot v.t) (λ u. AreSelectors s v.t ss u) ss (λ formals. AreArguments s formals no_actuals)
              (λ (f : Function). IsFunction f (shape_of t) (IsGivenFirst s no_actuals) (IsLentFirst s no_actuals (Some condition)))
              → (IsDeclared s v.spot v.t × AreSelectors s v.t ss (Some t)) × (lends None f.scope m ≡ true)
          of (Constant u n) lent typed is = never lent
          of (Named u) lent typed is = never lent
          of (Variable u r) lent typed is = ((is.1, subst (λ (o : Option TypeId). AreSelectors s v.t ss o) (sym is.3 ∙ typed) is.2), or_true r)
            where
              or_true : (b : Bool) → (b || true) ≡ true
              or_true true = refl
              or_true false = refl
          of (Sub n) lent typed is = never lent
          of (Module n) lent typed is = never lent
          of (Process n) lent typed is = never lent
          of (Entry n) lent typed is = never lent
          of (Predeclared k) lent typed is = never lent
          of Faulty lent typed is = absurd is

  -- ## Arguments

  suited : (w : TypeId) (u : TypeId) (p : Place) → clean (unless (may_suit (Some w) (Some u)) p 317) ≡ true → u ≡ w
  suited w u p h = same_type u w (holds (is_same u w) p 317 h)

  -- an argument that has a type, between which and what is wanted no rule is broken
  wanted_known :
      (ending : Option ℕ) (w : Want) (e : ExprTree) → IsAsked w → clean (broken_wanted s.env ending w (actual e)) ≡ true
      → (u : TypeId) → expr_type s.env e ≡ Some u → HasShape s e (shape_of u) → IsWanted s w (actual e) × (arg_fits s.env w (actual e) ≡ true)
  wanted_known ending (a_value None) e asked h u typed is = absurd (cc)
  wanted_known ending (a_value (Some w)) e asked h u typed is =
      let p = expr_place e in
      let rules = subst (λ (o : Option TypeId). clean (want_rules g.state.forms (a_value (Some w)) (is_variable s.env ending e) o p) ≡ true) typed h in
      let suit = and-left (clean (unless (may_suit (Some w) (Some u)) p 317)) (clean (value_rule g.state.forms (Some u) p)) rules in
      let object = holds (not (has_object g.state.forms (Some u))) p 406 (and-right (clean (unless (may_suit (Some w) (Some u)) p 317))
      (clean (value_rule g.state.forms (Some u) p)) rules) in (
        (
          subst (λ (k : TypeId). HasShape s e (shape_of k)) (suited w u p suit) is,
          subst (λ (k : TypeId). IsValueType g.state.forms k) (suited w u p suit) (expr_value s known e u is (not_true (is_object g.state.forms u) object)),
        ),
        subst (λ (o : Option TypeId). (suits (Some w) o && not (has_object g.state.forms o)) ≡ true) (sym typed)
            (both (is_same u w) (not (has_object g.state.forms (Some u))) (holds (is_same u w) p 317 suit) object),
      )
  wanted_known ending a_simple_value e asked h u typed is =
      let p = expr_place e in
      let rules = subst (λ (o : Option TypeId). clean (want_rules g.state.forms a_simple_value (is_variable s.env ending e) o p) ≡ true) typed h in
      let simple = holds (is_simple u) p 317 (and-left (clean (unless (is_simple u) p 317)) (clean (value_rule g.state.forms (Some u) p)) rules) in
      (as_number e u is simple, ap (λ (o : Option TypeId). fits_want g.state.forms a_simple_value false o) typed ∙ simple)
  wanted_known ending (a_variable_of None) e asked h u typed is = absurd (cc)
  wanted_known ending (a_variable_of (Some w)) e asked h u typed is =
      let p = expr_place e in
      let rules = subst (λ (o : Option TypeId). clean (want_rules g.state.forms (a_variable_of (Some w)) (is_variable s.env ending e) o p) ≡ true) typed h in
      let first = clean (unless (may_suit (Some w) (Some u)) p 317) in
      let second = clean (unless (is_variable s.env ending e) p 318) in
      let suit = and-left first second rules in
      let lent = lent_variable ending e u (holds (is_variable s.env ending e) p 318 (and-right first second rules)) typed is in (
        subst (λ (k : TypeId). IsVariable s e (Some k)) (suited w u p suit) lent.0,
        subst (λ (o : Option TypeId). (suits (Some w) o && is_variable s.env None e) ≡ true) (sym typed)
            (both (is_same u w) (is_variable s.env None e) (holds (is_same u w) p 317 suit) lent.1),
      )

  -- ## The induction

  mutual
    pub expr_typed : (e : ExprTree) → clean (broken_expr s.env e) ≡ true → (t : TypeId) × (expr_type s.env e ≡ Some t) × HasShape s e (shape_of t)
    expr_typed (plain a p) h = simple_typed a h
    expr_typed (related a r b p) h =
        let rule = relation_rule (simple_type s.env a) (simple_type s.env b) r.1 in
        let last = value_rule g.state.forms (simple_type s.env a) (simple_place a) ⨾ value_rule g.state.forms (simple_type s.env b) (simple_place b) in
        let x = simple_typed a (and-left (clean (broken_simple s.env a)) (clean (broken_simple s.env b ⨾ rule ⨾ last)) h) in
        let behind = and-right (clean (broken_simple s.env a)) (clean (broken_simple s.env b ⨾ rule ⨾ last)) h in
        let y = simple_typed b (and-left (clean (broken_simple s.env b)) (clean (rule ⨾ last)) behind) in
        let test = and-left (clean rule) (clean last) (and-right (clean (broken_simple s.env b)) (clean (rule ⨾ last)) behind) in
        let compared =
        relation_known x.0 y.0 r.1
        (subst (λ (o : Option TypeId). clean (relation_rule (Some x.0) o r.1) ≡ true) y.1
        (subst (λ (o : Option TypeId). clean (relation_rule o (simple_type s.env b) r.1) ≡ true) x.1 test)) in (
          boolean,
          ap (λ (o : Option TypeId). related_type o (simple_type s.env b)) x.1 ∙ ap (λ (o : Option TypeId). related_type (Some x.0) o) y.1 ∙ compared.gives,
          (refl, as_simple a x.0 x.2 compared.left, as_simple b y.0 y.2 compared.right),
        )

    simple_typed : (a : SimpleTree) → clean (broken_simple s.env a) ≡ true → (t : TypeId) × (simple_type s.env a ≡ Some t) × HasShapeSimple s a (shape_of t)
    simple_typed (sum None first no_summands) h = term_typed first (and-left (clean (broken_term s.env first)) true h)
    simple_typed (sum None first (more_summands op u rest)) h =
        let summands = more_summands op u rest in
        let x = term_typed first (and-left (clean (broken_term s.env first)) (clean (broken_summands s.env (term_type s.env first) summands)) h) in
        let behind = and-right (clean (broken_term s.env first)) (clean (broken_summands s.env (term_type s.env first) summands)) h in
        let y = more_typed (more_summands op u rest) x.0 (subst (λ (o : Option TypeId). clean (broken_summands s.env o summands) ≡ true) x.1 behind) in
        (y.0, ap (λ (o : Option TypeId). summed s.env o summands) x.1 ∙ y.1, (simple_shape y.0 y.2.1, as_term first x.0 x.2 y.2.0, y.3))
    simple_typed (sum (Some sign) first rest) h =
        let rule = signed_rule (Some sign) (term_type s.env first) in
        let tail = clean (broken_summands s.env (signed_type (Some sign) (term_type s.env first)) rest) in
        let x = term_typed first (and-left (clean (broken_term s.env first)) (clean rule && tail) h) in
        let behind = and-right (clean (broken_term s.env first)) (clean rule && tail) h in
        let signed = signed_known sign x.0 (subst (λ (o : Option TypeId). clean (signed_rule (Some sign) o) ≡ true) x.1 (and-left (clean rule) tail behind)) in
        let is = ap (λ (o : Option TypeId). signed_type (Some sign) o) x.1 ∙ signed.1 in
        let y = more_typed rest integer (subst (λ (o : Option TypeId). clean (broken_summands s.env o rest) ≡ true) is (and-right
        (clean rule) tail behind)) in (
          y.0,
          ap (λ (o : Option TypeId). summed s.env o rest) is ∙
              y.1,
          (simple_shape y.0 (summed_simple rest integer y.0 y.2 refl), as_term first x.0 x.2 (ap is_simple signed.0), y.3),
        )

    -- what comes behind the first operand
    more_typed :
        (rest : SummandTrees) (t : TypeId) → clean (broken_summands s.env (Some t) rest) ≡ true
        → (u : TypeId) × (summed s.env (Some t) rest ≡ Some u) × AddsUp rest t u × AreSummands s rest
    more_typed no_summands t h = (t, refl, refl, tt)
    more_typed (more_summands op u rest) t h =
        let o = add_operand op.0 in
        let rule = operator_rule o (Some t) (term_type s.env u) op.1 in
        let tail = clean (broken_summands s.env (operated o (Some t) (term_type s.env u)) rest) in
        let x = term_typed u (and-left (clean (broken_term s.env u)) (clean rule && tail) h) in
        let behind = and-right (clean (broken_term s.env u)) (clean rule && tail) h in
        let known = operator_known o t x.0 op.1 (subst (λ (k : Option TypeId). clean (operator_rule o (Some t) k op.1) ≡ true) x.1
        (and-left (clean rule) tail behind)) in
        let is = ap (λ (k : Option TypeId). operated o (Some t) k) x.1 ∙ known.gives in
        let y = more_typed rest o (subst (λ (k : Option TypeId). clean (broken_summands s.env k rest) ≡ true) is (and-right (clean rule) tail behind)) in (
          y.0,
          ap (λ (k : Option TypeId). summed s.env k rest) is ∙ y.1,
          (ap is_simple known.left ∙ add_simple op.0, summed_simple rest o y.0 y.2 (add_simple op.0)),
          (as_term u x.0 x.2 (ap is_simple known.right ∙ add_simple op.0), y.3),
        )

    term_typed : (a : TermTree) → clean (broken_term s.env a) ≡ true → (t : TypeId) × (term_type s.env a ≡ Some t) × HasShapeTerm s a (shape_of t)
    term_typed (product f no_multipliers) h = factor_typed f (and-left (clean (broken_factor s.env f)) true h)
    term_typed (product f (more_multipliers op u rest)) h =
        let multipliers = more_multipliers op u rest in
        let x = factor_typed f (and-left (clean (broken_factor s.env f)) (clean (broken_multipliers s.env (factor_type s.env f) multipliers)) h) in
        let behind = and-right (clean (broken_factor s.env f)) (clean (broken_multipliers s.env (factor_type s.env f) multipliers)) h in
        let y = times_typed (more_multipliers op u rest) x.0
        (subst (λ (o : Option TypeId). clean (broken_multipliers s.env o multipliers) ≡ true) x.1 behind) in
        (y.0, ap (λ (o : Option TypeId). multiplied s.env o multipliers) x.1 ∙ y.1, (simple_shape y.0 y.2.1, as_factor f x.0 x.2 y.2.0, y.3))

    times_typed :
        (rest : MultiplierTrees) (t : TypeId) → clean (broken_multipliers s.env (Some t) rest) ≡ true
        → (u : TypeId) × (multiplied s.env (Some t) rest ≡ Some u) × Multiplies rest t u × AreMultipliers s rest
    times_typed no_multipliers t h = (t, refl, refl, tt)
    times_typed (more_multipliers op u rest) t h =
        let o = mul_operand op.0 in
        let rule = operator_rule o (Some t) (factor_type s.env u) op.1 in
        let tail = clean (broken_multipliers s.env (operated o (Some t) (factor_type s.env u)) rest) in
        let x = factor_typed u (and-left (clean (broken_factor s.env u)) (clean rule && tail) h) in
        let behind = and-right (clean (broken_factor s.env u)) (clean rule && tail) h in
        let known = operator_known o t x.0 op.1 (subst (λ (k : Option TypeId). clean (operator_rule o (Some t) k op.1) ≡ true) x.1
        (and-left (clean rule) tail behind)) in
        let is = ap (λ (k : Option TypeId). operated o (Some t) k) x.1 ∙ known.gives in
        let y = times_typed rest o (subst (λ (k : Option TypeId). clean (broken_multipliers s.env k rest) ≡ true) is (and-right (clean rule) tail behind)) in (
          y.0,
          ap (λ (k : Option TypeId). multiplied s.env k rest) is ∙ y.1,
          (ap is_simple known.left ∙ multiply_simple op.0, multiplied_simple rest o y.0 y.2 (multiply_simple op.0)),
          (as_factor u x.0 x.2 (ap is_simple known.right ∙ multiply_simple op.0), y.3),
        )

    factor_typed : (f : FactorTree) → clean (broken_factor s.env f) ≡ true → (t : TypeId) × (factor_type s.env f ≡ Some t) × HasShapeFactor s f (shape_of t)
    factor_typed (number n p) h = (integer, refl, refl)
    factor_typed (literal x p) h = (char, where_true (is_char x) char (holds (is_char x) p 325 h), refl)
    factor_typed (negation f p) h =
        let test = clean (unless (may_have boolean (factor_type s.env f)) p 311) in
        let x = factor_typed f (and-left (clean (broken_factor s.env f)) test h) in
        let is = ap (may_have boolean) (sym x.1) ∙ holds (may_have boolean (factor_type s.env f)) p 311 (and-right (clean (broken_factor s.env f)) test h) in (
          boolean,
          ap (λ (o : Option TypeId). where_so (has boolean o) boolean) x.1 ∙ where_true (is_same x.0 boolean) boolean is,
          (refl, as_factor f x.0 x.2 (ap is_simple (same_type x.0 boolean is) ∙ refl)),
        )
    factor_typed (paren e p) h = expr_typed e h
    factor_typed (applied (desig x ss q) args p) h =
        let found = find s.env x in
        let callee = (if no_selector ss then called_function s.env.state.blocks (meaning_of found) else nothing_called) in
        let a = clean (use_rules s.env found (no_selector ss) (no_actual args) q) in
        let b = clean (broken_selectors s.env (variable_type (meaning_of found)) ss) in
        let c = clean (count_rule callee args q) in
        let d = clean (broken_actuals s.env None callee.known callee.wants args) in
        let e = clean (site_rule s.env.around callee.site (first_type s.env args) q) in
        let h1 = and-right a (b && (c && (d && e))) h in
        let h2 = and-right b (c && (d && e)) h1 in
        let h3 = and-right c (d && e) h2 in
        let rules = and-left a (b && (c && (d && e))) h in
        let named = name_used g block view around line known x ss args q found refl (λ t k. selectors_typed ss t k)
        (λ wants asked count k. actuals_typed None wants args asked count k) rules (and-left b (c && (d && e)) h1)
        (and-left c (d && e) h2, and-left d e h3, and-right d e h3) in
        (named.0, named.1, (name_allowed g block view around line known found (no_selector ss) (no_actual args) q rules, named.2))

    pub selectors_typed :
        (ss : SelectorTrees) (t : TypeId) → clean (broken_selectors s.env (Some t) ss) ≡ true
        → (u : TypeId) × (selected s.env (Some t) ss ≡ Some u) × AreSelectors s (Some t) ss (Some u)
    selectors_typed no_selectors t h = (t, refl, refl)
    selectors_typed (more_selectors (index es p) ss) t h =
        let one = clean (broken_indexes s.env (Some t) es p) in
        let rest = clean (broken_selectors s.env (indexed s.env (Some t) es) ss) in
        let x = indexes_typed es p t (and-left one rest h) in
        let y = selectors_typed ss x.0 (subst (λ (o : Option TypeId). clean (broken_selectors s.env o ss) ≡ true) x.1 (and-right one rest h)) in
        (y.0, ap (λ (o : Option TypeId). selected s.env o ss) x.1 ∙ y.1, (x.2, subst (λ (o : Option TypeId). AreSelectors s o ss (Some y.0)) (sym x.3) y.2))
    selectors_typed (more_selectors (field x p) ss) t h =
        let one = clean (field_rule g.state.forms (Some t) x p) in
        let rest = clean (broken_selectors s.env (field_type g.state.forms (Some t) x) ss) in
        let f = field_known g.state.forms t x p (and-left one rest h) in
        let y = selectors_typed ss f.0 (subst (λ (o : Option TypeId). clean (broken_selectors s.env o ss) ≡ true) f.1 (and-right one rest h)) in
        (y.0, ap (λ (o : Option TypeId). selected s.env o ss) f.1 ∙ y.1, (f.2, subst (λ (o : Option TypeId). AreSelectors s o ss (Some y.0)) (sym f.1) y.2))

    indexes_typed :
        (es : ExprTrees) (p : Place) (t : TypeId) → clean (broken_indexes s.env (Some t) es p) ≡ true
        → (u : TypeId) × (indexed s.env (Some t) es ≡ Some u) × AreIndices s (Some t) es × (type_behind (forms_of s) (Some t) es ≡ Some u)
    indexes_typed no_exprs p t h = (t, refl, tt, refl)
    indexes_typed (more_exprs e es) p t h =
        let one = clean (broken_expr s.env e) in
        let two = clean (index_rule g.state.forms (Some t) (expr_type s.env e) p) in
        let rest = clean (broken_indexes s.env (element_type g.state.forms (Some t) (expr_type s.env e)) es p) in
        let i = expr_typed e (and-left one (two && rest) h) in
        let behind = and-right one (two && rest) h in
        let known_index = index_known g.state.forms t i.0 p
        (subst (λ (o : Option TypeId). clean (index_rule g.state.forms (Some t) o p) ≡ true) i.1 (and-left two rest behind)) in
        let is = ap (λ (o : Option TypeId). element_type g.state.forms (Some t) o) i.1 ∙ known_index.gives in
        let y = indexes_typed es p known_index.element
        (subst (λ (o : Option TypeId). clean (broken_indexes s.env o es p) ≡ true) is (and-right two rest behind)) in
        let inner = ap (λ (f : Option TypeForm). option_map (λ (k : TypeId × TypeId). k.1) (array_form f)) known_index.form in
        let bounds = known.bounds t (Array known_index.over known_index.low known_index.high known_index.element) known_index.form in
        let simple = ap is_simple known_index.same ∙ and-left (is_simple known_index.over) (int_le known_index.low known_index.high) bounds in (
          y.0,
          ap (λ (o : Option TypeId). indexed s.env o es) is ∙ y.1,
          (
            record {
              whole = t;
              over = known_index.over;
              element = known_index.element;
              low = known_index.low;
              high = known_index.high;
              typed = refl;
              form = known_index.form;
            },
            as_number e i.0 i.2 simple,
            subst (λ (o : Option TypeId). AreIndices s o es) (sym inner) y.2,
          ),
          ap (λ (o : Option TypeId). type_behind g.state.forms o es) inner ∙ y.3,
        )

    pub actuals_typed :
        (ending : Option ℕ) (wants : List Want) (args : ActualTrees) → AreAsked wants → (length wants == actual_count args) ≡ true
        → clean (broken_actuals s.env ending true wants args) ≡ true → AreWanted s wants args × (args_fit s.env wants args ≡ true)
    actuals_typed ending [] no_actuals asked count h = (tt, refl)
    actuals_typed ending (w ∷ wants) no_actuals asked count h = absurd (some_none (length wants) count)
    actuals_typed ending [] (more_actuals a rest) asked count h = absurd (none_some (actual_count rest) count)
    actuals_typed ending (w ∷ wants) (more_actuals (actual_width e k) rest) asked count h =
        let inner = and-left (clean (broken_actual s.env true (actual_width e k))) (clean (broken_wanted s.env ending w (actual_width e k)) && clean
        (broken_actuals s.env ending true wants rest)) h in
        never (and-right (clean (broken_expr s.env k)) false (and-right (clean (broken_expr s.env e)) (clean (broken_expr s.env k) && false) inner))
    actuals_typed ending (w ∷ wants) (more_actuals (actual e) rest) asked count h =
        let one = clean (broken_expr s.env e) in
        let two = clean (broken_wanted s.env ending w (actual e)) in
        let others = clean (broken_actuals s.env ending true wants rest) in
        let x = expr_typed e (and-left one (two && others) h) in
        let behind = and-right one (two && others) h in
        let first = wanted_known ending w e asked.0 (and-left two others behind) x.0 x.1 x.2 in
        let y = actuals_typed ending wants rest asked.1 (one_less (length wants) (actual_count rest) count) (and-right two others behind) in
        ((first.0, y.0), both (arg_fits s.env w (actual e)) (args_fit s.env wants rest) first.1 y.1)
