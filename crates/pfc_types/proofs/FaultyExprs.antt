-- Faulty expressions: one has a type exactly where no rule is broken in it and it uses no faulty name. One induction over all forms
-- of expressions and of their parts.
use Rattle.std.proofs.Common.{◌≡◌, ℕ, suc, ◌+◌, Bool, true, false, not, ◌&&◌, ◌||◌, ◌==◌, is_some, [], ◌∷◌, length, Option, None, refl, sym, ap, ap₂, ◌∙◌}
use Rattle.std.proofs.Common.{arith}
use Rattle.std.proofs.lemmas.Bool.Decides.{nat_tests}
use Rattle.pfc_tree.specs.trees.Exprs.{ExprTree, SimpleTree, SummandTrees, TermTree, MultiplierTrees, FactorTree, DesigTree, SelectorTree, SelectorTrees}
use Rattle.pfc_tree.specs.trees.Exprs.{ExprTrees, ActualTree, ActualTrees, plain, related, sum, no_summands, more_summands, product, no_multipliers}
use Rattle.pfc_tree.specs.trees.Exprs.{more_multipliers, number, literal, negation, paren, applied, desig, index, field, no_selectors, more_selectors, no_exprs}
use Rattle.pfc_tree.specs.trees.Exprs.{more_exprs, actual, actual_width, no_actuals, more_actuals}
use Rattle.pfc_types.specs.Faults.{Faults, ◌⨾◌, unless}
use Rattle.pfc_types.specs.Faulty.{BeginsPredeclared, AreFaultyExactly}
use Rattle.pfc_base.specs.declared.places.Place.{Place}
use Rattle.pfc_types.specs.Types.{boolean, char}
use Rattle.pfc_types.specs.declared.types.TypeId.{TypeId}
use Rattle.pfc_types.specs.rules.Constants.{is_char}
use Rattle.pfc_types.specs.rules.Kinds.{value_rule, may_have}
use Rattle.pfc_types.specs.rules.Routines.{Want, want_rules}
use Rattle.pfc_types.specs.rules.Expressions.{Env, find, simple_place, expr_place, add_operand, mul_operand, operated, operator_rule, signed_type, signed_rule}
use Rattle.pfc_types.specs.rules.Expressions.{relation_rule, element_type, index_rule, field_rule, actual_count, is_variable, expr_type, simple_type, summed}
use Rattle.pfc_types.specs.rules.Expressions.{term_type, multiplied, factor_type, selected_by, indexed, arg_fits, desig_type, broken_expr, broken_simple}
use Rattle.pfc_types.specs.rules.Expressions.{broken_summands, broken_term, broken_multipliers, broken_factor, broken_selectors, broken_selector}
use Rattle.pfc_types.specs.rules.Expressions.{broken_indexes, broken_actuals, broken_actual, broken_wanted, broken_desig}
use Rattle.pfc_types.specs.rules.FaultyNames.{expr_uses_faulty, simple_uses_faulty, summands_use_faulty, term_uses_faulty, multipliers_use_faulty}
use Rattle.pfc_types.specs.rules.FaultyNames.{factor_uses_faulty, desig_uses_faulty, selectors_use_faulty, selector_uses_faulty, exprs_use_faulty}
use Rattle.pfc_types.specs.rules.FaultyNames.{actuals_use_faulty, actual_uses_faulty}
use Rattle.pfc_types.proofs.Clean.{related_parts, two_parts, then_parts, clean, clean-unless, some-where_so, and-false, faulty_exactly}
use Rattle.pfc_types.proofs.FaultyOperators.{operated_exactly, signed_exactly, has_exactly, related_exactly, element_exactly, field_exactly, is_wanted}
use Rattle.pfc_types.proofs.FaultyOperators.{all_wanted, wanted_exactly}
use Rattle.pfc_types.proofs.FaultyNames.{SelectorsExact, ArgumentsExact, use_exact, desig_exact}

-- ## The shapes

-- a part has a type exactly where no rule is broken in it and it uses no faulty name
abbrev Exact : Option TypeId → Faults → Bool → Type 0
Exact t fs uses = is_some t ≡ (clean fs && not uses)

-- what comes behind a part of type t leaves a type exactly where t is one, no rule is broken in it and it uses no faulty name
abbrev ExactFrom : Option TypeId → Option TypeId → Faults → Bool → Type 0
ExactFrom t r fs uses = is_some r ≡ (is_some t && (clean fs && not uses))

-- a first part, a rule, and what comes behind
first_parts : (a u r b v : Bool) → (((a && not u) && r) && (b && not v)) ≡ ((a && (r && b)) && not (u || v))
first_parts false u r b v = refl
first_parts true true r b v = sym (and-false (r && b))
first_parts true false false b v = refl
first_parts true false true b v = refl

-- what was before, a part, a rule between the two, and what comes behind
next_parts : (t a u r b v : Bool) → (((t && (a && not u)) && r) && (b && not v)) ≡ (t && ((a && (r && b)) && not (u || v)))
next_parts false a u r b v = refl
next_parts true a u r b v = first_parts a u r b v

one_rule : (a u r : Bool) → ((a && not u) && r) ≡ ((a && r) && not u)
one_rule false u r = refl
one_rule true true r = sym (and-false r)
one_rule true false true = refl
one_rule true false false = refl

whole : (a : Bool) → a ≡ (a && not false)
whole true = refl
whole false = refl

-- ## Arguments

zero_suc : (n : ℕ) → (0 == 1 + n) ≡ false
zero_suc n = grind (arith, nat_tests)

suc_zero : (n : ℕ) → (suc n == 0) ≡ false
suc_zero n = grind (arith, nat_tests)

suc_suc : (n m : ℕ) → (suc n == 1 + m) ≡ (n == m)
suc_suc n m = by (n == m) refl
  where
    by : (b : Bool) → (n == m) ≡ b → (suc n == 1 + m) ≡ b
    by true h = grind (arith, nat_tests)
    by false h = grind (arith, nat_tests)

-- one argument
abbrev ArgumentExact : Env → ActualTree → Type 0
ArgumentExact env a =
    (w : Want) → arg_fits env w a ≡
    (is_wanted w && ((clean (broken_actual env true a) && clean (broken_wanted env None w a)) && not (actual_uses_faulty env a)))

actual_exact : (env : Env) → BeginsPredeclared env.state.forms → (e : ExprTree) →
    Exact (expr_type env e) (broken_expr env e) (expr_uses_faulty env e) → ArgumentExact env (actual e)
actual_exact env begins e known w =
    wanted_exactly env.state.forms begins w (is_variable env None e) (expr_type env e) (expr_place e)
    ∙ ap (λ x. (is_wanted w && x) && clean (want_rules env.state.forms w (is_variable env None e) (expr_type env e) (expr_place e))) known
    ∙ by (is_wanted w) (clean (broken_expr env e)) (expr_uses_faulty env e)
    (clean (want_rules env.state.forms w (is_variable env None e) (expr_type env e) (expr_place e)))
  where
    by : (w a u r : Bool) → ((w && (a && not u)) && r) ≡ (w && ((a && r) && not u))
    by false a u r = refl
    by true a u r = one_rule a u r

width_exact : (env : Env) (e width : ExprTree) → ArgumentExact env (actual_width e width)
width_exact env e width w =
    by (is_wanted w) (clean (broken_expr env e)) (clean (broken_expr env width)) (clean (broken_wanted env None w (actual_width e width)))
    (not (actual_uses_faulty env (actual_width e width)))
  where
    by : (w a b r u : Bool) → false ≡ (w && (((a && (b && false)) && r) && u))
    by false a b r u = refl
    by true false b r u = refl
    by true true true r u = refl
    by true true false r u = refl

more_exact : (env : Env) (a : ActualTree) (rest : ActualTrees) → ArgumentExact env a → ArgumentsExact env rest → ArgumentsExact env (more_actuals a rest)
more_exact env a rest first others [] =
    ap (λ x. x && (true && (clean (broken_actuals env None true [] (more_actuals a rest)) && not (actuals_use_faulty env (more_actuals a rest)))))
    (sym (zero_suc (actual_count rest)))
more_exact env a rest first others (w ∷ ws) =
    ap₂ (λ x y. x && y) (first w) (others ws)
    ∙ by (is_wanted w) (clean (broken_actual env true a)) (clean (broken_wanted env None w a)) (actual_uses_faulty env a) (length ws == actual_count rest)
    (all_wanted ws) (clean (broken_actuals env None true ws rest)) (actuals_use_faulty env rest)
    ∙ ap (λ x. x && (all_wanted (w ∷ ws) && (clean (broken_actuals env None true (w ∷ ws) (more_actuals a rest)) && not
    (actuals_use_faulty env (more_actuals a rest))))) (sym (suc_suc (length ws) (actual_count rest)))
  where
    by : (w a b u l ws c v : Bool) → ((w && ((a && b) && not u)) && (l && (ws && (c && not v)))) ≡ (l && ((w && ws) && ((a && (b && c)) && not (u || v))))
    by false a b u true ws c v = refl
    by false a b u false ws c v = refl
    by true a b u false ws c v = and-false ((a && b) && not u)
    by true a b u true false c v = and-false ((a && b) && not u)
    by true true true true true true c v = sym (and-false c)
    by true true true false true true c v = refl
    by true true false u true true c v = refl
    by true false b u true true c v = refl

none_exact : (env : Env) → ArgumentsExact env no_actuals
none_exact env [] = refl
none_exact env (w ∷ ws) = ap (λ x. x && (all_wanted (w ∷ ws) && true)) (sym (suc_zero (length ws)))

-- ## The induction

mutual
  expr_exact : (env : Env) → BeginsPredeclared env.state.forms → (e : ExprTree) → Exact (expr_type env e) (broken_expr env e) (expr_uses_faulty env e)
  expr_exact env b (plain s p) = simple_exact env b s
  expr_exact env b (related s r u p) =
      related_exactly env.state.forms b (simple_type env s) (simple_type env u) r.1 (simple_place s) (simple_place u)
      ∙ ap₂ (λ x y. (x && y) && clean (relation_rule (simple_type env s) (simple_type env u) r.1 ⨾ value_rule env.state.forms (simple_type env s)
      (simple_place s) ⨾ value_rule env.state.forms (simple_type env u) (simple_place u)))
      (simple_exact env b s) (simple_exact env b u)
      ∙ related_parts (clean (broken_simple env s)) (simple_uses_faulty env s) (clean (broken_simple env u)) (simple_uses_faulty env u)
      (clean (relation_rule (simple_type env s) (simple_type env u) r.1 ⨾ value_rule env.state.forms (simple_type env s)
      (simple_place s) ⨾ value_rule env.state.forms (simple_type env u) (simple_place u)))

  simple_exact : (env : Env) → BeginsPredeclared env.state.forms → (s : SimpleTree) → Exact (simple_type env s) (broken_simple env s) (simple_uses_faulty env s)
  simple_exact env b (sum sign first rest) =
      summands_exact env b (signed_type sign (term_type env first)) rest
      ∙ ap (λ x. x && (clean (broken_summands env (signed_type sign (term_type env first)) rest) && not (summands_use_faulty env rest)))
      (signed_exactly sign (term_type env first) ∙ ap (λ x. x && clean (signed_rule sign (term_type env first))) (term_exact env b first))
      ∙ first_parts (clean (broken_term env first)) (term_uses_faulty env first) (clean (signed_rule sign (term_type env first)))
      (clean (broken_summands env (signed_type sign (term_type env first)) rest)) (summands_use_faulty env rest)

  summands_exact : (env : Env) → BeginsPredeclared env.state.forms → (t : Option TypeId) (rest : SummandTrees) →
      ExactFrom t (summed env t rest) (broken_summands env t rest) (summands_use_faulty env rest)
  summands_exact env b t no_summands = whole (is_some t)
  summands_exact env b t (more_summands op u rest) =
      summands_exact env b (operated (add_operand op.0) t (term_type env u)) rest
      ∙ ap (λ x. x && (clean (broken_summands env (operated (add_operand op.0) t (term_type env u)) rest) && not (summands_use_faulty env rest)))
      (operated_exactly (add_operand op.0) t (term_type env u) op.1 ∙
      ap (λ x. (is_some t && x) && clean (operator_rule (add_operand op.0) t (term_type env u) op.1)) (term_exact env b u))
      ∙ next_parts (is_some t) (clean (broken_term env u)) (term_uses_faulty env u) (clean (operator_rule (add_operand op.0) t (term_type env u) op.1))
      (clean (broken_summands env (operated (add_operand op.0) t (term_type env u)) rest)) (summands_use_faulty env rest)

  term_exact : (env : Env) → BeginsPredeclared env.state.forms → (t : TermTree) → Exact (term_type env t) (broken_term env t) (term_uses_faulty env t)
  term_exact env b (product f rest) =
      multipliers_exact env b (factor_type env f) rest
      ∙ ap (λ x. x && (clean (broken_multipliers env (factor_type env f) rest) && not (multipliers_use_faulty env rest))) (factor_exact env b f)
      ∙ two_parts (clean (broken_factor env f)) (factor_uses_faulty env f)
      (clean (broken_multipliers env (factor_type env f) rest)) (multipliers_use_faulty env rest)

  multipliers_exact : (env : Env) → BeginsPredeclared env.state.forms → (t : Option TypeId) (rest : MultiplierTrees) →
      ExactFrom t (multiplied env t rest) (broken_multipliers env t rest) (multipliers_use_faulty env rest)
  multipliers_exact env b t no_multipliers = whole (is_some t)
  multipliers_exact env b t (more_multipliers op f rest) =
      multipliers_exact env b (operated (mul_operand op.0) t (factor_type env f)) rest
      ∙ ap (λ x. x && (clean (broken_multipliers env (operated (mul_operand op.0) t (factor_type env f)) rest) && not (multipliers_use_faulty env rest)))
      (operated_exactly (mul_operand op.0) t (factor_type env f) op.1 ∙
      ap (λ x. (is_some t && x) && clean (operator_rule (mul_operand op.0) t (factor_type env f) op.1)) (factor_exact env b f))
      ∙ next_parts (is_some t) (clean (broken_factor env f)) (factor_uses_faulty env f) (clean (operator_rule (mul_operand op.0) t (factor_type env f) op.1))
      (clean (broken_multipliers env (operated (mul_operand op.0) t (factor_type env f)) rest)) (multipliers_use_faulty env rest)

  factor_exact : (env : Env) → BeginsPredeclared env.state.forms → (f : FactorTree) → Exact (factor_type env f) (broken_factor env f) (factor_uses_faulty env f)
  factor_exact env b (number n p) = refl
  factor_exact env b (literal x p) = some-where_so (is_char x) char ∙ whole (is_char x) ∙ ap (λ y. y && true) (sym (clean-unless (is_char x) p 325))
  factor_exact env b (negation f p) =
      has_exactly boolean (factor_type env f) p 311
      ∙ ap (λ x. x && clean (unless (may_have boolean (factor_type env f)) p 311)) (factor_exact env b f)
      ∙ one_rule (clean (broken_factor env f)) (factor_uses_faulty env f) (clean (unless (may_have boolean (factor_type env f)) p 311))
  factor_exact env b (paren e p) = expr_exact env b e
  factor_exact env b (applied (desig x ss q) args p) = use_exact env ss args q (find env x) (selectors_exact env b ss) (actuals_exact env b args)

  selectors_exact : (env : Env) → BeginsPredeclared env.state.forms → (ss : SelectorTrees) → SelectorsExact env ss
  selectors_exact env b no_selectors t = whole (is_some t)
  selectors_exact env b (more_selectors s ss) t =
      selectors_exact env b ss (selected_by env t s)
      ∙ ap (λ x. x && (clean (broken_selectors env (selected_by env t s) ss) && not (selectors_use_faulty env ss))) (selector_exact env b s t)
      ∙ then_parts (is_some t) (clean (broken_selector env t s)) (selector_uses_faulty env s)
      (clean (broken_selectors env (selected_by env t s) ss)) (selectors_use_faulty env ss)

  selector_exact : (env : Env) → BeginsPredeclared env.state.forms → (s : SelectorTree) (t : Option TypeId) →
      ExactFrom t (selected_by env t s) (broken_selector env t s) (selector_uses_faulty env s)
  selector_exact env b (index es p) t = indexes_exact env b es t p
  selector_exact env b (field x p) t = field_exactly env.state.forms t x p ∙ ap (λ y. is_some t && y) (whole (clean (field_rule env.state.forms t x p)))

  indexes_exact : (env : Env) → BeginsPredeclared env.state.forms → (es : ExprTrees) (t : Option TypeId) (p : Place) →
      ExactFrom t (indexed env t es) (broken_indexes env t es p) (exprs_use_faulty env es)
  indexes_exact env b no_exprs t p = whole (is_some t)
  indexes_exact env b (more_exprs e es) t p =
      indexes_exact env b es (element_type env.state.forms t (expr_type env e)) p
      ∙ ap (λ x. x && (clean (broken_indexes env (element_type env.state.forms t (expr_type env e)) es p) && not (exprs_use_faulty env es)))
      (element_exactly env.state.forms t (expr_type env e) p ∙
      ap (λ x. (is_some t && x) && clean (index_rule env.state.forms t (expr_type env e) p)) (expr_exact env b e))
      ∙ next_parts (is_some t) (clean (broken_expr env e)) (expr_uses_faulty env e) (clean (index_rule env.state.forms t (expr_type env e) p))
      (clean (broken_indexes env (element_type env.state.forms t (expr_type env e)) es p)) (exprs_use_faulty env es)

  actuals_exact : (env : Env) → BeginsPredeclared env.state.forms → (args : ActualTrees) → ArgumentsExact env args
  actuals_exact env b no_actuals = none_exact env
  actuals_exact env b (more_actuals a rest) = more_exact env a rest (arg_exact env b a) (actuals_exact env b rest)

  arg_exact : (env : Env) → BeginsPredeclared env.state.forms → (a : ActualTree) → ArgumentExact env a
  arg_exact env b (actual e) = actual_exact env b e (expr_exact env b e)
  arg_exact env b (actual_width e width) = width_exact env e width

-- ## The law

desig_faulty : (env : Env) → BeginsPredeclared env.state.forms → (d : DesigTree) → Exact (desig_type env d) (broken_desig env d) (desig_uses_faulty env d)
desig_faulty env b (desig x ss p) = desig_exact env ss p (find env x) (selectors_exact env b ss)

pub expressions_faulty : (env : Env) → BeginsPredeclared env.state.forms → AreFaultyExactly env
expressions_faulty env b =
    record {
      exprs = λ e. faulty_exactly (expr_type env e) (broken_expr env e) (expr_uses_faulty env e) (expr_exact env b e);
      simples = λ s. faulty_exactly (simple_type env s) (broken_simple env s) (simple_uses_faulty env s) (simple_exact env b s);
      terms = λ t. faulty_exactly (term_type env t) (broken_term env t) (term_uses_faulty env t) (term_exact env b t);
      factors = λ f. faulty_exactly (factor_type env f) (broken_factor env f) (factor_uses_faulty env f) (factor_exact env b f);
      designators = λ d. faulty_exactly (desig_type env d) (broken_desig env d) (desig_uses_faulty env d) (desig_faulty env b d);
    }
