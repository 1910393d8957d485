-- The guard of another, from where a process is in it: expressions, and its end.
use Rattle.std.proofs.Common.{◌≡◌, ℕ, suc, ◌+◌, ℤ, true, List, [], ◌∷◌, ◌++◌, length, Option, Some, None, refl, sym, ap, ◌∙◌, subst, arith}
use Rattle.pfc_code.specs.declared.instructions.Instr.{Instr}
use Rattle.pfc_code.specs.declared.instructions.Instr.TheVariants.{JMP, GRD, NOT, LOAD}
use Rattle.pfc_types.specs.declared.types.TypeId.{TypeId}
use Rattle.pfc_semantics.specs.Programs.{Block}
use Rattle.pfc_semantics.specs.Remainders.{Context, Scan, Tried, AwaitsValue, AwaitsLocation, ends, perform, in_names, turn, until, behind_pass, next_pass}
use Rattle.pfc_semantics.specs.Remainders.{write_on, read_on, at_coend, part_from, write_again, go_through, try_guard, scan_on, try_other, begin_sum, add_to}
use Rattle.pfc_semantics.specs.Remainders.{begin_product, multiply_by, compare_with, compare_to, invert, apply, index_into, pass_value, store_at, choose}
use Rattle.pfc_semantics.specs.Remainders.{choose_arm, while_true, until_true, count_from, count_to, show, show_wide, pad, set_count, delay_with, sleep_for}
use Rattle.pfc_semantics.specs.Remainders.{send_on, open_if, offer_value, offer_wait, pass_own, pass_other, read_for, assign_to, input_to, pass_variable}
use Rattle.pfc_semantics.specs.Remainders.{ask_empty, activate_with, enter_with, initial_to, wait_at, signal_at, delay_at, resume_at, send_to, receive_from}
use Rattle.pfc_semantics.specs.Remainders.{receive_into, offer_to, offer_from, offer_into}
use Rattle.pfc_semantics.specs.Expressions.{form_in}
use Rattle.pfc_semantics.specs.Rewriting.{Doing, going, holding}
use Rattle.pfc_translation.specs.Sites.{Site, forms_of}
use Rattle.pfc_translation.specs.Codes.{Code, Lined, ◌⨾◌, one}
use Rattle.pfc_translation.specs.Addresses.{element_in, type_behind, index_instr}
use Rattle.pfc_translation.specs.Expressions.{relation_instr, add_instr, multiply_instr, sign_code, simple_code, summands_code, multipliers_code, expr_code}
use Rattle.pfc_translation.specs.Expressions.{selectors_code, indices_code}
use Rattle.pfc_standing_code.specs.Shapes.{Shape, shape_of, shape_cells}
use Rattle.pfc_standing_code.specs.Settings.{Attempt, Setting, of_own, of_turn, of_another, site_of, IsAt, HasCode, Stands, Leads, arrived, jump}
use Rattle.pfc_standing_code.specs.Sizes.{IsSized}
use Rattle.pfc_standing_code.specs.Effects.{Arm}
use Rattle.pfc_standing_code.specs.Performs.{Tries}
use Rattle.pfc_standing_code.specs.Awaits.{finishing, TakesValue, TakesLocation}
use Rattle.pfc_standing_code.specs.Following.{DoesIn}
use Rattle.pfc_standing_code.proofs.Trials.{calls_own}
use Rattle.pfc_standing_code.proofs.Sizes.{sized_plain, sized_both, sized_nothing, sized_expr}
use Rattle.pfc_code_laws.proofs.Expressions.{plain_simple, plain_summands, plain_multipliers, plain_selectors, plain_indices}
use Rattle.pfc_base.specs.declared.places.Place.{Place}
use Rattle.pfc_tree.specs.declared.tree.Sign.{Sign}
use Rattle.pfc_tree.specs.declared.tree.Sign.TheVariants.{Plus, Minus}
use Rattle.pfc_semantics.specs.Predeclared.{Function, abs, sqr, odd, ord, chr, succ, pred, eof, eoln, empty, clock, random, no_function}
use Rattle.pfc_arrivals.proofs.Evaluating.{may_evaluate, AllEvaluate, Evaluates, both, evaluates_one, evaluates_nothing, relates, adds, multiplies, indexes}
use Rattle.pfc_arrivals.proofs.Evaluating.{evaluates_sign, evaluates_function, evaluates_expr, evaluates_simple, evaluates_summands, evaluates_multipliers}
use Rattle.pfc_arrivals.proofs.Evaluating.{evaluates_selectors, evaluates_indices}

-- ## Sizes

sized_one : (s : Site) (i : Instr) → IsSized (one s i)
sized_one s i at n = refl

sized_sign : (s : Site) (sign : Option (Sign × Place)) → IsSized (sign_code s sign)
sized_sign s None = sized_nothing
sized_sign s (Some (Plus, p)) = sized_nothing
sized_sign s (Some (Minus, p)) = λ at n. refl

sized_finishing : (s : Site) (f : Function) (t : Option TypeId) → IsSized (finishing s f t)
sized_finishing s abs t at n = refl
sized_finishing s sqr t at n = refl
sized_finishing s odd t at n = refl
sized_finishing s ord t at n = refl
sized_finishing s chr t at n = refl
sized_finishing s succ t at n = refl
sized_finishing s pred t at n = refl
sized_finishing s eof t at n = refl
sized_finishing s eoln t at n = refl
sized_finishing s empty t at n = refl
sized_finishing s clock t at n = refl
sized_finishing s random t at n = refl
sized_finishing s no_function t at n = refl

-- ## The end

-- From here on the code evaluates, up to the end of the guard of this resource.
pub data GuardAhead (g : Setting) (r : ℕ) : ℕ → Type 0 where
  at_end : (at line : ℕ) → IsAt g at (GRD r) line → GuardAhead g r at
  evaluating : (at : ℕ) (i : Instr) (line : ℕ) → IsAt g at i line → may_evaluate i ≡ true → GuardAhead g r (at + 1) → GuardAhead g r at
  jumping : (at to line : ℕ) → IsAt g at (JMP to) line → GuardAhead g r to → GuardAhead g r at

module _ (g : Setting) (r : ℕ) where
  through_code : (at end : ℕ) (code : Lined) → HasCode g at code → AllEvaluate code → at + length code ≡ end → GuardAhead g r end → GuardAhead g r at
  through_code at end [] has all same ahead = subst (λ n. GuardAhead g r n) (sym same ∙ (let h : at + 0 ≡ at = grind arith in h)) ahead
  through_code at end (c ∷ code) has all same ahead =
      evaluating at c.0 c.1 has.0 all.0 (through_code (at + 1) end code has.1 all.1
      ((let h : at + 1 + length code ≡ at + suc (length code) = grind arith in h) ∙ same) ahead)

  through : (at n held : ℕ) (c : Code) → Stands g at n held c → IsSized c → Evaluates c → GuardAhead g r (at + c.size) → GuardAhead g r at
  through at n held c stands sized all ahead = through_code at (at + c.size) (c.put at n) stands.has (all at n) (ap (λ k. at + k) (sized at n)) ahead

  led : (at to : ℕ) → Leads g at to → GuardAhead g r to → GuardAhead g r at
  led at to leads ahead = by leads ahead
    where
      by : {at to : ℕ} → Leads g at to → GuardAhead g r to → GuardAhead g r at
      by (arrived at) ahead = ahead
      by (jump at mid end line is up on) ahead = jumping at mid line is (by on ahead)

module _ (g : Setting) (attempt : Attempt) (in_trial : g.trial ≡ of_another attempt) where
  abbrev r : ℕ
  r = attempt.scan.resource

  own_not : {A : Type 0} → g.trial ≡ of_own → A
  own_not own = absurd (by (sym in_trial ∙ own))
    where
      by : of_another attempt ≡ of_own → ⊥
      by h = cc

  same_attempt : (other : Attempt) → g.trial ≡ of_another other → other ≡ attempt
  same_attempt other is = by (sym is ∙ in_trial)
    where
      by : of_another other ≡ of_another attempt → other ≡ attempt
      by h = cc

  at_its_end : (w : Tried) (scan : Scan) (held at line : ℕ) → Tries g w scan held → IsAt g at (GRD scan.resource) line → GuardAhead g r at
  at_its_end w scan held at line tries there =
      let same : scan.resource ≡ r = ap (λ (s : Scan). s.resource) (sym tries.within)
      ∙ ap (λ (a : Attempt). a.scan.resource) (same_attempt tries.attempt tries.trial) in
      at_end at line (subst (λ n. IsAt g at (GRD n) line) same there)

  mutual
    value_ahead : (b : Block) (x : Context) (at : ℕ) (ops : List ℤ) (arms : List Arm) (h : Shape) (u : AwaitsValue) → TakesValue g b x at ops arms h u
        → GuardAhead g r at
    value_ahead b x at ops arms h (begin_sum sign rest u) t =
        let s = site_of g b x in
        through g r at t.2 _ (sign_code s sign ⨾ summands_code s rest) t.3
        (sized_both (sign_code s sign) (summands_code s rest) (sized_sign s sign) (sized_plain (summands_code s rest) (plain_summands s rest)))
        (both (sign_code s sign) (summands_code s rest) (evaluates_sign s sign) (evaluates_summands s rest)) (value_ahead b x _ _ _ _ u t.4)
    value_ahead b x at ops arms h (add_to m op rest u) t =
        let s = site_of g b x in
        through g r at t.4 _ (one s (add_instr op) ⨾ summands_code s rest) t.5
        (sized_both (one s (add_instr op)) (summands_code s rest) (sized_one s (add_instr op)) (sized_plain (summands_code s rest) (plain_summands s rest)))
        (both (one s (add_instr op)) (summands_code s rest) (evaluates_one s (add_instr op) (adds op)) (evaluates_summands s rest))
        (value_ahead b x _ _ _ _ u t.6)
    value_ahead b x at ops arms h (begin_product rest u) t =
        let s = site_of g b x in
        through g r at t.2 _ (multipliers_code s rest) t.3 (sized_plain (multipliers_code s rest) (plain_multipliers s rest)) (evaluates_multipliers s rest)
        (value_ahead b x _ _ _ _ u t.4)
    value_ahead b x at ops arms h (multiply_by m op rest u) t =
        let s = site_of g b x in
        through g r at t.4 _ (one s (multiply_instr op) ⨾ multipliers_code s rest) t.5
        (sized_both (one s (multiply_instr op)) (multipliers_code s rest) (sized_one s (multiply_instr op))
        (sized_plain (multipliers_code s rest) (plain_multipliers s rest)))
        (both (one s (multiply_instr op)) (multipliers_code s rest) (evaluates_one s (multiply_instr op) (multiplies op)) (evaluates_multipliers s rest))
        (value_ahead b x _ _ _ _ u t.6)
    value_ahead b x at ops arms h (compare_with c e u) t =
        let s = site_of g b x in
        through g r at t.2 _ (simple_code s e ⨾ one s (relation_instr c)) t.3
        (sized_both (simple_code s e) (one s (relation_instr c)) (sized_plain (simple_code s e) (plain_simple s e)) (sized_one s (relation_instr c)))
        (both (simple_code s e) (one s (relation_instr c)) (evaluates_simple s e) (evaluates_one s (relation_instr c) (relates c)))
        (value_ahead b x _ _ _ _ u t.4)
    value_ahead b x at ops arms h (compare_to m c u) t = evaluating at (relation_instr c) x.line t.4 (relates c) (value_ahead b x _ _ _ _ u t.5)
    value_ahead b x at ops arms h (invert u) t = evaluating at NOT x.line t.2 refl (value_ahead b x _ _ _ _ u t.3)
    value_ahead b x at ops arms h (apply f e u) t =
        let s = site_of g b x in
        through g r at t.3 _ (finishing s f e) t.4 (sized_finishing s f e)
        (evaluates_function s f e _ _ evaluates_nothing evaluates_nothing) (value_ahead b x _ _ _ _ u t.5)
    value_ahead b x at ops arms h (index_into part es ss goal) t =
        let s = site_of g b x in
        let within = element_in (forms_of s) part.t in
        let first = index_instr (forms_of s) (form_in (forms_of s) part.t) in
        let inner = one s first ⨾ indices_code s within es in
        let code = selectors_code s (type_behind (forms_of s) within es) ss in
        through g r at t.9 _ inner t.10 (sized_both (one s first) (indices_code s within es) (sized_one s first)
        (sized_plain (indices_code s within es) (plain_indices s within es)))
        (both (one s first) (indices_code s within es) (evaluates_one s first (indexes (forms_of s) (form_in (forms_of s) part.t)))
        (evaluates_indices s within es))
        (through g r _ t.11 _ code t.12 (sized_plain code (plain_selectors s (type_behind (forms_of s) within es) ss))
        (evaluates_selectors s (type_behind (forms_of s) within es) ss)
        (location_ahead b x _ _ _ _ goal t.13))
    value_ahead b x at ops arms h (pass_value rest args given call) t = own_not (calls_own g b x _ _ _ _ call t.11)
    value_ahead b x at ops arms h (store_at v k) t = own_not t.0.0
    value_ahead b x at ops arms h (choose m s u k) t = own_not t.0.0
    value_ahead b x at ops arms h (choose_arm m alternatives k) t = own_not t.0.0
    value_ahead b x at ops arms h (while_true m e s p k) t = own_not t.0.0
    value_ahead b x at ops arms h (until_true m ts e p k) t = own_not t.0.0
    value_ahead b x at ops arms h (count_from m v down e s k) t = own_not t.0.0
    value_ahead b x at ops arms h (count_to m v a down s k) t = own_not t.0.0
    value_ahead b x at ops arms h (show s k) t = own_not t.0.0
    value_ahead b x at ops arms h (show_wide s e k) t = own_not t.0.0
    value_ahead b x at ops arms h (pad bytes k) t = own_not t.0.0
    value_ahead b x at ops arms h (set_count v k) t = own_not t.0.0
    value_ahead b x at ops arms h (delay_with v k) t = own_not t.0.0
    value_ahead b x at ops arms h (sleep_for k) t = own_not t.0.0
    value_ahead b x at ops arms h (send_on v k) t = own_not t.0.0
    value_ahead b x at ops arms h (open_if a rest sel k) t = own_not t.0
    value_ahead b x at ops arms h (offer_value channel a rest sel k) t = own_not t.0
    value_ahead b x at ops arms h (offer_wait a rest sel k) t = own_not t.0
    value_ahead b x at ops arms h (pass_own bar k) t = own_not t.0.0
    value_ahead b x at ops arms h (pass_other w scan k) t = at_its_end w scan (length ops) at x.line t.1.1 t.1.3

    location_ahead : (b : Block) (x : Context) (at : ℕ) (ops : List ℤ) (arms : List Arm) (of : Option TypeId) (goal : AwaitsLocation)
        → TakesLocation g b x at ops arms of goal → GuardAhead g r at
    location_ahead b x at ops arms of (read_for u) t =
        evaluating at (LOAD (shape_cells g.program.state.forms (shape_of t.0))) x.line t.2 refl (value_ahead b x _ _ _ _ u t.4)
    location_ahead b x at ops arms of (assign_to e k) t = own_not t.0.0
    location_ahead b x at ops arms of (input_to u k) t = own_not t.0.0
    location_ahead b x at ops arms of (pass_variable rest args given call) t = own_not (calls_own g b x _ _ _ _ call t.9)
    location_ahead b x at ops arms of (ask_empty u) t = own_not t.0
    location_ahead b x at ops arms of (activate_with formals args k) t = own_not t.0.0
    location_ahead b x at ops arms of (enter_with entry formals args k) t = own_not t.0.0
    location_ahead b x at ops arms of (initial_to e k) t = own_not t.0.0
    location_ahead b x at ops arms of (wait_at k) t = own_not t.0.0
    location_ahead b x at ops arms of (signal_at k) t = own_not t.0.0
    location_ahead b x at ops arms of (delay_at rank k) t = own_not t.0.0
    location_ahead b x at ops arms of (resume_at k) t = own_not t.0.0
    location_ahead b x at ops arms of (send_to m k) t = own_not t.0.0
    location_ahead b x at ops arms of (receive_from d k) t = own_not t.0.0
    location_ahead b x at ops arms of (receive_into channel k) t = own_not t.0.0
    location_ahead b x at ops arms of (offer_to m a rest sel k) t = own_not t.0
    location_ahead b x at ops arms of (offer_from d a rest sel k) t = own_not t.0
    location_ahead b x at ops arms of (offer_into channel a rest sel k) t = own_not t.0

  -- the whole guard, from its first instruction on
  guard_ahead : (b : Block) (w : Tried) (scan : Scan) (at held : ℕ) → Tries g w scan held → w.bar.resource ≡ scan.resource
      → (n : ℕ) → Stands g at n held (expr_code (site_of g b w.bar.context) w.bar.test ⨾ one (site_of g b w.bar.context) (GRD w.bar.resource))
      → GuardAhead g r at
  guard_ahead b w scan at held tries same n stands =
      let s = site_of g b w.bar.context in
      let code = expr_code s w.bar.test in
      let size : length (code.put at n) ≡ code.size = sized_expr s w.bar.test at n in
      let parts = split (code.put at n) ((GRD w.bar.resource, s.line) ∷ []) at stands.has in
      let there : IsAt g (at + length (code.put at n)) (GRD w.bar.resource) s.line = parts.1.0 in
      through_code g r at (at + length (code.put at n)) (code.put at n) parts.0 (evaluates_expr s w.bar.test at n) refl
      (at_its_end w scan held (at + length (code.put at n)) s.line tries (subst (λ k. IsAt g (at + length (code.put at n)) (GRD k) s.line) same there))
    where
      split : (xs ys : Lined) (at : ℕ) → HasCode g at (xs ++ ys) → HasCode g at xs × HasCode g (at + length xs) ys
      split [] ys at has = (tt, subst (λ n. HasCode g n ys) (let h : at ≡ at + 0 = grind arith in h) has)
      split (x ∷ xs) ys at has =
          let rest = split xs ys (at + 1) has.1 in
          ((has.0, rest.0), subst (λ n. HasCode g n ys) (let h : at + 1 + length xs ≡ at + suc (length xs) = grind arith in h) rest.1)

  pub doing_ahead : (b : Block) (at : ℕ) (ops : List ℤ) (arms : List Arm) (d : Doing) → DoesIn g b at ops arms d → GuardAhead g r at
  doing_ahead b at ops arms (going env (ends line)) h = own_not h.1.0.0
  doing_ahead b at ops arms (going env (perform m ts k)) h = own_not h.1.0.0
  doing_ahead b at ops arms (going env (in_names inner k)) h = own_not h.1.0
  doing_ahead b at ops arms (going env (turn m loop k)) h = own_not h.1.0.0
  doing_ahead b at ops arms (going env (until m ts e p k)) h = own_not h.1.0.0
  doing_ahead b at ops arms (going env (behind_pass f k)) h = own_not h.1.0.0
  doing_ahead b at ops arms (going env (next_pass f k)) h = own_not h.1.0.0
  doing_ahead b at ops arms (going env (write_on line args newline k)) h = own_not h.1.0.0
  doing_ahead b at ops arms (going env (read_on line args skip k)) h = own_not h.1.0.0
  doing_ahead b at ops arms (going env (at_coend line k)) h = own_not h.1.0.0
  doing_ahead b at ops arms (going env (part_from caller line k)) h = own_not h.1.0.0
  doing_ahead b at ops arms (going env (write_again r k)) h = own_not h.1.0.0
  doing_ahead b at ops arms (going env (go_through line a rest sel k)) h = own_not h.1.0
  doing_ahead b at ops arms (going env (try_guard bar k)) h = own_not h.1.0.0
  doing_ahead b at ops arms (going env (scan_on s k)) h = absurd (turned s h.1.1.2.0.0 h.1.1.2.0.1)
    where
      turned : (s : Scan) (back : ℕ) → g.trial ≡ of_turn s back → ⊥
      turned s back is = (let both : of_another attempt ≡ of_turn s back = sym in_trial ∙ is in cc)
  doing_ahead b at ops arms (going env (try_other w s k)) h =
      let q = h.1.1.2 in
      led g r at h.1.1.0 h.1.1.1 (guard_ahead b w s h.1.1.0 (length ops) q.0 q.1 q.2.2 q.2.3)
  doing_ahead b at ops arms (holding x v u) h = value_ahead b x at h.1 arms h.0 u h.5
