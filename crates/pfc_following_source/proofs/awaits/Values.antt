-- A value meets what waits for it.
use Rattle.std.proofs.Common.{◌≡◌, ℕ, suc, ◌+◌, ◌≤◌, ℤ, if◌then◌else◌, List, [], ◌∷◌, ◌++◌, length, reverse, Option, Some, None, refl, sym, ap, ◌∙◌, subst}
use Rattle.std.proofs.Common.{arith, append_assoc}
use Rattle.std.proofs.lemmas.List.{length-append, length-reverse}
use Rattle.pfc_base.specs.declared.places.Place.{Place}
use Rattle.pfc_code.specs.declared.instructions.Instr.TheVariants.{STORE, NOT}
use Rattle.pfc_tree.specs.declared.tree.Sign.{Sign}
use Rattle.pfc_tree.specs.declared.tree.Sign.TheVariants.{Plus, Minus}
use Rattle.pfc_tree.specs.trees.Exprs.{ActualTrees}
use Rattle.pfc_tree.specs.trees.Stmts.{StmtTree, while_do, repeat_until}
use Rattle.pfc_types.specs.Types.{Forms}
use Rattle.pfc_types.specs.Scopes.{Level}
use Rattle.pfc_types.specs.rules.Statements.{scopes_in}
use Rattle.pfc_types.specs.declared.types.TypeId.{TypeId}
use Rattle.pfc_types.specs.declared.heads.Formal.{Formal}
use Rattle.pfc_types.specs.declared.view.Around.{Around}
use Rattle.pfc_values.specs.Numbers.{inverse_of, is_true}
use Rattle.pfc_semantics.specs.Values.{Value, ordinal, ordinal_of}
use Rattle.pfc_semantics.specs.Displays.{Spot}
use Rattle.pfc_semantics.specs.Operators.{compared}
use Rattle.pfc_semantics.specs.Programs.{Block}
use Rattle.pfc_semantics.specs.Remainders.{Context, Alternative, Selecting, Argument, Remainder, AwaitsValue, Call, Action, begin_sum, add_to, begin_product}
use Rattle.pfc_semantics.specs.Remainders.{multiply_by, compare_with, compare_to, invert, apply, index_into, pass_value, store_at, choose, choose_arm}
use Rattle.pfc_semantics.specs.Remainders.{while_true, until_true, count_from, count_to, show, show_wide, pad, set_count, delay_with, sleep_for, send_on}
use Rattle.pfc_semantics.specs.Remainders.{open_if, offer_value, offer_wait, pass_own, pass_other, by_value, turn, turns}
use Rattle.pfc_semantics.specs.Alternatives.{context}
use Rattle.pfc_semantics.specs.Expressions.{form_in, from_summands, from_multipliers, from_selectors, from_indices, from_args}
use Rattle.pfc_semantics.specs.Statements.{again, counting, from_stmt, from_until}
use Rattle.pfc_semantics.specs.Rewriting.{from_remainder, from_location, from_value}
use Rattle.pfc_translation.specs.Sites.{Site}
use Rattle.pfc_translation.specs.Codes.{◌⨾◌, one}
use Rattle.pfc_translation.specs.Addresses.{element_in, type_behind, index_instr}
use Rattle.pfc_translation.specs.Expressions.{relation_instr, add_instr, multiply_instr, sign_code, expr_code, simple_code, summands_code, multipliers_code}
use Rattle.pfc_translation.specs.Expressions.{args_code, selectors_code, indices_code}
use Rattle.pfc_translation.specs.Statements.{label_count, stmt_code, stmts_code, arms_code}
use Rattle.pfc_code_laws.proofs.Expressions.{plain_simple}
use Rattle.pfc_standing_code.specs.Sizes.{IsSized}
use Rattle.pfc_cells.specs.Shapes.{words_of}
use Rattle.pfc_standing_code.specs.Shapes.{Shape, a_number, a_whole, shape_of, shape_cells, IsOf, IsShaped}
use Rattle.pfc_standing_code.specs.Settings.{Setting, of_own, site_of, IsAt, Stands}
use Rattle.pfc_standing_code.specs.Effects.{Arm}
use Rattle.pfc_standing_code.specs.Typed.{AreSelectors, AreIndices}
use Rattle.pfc_standing_code.specs.Words.{IsChecked, one_more, LendsWhole}
use Rattle.pfc_standing_code.proofs.Lends.{lends_value}
use Rattle.pfc_standing_code.specs.Performs.{StmtThen, of_message, Performs}
use Rattle.pfc_standing_code.specs.Awaits.{finishing, pass_code, TakesValue, CallsAt}
use Rattle.pfc_standing_code.specs.Following.{of_value, Follows, arrives}
use Rattle.pfc_standing_code.proofs.Checked.{checked_for}
use Rattle.pfc_standing_code.proofs.Sizes.{sized_plain}
use Rattle.pfc_following_expressions.proofs.Glue.{front, back, head, lone, tail, stands_over}
use Rattle.pfc_following_expressions.proofs.Held.{held_grown, sign_changes, simple_changes}
use Rattle.pfc_following_expressions.proofs.Moves.{fits, next_move, add_move, multiply_move, relation_move, test_move, follows_moved}
use Rattle.pfc_following_expressions.proofs.Expressions.{env_in, value_moved, element_follows, finish_follows, sign_follows, add_held, multiply_held}
use Rattle.pfc_following_expressions.proofs.Expressions.{index_held, simple_follows, summands_follow, multipliers_follow, selectors_follow, indices_follow}
use Rattle.pfc_following_expressions.proofs.Anywhere.{arguments_follow}
use Rattle.pfc_following_statements.proofs.Items.{shows, pad_follows, width_follows}
use Rattle.pfc_following_source.proofs.selects.Counts.{shaped_is_of, words_count}
use Rattle.pfc_following_source.proofs.selects.Arms.{value_armed, seconds_armed}
use Rattle.pfc_following_source.proofs.selects.Alternatives.{opened_follows, all_follow}
use Rattle.pfc_following_source.proofs.structures.Anywhere.{every_statement_anywhere}
use Rattle.pfc_following_source.proofs.structures.Compound.{while_tested, tested_follows}
use Rattle.pfc_following_source.proofs.structures.Counting.{bounds_follow, second_follows}
use Rattle.pfc_following_source.proofs.structures.Every.{arms_follow}
use Rattle.pfc_following_source.proofs.structures.Guards.{tested, tried}
use Rattle.pfc_following_source.proofs.structures.Left.{remainder_follows}
use Rattle.pfc_following_source.proofs.awaits.Locations.{location_follows}

no_whole : {A : Type 0} (t : TypeId) → a_whole t ≡ a_number → A
no_whole t e = absurd (by e)
  where
    by : a_whole t ≡ a_number → ⊥
    by h = cc

module _ (g : Setting) (b : Block) (names : List Level) (around : Around) (checked : IsChecked g b (env_in g names around)) (line : ℕ) where
  abbrev x : Context
  x = record { env = env_in g names around; line = line }

  abbrev s : Site
  s = site_of g b x

  abbrev forms : Forms
  forms = g.program.state.forms

  none : 0 ≤ g.arms
  none = omega arith

  cleared : {n : Action} (at : ℕ) (ops : List ℤ) (arms : List Arm) → arms ≡ [] → Follows g n at ops [] → Follows g n at ops arms
  cleared {n} at ops arms e h = subst (λ (y : List Arm). Follows g n at ops y) (sym e) h

  -- the operands are these
  operands : {n : Action} (v : ℤ) (at : ℕ) (ops below : List ℤ) (arms : List Arm) → ops ≡ below →
      Follows g n at (v ∷ below) arms → Follows g n at (v ∷ ops) arms
  operands {n} v at ops below arms e h = subst (λ (y : List ℤ). Follows g n at (v ∷ y) arms) (sym e) h

  -- ## What stands behind

  left : (k : Remainder) (at : ℕ) (ops : List ℤ) → length ops ≤ g.room → Performs g b x.env at ops [] k → Follows g (from_remainder x.env k) at ops []
  left k at ops room h = remainder_follows g k b (env_in g names around) at ops [] (checked_for g b (env_in g names around) k checked) room h

  stmt_then :
      g.trial ≡ of_own → (l m : ℕ) (t : StmtTree) (k : Remainder) (at : ℕ) (ops : List ℤ) → length ops ≤ g.room
      → StmtThen g (site_of g b (context (env_in g names around) l)) at (length ops) m t (λ end. Performs g b x.env end ops [] k) →
      Follows g (from_stmt x.env m t k (from_remainder x.env k)) at ops []
  stmt_then own l m t k at ops room h =
      let end = at + (stmt_code (site_of g b (context (env_in g names around) l)) m t).size in
      every_statement_anywhere g b (env_in g names around) checked own t l m k (from_remainder (env_in g names around) k) at h.0 end ops h.1 refl h.2
      (left k end ops room h.2)

  -- ## Whole values

  held_words : (words ops : List ℤ) → length (reverse words ++ ops) ≡ length words + length ops
  held_words words ops = length-append (reverse words) ops ∙ ap (λ (n : ℕ). n + length ops) (length-reverse words)

  passed_value :
      (h : Shape) (v : Value) (rest : List Formal) (args : ActualTrees) (given : List Argument) (call : Call) (at : ℕ) (ops : List ℤ) (arms : List Arm) →
      length arms ≤ g.arms → IsShaped forms h v
      → TakesValue g b x at ops arms h (pass_value rest args given call) →
      Follows g (from_args x rest args (given ++ by_value v ∷ []) call) at (reverse (words_of v) ++ ops) arms
  passed_value h v rest args given call at ops arms few shaped p =
      let before = p.0 in
      let f = p.1 in
      let t = p.2 in
      let below = p.3 in
      let code = args_code s rest args in
      let is = shaped_is_of forms checked.sound t h v p.6 shaped in
      let count : length (words_of v) ≡ shape_cells forms h = words_count forms checked.sound t v is ∙ ap (λ (y : Shape). shape_cells forms y) (sym p.6) in
      let size : shape_cells forms h + length ops ≡ length (reverse (words_of v) ++ ops) =
      sym (held_words (words_of v) ops ∙ ap (λ (n : ℕ). n + length ops) count) in
      let calls = subst (λ (fs : List Formal). CallsAt g b x (at + code.size) below arms fs call) (sym (append_assoc before (f ∷ []) rest)) p.11 in
      arguments_follow g b x checked arms few args rest p.8 (before ++ f ∷ []) (given ++ by_value v ∷ []) call at p.9 (reverse (words_of v) ++ ops) below
      (one_more before given ops below f (by_value v) (words_of v) p.7 (t, p.4, p.5, is, refl))
      (stands_over g (length (reverse (words_of v) ++ ops)) size p.10) calls (lends_value s given v rest args call p.13)

  stored_value :
      (h : Shape) (v : Value) (spot : Spot) (k : Remainder) (at : ℕ) (ops : List ℤ) (arms : List Arm) → IsShaped forms h v
      → TakesValue g b x at ops arms h (store_at spot k) → Follows g (from_value x (store_at spot k) v) at (reverse (words_of v) ++ ops) arms
  stored_value h v spot k at ops arms shaped is =
      let p = is.1 in
      let store : IsAt g at (STORE (shape_cells forms (shape_of p.0))) line = subst (λ (y : Shape). IsAt g at (STORE (shape_cells forms y)) line) p.3 p.6 in
      cleared at (reverse (words_of v) ++ ops) arms is.0.1
      (arrives at (reverse (words_of v) ++ ops) [] (
        b,
        checked,
        (
          is.0.0,
          of_value p.0 p.1 p.2 (ap (λ (y : List ℤ). reverse (words_of v) ++ y) p.4)
              (shaped_is_of forms checked.sound p.0 h v p.3 shaped) p.5 store p.7,
        ),
      ))

  sent_value :
      (h : Shape) (v : Value) (spot : Spot) (k : Remainder) (at : ℕ) (ops : List ℤ) (arms : List Arm) → IsShaped forms h v
      → TakesValue g b x at ops arms h (send_on spot k) → Follows g (from_value x (send_on spot k) v) at (reverse (words_of v) ++ ops) arms
  sent_value h v spot k at ops arms shaped is =
      let p = is.1 in
      let words = reverse (words_of v) in
      let cells : shape_cells forms h ≡ shape_cells forms (shape_of p.1) = ap (λ (y : Shape). shape_cells forms y) p.4 in
      let all : words ++ ops ≡ (words ++ p.2 ∷ []) ++ p.3 = ap (λ (y : List ℤ). words ++ y) p.5 ∙ sym (append_assoc words (p.2 ∷ []) p.3) in
      cleared at (words ++ ops) arms is.0.1
      (arrives at (words ++ ops) [] (
        b,
        checked,
        (
          (is.0.0, refl),
          (
            (refl, refl),
            (
              shape_cells forms h,
              words ++ p.2 ∷ [],
              p.3,
              all,
              of_message p.0 p.1 p.2 p.6 p.8 p.7 (shaped_is_of forms checked.sound p.1 h v p.4 shaped) cells refl,
              p.9,
              p.10,
            ),
          ),
        ),
      ))

  offered_value :
      (h : Shape) (v : Value) (channel : Spot) (a : Alternative) (rest : List Alternative) (sel : Selecting) (k : Remainder) (at : ℕ) (ops : List ℤ)
      (arms : List Arm) → length (reverse (words_of v) ++ ops) ≤ g.room → IsShaped forms h v
      → TakesValue g b x at ops arms h (offer_value channel a rest sel k) →
      Follows g (from_value x (offer_value channel a rest sel k) v) at (reverse (words_of v) ++ ops) arms
  offered_value h v channel a rest sel k at ops arms room shaped is =
      let p = is.1 in
      let held = held_words (words_of v) ops in
      let size = ap (λ (y : List ℤ). length y) p.5 in
      let fit : length p.3 ≤ g.room = omega (arith, held, size, room) in
      subst (λ (y : List ℤ). Follows g (from_value x (offer_value channel a rest sel k) v) at (reverse (words_of v) ++ y) arms) (sym p.5)
      (value_armed g b names around checked is.0 line k channel p.0 p.1 p.2 h v a rest sel at p.3 arms
      (all_follow g b names around checked is.0 line k rest) p.4 shaped p.6 p.8 p.7 fit p.9)

  -- ## Numbers

  sized_sign : (sign : Option (Sign × Place)) → IsSized (sign_code s sign)
  sized_sign None = λ at n. refl
  sized_sign (Some (Plus, p)) = λ at n. refl
  sized_sign (Some (Minus, p)) = λ at n. refl

  pub numbers_follow :
      (u : AwaitsValue) (v : ℤ) (at : ℕ) (ops : List ℤ) (arms : List Arm) → length arms ≤ g.arms → suc (length ops) ≤ g.room →
      TakesValue g b x at ops arms a_number u
      → Follows g (from_value x u (ordinal v)) at (v ∷ ops) arms
  numbers_follow (begin_sum sign rest u) v at ops arms few room is =
      let minus = sign_code s sign in
      let others = summands_code s rest in
      let i = is.2 in
      let to = at + (minus.size + others.size) in
      let behind = back g minus others (suc (length ops)) (sized_sign sign) (sign_changes g.program s sign at i (length ops) ∙
      omega arith) (stands_over g (1 + length ops) (omega arith) is.3) in
      sign_follows g b names around checked line arms few sign v (λ n. from_summands x n rest u (from_value x u)) at i ops (front g minus others is.3)
      (λ n. summands_follow g b names around checked line arms few rest is.1 n u (from_value x u) (at + minus.size)
      (i + length minus.texts) to ops behind (omega arith) is.4
      (λ m. numbers_follow u m to ops arms few room is.4))
  numbers_follow (add_to m op rest u) v at ops arms few room is =
      let below = is.1 in
      let others = summands_code s rest in
      let held = ap (λ (y : List ℤ). length y) is.2 in
      let fit : suc (length below) ≤ g.room = omega (arith, held) in
      let same : suc (length ops) ≡ suc (suc (length below)) = omega (arith, held) in
      let to = at + (1 + others.size) in
      let behind = tail g s (λ at n. add_instr op) others (suc (length below)) (add_held g b names around checked line arms few op (length below))
      (stands_over g (suc (suc (length below))) same is.5) in
      operands v at ops (m ∷ below) arms is.2
      (add_move g arms few b x op m v (λ n. from_summands x n rest u (from_value x u)) at below (head g s (λ at n. add_instr op) others is.5) fit
      (λ n. summands_follow g b names around checked line arms few rest is.3 n u (from_value x u) (at + 1) (is.4 + 0) to below behind (omega arith) is.6
      (λ c. numbers_follow u c to below arms few fit is.6)))
  numbers_follow (begin_product rest u) v at ops arms few room is =
      let to = at + (multipliers_code s rest).size in
      multipliers_follow g b names around checked line arms few rest is.1 v u (from_value x u) at is.2 to ops is.3 refl is.4
      (λ m. numbers_follow u m to ops arms few room is.4)
  numbers_follow (multiply_by m op rest u) v at ops arms few room is =
      let below = is.1 in
      let others = multipliers_code s rest in
      let held = ap (λ (y : List ℤ). length y) is.2 in
      let fit : suc (length below) ≤ g.room = omega (arith, held) in
      let same : suc (length ops) ≡ suc (suc (length below)) = omega (arith, held) in
      let to = at + (1 + others.size) in
      let behind = tail g s (λ at n. multiply_instr op) others (suc (length below)) (multiply_held g b names around checked line arms few op (length below))
      (stands_over g (suc (suc (length below))) same is.5) in
      operands v at ops (m ∷ below) arms is.2
      (multiply_move g arms few b x op m v (λ n. from_multipliers x n rest u (from_value x u)) at below (head g s (λ at n. multiply_instr op) others is.5) fit
      (λ n. multipliers_follow g b names around checked line arms few rest is.3 n u (from_value x u) (at + 1) (is.4 + 0) to below behind (omega arith) is.6
      (λ c. numbers_follow u c to below arms few fit is.6)))
  numbers_follow (compare_with r t u) v at ops arms few room is =
      let first = simple_code s t in
      let i = is.2 in
      let mid = at + first.size in
      let last = back g first (one s (relation_instr r)) (suc (suc (length ops))) (sized_plain first (plain_simple s t))
      (held_grown g.program first 1 (simple_changes s checked.sound t a_number is.1) at i (suc (length ops)) ∙ omega arith) is.3 in
      let compares = lone g s (λ at n. relation_instr r) last in
      let after : TakesValue g b x (mid + 1) ops arms a_number u = value_moved g b names around checked line arms few (at + (first.size + 1))
      (mid + 1) ops a_number u (omega arith) is.4 in
      simple_follows g b names around checked line arms few t a_number is.1 (compare_to v r u)
      (λ c. from_value x u (ordinal (compared r v (ordinal_of c)))) at i mid (v ∷ ops) (front g first (one s (relation_instr r)) is.3) refl
      (refl, ops, refl, room, compares, after)
      (λ c simple. relation_move g arms few r v c mid ops line compares room (numbers_follow u (compared r v c) (mid + 1) ops arms few room after))
  numbers_follow (compare_to m r u) v at ops arms few room is =
      let below = is.1 in
      operands v at ops (m ∷ below) arms is.2
      (relation_move g arms few r m v at below line is.4 is.3 (numbers_follow u (compared r m v) (at + 1) below arms few is.3 is.5))
  numbers_follow (invert u) v at ops arms few room is =
      next_move g arms few at (v ∷ ops) NOT line (inverse_of v ∷ ops) is.2 (fits g arms NOT (v ∷ ops) (omega arith) tt tt) refl room
      (numbers_follow u (inverse_of v) (at + 1) ops arms few room is.3)
  numbers_follow (apply f t u) v at ops arms few room is =
      let to = at + (finishing s f t).size in
      finish_follows g b names around checked line arms few f t u (from_value x u) v at is.3 to ops is.1 is.2 is.4 refl is.5
      (λ m. numbers_follow u m to ops arms few room is.5)
  numbers_follow (index_into part es ss goal) v at ops arms few room is =
      let w = is.1 in
      let below = is.2 in
      let t = is.3 in
      let i = is.9 in
      let m = is.11 in
      let within = element_in forms part.t in
      let inner = indices_code s within es in
      let mid = at + (1 + inner.size) in
      let code = selectors_code s (type_behind forms within es) ss in
      let to = mid + code.size in
      let held = ap (λ (y : List ℤ). length y) is.4 in
      let fit : suc (length below) ≤ g.room = omega (arith, held) in
      let same_held : suc (length ops) ≡ suc (suc (length below)) = omega (arith, held) in
      let last = tail g s (λ at n. index_instr forms (form_in forms part.t)) inner (suc (length below)) (index_held g b names around checked line arms few
      (form_in forms part.t) (length below)) (stands_over g (suc (suc (length below))) same_held is.10) in
      let last_end : at + 1 + inner.size ≡ mid = omega arith in
      operands v at ops (w ∷ below) arms is.4
      (element_follows g b names around checked line arms few part w v (λ inside. from_indices x inside es ss goal
      (λ deep. from_selectors x deep ss goal (from_location x goal))) at below is.5 is.14 is.6
      (head g s (λ at n. index_instr forms (form_in forms part.t)) inner is.10) fit
      (λ inside y inside_is inside_may same within_it.
      let e_are : AreIndices s inside.t es = subst (λ (z : Option TypeId). AreIndices s z es) (sym same) is.7 in
      let e_after : AreSelectors s (type_behind forms inside.t es) ss t =
      subst (λ (z : Option TypeId). AreSelectors s (type_behind forms z es) ss t) (sym same) is.8 in
      let e_last : Stands g (at + 1) (i + 0) (suc (length below)) (indices_code s inside.t es) =
      subst (λ (z : Option TypeId). Stands g (at + 1) (i + 0) (suc (length below)) (indices_code s z es)) (sym same) last in
      let e_last_end : at + 1 + (indices_code s inside.t es).size ≡ mid =
      subst (λ (z : Option TypeId). at + 1 + (indices_code s z es).size ≡ mid) (sym same) last_end in
      let e_rest : Stands g mid m (suc (length below)) (selectors_code s (type_behind forms inside.t es) ss) =
      subst (λ (z : Option TypeId). Stands g mid m (suc (length below)) (selectors_code s (type_behind forms z es) ss)) (sym same) is.12 in
      let e_end : mid + (selectors_code s (type_behind forms inside.t es) ss).size ≡ to =
      subst (λ (z : Option TypeId). mid + (selectors_code s (type_behind forms z es) ss).size ≡ to) (sym same) refl in
      indices_follow g b names around checked line arms few es inside y ss t goal (λ deep. from_selectors x deep ss goal (from_location x goal)) (at + 1)
      (i + 0) mid m to below inside_is inside_may e_are e_after e_last e_last_end e_rest e_end is.13
      (subst (λ (o : Spot). LendsWhole s o goal) (sym within_it) is.15)
      (λ deep z deep_is deep_may deep_same deep_lends.
      selectors_follow g b names around checked line arms few ss deep z t goal (from_location x goal) mid m to below deep_is deep_may
      (subst (λ (o : Option TypeId). AreSelectors s o ss t) (sym deep_same) e_after)
      (subst (λ (o : Option TypeId). Stands g mid m (suc (length below)) (selectors_code s o ss)) (sym deep_same) e_rest)
      (subst (λ (o : Option TypeId). mid + (selectors_code s o ss).size ≡ to) (sym deep_same) e_end) is.13 deep_lends
      (λ l n lies may lends. location_follows g b names around checked line goal t l n to below arms few fit lies may is.13 lends))))
  numbers_follow (pass_value rest args given call) v at ops arms few room is =
      passed_value a_number (ordinal v) rest args given call at ops arms few (v, refl) is
  numbers_follow (store_at spot k) v at ops arms few room is = stored_value a_number (ordinal v) spot k at ops arms (v, refl) is
  numbers_follow (choose m t u k) v at ops arms few room is =
      let p = is.1 in
      let fit : length ops ≤ g.room = omega arith in
      cleared at (v ∷ ops) arms is.0.1
      (test_move g [] none v (from_stmt x.env m t k (from_remainder x.env k))
      (from_stmt x.env (m + scopes_in t) u k (from_remainder x.env k)) at ops p.1 line p.2 p.3 fit
      (stmt_then is.0.0 line m t k (at + 1) ops fit p.4) (stmt_then is.0.0 line (m + scopes_in t) u k p.1 ops fit p.5))
  numbers_follow (choose_arm m alternatives k) v at ops arms few room is =
      let p = is.1 in
      let fit : length ops ≤ g.room = omega arith in
      let first = at + label_count alternatives + 1 in
      let end = first + (arms_code s m alternatives).size in
      cleared at (v ∷ ops) arms is.0.1
      (arms_follow g b names around checked none is.0.0 alternatives line m v k (from_remainder x.env k) at p.1 first p.2 0 end ops p.3 (omega arith) refl p.4
      (left k end ops fit p.4))
  numbers_follow (while_true m e t q k) v at ops arms few room is =
      let p = is.1 in
      let fit : length ops ≤ g.room = omega arith in
      let a = p.3 in
      let test = expr_code (site_of g b (context (env_in g names around) q.line)) e in
      let follows = while_tested g b names around checked none is.0.0 e t q (every_statement_anywhere g b (env_in g names around) checked is.0.0 t) p.2 m k
      (from_remainder x.env k) a p.5.0 ops v p.5.1 p.5.2 (left k _ ops fit p.5.2) in
      cleared at (v ∷ ops) arms is.0.1
      (subst (λ (l : ℕ). Follows g (if is_true v then
      from_stmt x.env m t (turn m (while_do e t q) k) (turns (context x.env l) (again m (while_do e t q) k)) else from_remainder x.env k) at (v ∷ ops) [])
      (sym p.1)
      (follows_moved g [] none (a + test.size) at (sym p.4) follows))
  numbers_follow (until_true m ts e q k) v at ops arms few room is =
      let p = is.1 in
      let fit : length ops ≤ g.room = omega arith in
      let a = p.3 in
      let there = site_of g b (context (env_in g names around) q.line) in
      let follows = tested_follows g b names around checked none is.0.0 ts e q p.2 m k (from_remainder x.env k) a p.5.0 ops v p.5.1 p.5.2
      (left k _ ops fit p.5.2) in
      cleared at (v ∷ ops) arms is.0.1
      (subst (λ (l : ℕ). Follows g (from_until (context x.env l) m (repeat_until ts e q) k (from_remainder x.env k) (ordinal v)) at (v ∷ ops) []) (sym p.1)
      (follows_moved g [] none (a + (stmts_code there m ts).size + (expr_code there e).size) at (sym p.4) follows))
  numbers_follow (count_from m spot down e t k) v at ops arms few room is =
      let p = is.1 in
      let below = p.2 in
      let held = ap (λ (y : List ℤ). length y) p.3 in
      let fit : length below ≤ g.room = omega (arith, held) in
      let same : suc (length ops) ≡ suc (suc (length below)) = omega (arith, held) in
      let to = at + (expr_code s e ⨾ pass_code s down m t).size in
      cleared at (v ∷ ops) arms is.0.1
      (operands v at ops (p.1 ∷ below) [] p.3
      (second_follows g b names around checked none is.0.0 line m spot v p.1 down e t k (from_remainder x.env k) at p.7 to below p.4 p.5 p.6 p.10
      (stands_over g (suc (suc (length below))) same p.8) refl p.9 (left k to below fit p.9)))
  numbers_follow (count_to m spot a down t k) v at ops arms few room is =
      let p = is.1 in
      let below = p.2 in
      let held = ap (λ (y : List ℤ). length y) p.3 in
      let fit : length below ≤ g.room = omega (arith, held) in
      let same : suc (length ops) ≡ suc (suc (suc (length below))) = omega (arith, held) in
      let to = at + (pass_code s down m t).size in
      cleared at (v ∷ ops) arms is.0.1
      (operands v at ops (a ∷ p.1 ∷ below) [] p.3
      (bounds_follow g b names around checked none is.0.0 (counting x m spot (ordinal a) (ordinal v) down t) k
      (from_remainder x.env k) p.1 at p.6 to below p.4 p.5 p.9 (stands_over g (suc (suc (suc (length below)))) same p.7) refl p.8
      (left k to below fit p.8)))
  numbers_follow (show t k) v at ops arms few room is =
      cleared at (v ∷ ops) arms is.0.1 (shows g b names around checked none is.0.0 line t k v at ops is.1.1 is.1.2)
  numbers_follow (show_wide t e k) v at ops arms few room is =
      cleared at (v ∷ ops) arms is.0.1 (width_follows g b names around checked none is.0.0 line t v e k at is.1.2 ops is.1.1 is.1.3 is.1.4)
  numbers_follow (pad bytes k) v at ops arms few room is =
      cleared at (v ∷ ops) arms is.0.1 (pad_follows g b names around checked none is.0.0 line bytes k v at ops is.1.1)
  numbers_follow (set_count spot k) v at ops arms few room is =
      let p = is.1 in cleared at (v ∷ ops) arms is.0.1 (arrives at (v ∷ ops) [] (b, checked, ((is.0.0, refl), (ops, refl, (p.1, p.2, p.3, p.4, p.5, p.6)))))
  numbers_follow (delay_with spot k) v at ops arms few room is =
      let p = is.1 in cleared at (v ∷ ops) arms is.0.1 (arrives at (v ∷ ops) [] (b, checked, ((is.0.0, refl), (ops, refl, (p.1, p.2, p.3, p.4, p.5, p.6)))))
  numbers_follow (sleep_for k) v at ops arms few room is =
      cleared at (v ∷ ops) arms is.0.1 (arrives at (v ∷ ops) [] (b, checked, ((is.0.0, refl), (ops, refl, is.1.1, is.1.2))))
  numbers_follow (send_on spot k) v at ops arms few room is = sent_value a_number (ordinal v) spot k at ops arms (v, refl) is
  numbers_follow (open_if a rest sel k) v at ops arms few room is =
      let p = is.1 in
      opened_follows g b names around checked is.0 line k v a rest sel at p.1 ops arms (all_follow g b names around checked is.0 line k rest) p.2 p.3 p.4
  numbers_follow (offer_value channel a rest sel k) v at ops arms few room is =
      offered_value a_number (ordinal v) channel a rest sel k at ops arms room (v, refl) is
  numbers_follow (offer_wait a rest sel k) v at ops arms few room is =
      let fit : length ops ≤ g.room = omega arith in
      seconds_armed g b names around checked is.0 line k v a rest sel at ops arms (all_follow g b names around checked is.0 line k rest) fit is.1.1
  numbers_follow (pass_own bar k) v at ops arms few room is =
      let p = is.1 in
      let fit : length ops ≤ g.room = omega arith in
      cleared at (v ∷ ops) arms is.0.1 (tested g b none x bar k (from_remainder x.env k) v at ops checked is.0.0 p.1 p.2 fit p.3
      (left k (at + 1) ops fit (p.3 x.env).1))
  numbers_follow (pass_other w scan k) v at ops arms few room is =
      let p = is.1 in
      let fit : length ops ≤ g.room = omega arith in
      cleared at (v ∷ ops) arms is.0 (tried g b none x w scan k v at ops checked p.1 p.2 p.3 fit p.4)

  -- ## Every value

  whole_follows :
      (u : AwaitsValue) (t : TypeId) (v : Value) (at : ℕ) (ops : List ℤ) (arms : List Arm) → length arms ≤ g.arms →
      length (reverse (words_of v) ++ ops) ≤ g.room → IsOf forms t v
      → TakesValue g b x at ops arms (a_whole t) u → Follows g (from_value x u v) at (reverse (words_of v) ++ ops) arms
  whole_follows (pass_value rest args given call) t v at ops arms few room shaped is = passed_value (a_whole t) v rest args given call at ops arms few shaped is
  whole_follows (store_at spot k) t v at ops arms few room shaped is = stored_value (a_whole t) v spot k at ops arms shaped is
  whole_follows (send_on spot k) t v at ops arms few room shaped is = sent_value (a_whole t) v spot k at ops arms shaped is
  whole_follows (offer_value channel a rest sel k) t v at ops arms few room shaped is =
      offered_value (a_whole t) v channel a rest sel k at ops arms room shaped is
  whole_follows (begin_sum sign rest u) t v at ops arms few room shaped is = no_whole t is.0
  whole_follows (add_to m op rest u) t v at ops arms few room shaped is = no_whole t is.0
  whole_follows (begin_product rest u) t v at ops arms few room shaped is = no_whole t is.0
  whole_follows (multiply_by m op rest u) t v at ops arms few room shaped is = no_whole t is.0
  whole_follows (compare_with r c u) t v at ops arms few room shaped is = no_whole t is.0
  whole_follows (compare_to m r u) t v at ops arms few room shaped is = no_whole t is.0
  whole_follows (invert u) t v at ops arms few room shaped is = no_whole t is.0
  whole_follows (apply f c u) t v at ops arms few room shaped is = no_whole t is.0
  whole_follows (index_into part es ss goal) t v at ops arms few room shaped is = no_whole t is.0
  whole_follows (choose m c u k) t v at ops arms few room shaped is = no_whole t is.1.0
  whole_follows (choose_arm m alternatives k) t v at ops arms few room shaped is = no_whole t is.1.0
  whole_follows (while_true m e c q k) t v at ops arms few room shaped is = no_whole t is.1.0
  whole_follows (until_true m ts e q k) t v at ops arms few room shaped is = no_whole t is.1.0
  whole_follows (count_from m spot down e c k) t v at ops arms few room shaped is = no_whole t is.1.0
  whole_follows (count_to m spot a down c k) t v at ops arms few room shaped is = no_whole t is.1.0
  whole_follows (show c k) t v at ops arms few room shaped is = no_whole t is.1.0
  whole_follows (show_wide c e k) t v at ops arms few room shaped is = no_whole t is.1.0
  whole_follows (pad bytes k) t v at ops arms few room shaped is = no_whole t is.1.0
  whole_follows (set_count spot k) t v at ops arms few room shaped is = no_whole t is.1.0
  whole_follows (delay_with spot k) t v at ops arms few room shaped is = no_whole t is.1.0
  whole_follows (sleep_for k) t v at ops arms few room shaped is = no_whole t is.1.0
  whole_follows (open_if a rest sel k) t v at ops arms few room shaped is = no_whole t is.1.0
  whole_follows (offer_wait a rest sel k) t v at ops arms few room shaped is = no_whole t is.1.0
  whole_follows (pass_own bar k) t v at ops arms few room shaped is = no_whole t is.1.0
  whole_follows (pass_other w scan k) t v at ops arms few room shaped is = no_whole t is.1.0

  pub value_follows :
      (u : AwaitsValue) (h : Shape) (v : Value) (at : ℕ) (ops : List ℤ) (arms : List Arm) → length arms ≤ g.arms →
      length (reverse (words_of v) ++ ops) ≤ g.room → IsShaped forms h v
      → TakesValue g b x at ops arms h u → Follows g (from_value x u v) at (reverse (words_of v) ++ ops) arms
  value_follows u a_number v at ops arms few room (n, same) is =
      let fit = subst (λ (y : Value). length (reverse (words_of y) ++ ops) ≤ g.room) same room in
      subst (λ (y : Value). Follows g (from_value x u y) at (reverse (words_of y) ++ ops) arms) (sym same) (numbers_follow u n at ops arms few fit is)
  value_follows u (a_whole t) v at ops arms few room shaped is = whole_follows u t v at ops arms few room shaped is
