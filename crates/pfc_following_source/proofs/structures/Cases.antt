-- The tests of a `case` lead to the arm that has its value among the labels, or to a fault.
use Rattle.std.proofs.Common.{◌≡◌, ℕ, suc, ◌+◌, ◌<◌, ◌≤◌, ℤ, Bool, true, false, ◌||◌, if◌then◌else◌, List, [], ◌∷◌, length, Option, Some, None, refl, sym, ap}
use Rattle.std.proofs.Common.{◌∙◌, subst, arith, inr}
use Rattle.std.specs.Ordering.{int_eq}
use Rattle.pfc_base.specs.declared.places.Place.{Place}
use Rattle.pfc_base.specs.declared.faults.RunFault.TheVariants.{Case}
use Rattle.pfc_code.specs.declared.instructions.Instr.TheVariants.{JMP, CEQ, CERR}
use Rattle.pfc_tree.specs.declared.tree.Constant.{Constant}
use Rattle.pfc_tree.specs.trees.Exprs.{ExprTree}
use Rattle.pfc_tree.specs.trees.Stmts.{StmtTree, ArmTrees, case_of, arm, no_arms, more_arms}
use Rattle.pfc_types.specs.Scopes.{Level}
use Rattle.pfc_types.specs.rules.Constants.{Ordinal, constant_value}
use Rattle.pfc_types.specs.rules.Expressions.{Env}
use Rattle.pfc_types.specs.rules.Statements.{arm_scopes}
use Rattle.pfc_types.specs.declared.view.Around.{Around}
use Rattle.pfc_stacks.specs.Effects.{quiet}
use Rattle.pfc_semantics.specs.Values.{ordinal_of}
use Rattle.pfc_semantics.specs.Programs.{Block}
use Rattle.pfc_semantics.specs.Remainders.{Context, Remainder, Action, choose_arm}
use Rattle.pfc_semantics.specs.Alternatives.{context}
use Rattle.pfc_semantics.specs.Statements.{is_ordinal, is_label, are_labels, from_stmt, from_arms}
use Rattle.pfc_translation.specs.Sites.{Site}
use Rattle.pfc_translation.specs.Codes.{◌⨾◌, one, over}
use Rattle.pfc_translation.specs.Expressions.{expr_code}
use Rattle.pfc_translation.specs.Statements.{label_of, labels_code, label_count, stmt_code, tests_code, arms_code}
use Rattle.pfc_standing_code.specs.Shapes.{a_number}
use Rattle.pfc_standing_code.specs.Settings.{Setting, of_own, site_of, IsAt, Stands}
use Rattle.pfc_standing_code.specs.Effects.{of_own_effect}
use Rattle.pfc_standing_code.specs.TypedStatements.{HaveValues}
use Rattle.pfc_standing_code.specs.Words.{IsChecked}
use Rattle.pfc_standing_code.specs.Performs.{StmtAt, ArmsAt, Performs}
use Rattle.pfc_standing_code.specs.Following.{Follows}
use Rattle.pfc_standing_code.proofs.Sizes.{sized_expr, sized_labels, sized_stmt, sized_tests}
use Rattle.pfc_following_expressions.proofs.Glue.{room_for, front, back, head, tail, stands_moved, stands_over}
use Rattle.pfc_following_expressions.proofs.Held.{held_grown, expr_changes}
use Rattle.pfc_following_expressions.proofs.Moves.{fits, move, next_move, jump_move, fault_at, follows_moved}
use Rattle.pfc_following_expressions.proofs.Expressions.{env_in}
use Rattle.pfc_following_expressions.proofs.Anywhere.{expression_follows}
use Rattle.pfc_following_statements.proofs.HeldStatements.{labels_change, stmt_changes, tests_change}
use Rattle.pfc_following_statements.proofs.Grouping.{last_joined, first_joined}
use Rattle.pfc_following_source.specs.structures.Structured.{StatementFollows, ArmsFollow}
use Rattle.pfc_following_source.proofs.structures.Ranges.{same_turned}
use Rattle.pfc_following_source.proofs.selects.Jumps.{performs_jumped}

-- ## Lengths

labels_size : (s : Site) (between : ℕ) (ls : List Constant) → (labels_code s between ls).size ≡ length ls
labels_size s between [] = refl
labels_size s between (l ∷ ls) = let others = labels_size s between ls in omega arith

tests_size : (s : Site) (m from : ℕ) (arms : ArmTrees) → (tests_code s m from arms).size ≡ label_count arms
tests_size s m from no_arms = refl
tests_size s m from (more_arms (arm ls t) arms) =
    let first = labels_size s (label_count arms + 1 + from) ls in
    let others = tests_size s (m + arm_scopes (arm ls t)) (from + (stmt_code s m t).size + 1) arms in
    omega arith

-- ## Labels

same_label : (v : ℤ) (value : Option Ordinal) (o : Ordinal) → value ≡ Some o → is_ordinal v value ≡ int_eq v (label_of value)
same_label v None o e = absurd (by e)
  where
    by : None ≡ Some o → ⊥
    by h = cc
same_label v (Some value) o e = same_turned value.value v

module _ (g : Setting) (b : Block) (names : List Level) (around : Around) (checked : IsChecked g b (env_in g names around)) (few : 0 ≤ g.arms)
    (own : g.trial ≡ of_own) where
  abbrev env : Env
  env = env_in g names around

  abbrev site : ℕ → Site
  site line = site_of g b (record { env = env_in g names around; line = line })

  abbrev left : ℕ → List ℤ → Remainder → Type 0
  left at ops k = Performs g b (env_in g names around) at ops [] k

  moved : (at to : ℕ) (ops : List ℤ) (k : Remainder) → at ≡ to → left at ops k → left to ops k
  moved at to ops k e h = subst (λ (y : ℕ). Performs g b (env_in g names around) y ops [] k) e h

  abbrev value_of : Constant → Option Ordinal
  value_of l = constant_value g.program.state.blocks.scopes names l

  -- one label
  label_follows :
      (line : ℕ) (l : Constant) (ls : List Constant) (v : ℤ) (o : Ordinal) (a at : ℕ) (ops : List ℤ) (so otherwise : Action)
      → value_of l ≡ Some o → suc (length ops) ≤ g.room → IsAt g at (CEQ (label_of (value_of l)) a) line → at < a
      → Follows g so a ops [] → Follows g (if are_labels env v ls then so else otherwise) (at + 1) (v ∷ ops) []
      → Follows g (if are_labels env v (l ∷ ls) then so else otherwise) at (v ∷ ops) []
  label_follows line l ls v o a at ops so otherwise value room is up on rest = by (is_label env v l) refl
    where
      same : is_label env v l ≡ int_eq v (label_of (value_of l))
      same = same_label v (value_of l) o value

      by : (r : Bool) → is_label env v l ≡ r → Follows g (if r || are_labels env v ls then so else otherwise) at (v ∷ ops) []
      by true e =
          let n = label_of (value_of l) in
          let below : length ops ≤ g.room = omega arith in
          move g [] few at (v ∷ ops) (CEQ n a) line a ops is (fits g [] (CEQ n a) (v ∷ ops) (omega arith) tt tt)
          (ap (λ (r : Bool). of_own_effect (if r then quiet a ops else quiet (at + 1) (v ∷ ops)) []) (sym same ∙ e)) up below on
      by false e =
          let n = label_of (value_of l) in
          next_move g [] few at (v ∷ ops) (CEQ n a) line (v ∷ ops) is (fits g [] (CEQ n a) (v ∷ ops) (omega arith) tt tt)
          (ap (λ (r : Bool). of_own_effect (if r then quiet a ops else quiet (at + 1) (v ∷ ops)) []) (sym same ∙ e)) room rest

  labels_follow :
      (line : ℕ) (ls : List Constant) (v : ℤ) (between a at n held : ℕ) (ops : List ℤ) (so otherwise : Action)
      → HaveValues (site line) ls → suc (length ops) ≤ g.room → Stands g at n held (labels_code (site line) between ls) → at + length ls + between ≡ a
      → Follows g so a ops [] → Follows g otherwise (at + (labels_code (site line) between ls).size) (v ∷ ops) []
      → Follows g (if are_labels env v ls then so else otherwise) at (v ∷ ops) []
  labels_follow line [] v between a at n held ops so otherwise values room st e on off = follows_moved g [] few (at + 0) at (omega arith) off
  labels_follow line (l ∷ ls) v between a at n held ops so otherwise values room st e on off =
      let s = site line in
      let label = label_of (value_of l) in
      let to = at + 1 + (length ls + between) in
      let rest = labels_code s between ls in
      let behind = tail g s (λ at k. CEQ label (at + 1 + (length ls + between))) rest held (omega arith) st in
      let target : a ≡ to = sym e ∙ omega arith in
      let again : at + 1 + length ls + between ≡ a = omega arith ∙ e in
      label_follows line l ls v values.0.0 to at ops so otherwise values.0.1 room (head g s (λ at k. CEQ label (at + 1 + (length ls + between))) rest st)
      (omega arith) (follows_moved g [] few a to target on)
      (labels_follow line ls v between a (at + 1) (n + 0) held ops so otherwise values.1 room behind again on (follows_moved g [] few (at + (1 + rest.size))
      (at + 1 + rest.size) (omega arith) off))

  -- ## Arms

  pub no_arms_follow : ArmsFollow g b env no_arms
  no_arms_follow line m v k go tests i first n from to ops is begin whole_end rest on =
      let x : Context = record { env = env_in g names around; line = line } in
      fault_at g [] few b x Case tests (v ∷ ops) CERR is.tests_stand.has.0 (fits g [] CERR (v ∷ ops) (omega arith) tt tt) refl (inr refl)

  pub more_arms_follow : (ls : List Constant) (t : StmtTree) (arms : ArmTrees) → StatementFollows g b env t → ArmsFollow g b env arms →
      ArmsFollow g b env (more_arms (arm ls t) arms)
  more_arms_follow ls t arms inner others line m v k go tests i first n from to ops is begin whole_end rest on =
      let s = site line in
      let between = label_count arms + 1 + from in
      let labels = labels_code s between ls in
      let next = m + arm_scopes (arm ls t) in
      let yes = stmt_code s m t in
      let from_next = from + yes.size + 1 in
      let other_tests = tests_code s next from_next arms in
      let other_arms = arms_code s next arms in
      let labels_are = labels_size s between ls in
      let room : suc (length ops) ≤ g.room = (let most = room_for g is.tests_stand in omega arith) in
      let y = first + yes.size in
      let mid = tests + labels.size in
      let j = n + length yes.texts in
      let whole : Stands g tests i (1 + length ops) (labels ⨾ (other_tests ⨾ one s CERR)) = last_joined g labels other_tests (one s CERR) is.tests_stand in
      let tests_behind = back g labels (other_tests ⨾ one s CERR) (1 + length ops) (sized_labels s between ls)
      (held_grown g.program labels 0 (labels_change s between ls) tests i (1 + length ops) ∙ omega arith) whole in
      let second = back g yes (over s JMP other_arms.size ⨾ other_arms) (length ops) (sized_stmt s m t)
      (held_grown g.program yes 0 (stmt_changes t s m checked.sound is.typed.1) first n (length ops) ∙ omega arith) is.arms_stand in
      let third = tail g s (λ at k. JMP (at + 1 + other_arms.size)) other_arms (length ops) (omega arith) second in
      let is_jump = head g s (λ at k. JMP (at + 1 + other_arms.size)) other_arms second in
      let end = y + 1 + other_arms.size in
      let up : y < end = omega arith in
      let ended : to ≡ end = sym whole_end ∙ omega arith in
      let here = moved to end ops k ended rest in
      let inner_at : StmtAt g s first n (length ops) m t =
      record { typed = is.typed.1; code = front g yes (over s JMP other_arms.size ⨾ other_arms) is.arms_stand; accepts = is.accepts } in
      let arms_at : ArmsAt g s mid (i + length labels.texts) (y + 1) (j + 0) next from_next (length ops) arms =
      record { typed = is.typed.2; tests_stand = tests_behind; arms_stand = third; accepts = is.accepts } in
      let target : tests + length ls + between ≡ first = sym (begin ∙ omega arith) in
      let count : y + 1 ≡ mid + label_count arms + 1 + from_next = omega (arith, begin, labels_are) in
      labels_follow line ls v between first tests i (1 + length ops) ops (from_stmt env m t k go)
      (from_arms (context env line) next v arms k go) is.typed.0 room (front g labels (other_tests ⨾ one s CERR) whole) target
      (inner line m k go first n y ops inner_at refl (performs_jumped g b (env_in g names around) k y end ops [] line is_jump up here)
      (jump_move g [] few y end ops line is_jump up (room_for g third) (follows_moved g [] few to end ended on)))
      (others line next v k go mid (i + length labels.texts) (y + 1) (j + 0) from_next to ops arms_at count (sym ended) rest on)

  pub case_follows : (e : ExprTree) (arms : ArmTrees) (last : Bool) (p : Place) → ArmsFollow g b env arms → StatementFollows g b env (case_of e arms last p)
  case_follows e arms last p inner line m k go at n to ops is whole_end rest on =
      let s = site p.line in
      let x : Context = record { env = env_in g names around; line = p.line } in
      let value = expr_code s e in
      let tests = tests_code s m 0 arms in
      let all = arms_code s m arms in
      let mid = at + value.size in
      let i = n + length value.texts in
      let count = tests_size s m 0 arms in
      let first = mid + label_count arms + 1 in
      let behind = back g value (tests ⨾ one s CERR ⨾ all) (suc (length ops)) (sized_expr s e)
      (held_grown g.program value 1 (expr_changes s checked.sound e a_number is.typed.0) at n (length ops) ∙ omega arith) is.code in
      let arms_end = back g tests (one s CERR ⨾ all) (suc (length ops)) (sized_tests s m 0 arms) (held_grown g.program tests 0 (tests_change arms s m 0) mid i
      (suc (length ops)) ∙ omega arith) behind in
      let last_part = tail g s (λ at k. CERR) all (length ops) (omega arith) arms_end in
      let start : mid + tests.size + 1 ≡ first = omega (arith, count) in
      let over_value : suc (length ops) ≡ 1 + length ops = omega arith in
      let arms_at : ArmsAt g s mid i first (i + length tests.texts + 0) m 0 (length ops) arms =
      record {
        typed = is.typed.1;
        tests_stand =
            stands_over g (1 + length ops) over_value (front g (tests ⨾ one s CERR) all (first_joined g tests (one s CERR) all behind));
        arms_stand =
            stands_moved g first start last_part;
        accepts = is.accepts;
      } in
      let end : first + all.size ≡ to = omega (arith, count) in
      expression_follows g b x checked [] few e a_number is.typed.0 (choose_arm m arms k) (λ v. from_arms x m (ordinal_of v) arms k go) at n ops
      (front g value (tests ⨾ one s CERR ⨾ all) is.code)
      ((own, refl), (refl, i, i + length tests.texts + 0, arms_at, moved to (first + all.size) ops k (sym end) rest))
      (λ v simple. inner p.line m v k go mid i first (i + length tests.texts + 0) 0 to ops arms_at (omega arith) end rest on)
