-- The code of statements that hold statements follows their next action, where that of the inner ones does.
use Rattle.std.proofs.Common.{◌≡◌, ℕ, suc, ◌+◌, ◌-◌, ◌<◌, ◌≤◌, ℤ, Bool, true, false, not, if◌then◌else◌, List, [], ◌∷◌, length, refl, sym, ap, ◌∙◌, subst}
use Rattle.std.proofs.Common.{arith}
use Rattle.pfc_base.specs.declared.places.Place.{Place}
use Rattle.pfc_code.specs.declared.instructions.Instr.TheVariants.{NOT, JMP, JF, TURN, COEND, ACC, EACC}
use Rattle.pfc_tree.specs.trees.Exprs.{ExprTree}
use Rattle.pfc_tree.specs.trees.Stmts.{StmtTree, StmtTrees, AcceptTree, cobegin, accepting, accept, accept_do, empty, null, block, if_then, if_then_else}
use Rattle.pfc_tree.specs.trees.Stmts.{while_do, repeat_until, repeat_forever, no_stmts, more_stmts, body}
use Rattle.pfc_types.specs.Scopes.{Level}
use Rattle.pfc_types.specs.rules.Expressions.{Env}
use Rattle.pfc_types.specs.rules.Statements.{scopes_in}
use Rattle.pfc_types.specs.declared.view.Around.{Around}
use Rattle.pfc_values.specs.Numbers.{truth, is_true, inverse_of}
use Rattle.pfc_semantics.specs.Values.{ordinal, ordinal_of}
use Rattle.pfc_semantics.specs.Programs.{Block}
use Rattle.pfc_semantics.specs.Remainders.{Context, Remainder, Action, turn, until, at_coend, choose, while_true, until_true, turns, joins}
use Rattle.pfc_semantics.specs.Alternatives.{context}
use Rattle.pfc_semantics.specs.Expressions.{from_expr}
use Rattle.pfc_semantics.specs.Statements.{behind, again, from_until, from_stmt, from_stmts}
use Rattle.pfc_translation.specs.Sites.{Site, at_line, in_accept}
use Rattle.pfc_translation.specs.Codes.{nothing, ◌⨾◌, one, over, back as to_back}
use Rattle.pfc_translation.specs.Expressions.{expr_code}
use Rattle.pfc_translation.specs.Selects.{entry_of, accept_cell, accept_cells}
use Rattle.pfc_translation.specs.Statements.{stmt_code, stmts_code}
use Rattle.pfc_standing_code.specs.Shapes.{a_number}
use Rattle.pfc_standing_code.specs.Settings.{Setting, of_own, site_of, IsAt, Stands, arrived}
use Rattle.pfc_standing_code.specs.Words.{IsChecked}
use Rattle.pfc_standing_code.specs.Performs.{StmtAt, StmtsAt, Performs}
use Rattle.pfc_standing_code.specs.Following.{of_loop, Follows, arrives}
use Rattle.pfc_standing_code.proofs.Accepts.{see_accepts, sees_inside}
use Rattle.pfc_standing_code.proofs.Sizes.{sized_expr, sized_stmt, sized_stmts}
use Rattle.pfc_following_expressions.proofs.Glue.{room_for, front, back, head, lone, tail, stands_moved}
use Rattle.pfc_following_expressions.proofs.Held.{held_grown, expr_changes}
use Rattle.pfc_following_expressions.proofs.Moves.{fits, next_move, test_move, jump_move, follows_moved}
use Rattle.pfc_following_expressions.proofs.Expressions.{env_in}
use Rattle.pfc_following_expressions.proofs.Anywhere.{expression_follows}
use Rattle.pfc_following_statements.proofs.HeldStatements.{stmt_changes, stmts_change}
use Rattle.pfc_following_source.proofs.selects.Jumps.{performs_jumped, stands_alone}
use Rattle.pfc_following_source.specs.structures.Structured.{StatementFollows, StatementsFollow}

module _ (g : Setting) (b : Block) (names : List Level) (around : Around) (checked : IsChecked g b (env_in g names around)) (few : 0 ≤ g.arms)
    (own : g.trial ≡ of_own) where
  abbrev pub env : Env
  env = env_in g names around

  abbrev pub site : ℕ → Site
  site line = site_of g b (record { env = env_in g names around; line = line })

  abbrev pub left : ℕ → List ℤ → Remainder → Type 0
  left at ops k = Performs g b (env_in g names around) at ops [] k

  pub moved : (at to : ℕ) (ops : List ℤ) (k : Remainder) → at ≡ to → left at ops k → left to ops k
  moved at to ops k e h = subst (λ (y : ℕ). Performs g b (env_in g names around) y ops [] k) e h

  -- ## Nothing, and statements one behind the other

  pub empty_follows : StatementFollows g b env empty
  empty_follows line m k go at n to ops is e rest on = follows_moved g [] few to at (sym e ∙ omega arith) on

  pub null_follows : (p : Place) → StatementFollows g b env (null p)
  null_follows p line m k go at n to ops is e rest on = follows_moved g [] few to at (sym e ∙ omega arith) on

  pub block_follows : (ts : StmtTrees) (first last p : Place) → StatementsFollow g b env ts → StatementFollows g b env (block (body ts first last) p)
  block_follows ts first last p inner line m k go at n to ops is e rest on =
      inner line m k go at n to ops (record { typed = is.typed; code = is.code; accepts = see_accepts g (site line) ts is.accepts })
      e rest on

  pub none_follow : StatementsFollow g b env no_stmts
  none_follow line m k go at n to ops is e rest on = follows_moved g [] few to at (sym e ∙ omega arith) on

  -- what is left behind the first of some statements
  behind_left : (line m : ℕ) (ts : StmtTrees) (k : Remainder) (at n to : ℕ) (ops : List ℤ) → StmtsAt g (site line) at n (length ops) m ts →
      at + (stmts_code (site line) m ts).size ≡ to → left to ops k → left at ops (behind m ts k)
  behind_left line m no_stmts k at n to ops is e rest = moved to at ops k (sym e ∙ omega arith) rest
  behind_left line m (more_stmts t ts) k at n to ops is e rest =
      ((own, refl), (at, arrived at, (line, (n, is, moved to (at + (stmts_code (site line) m (more_stmts t ts)).size) ops k (sym e) rest))))

  pub more_follow : (t : StmtTree) (ts : StmtTrees) → StatementFollows g b env t → StatementsFollow g b env ts → StatementsFollow g b env (more_stmts t ts)
  more_follow t ts one_follows others_follow line m k go at n to ops is e rest on =
      let first = stmt_code (site line) m t in
      let next = m + scopes_in t in
      let others = stmts_code (site line) next ts in
      let mid = at + first.size in
      let held = stmt_changes t (site line) m checked.sound is.typed.0 in
      let code = back g first others (length ops) (sized_stmt (site line) m t) (held_grown g.program first 0 held at n (length ops) ∙ omega arith) is.code in
      let others_at : StmtsAt g (site line) mid (n + length first.texts) (length ops) next ts =
      record { typed = is.typed.1; code = code; accepts = see_accepts g (site line) ts is.accepts } in
      let end : mid + others.size ≡ to = omega arith in
      one_follows line m (behind next ts k) (from_stmts env next ts k go) at n mid ops
      (record { typed = is.typed.0; code = front g first others is.code; accepts = is.accepts }) refl
      (behind_left line next ts k mid (n + length first.texts) to ops others_at end rest)
      (others_follow line next k go mid (n + length first.texts) to ops others_at end rest on)

  -- ## If

  pub if_follows : (e : ExprTree) (t : StmtTree) (p : Place) → StatementFollows g b env t → StatementFollows g b env (if_then e t p)
  if_follows e t p inner line m k go at n to ops is whole_end rest on =
      let s = site p.line in
      let x : Context = record { env = env_in g names around; line = p.line } in
      let test = expr_code s e in
      let yes = stmt_code s m t in
      let mid = at + test.size in
      let i = n + length test.texts in
      let end = mid + 1 + yes.size in
      let behind = back g test (over s JF yes.size ⨾ yes) (suc (length ops)) (sized_expr s e)
      (held_grown g.program test 1 (expr_changes s checked.sound e a_number is.typed.0) at n (length ops) ∙ omega arith) is.code in
      let third = tail g s (λ at k. JF (at + 1 + yes.size)) yes (length ops) (omega arith) behind in
      let is_test = head g s (λ at k. JF (at + 1 + yes.size)) yes behind in
      let inner_at : StmtAt g s (mid + 1) (i + 0) (length ops) m t = record { typed = is.typed.1; code = third; accepts = is.accepts } in
      let ended : to ≡ end = omega arith in
      let up : mid < end = omega arith in
      let here = moved to end ops k ended rest in
      let none : Stands g end 0 (length ops) nothing = record { has = tt; texts = tt; room = room_for g third; arms = few } in
      expression_follows g b x checked [] few e a_number is.typed.0 (choose m t empty k) (λ v. if is_true (ordinal_of v) then
      from_stmt env m t k go else go) at n ops (front g test (over s JF yes.size ⨾ yes) is.code) (
        (own, refl),
        (
          refl,
          end,
          is_test,
          up,
          (i + 0, inner_at, here),
          (0, record { typed = tt; code = none; accepts = is.accepts }, moved end (end + 0) ops k (omega arith) here),
        ),
      )
      (λ v simple. test_move g [] few v (from_stmt env m t k go) go mid ops end p.line is_test up (room_for g third)
      (inner p.line m k go (mid + 1) (i + 0) end ops inner_at refl here (follows_moved g [] few to end ended on)) (follows_moved g [] few to end ended on))

  pub if_else_follows : (e : ExprTree) (t u : StmtTree) (p : Place) → StatementFollows g b env t → StatementFollows g b env u →
      StatementFollows g b env (if_then_else e t u p)
  if_else_follows e t u p inner other line m k go at n to ops is whole_end rest on =
      let s = site p.line in
      let x : Context = record { env = env_in g names around; line = p.line } in
      let test = expr_code s e in
      let yes = stmt_code s m t in
      let next = m + scopes_in t in
      let no = stmt_code s next u in
      let last = over s JMP no.size ⨾ no in
      let whole = over s JF (yes.size + 1) ⨾ yes ⨾ last in
      let mid = at + test.size in
      let i = n + length test.texts in
      let y = mid + 1 + yes.size in
      let from = mid + 1 + (yes.size + 1) in
      let end = y + 1 + no.size in
      let j = i + 0 + length yes.texts in
      let behind = back g test whole (suc (length ops)) (sized_expr s e)
      (held_grown g.program test 1 (expr_changes s checked.sound e a_number is.typed.0) at n (length ops) ∙ omega arith) is.code in
      let third = tail g s (λ at k. JF (at + 1 + (yes.size + 1))) (yes ⨾ last) (length ops) (omega arith) behind in
      let is_test = head g s (λ at k. JF (at + 1 + (yes.size + 1))) (yes ⨾ last) behind in
      let fourth = back g yes last (length ops) (sized_stmt s m t) (held_grown g.program yes 0 (stmt_changes t s m checked.sound is.typed.1) (mid + 1)
      (i + 0) (length ops) ∙ omega arith) third in
      let fifth = tail g s (λ at k. JMP (at + 1 + no.size)) no (length ops) (omega arith) fourth in
      let is_jump = head g s (λ at k. JMP (at + 1 + no.size)) no fourth in
      let yes_at : StmtAt g s (mid + 1) (i + 0) (length ops) m t = record { typed = is.typed.1; code = front g yes last third; accepts = is.accepts } in
      let same : y + 1 ≡ from = omega arith in
      let no_at : StmtAt g s from (j + 0) (length ops) next u =
      record { typed = is.typed.2; code = stands_moved g from same fifth; accepts = is.accepts } in
      let ended : to ≡ end = omega arith in
      let no_end : from + no.size ≡ end = omega arith in
      let up : mid < from = omega arith in
      let jump_up : y < end = omega arith in
      let here = moved to end ops k ended rest in
      let on_end = follows_moved g [] few to end ended on in
      let yes_left = performs_jumped g b (env_in g names around) k y end ops [] p.line is_jump jump_up here in
      expression_follows g b x checked [] few e a_number is.typed.0 (choose m t u k) (λ v. if is_true (ordinal_of v) then
      from_stmt env m t k go else from_stmt env next u k go) at n ops (front g test whole is.code)
      ((own, refl), (refl, from, is_test, up, (i + 0, yes_at, yes_left), (j + 0, no_at, moved end (from + no.size) ops k (sym no_end) here)))
      (λ v simple. test_move g [] few v (from_stmt env m t k go) (from_stmt env next u k go) mid ops from p.line is_test up (room_for g third)
      (inner p.line m k go (mid + 1) (i + 0) y ops yes_at refl yes_left (jump_move g [] few y end ops p.line is_jump jump_up (room_for g fifth) on_end))
      (other p.line next k go from (j + 0) end ops no_at no_end here on_end))

  -- ## Loops

  -- a loop stands once more
  pub again_left : (line m : ℕ) (t : StmtTree) (k : Remainder) (at n : ℕ) (ops : List ℤ) → StmtAt g (site line) at n (length ops) m t →
      left (at + (stmt_code (site line) m t).size) ops k → left at ops (again m t k)
  again_left line m t k at n ops is rest =
      let code = stmt_code (site line) m t in
      let all : StmtsAt g (site line) at n (length ops) m (more_stmts t no_stmts) =
      record { typed = (is.typed, tt); code = stands_alone g at n (length ops) code is.code; accepts = is.accepts } in
      ((own, refl), (at, arrived at, (line, (n, all, moved (at + code.size) (at + (code ⨾ nothing).size) ops k (omega arith) rest))))

  pub turns_follow :
      (line mine m : ℕ) (t : StmtTree) (k : Remainder) (at a n : ℕ) (ops : List ℤ)
      → IsAt g at (TURN a) mine → StmtAt g (site line) a n (length ops) m t → left (a + (stmt_code (site line) m t).size) ops k
      → Follows g (turns (context env mine) (again m t k)) at ops []
  turns_follow line mine m t k at a n ops turn_is is rest =
      arrives at ops [] (b, checked, ((own, refl), of_loop a turn_is (again_left line m t k a n ops is rest)))

  pub forever_follows : (ts : StmtTrees) (p : Place) → StatementsFollow g b env ts → StatementFollows g b env (repeat_forever ts p)
  forever_follows ts p inner line m k go at n to ops is whole_end rest on =
      let s = site p.line in
      let loop = repeat_forever ts p in
      let code = stmts_code s m ts in
      let mid = at + code.size in
      let back_to : mid - code.size ≡ at = omega arith in
      let last = back g code (to_back s TURN code.size) (length ops) (sized_stmts s m ts)
      (held_grown g.program code 0 (stmts_change ts s m checked.sound is.typed) at n (length ops) ∙ omega arith) is.code in
      let turn_is : IsAt g mid (TURN at) p.line = subst (λ (y : ℕ). IsAt g mid (TURN y) p.line) back_to (lone g s (λ at k. TURN (at - code.size)) last) in
      let whole = moved to (at + (stmt_code (site line) m loop).size) ops k (sym whole_end) rest in
      inner p.line m (turn m loop k) (turns (context env p.line) (again m loop k)) at n mid ops (record {
        typed = is.typed;
        code =
            front g code (to_back s TURN code.size) is.code;
        accepts = see_accepts g s ts is.accepts;
      }) refl
      ((own, refl), (mid, arrived mid, (line, at, turn_is, (n, is, whole))))
      (turns_follow line p.line m loop k mid at n ops turn_is is whole)

  -- behind the test of a `while`
  pub while_tested :
      (e : ExprTree) (t : StmtTree) (p : Place) → StatementFollows g b env t → (line m : ℕ) (k : Remainder) (go : Action) (a n : ℕ) (ops : List ℤ) (v : ℤ)
      → StmtAt g (site line) a n (length ops) m (while_do e t p) → left (a + (stmt_code (site line) m (while_do e t p)).size) ops k →
      Follows g go (a + (stmt_code (site line) m (while_do e t p)).size) ops []
      → Follows g (if is_true v then from_stmt env m t (turn m (while_do e t p) k) (turns (context env p.line) (again m (while_do e t p) k)) else go)
      (a + (expr_code (site p.line) e).size) (v ∷ ops) []
  while_tested e t p inner line m k go a n ops v is rest on =
      let s = site p.line in
      let loop = while_do e t p in
      let test = expr_code s e in
      let yes = stmt_code s m t in
      let count = test.size + 1 + yes.size in
      let turn_code = to_back s TURN count in
      let mid = a + test.size in
      let i = n + length test.texts in
      let y = mid + 1 + yes.size in
      let out = mid + 1 + (yes.size + 1) in
      let behind = back g test (over s JF (yes.size + 1) ⨾ yes ⨾ turn_code) (suc (length ops)) (sized_expr s e)
      (held_grown g.program test 1 (expr_changes s checked.sound e a_number is.typed.0) a n (length ops) ∙ omega arith) is.code in
      let third = tail g s (λ at k. JF (at + 1 + (yes.size + 1))) (yes ⨾ turn_code) (length ops) (omega arith) behind in
      let is_test = head g s (λ at k. JF (at + 1 + (yes.size + 1))) (yes ⨾ turn_code) behind in
      let last = back g yes turn_code (length ops) (sized_stmt s m t) (held_grown g.program yes 0 (stmt_changes t s m checked.sound is.typed.1) (mid + 1)
      (i + 0) (length ops) ∙ omega arith) third in
      let back_to : y - count ≡ a = omega arith in
      let turn_is : IsAt g y (TURN a) p.line = subst (λ (z : ℕ). IsAt g y (TURN z) p.line) back_to (lone g s (λ at k. TURN (at - count)) last) in
      let inner_at : StmtAt g s (mid + 1) (i + 0) (length ops) m t =
      record { typed = is.typed.1; code = front g yes turn_code third; accepts = is.accepts } in
      let same : a + (stmt_code (site line) m loop).size ≡ out = omega arith in
      test_move g [] few v (from_stmt env m t (turn m loop k) (turns (context env p.line) (again m loop k))) go mid ops out p.line is_test (omega arith)
      (room_for g third)
      (inner p.line m (turn m loop k) (turns (context env p.line) (again m loop k)) (mid + 1) (i + 0) y ops inner_at refl
      ((own, refl), (y, arrived y, (line, a, turn_is, (n, is, rest)))) (turns_follow line p.line m loop k y a n ops turn_is is rest))
      (follows_moved g [] few (a + (stmt_code (site line) m loop).size) out same on)

  pub while_follows : (e : ExprTree) (t : StmtTree) (p : Place) → StatementFollows g b env t → StatementFollows g b env (while_do e t p)
  while_follows e t p inner line m k go at n to ops is whole_end rest on =
      let x : Context = record { env = env_in g names around; line = p.line } in
      let loop = while_do e t p in
      let s = site p.line in
      let test = expr_code s e in
      let yes = stmt_code s m t in
      let others = over s JF (yes.size + 1) ⨾ yes ⨾ to_back s TURN (test.size + 1 + yes.size) in
      let size = (stmt_code (site line) m loop).size in
      let whole = moved to (at + size) ops k (sym whole_end) rest in
      let on_end = follows_moved g [] few to (at + size) (sym whole_end) on in
      expression_follows g b x checked [] few e a_number is.typed.0 (while_true m e t p k)
      (λ v. if is_true (ordinal_of v) then
      from_stmt env m t (turn m loop k) (turns (context env p.line) (again m loop k)) else go) at n ops (front g test others is.code)
      ((own, refl), (refl, refl, line, at, refl, (n, is, whole)))
      (λ v simple. while_tested e t p inner line m k go at n ops v is whole on_end)

  inverse_true : (r : Bool) → is_true (truth (not r)) ≡ not r
  inverse_true true = refl
  inverse_true false = refl

  turned_round : (r : Bool) (y z : Action) → (if not r then y else z) ≡ (if r then z else y)
  turned_round true y z = refl
  turned_round false y z = refl

  -- behind the test of a `repeat`
  pub tested_follows :
      (ts : StmtTrees) (e : ExprTree) (p : Place) (line m : ℕ) (k : Remainder) (go : Action) (a n : ℕ) (ops : List ℤ) (v : ℤ)
      → StmtAt g (site line) a n (length ops) m (repeat_until ts e p) → left (a + (stmt_code (site line) m (repeat_until ts e p)).size) ops k →
      Follows g go (a + (stmt_code (site line) m (repeat_until ts e p)).size) ops []
      → Follows g (from_until (context env p.line) m (repeat_until ts e p) k go (ordinal v)) (a + (stmts_code (site p.line) m ts).size +
      (expr_code (site p.line) e).size) (v ∷ ops) []
  tested_follows ts e p line m k go a n ops v is rest on =
      let s = site p.line in
      let loop = repeat_until ts e p in
      let inner = stmts_code s m ts in
      let test = expr_code s e in
      let count = inner.size + test.size + 2 in
      let turn_code = to_back s TURN count in
      let jump_code = over s JF 1 ⨾ turn_code in
      let mid = a + inner.size in
      let right = mid + test.size in
      let out = right + 1 + 1 + 1 in
      let i = n + length inner.texts in
      let behind = back g inner (test ⨾ one s NOT ⨾ jump_code) (length ops) (sized_stmts s m ts)
      (held_grown g.program inner 0 (stmts_change ts s m checked.sound is.typed.0) a n (length ops) ∙ omega arith) is.code in
      let third = back g test (one s NOT ⨾ jump_code) (suc (length ops)) (sized_expr s e)
      (held_grown g.program test 1 (expr_changes s checked.sound e a_number is.typed.1) mid i (length ops) ∙ omega arith) behind in
      let fourth = tail g s (λ at k. NOT) jump_code (suc (length ops)) (omega arith) third in
      let fifth = tail g s (λ at k. JF (at + 1 + 1)) turn_code (length ops) (omega arith) fourth in
      let is_not = head g s (λ at k. NOT) jump_code third in
      let is_test = head g s (λ at k. JF (at + 1 + 1)) turn_code fourth in
      let back_to : right + 1 + 1 - count ≡ a = omega arith in
      let turn_is : IsAt g (right + 1 + 1) (TURN a) p.line =
      subst (λ (z : ℕ). IsAt g (right + 1 + 1) (TURN z) p.line) back_to (lone g s (λ at k. TURN (at - count)) fifth) in
      let same : a + (stmt_code (site line) m loop).size ≡ out = omega arith in
      let turning = turns (context env p.line) (again m loop k) in
      let either : from_until (context env p.line) m loop k go (ordinal v) ≡ (if is_true (inverse_of v) then turning else go) =
      sym (ap (λ (r : Bool). if r then turning else go) (inverse_true (is_true v)) ∙ turned_round (is_true v) turning go) in
      subst (λ (y : Action). Follows g y right (v ∷ ops) []) (sym either)
      (next_move g [] few right (v ∷ ops) NOT p.line (inverse_of v ∷ ops) is_not (fits g [] NOT (v ∷ ops) (omega arith) tt tt) refl (room_for g fourth)
      (test_move g [] few (inverse_of v) turning go (right + 1) ops out p.line is_test (omega arith) (room_for g fifth)
      (turns_follow line p.line m loop k (right + 1 + 1) a n ops turn_is is rest)
      (follows_moved g [] few (a + (stmt_code (site line) m loop).size) out same on)))

  pub repeat_follows : (ts : StmtTrees) (e : ExprTree) (p : Place) → StatementsFollow g b env ts → StatementFollows g b env (repeat_until ts e p)
  repeat_follows ts e p inner line m k go at n to ops is whole_end rest on =
      let x : Context = record { env = env_in g names around; line = p.line } in
      let s = site p.line in
      let loop = repeat_until ts e p in
      let code = stmts_code s m ts in
      let test = expr_code s e in
      let size = (stmt_code (site line) m loop).size in
      let last = one s NOT ⨾ over s JF 1 ⨾ to_back s TURN (code.size + test.size + 2) in
      let mid = at + code.size in
      let i = n + length code.texts in
      let whole = moved to (at + size) ops k (sym whole_end) rest in
      let on_end = follows_moved g [] few to (at + size) (sym whole_end) on in
      let behind = back g code (test ⨾ last) (length ops) (sized_stmts s m ts)
      (held_grown g.program code 0 (stmts_change ts s m checked.sound is.typed.0) at n (length ops) ∙ omega arith) is.code in
      inner p.line m (until m ts e p k) (from_expr x e (until_true m ts e p k) (from_until x m loop k go)) at n mid ops (record {
        typed = is.typed.0;
        code =
            front g code (test ⨾ last) is.code;
        accepts = see_accepts g s ts is.accepts;
      }) refl
      ((own, refl), (mid, arrived mid, (line, at, refl, (n, is, whole))))
      (expression_follows g b x checked [] few e a_number is.typed.1 (until_true m ts e p k) (from_until x m loop k go) mid i ops (front g test last behind)
      ((own, refl), (refl, refl, line, at, refl, (n, is, whole)))
      (λ v simple. tested_follows ts e p line m k go at n ops v is whole on_end))

  -- the test of a `repeat`, behind its statements
  pub until_follows :
      (ts : StmtTrees) (e : ExprTree) (p : Place) (line m : ℕ) (k : Remainder) (go : Action) (at n : ℕ) (ops : List ℤ)
      → StmtAt g (site line) at n (length ops) m (repeat_until ts e p) → left (at + (stmt_code (site line) m (repeat_until ts e p)).size) ops k →
      Follows g go (at + (stmt_code (site line) m (repeat_until ts e p)).size) ops []
      → Follows g (from_expr (context env p.line) e (until_true m ts e p k) (from_until (context env p.line) m (repeat_until ts e p) k go))
      (at + (stmts_code (site p.line) m ts).size) ops []
  until_follows ts e p line m k go at n ops is rest on =
      let x : Context = record { env = env_in g names around; line = p.line } in
      let s = site p.line in
      let loop = repeat_until ts e p in
      let code = stmts_code s m ts in
      let test = expr_code s e in
      let last = one s NOT ⨾ over s JF 1 ⨾ to_back s TURN (code.size + test.size + 2) in
      let behind = back g code (test ⨾ last) (length ops) (sized_stmts s m ts)
      (held_grown g.program code 0 (stmts_change ts s m checked.sound is.typed.0) at n (length ops) ∙ omega arith) is.code in
      expression_follows g b x checked [] few e a_number is.typed.1 (until_true m ts e p k) (from_until x m loop k go) (at + code.size)
      (n + length code.texts) ops (front g test last behind)
      ((own, refl), (refl, refl, line, at, refl, (n, is, rest)))
      (λ v simple. tested_follows ts e p line m k go at n ops v is rest on)

  -- ## Cobegin and accept

  pub cobegin_follows : (ts : StmtTrees) (last p : Place) → StatementsFollow g b env ts → StatementFollows g b env (cobegin ts last p)
  cobegin_follows ts last p inner line m k go at n to ops is whole_end rest on =
      let s = site line in
      let code = stmts_code s m ts in
      let mid = at + code.size in
      let joining = back g code (one (at_line s last.line) COEND) (length ops) (sized_stmts s m ts)
      (held_grown g.program code 0 (stmts_change ts s m checked.sound is.typed) at n (length ops) ∙ omega arith) is.code in
      let coend_is = lone g (at_line s last.line) (λ at n. COEND) joining in
      let after = moved to (mid + 1) ops k (sym whole_end ∙ omega arith) rest in
      inner line m (at_coend last.line k) (joins (context env last.line) k) at n mid ops (record {
        typed = is.typed;
        code =
            front g code (one (at_line s last.line) COEND) is.code;
        accepts = see_accepts g s ts is.accepts;
      }) refl
      ((own, refl), (mid, arrived mid, (coend_is, after)))
      (arrives mid ops [] (b, checked, ((own, refl), (coend_is, after))))

  -- the end of an accept, and nothing behind it
  accept_ended : (line : ℕ) (k : Remainder) (at i : ℕ) (ops : List ℤ) → Stands g at i (length ops) (one (site line) EACC) → left (at + 1) ops k
      → IsAt g at EACC line × ((n : ℕ) × StmtsAt g (site line) (at + 1) n (length ops) 0 no_stmts × left (at + 1 + 0) ops k)
  accept_ended line k at i ops st rest =
      let none : Stands g (at + 1) 0 (length ops) nothing = record { has = tt; texts = tt; room = room_for g st; arms = few } in
      (lone g (site line) (λ at n. EACC) st, (0, record { typed = tt; code = none; accepts = tt }, moved (at + 1) (at + 1 + 0) ops k (omega arith) rest))

  pub accept_follows : (a : AcceptTree) (p : Place) → StatementFollows g b env (accepting a p)
  accept_follows (accept y gs q) p line m k go at n to ops is whole_end rest on =
      let s = site p.line in
      let i = ACC (entry_of s (accept y gs q)) (accept_cell s m) (accept_cells s m) in
      let behind = tail g s (λ at n. i) (nothing ⨾ one s EACC) (length ops) (omega arith) is.code in
      let none : Stands g (at + 1) (n + 0) (length ops) nothing = front g nothing (one s EACC) behind in
      let last = back g nothing (one s EACC) (length ops) (λ at n. refl) refl behind in
      let after = moved to (at + 1 + 0 + 1) ops k (sym whole_end ∙ omega arith) rest in
      arrives at ops [] (
        b,
        checked,
        (
          (own, refl),
          (
            (refl, refl),
            (
              head g s (λ at n. i) (nothing ⨾ one s EACC) is.code,
              (
                is.typed,
                (
                  n + 0,
                  record { typed = tt; code = none; accepts = sees_inside g s m is.accepts },
                  accept_ended p.line k (at + 1 + 0) (n + 0 + 0) ops last after,
                ),
                is.accepts,
              ),
            ),
          ),
        ),
      )
  accept_follows (accept_do y gs t q) p line m k go at n to ops is whole_end rest on =
      let s = site p.line in
      let i = ACC (entry_of s (accept_do y gs t q)) (accept_cell s m) (accept_cells s m) in
      let inner = stmt_code (in_accept s m) (m + 1) t in
      let behind = tail g s (λ at n. i) (inner ⨾ one s EACC) (length ops) (omega arith) is.code in
      let last = back g inner (one s EACC) (length ops) (sized_stmt (in_accept s m) (m + 1) t)
      (held_grown g.program inner 0 (stmt_changes t (in_accept s m) (m + 1) checked.sound is.typed.1) (at + 1) (n + 0) (length ops)
      ∙ omega arith) behind in
      let after = moved to (at + 1 + inner.size + 1) ops k (sym whole_end ∙ omega arith) rest in
      arrives at ops [] (
        b,
        checked,
        (
          (own, refl),
          (
            (refl, refl),
            (
              head g s (λ at n. i) (inner ⨾ one s EACC) is.code,
              (
                is.typed.0,
                (
                  n + 0,
                  record { typed = is.typed.1; code = front g inner (one s EACC) behind; accepts = sees_inside g s m is.accepts },
                  accept_ended p.line k (at + 1 + inner.size)
                      (n + 0 + length inner.texts) ops last after,
                ),
                is.accepts,
              ),
            ),
          ),
        ),
      )
