-- The code of predeclared procedures on semaphores and conditions, and of `sleep`, follows the next action of its source text.
use Rattle.std.proofs.Common.{◌≡◌, ℕ, suc, ◌+◌, ◌≤◌, ℤ, pos, true, List, [], ◌∷◌, length, Option, Some, None, refl, sym, ◌∙◌, arith}
use Rattle.pfc_code.specs.declared.instructions.Instr.TheVariants.{LIT, SINI, SWAIT, SSIG, DELAY, RESUME, SLEEP}
use Rattle.pfc_tree.specs.trees.Exprs.{ExprTree, ActualTrees}
use Rattle.pfc_types.specs.Types.{semaphore, condition}
use Rattle.pfc_types.specs.Scopes.{Level}
use Rattle.pfc_types.specs.declared.types.TypeId.{TypeId}
use Rattle.pfc_types.specs.declared.view.Around.{Around}
use Rattle.pfc_semantics.specs.Values.{ordinal_of}
use Rattle.pfc_semantics.specs.Displays.{Spot, TypedSpot}
use Rattle.pfc_semantics.specs.Programs.{Block}
use Rattle.pfc_semantics.specs.Remainders.{Context, Remainder, AwaitsLocation, Action, initial_to, set_count, wait_at, signal_at, delay_at, delay_with}
use Rattle.pfc_semantics.specs.Remainders.{resume_at, sleep_for, initials, waits, signals, delays, resumes, sleeps}
use Rattle.pfc_semantics.specs.Expressions.{from_expr, from_reference, from_argument}
use Rattle.pfc_semantics.specs.Statements.{expr_of, behind_first, from_initial, from_delay, from_procedure}
use Rattle.pfc_semantics.specs.Predeclared.{Procedure, reader, writer, initial, wait, signal, delay, resume, sleep, no_procedure}
use Rattle.pfc_translation.specs.Sites.{Site}
use Rattle.pfc_translation.specs.Codes.{Code, ◌⨾◌, one}
use Rattle.pfc_translation.specs.Expressions.{expr_code, first_value, first_address}
use Rattle.pfc_translation.specs.Calls.{first_object, given_code, rank_code, procedure_code}
use Rattle.pfc_code_laws.proofs.Expressions.{plain_first, plain_first_address}
use Rattle.pfc_standing_code.specs.Shapes.{a_number, is_object_type}
use Rattle.pfc_standing_code.specs.Settings.{Setting, of_own, site_of, Stands}
use Rattle.pfc_standing_code.specs.Typed.{HasShape, IsGivenFirst, IsLentFirst}
use Rattle.pfc_standing_code.specs.TypedStatements.{IsNumber, IsRank, IsProcedure}
use Rattle.pfc_standing_code.specs.Words.{IsObject, IsChecked, LendsAt}
use Rattle.pfc_standing_code.specs.Performs.{Performs}
use Rattle.pfc_standing_code.specs.Awaits.{ObjectThen, TakesLocation}
use Rattle.pfc_standing_code.specs.Following.{Follows, arrives}
use Rattle.pfc_standing_code.proofs.Sizes.{sized_plain, sized_expr}
use Rattle.pfc_following_expressions.proofs.Glue.{room_after, front, back, head, lone, tail}
use Rattle.pfc_following_expressions.proofs.Held.{held_grown, expr_changes, first_changes, first_address_changes}
use Rattle.pfc_following_expressions.proofs.Moves.{fits, next_move, follows_moved}
use Rattle.pfc_following_expressions.proofs.Expressions.{env_in, first_lent, first_follows, reference_follows}
use Rattle.pfc_following_expressions.proofs.Anywhere.{expression_follows}
use Rattle.pfc_following_statements.proofs.Items.{writes_follow, reads_follow}
use Rattle.pfc_following_statements.proofs.Simple.{performs_moved, object_parts, numbered_follows}

module _ (g : Setting) (b : Block) (names : List Level) (around : Around) (checked : IsChecked g b (env_in g names around)) (few : 0 ≤ g.arms)
    (own : g.trial ≡ of_own) (line : ℕ) where
  abbrev x : Context
  x = record { env = env_in g names around; line = line }

  abbrev s : Site
  s = site_of g b x

  abbrev left : ℕ → List ℤ → Remainder → Type 0
  left at ops k = Performs g b (env_in g names around) at ops [] k

  -- An object, and code behind its number. What waits for its address, and how the code behind the number follows, are given.
  object_then :
      (args : ActualTrees) (t : TypeId) (code : Code) (goal : AwaitsLocation) → ((v : Spot) → LendsAt s v goal)
      → (go : TypedSpot → Action) (k : Remainder) (at n to : ℕ) (ops : List ℤ)
      → is_object_type g.program.state.forms (Some t) ≡ true → IsLentFirst s args (Some t) → Stands g at n (length ops) (first_object s args ⨾ code) →
      at + (first_object s args ⨾ code).size ≡ to → left to ops k
      → ((at : ℕ) → ObjectThen g s at ops code (λ end. left end ops k) → TakesLocation g b x at ops [] (Some t) goal)
      → ((v : TypedSpot) (at j : ℕ) (i : ℤ) → IsObject g s v.spot (Some t) i → Stands g at j (suc (length ops)) code →
      left (at + code.size) ops k → Follows g (go v) at (i ∷ ops) [])
      → Follows g (from_reference x args goal go) at ops []
  object_then args t code goal lends go k at n to ops object lent st ends rest met on =
      let address = first_address s args in
      let parts = object_parts g b names around checked few own line address code at n (length ops) (sized_plain address (plain_first_address s args))
      (first_address_changes s checked.sound args (Some t) lent) st in
      let mid = at + address.size in
      let after = performs_moved g b names around checked few own line to (mid + 1 + code.size) ops k (sym ends ∙ omega arith) rest in
      reference_follows g b names around checked line [] few own args (Some t) lent goal go at n mid ops parts.first refl
      (met mid (parts.obj, parts.i, parts.behind, after)) (lends (first_lent g b names around checked line [] few args))
      (λ v w lies named. numbered_follows g b names around checked few own line v.spot (Some t) w mid ops lies object parts.obj parts.room
      (λ i is. on v (mid + 1) parts.i i is parts.behind after))

  pub wait_follows :
      (args : ActualTrees) (k : Remainder) (at n to : ℕ) (ops : List ℤ)
      → IsLentFirst s args (Some semaphore) → Stands g at n (length ops) (first_object s args ⨾ one s SWAIT) →
      at + (first_object s args ⨾ one s SWAIT).size ≡ to → left to ops k
      → Follows g (from_reference x args (wait_at k) (λ v. waits x v.spot k)) at ops []
  wait_follows args k at n to ops lent st ends rest =
      object_then args semaphore (one s SWAIT) (wait_at k) (λ v. tt) (λ v. waits x v.spot k) k at n to ops refl lent st ends rest
      (λ at object. ((own, refl), (refl, object)))
      (λ v at j i is st rest. arrives at (i ∷ ops) [] (b, checked, ((own, refl), (i, ops, refl, is, lone g s (λ at n. SWAIT) st, rest))))

  pub signal_follows :
      (args : ActualTrees) (k : Remainder) (at n to : ℕ) (ops : List ℤ)
      → IsLentFirst s args (Some semaphore) → Stands g at n (length ops) (first_object s args ⨾ one s SSIG) →
      at + (first_object s args ⨾ one s SSIG).size ≡ to → left to ops k
      → Follows g (from_reference x args (signal_at k) (λ v. signals x v.spot k)) at ops []
  signal_follows args k at n to ops lent st ends rest =
      object_then args semaphore (one s SSIG) (signal_at k) (λ v. tt) (λ v. signals x v.spot k) k at n to ops refl lent st ends rest
      (λ at object. ((own, refl), (refl, object)))
      (λ v at j i is st rest. arrives at (i ∷ ops) [] (b, checked, ((own, refl), (i, ops, refl, is, lone g s (λ at n. SSIG) st, rest))))

  pub resume_follows :
      (args : ActualTrees) (k : Remainder) (at n to : ℕ) (ops : List ℤ)
      → IsLentFirst s args (Some condition) → Stands g at n (length ops) (first_object s args ⨾ one s RESUME) →
      at + (first_object s args ⨾ one s RESUME).size ≡ to → left to ops k
      → Follows g (from_reference x args (resume_at k) (λ v. resumes x v.spot k)) at ops []
  resume_follows args k at n to ops lent st ends rest =
      object_then args condition (one s RESUME) (resume_at k) (λ v. tt) (λ v. resumes x v.spot k) k at n to ops refl lent st ends rest
      (λ at object. ((own, refl), (refl, object)))
      (λ v at j i is st rest. arrives at (i ∷ ops) [] (b, checked, ((own, refl), (i, ops, refl, is, lone g s (λ at n. RESUME) st, rest))))

  -- the count of `initial`, behind its semaphore
  pub count_follows :
      (v : Spot) (e : ExprTree) (k : Remainder) (at j : ℕ) (i : ℤ) (ops : List ℤ)
      → HasShape s e a_number → IsObject g s v (Some semaphore) i → Stands g at j (suc (length ops)) (expr_code s e ⨾ one s SINI) →
      left (at + (expr_code s e ⨾ one s SINI).size) ops k
      → Follows g (from_expr x e (set_count v k) (λ c. initials x v (ordinal_of c) k)) at (i ∷ ops) []
  count_follows v e k at j i ops num is st rest =
      let code = expr_code s e in
      let last = back g code (one s SINI) (suc (suc (length ops))) (sized_expr s e)
      (held_grown g.program code 1 (expr_changes s checked.sound e a_number num) at j (suc (length ops)) ∙ omega arith) st in
      let sets = lone g s (λ at n. SINI) last in
      let after = performs_moved g b names around checked few own line (at + (code.size + 1)) (at + code.size + 1) ops k (omega arith) rest in
      expression_follows g b x checked [] few e a_number num (set_count v k) (λ c. initials x v (ordinal_of c) k) at j (i ∷ ops) (front g code (one s SINI) st)
      ((own, refl), (refl, i, ops, refl, is, sets, after))
      (λ c simple. arrives (at + code.size) (c ∷ i ∷ ops) [] (b, checked, ((own, refl), (i ∷ ops, refl, (i, ops, refl, is, sets, after)))))

  pub initial_follows :
      (args : ActualTrees) (e : ExprTree) (k : Remainder) (at n to : ℕ) (ops : List ℤ)
      → IsLentFirst s args (Some semaphore) → HasShape s e a_number → Stands g at n (length ops) (first_object s args ⨾ expr_code s e ⨾ one s SINI) →
      at + (first_object s args ⨾ expr_code s e ⨾ one s SINI).size ≡ to → left to ops k
      → Follows g (from_reference x args (initial_to e k) (λ v. from_expr x e (set_count v.spot k) (λ c. initials x v.spot (ordinal_of c) k))) at ops []
  initial_follows args e k at n to ops lent num st ends rest =
      object_then args semaphore (expr_code s e ⨾ one s SINI) (initial_to e k) (λ v. tt) (λ v. from_expr x e (set_count v.spot k)
      (λ c. initials x v.spot (ordinal_of c) k)) k at n to ops refl lent st ends rest
      (λ at object. ((own, refl), (refl, num, object)))
      (λ v at j i is st rest. count_follows v.spot e k at j i ops num is st rest)

  -- the rank of a `delay`, which is 0 where none is given
  pub rank_follows :
      (v : Spot) (rank : Option ExprTree) (k : Remainder) (at j : ℕ) (i : ℤ) (ops : List ℤ)
      → IsRank s rank → IsObject g s v (Some condition) i → Stands g at j (suc (length ops)) (rank_code s rank ⨾ one s DELAY) →
      left (at + (rank_code s rank ⨾ one s DELAY).size) ops k
      → Follows g (from_delay x v rank k) at (i ∷ ops) []
  rank_follows v None k at j i ops num is st rest =
      let last = tail g s (λ at n. LIT (pos 0)) (one s DELAY) (suc (suc (length ops))) (omega arith) st in
      let delays_it = lone g s (λ at n. DELAY) last in
      let after = performs_moved g b names around checked few own line (at + (1 + 1)) (at + 1 + 1) ops k (omega arith) rest in
      next_move g [] few at (i ∷ ops) (LIT (pos 0)) line (pos 0 ∷ i ∷ ops) (head g s (λ at n. LIT (pos 0)) (one s DELAY) st)
      (fits g [] (LIT (pos 0)) (i ∷ ops) (omega arith) tt tt) refl
      (room_after g (suc (suc (length ops))) (omega arith) (front g (one s (LIT (pos 0))) (one s DELAY) st))
      (arrives (at + 1) (pos 0 ∷ i ∷ ops) [] (b, checked, ((own, refl), (i ∷ ops, refl, (i, ops, refl, is, delays_it, after)))))
  rank_follows v (Some e) k at j i ops num is st rest =
      let code = expr_code s e in
      let last = back g code (one s DELAY) (suc (suc (length ops))) (sized_expr s e)
      (held_grown g.program code 1 (expr_changes s checked.sound e a_number num) at j (suc (length ops)) ∙ omega arith) st in
      let delays_it = lone g s (λ at n. DELAY) last in
      let after = performs_moved g b names around checked few own line (at + (code.size + 1)) (at + code.size + 1) ops k (omega arith) rest in
      expression_follows g b x checked [] few e a_number num (delay_with v k) (λ c. delays x v (ordinal_of c) k) at j (i ∷ ops) (front g code (one s DELAY) st)
      ((own, refl), (refl, i, ops, refl, is, delays_it, after))
      (λ c simple. arrives (at + code.size) (c ∷ i ∷ ops) [] (b, checked, ((own, refl), (i ∷ ops, refl, (i, ops, refl, is, delays_it, after)))))

  pub delay_follows :
      (args : ActualTrees) (rank : Option ExprTree) (k : Remainder) (at n to : ℕ) (ops : List ℤ)
      → IsLentFirst s args (Some condition) → IsRank s rank → Stands g at n (length ops) (first_object s args ⨾ rank_code s rank ⨾ one s DELAY) →
      at + (first_object s args ⨾ rank_code s rank ⨾ one s DELAY).size ≡ to → left to ops k
      → Follows g (from_reference x args (delay_at rank k) (λ v. from_delay x v.spot rank k)) at ops []
  delay_follows args rank k at n to ops lent num st ends rest =
      object_then args condition (rank_code s rank ⨾ one s DELAY) (delay_at rank k) (λ v. tt)
      (λ v. from_delay x v.spot rank k) k at n to ops refl lent st ends rest
      (λ at object. ((own, refl), (refl, num, object)))
      (λ v at j i is st rest. rank_follows v.spot rank k at j i ops num is st rest)

  pub sleep_follows :
      (args : ActualTrees) (k : Remainder) (at n to : ℕ) (ops : List ℤ)
      → IsGivenFirst s args → Stands g at n (length ops) (first_value s args ⨾ one s SLEEP) → at + (first_value s args ⨾ one s SLEEP).size ≡ to → left to ops k
      → Follows g (from_argument x args (sleep_for k) (λ c. sleeps x (ordinal_of c) k)) at ops []
  sleep_follows args k at n to ops is st ends rest =
      let code = first_value s args in
      let mid = at + code.size in
      let last = back g code (one s SLEEP) (suc (length ops)) (sized_plain code (plain_first s args))
      (held_grown g.program code 1 (first_changes s checked.sound args is) at n (length ops) ∙ omega arith) st in
      let sleeps_it = lone g s (λ at n. SLEEP) last in
      let after = performs_moved g b names around checked few own line to (mid + 1) ops k (sym ends ∙ omega arith) rest in
      first_follows g b names around checked line [] few args is (sleep_for k)
      (λ c. sleeps x (ordinal_of c) k) at n mid ops (front g code (one s SLEEP) st) refl
      ((own, refl), (refl, sleeps_it, after))
      (λ c simple. arrives mid (c ∷ ops) [] (b, checked, ((own, refl), (ops, refl, sleeps_it, after))))

  initial_by :
      (args : ActualTrees) (e : Option ExprTree) (k : Remainder) (go : Action) (at n to : ℕ) (ops : List ℤ)
      → IsLentFirst s args (Some semaphore) → IsNumber s e → Stands g at n (length ops) (first_object s args ⨾ given_code s e ⨾ one s SINI) →
      at + (first_object s args ⨾ given_code s e ⨾ one s SINI).size ≡ to → left to ops k
      → Follows g (from_initial x args k e go) at ops []
  initial_by args None k go at n to ops lent num st ends rest = absurd num
  initial_by args (Some e) k go at n to ops lent num st ends rest = initial_follows args e k at n to ops lent num st ends rest

  -- every predeclared procedure
  pub procedure_follows :
      (q : Procedure) (args : ActualTrees) (k : Remainder) (go : Action) (at n to : ℕ) (ops : List ℤ)
      → IsProcedure s q args → Stands g at n (length ops) (procedure_code s q args) →
      at + (procedure_code s q args).size ≡ to → left to ops k → Follows g go to ops []
      → Follows g (from_procedure x q args k go) at ops []
  procedure_follows (reader skip) args k go at n to ops is st ends rest on =
      reads_follow g b names around checked few own line args skip k go at n to ops is st ends rest on
  procedure_follows (writer newline) args k go at n to ops is st ends rest on =
      writes_follow g b names around checked few own line args newline k go at n to ops is st ends rest on
  procedure_follows initial args k go at n to ops is st ends rest on = initial_by args (expr_of (behind_first args)) k go at n to ops is.0 is.1 st ends rest
  procedure_follows wait args k go at n to ops is st ends rest on = wait_follows args k at n to ops is st ends rest
  procedure_follows signal args k go at n to ops is st ends rest on = signal_follows args k at n to ops is st ends rest
  procedure_follows delay args k go at n to ops is st ends rest on = delay_follows args (expr_of (behind_first args)) k at n to ops is.0 is.1 st ends rest
  procedure_follows resume args k go at n to ops is st ends rest on = resume_follows args k at n to ops is st ends rest
  procedure_follows sleep args k go at n to ops is st ends rest on = sleep_follows args k at n to ops is st ends rest
  procedure_follows no_procedure args k go at n to ops is st ends rest on = follows_moved g [] few to at (sym ends ∙ omega arith) on
