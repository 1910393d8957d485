-- Statements in which no rule is broken, with all statements in them. One induction over their forms.
use Rattle.std.proofs.Common.{◌≡◌, ℕ, ◌+◌, ◌<◌, ◌≤◌, Bool, true, false, not, ◌&&◌, nat_lt, nat_le, [], ◌∷◌, map, Option, refl, ap, sym, ◌∙◌, subst, arith}
use Rattle.std.proofs.lemmas.Bool.Decides.{nat_tests}
use Rattle.pfc_base.specs.declared.places.Place.{Place}
use Rattle.pfc_tree.specs.Symbols.{Text}
use Rattle.pfc_tree.specs.trees.Exprs.{ExprTree}
use Rattle.pfc_tree.specs.trees.Stmts.{StmtTree, StmtTrees, ArmTrees, AcceptTree, AltTrees, CommTree, empty, null, block, if_then, if_then_else, case_of}
use Rattle.pfc_tree.specs.trees.Stmts.{while_do, repeat_until, repeat_forever, for_do, cobegin, accepting, requeue, select, select_else, assign, send, receive}
use Rattle.pfc_tree.specs.trees.Stmts.{call, no_stmts, more_stmts, body, arm, no_arms, more_arms, accept, accept_do, alt, no_alts, more_alts, comm_accept}
use Rattle.pfc_tree.specs.trees.Stmts.{comm_send, comm_receive, timeout, terminate}
use Rattle.pfc_types.specs.declared.types.TypeId.{TypeId}
use Rattle.pfc_types.specs.Faults.{unless}
use Rattle.pfc_types.specs.Scopes.{meaning_of}
use Rattle.pfc_types.specs.Blocks.{State, entry_at}
use Rattle.pfc_types.specs.declared.scope.Meaning.{Meaning}
use Rattle.pfc_types.specs.declared.view.Around.{Around}
use Rattle.pfc_types.specs.rules.Kinds.{condition_rule, name_rules, an_entry}
use Rattle.pfc_types.specs.rules.Expressions.{find, expr_place, expr_type, broken_expr}
use Rattle.pfc_types.specs.rules.Calls.{broken_call}
use Rattle.pfc_types.specs.rules.Statements.{scopes_in, stmts_scopes, arm_scopes, arms_scopes, accept_scopes, comm_scopes, alt_scopes, alts_scopes}
use Rattle.pfc_types.specs.rules.Statements.{broken_labels, broken_for, broken_spread, broken_guard, broken_assign, broken_send, broken_receive, broken_requeue}
use Rattle.pfc_types.specs.rules.Statements.{cobegin_rule, accept_rules, within_accept, within_cobegin, select_rule, number_rule, ways_rule, else_rule}
use Rattle.pfc_types.specs.rules.Statements.{broken_stmt, broken_stmts, broken_arms, broken_accept, broken_alts, broken_comm}
use Rattle.pfc_types.proofs.Clean.{clean, and-left, and-right, clean-listed}
use Rattle.pfc_semantics.specs.Alternatives.{entry_number}
use Rattle.pfc_name_laws.specs.Reached.{formal_meaning}
use Rattle.pfc_translation.specs.Sites.{Site, at_line, in_accept, blocks_of}
use Rattle.pfc_standing_code.specs.Shapes.{a_number}
use Rattle.pfc_standing_code.specs.Typed.{HasShape}
use Rattle.pfc_standing_code.specs.TypedStatements.{IsComm, AcceptsEntry, IsTyped, AreTyped, AreArmsTyped, IsAcceptTyped, IsMetTyped, AreAltsTyped}
use Rattle.pfc_typed_phrases.proofs.Rules.{holds, never}
use Rattle.pfc_typed_statements.proofs.Anywhere.{assignments_typed, sends_typed, receives_typed, requeues_typed, calls_typed}
use Rattle.pfc_typed_structures.specs.Accepts.{FitsEntry, Fits, AllFit, ArmsFit, AcceptFits, CommFits, AltsFit, InProcess, IsOfProcess}
use Rattle.pfc_typed_structures.specs.Inside.{in_cobegin, IsInside, itself, lined, accepted, begun, AreMet, HasLabels, IsLabelled, AreLabelled, AreArmsLabelled}
use Rattle.pfc_typed_structures.specs.Inside.{IsAcceptLabelled, IsCommLabelled, AreAltsLabelled}
use Rattle.pfc_typed_structures.proofs.Cobegin.{out_of_cobegin}
use Rattle.pfc_typed_structures.proofs.Leaves.{number_of, condition_typed, guard_typed, timeout_typed, labels_typed, labelled_simple, for_typed, spread_typed}

-- a scope among those of the accepts of a block
accept_there : (next accepts n : ℕ) → next ≤ n → n < next + accepts → (nat_le next n && nat_lt n (next + accepts)) ≡ true
accept_there next accepts n low high = grind (arith, nat_tests)

not_true : (b : Bool) → not b ≡ true → b ≡ false
not_true true h = never h
not_true false h = refl

module _ (s : Site) (met : AreMet s) (process : ℕ) (own : InProcess s (IsOfProcess s process)) where
  -- in the body of a process so many scopes from number n on are those of accepts of the block
  abbrev IsRange : Around → ℕ → ℕ → Type 0
  IsRange a n k = a.process ≡ true → a.sub ≡ false → (s.block.next ≤ n) × (n + k ≤ s.block.next + s.block.accepts)

  fits_first : (a : Around) (n k m : ℕ) → IsRange a n (k + m) → IsRange a n k
  fits_first a n k m f p q = let few = f p q in let low = few.0 in let high = few.1 in (low, omega (arith, high))

  fits_then : (a : Around) (n k m : ℕ) → IsRange a n (k + m) → IsRange a (n + k) m
  fits_then a n k m f p q = let few = f p q in let low = few.0 in let high = few.1 in (omega (arith, low), omega (arith, high))

  -- the block of a place inside is that of the same process
  inside_own : (u : Site) → IsInside s u → InProcess u (IsOfProcess u process)
  inside_own u itself = own
  inside_own u (lined v n i) = λ a b. let is = inside_own v i a b in record { among = is.among; own = is.own }
  inside_own u (accepted v n there i) = λ a b. let is = inside_own v i a b in record { among = is.among; own = is.own }
  inside_own u (begun v i) = λ a b. let is = inside_own v i a b in record { among = is.among; own = is.own }

  -- an accept has an entry where the rules allow it
  accepted_entry :
      (u : Site) → IsInside s u → (n : ℕ) (x : Text) → FitsEntry u.env.state.blocks process u.env.view n x → IsOfProcess u process
      → AcceptsEntry (blocks_of u) u.block.scope (entry_number (meaning_of (find u.env x))) n
  accepted_entry u i n x fit is =
      let named = λ (m : Option Meaning). map formal_meaning (entry_at u.env.state.blocks process (entry_number m)) in
      subst (λ (z : State). AcceptsEntry z.blocks u.block.scope (entry_number (meaning_of (find u.env x))) n) (met.known u i).state
      (record { process = process; among = is.among; own = is.own; parameters = fit.parameters ∙ ap named (sym fit.named) })

  accept_allowed :
      (u : Site) (x : Text) (p q : Place) → clean (accept_rules u.env x p q) ≡ true → (u.env.around.process ≡ true) × (u.env.around.sub ≡ false)
  accept_allowed u x p q h =
      let named = clean (name_rules an_entry (meaning_of (find u.env x)) p) in
      let is = holds (u.env.around.process && not u.env.around.sub) q 414
      (and-left (clean (unless (u.env.around.process && not u.env.around.sub) q 414)) named h) in
      (and-left u.env.around.process (not u.env.around.sub) is, not_true u.env.around.sub (and-right u.env.around.process (not u.env.around.sub) is))

  -- what is chosen by a `case` is a number
  chosen_typed :
      (u : Site) → IsInside s u → (n : ℕ) (e : ExprTree) (arms : ArmTrees) → HasLabels arms → clean (broken_expr u.env e) ≡ true
      → clean (broken_arms u.env n (expr_type u.env e) arms) ≡ true → HasShape u e a_number
  chosen_typed u i n e no_arms has h k = absurd has
  chosen_typed u i n e (more_arms (arm [] t) arms) has h k = absurd has
  chosen_typed u i n e (more_arms (arm (l ∷ ls) t) arms) has h k =
      let labels = clean (broken_labels u.env (expr_type u.env e) (l ∷ ls)) in
      let inner = clean (broken_stmt u.env n t) in
      let others = clean (broken_arms u.env (n + arm_scopes (arm (l ∷ ls) t)) (expr_type u.env e) arms) in
      let first = and-left labels inner (and-left (labels && inner) others k) in
      number_of u (met.known u i) e h (λ t q. labelled_simple u (met.known u i) t l ls
      (subst (λ (o : Option TypeId). clean (broken_labels u.env o (l ∷ ls)) ≡ true) q first))

  comm_typed : (u : Site) → IsInside s u → (n : ℕ) (c : CommTree) → clean (broken_comm u.env n c) ≡ true → IsComm u c
  comm_typed u i n (comm_accept a p) h = tt
  comm_typed u i n (comm_send d e p) h = sends_typed u (met.known u i) (met.reached u i) d e p (clean-listed (broken_send u.env d e p) h)
  comm_typed u i n (comm_receive d v p) h = receives_typed u (met.known u i) (met.reached u i) d v p (clean-listed (broken_receive u.env d v p) h)
  comm_typed u i n (timeout e p) h = timeout_typed u (met.known u i) e h
  comm_typed u i n (terminate p) h = tt

  mutual
    stmt_typed :
        (t : StmtTree) (u : Site) → IsInside s u → (n : ℕ) → IsRange u.env.around n (scopes_in t)
        → InProcess u (Fits u.env.state.blocks process u.env.view n t) → IsLabelled t
        → clean (broken_stmt u.env n t) ≡ true → IsTyped u n t
    stmt_typed empty u i n r fit l h = tt
    stmt_typed (null p) u i n r fit l h = tt
    stmt_typed (block (body ss first last) p) u i n r fit l h = stmts_typed ss u i n r fit l h
    stmt_typed (if_then e t p) u i n r fit l h =
        let a = clean (broken_expr u.env e) in
        let b = clean (condition_rule (expr_type u.env e) (expr_place e)) in
        let c = clean (broken_stmt u.env n t) in
        let k = and-right a (b && c) h in
        let v = at_line u p.line in
        let j = lined u p.line i in
        (condition_typed v (met.known v j) e (and-left a (b && c) h) (and-left b c k), stmt_typed t v j n r fit l (and-right b c k))
    stmt_typed (if_then_else e t f p) u i n r fit l h =
        let a = clean (broken_expr u.env e) in
        let b = clean (condition_rule (expr_type u.env e) (expr_place e)) in
        let c = clean (broken_stmt u.env n t) in
        let d = clean (broken_stmt u.env (n + scopes_in t) f) in
        let k = and-right a (b && (c && d)) h in
        let q = and-right b (c && d) k in
        let v = at_line u p.line in
        let j = lined u p.line i in (
          condition_typed v (met.known v j) e (and-left a (b && (c && d)) h) (and-left b (c && d) k),
          stmt_typed t v j n (fits_first u.env.around n (scopes_in t) (scopes_in f) r) (λ a b. (fit a b).0) l.0 (and-left c d q),
          stmt_typed f v j (n + scopes_in t) (fits_then u.env.around n (scopes_in t) (scopes_in f) r) (λ a b. (fit a b).1) l.1 (and-right c d q),
        )
    stmt_typed (case_of e arms last p) u i n r fit l h =
        let a = clean (broken_expr u.env e) in
        let b = clean (broken_arms u.env n (expr_type u.env e) arms) in
        let v = at_line u p.line in
        let j = lined u p.line i in
        (chosen_typed v j n e arms l.0 (and-left a b h) (and-right a b h), arms_typed arms v j n (expr_type u.env e) r fit l.1 (and-right a b h))
    stmt_typed (while_do e t p) u i n r fit l h =
        let a = clean (broken_expr u.env e) in
        let b = clean (condition_rule (expr_type u.env e) (expr_place e)) in
        let c = clean (broken_stmt u.env n t) in
        let k = and-right a (b && c) h in
        let v = at_line u p.line in
        let j = lined u p.line i in
        (condition_typed v (met.known v j) e (and-left a (b && c) h) (and-left b c k), stmt_typed t v j n r fit l (and-right b c k))
    stmt_typed (repeat_until ss e p) u i n r fit l h =
        let a = clean (broken_stmts u.env n ss) in
        let b = clean (broken_expr u.env e) in
        let c = clean (condition_rule (expr_type u.env e) (expr_place e)) in
        let k = and-right a (b && c) h in
        let v = at_line u p.line in
        let j = lined u p.line i in
        (stmts_typed ss v j n r fit l (and-left a (b && c) h), condition_typed v (met.known v j) e (and-left b c k) (and-right b c k))
    stmt_typed (repeat_forever ss p) u i n r fit l h = stmts_typed ss (at_line u p.line) (lined u p.line i) n r fit l h
    stmt_typed (for_do x from down to t p q) u i n r fit l h =
        let a = clean (broken_for u.env x from to q) in
        let b = clean (broken_stmt u.env n t) in
        let v = at_line u p.line in
        let j = lined u p.line i in
        let f = for_typed v (met.known v j) x from to q (and-left a b h) in
        (f.0, f.1, f.2, stmt_typed t v j n r fit l (and-right a b h))
    stmt_typed (cobegin ss last p) u i n r fit l h =
        let inner = clean (broken_stmts (within_cobegin u.env) n ss) in
        out_of_cobegin u n ss (stmts_typed ss (in_cobegin u) (begun u i) n r fit l (and-right (clean (cobegin_rule u.env.around p)) inner h))
    stmt_typed (accepting a p) u i n r fit l h = accept_typed a (at_line u p.line) (lined u p.line i) n p r fit l h
    stmt_typed (requeue x args p) u i n r fit l h =
        let v = at_line u p.line in
        let j = lined u p.line i in
        requeues_typed v (met.known v j) (met.reached v j) x args p (clean-listed (broken_requeue v.env x args p) h)
    stmt_typed (select pri alts p q) u i n r fit l h =
        let a = clean (select_rule alts q) in
        let b = clean (number_rule u.env alts q) in
        let c = clean (ways_rule false alts) in
        let d = clean (broken_alts u.env n alts) in
        alts_typed alts (at_line u p.line) (lined u p.line i) n r fit l (and-right c d (and-right b (c && d) (and-right a (b && (c && d)) h)))
    stmt_typed (select_else pri alts ss at p q) u i n r fit l h =
        let a = clean (select_rule alts q) in
        let b = clean (number_rule u.env alts q) in
        let c = clean (ways_rule false alts) in
        let d = clean (broken_alts u.env n alts) in
        let e = clean (else_rule alts at) in
        let f = clean (broken_stmts u.env (n + alts_scopes alts) ss) in
        let k = and-right c (d && (e && f)) (and-right b (c && (d && (e && f))) (and-right a (b && (c && (d && (e && f)))) h)) in (
          alts_typed alts (at_line u p.line) (lined u p.line i) n (fits_first u.env.around n (alts_scopes alts) (stmts_scopes ss) r) (λ a b. (fit a b).0) l.0
              (and-left d (e && f) k),
          stmts_typed ss (at_line u p.line) (lined u p.line i) (n + alts_scopes alts) (fits_then u.env.around n (alts_scopes alts) (stmts_scopes ss) r)
              (λ a b. (fit a b).1)
              l.1 (and-right e f (and-right d (e && f) k)),
        )
    stmt_typed (assign d e p q) u i n r fit l h =
        let v = at_line u p.line in
        let j = lined u p.line i in
        assignments_typed v (met.known v j) (met.reached v j) d e q (clean-listed (broken_assign v.env d e q) h)
    stmt_typed (send d e p q) u i n r fit l h =
        let v = at_line u p.line in
        let j = lined u p.line i in
        sends_typed v (met.known v j) (met.reached v j) d e q (clean-listed (broken_send v.env d e q) h)
    stmt_typed (receive d z p q) u i n r fit l h =
        let v = at_line u p.line in
        let j = lined u p.line i in
        receives_typed v (met.known v j) (met.reached v j) d z q (clean-listed (broken_receive v.env d z q) h)
    stmt_typed (call d args p) u i n r fit l h =
        let v = at_line u p.line in
        let j = lined u p.line i in
        calls_typed v (met.known v j) (met.callable v j) d args (clean-listed (broken_call v.env d args) h)

    pub stmts_typed :
        (ts : StmtTrees) (u : Site) → IsInside s u → (n : ℕ) → IsRange u.env.around n (stmts_scopes ts)
        → InProcess u (AllFit u.env.state.blocks process u.env.view n ts) → AreLabelled ts
        → clean (broken_stmts u.env n ts) ≡ true → AreTyped u n ts
    stmts_typed no_stmts u i n r fit l h = tt
    stmts_typed (more_stmts t ts) u i n r fit l h =
        let a = clean (broken_stmt u.env n t) in
        let b = clean (broken_stmts u.env (n + scopes_in t) ts) in (
          stmt_typed t u i n (fits_first u.env.around n (scopes_in t) (stmts_scopes ts) r) (λ a b. (fit a b).0) l.0 (and-left a b h),
          stmts_typed ts u i (n + scopes_in t) (fits_then u.env.around n (scopes_in t) (stmts_scopes ts) r) (λ a b. (fit a b).1) l.1 (and-right a b h),
        )

    arms_typed :
        (arms : ArmTrees) (u : Site) → IsInside s u → (n : ℕ) (t : Option TypeId) → IsRange u.env.around n (arms_scopes arms)
        → InProcess u (ArmsFit u.env.state.blocks process u.env.view n arms) → AreArmsLabelled arms
        → clean (broken_arms u.env n t arms) ≡ true → AreArmsTyped u n arms
    arms_typed no_arms u i n t r fit l h = tt
    arms_typed (more_arms (arm ls k) arms) u i n t r fit l h =
        let a = clean (broken_labels u.env t ls) in
        let b = clean (broken_stmt u.env n k) in
        let c = clean (broken_arms u.env (n + arm_scopes (arm ls k)) t arms) in
        let first = and-left (a && b) c h in (
          labels_typed u (met.known u i) t ls (and-left a b first),
          stmt_typed k u i n (fits_first u.env.around n (scopes_in k) (arms_scopes arms) r) (λ a b. (fit a b).0) l.0 (and-right a b first),
          arms_typed arms u i (n + arm_scopes (arm ls k)) t (fits_then u.env.around n (scopes_in k) (arms_scopes arms) r) (λ a b. (fit a b).1) l.1
              (and-right (a && b) c h),
        )

    accept_typed :
        (a : AcceptTree) (u : Site) → IsInside s u → (n : ℕ) (q : Place) → IsRange u.env.around n (accept_scopes a)
        → InProcess u (AcceptFits u.env.state.blocks process u.env.view n a) → IsAcceptLabelled a
        → clean (broken_accept u.env n a q) ≡ true → IsAcceptTyped u n a
    accept_typed (accept x gs p) u i n q r fit l h =
        let is = accept_allowed u x p q h in accepted_entry u i n x (fit is.0 is.1) (inside_own u i is.0 is.1)
    accept_typed (accept_do x gs t p) u i n q r fit l h =
        let rules = clean (accept_rules u.env x p q) in
        let inner = clean (broken_stmt (within_accept u.env n) (n + 1) t) in
        let is = accept_allowed u x p q (and-left rules inner h) in
        let few = r is.0 is.1 in
        let low = few.0 in
        let high = few.1 in
        let there = accept_there s.block.next s.block.accepts n low (omega (arith, high)) in (
          accepted_entry u i n x (fit is.0 is.1).0 (inside_own u i is.0 is.1),
          stmt_typed t (in_accept u n) (accepted u n there i) (n + 1) (λ a b. (omega (arith, low), omega (arith, high))) (λ a b. (fit a b).1) l
              (and-right rules inner h),
        )

    met_typed :
        (c : CommTree) (u : Site) → IsInside s u → (n : ℕ) → IsRange u.env.around n (comm_scopes c)
        → InProcess u (CommFits u.env.state.blocks process u.env.view n c) → IsCommLabelled c
        → clean (broken_comm u.env n c) ≡ true → IsMetTyped u n c
    met_typed (comm_accept a p) u i n r fit l h = accept_typed a u i n p r fit l h
    met_typed (comm_send d e p) u i n r fit l h = tt
    met_typed (comm_receive d v p) u i n r fit l h = tt
    met_typed (timeout e p) u i n r fit l h = tt
    met_typed (terminate p) u i n r fit l h = tt

    alts_typed :
        (alts : AltTrees) (u : Site) → IsInside s u → (n : ℕ) → IsRange u.env.around n (alts_scopes alts)
        → InProcess u (AltsFit u.env.state.blocks process u.env.view n alts) → AreAltsLabelled alts
        → clean (broken_alts u.env n alts) ≡ true → AreAltsTyped u n alts
    alts_typed no_alts u i n r fit l h = tt
    alts_typed (more_alts (alt spread guard comm ss) alts) u i n r fit l h =
        let a = clean (broken_spread u.env spread) in
        let b = clean (broken_guard u.env guard) in
        let c = clean (broken_comm u.env n comm) in
        let d = clean (broken_stmts u.env (n + comm_scopes comm) ss) in
        let e = clean (broken_alts u.env (n + alt_scopes (alt spread guard comm ss)) alts) in
        let own = fits_first u.env.around n (comm_scopes comm + stmts_scopes ss) (alts_scopes alts) r in
        let k = and-left (a && (b && (c && d))) e h in
        let k1 = and-right a (b && (c && d)) k in
        let k2 = and-right b (c && d) k1 in (
          (
            spread_typed u (met.known u i) spread (and-left a (b && (c && d)) k),
            guard_typed u (met.known u i) guard (and-left b (c && d) k1),
            comm_typed u i n comm (and-left c d k2),
            met_typed comm u i n (fits_first u.env.around n (comm_scopes comm) (stmts_scopes ss) own)
                (λ a b. (fit a b).0) l.0.0 (and-left c d k2),
            stmts_typed ss u i (n + comm_scopes comm) (fits_then u.env.around n (comm_scopes comm) (stmts_scopes ss) own)
                (λ a b. (fit a b).1) l.0.1 (and-right c d k2),
          ),
          alts_typed alts u i (n + alt_scopes (alt spread guard comm ss))
              (fits_then u.env.around n (comm_scopes comm + stmts_scopes ss) (alts_scopes alts) r) (λ a b. (fit a b).2) l.1
              (and-right (a && (b && (c && d))) e h),
        )
