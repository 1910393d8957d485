-- The places that a statement keeps are those of the tokens that it is read from.
use Rattle.std.proofs.Common.{◌≡◌, ℕ, zero, suc, List, [], ◌∷◌, ◌++◌, Bool, true, false, Option, is_some, refl, ap}
use Rattle.pfc_base.specs.declared.places.Place.{Place}
use Rattle.pfc_tree.specs.Symbols.{Text}
use Rattle.pfc_tree.specs.declared.tree.Spread.{Spread}
use Rattle.pfc_tree.specs.trees.Exprs.{ExprTree}
use Rattle.pfc_tree.specs.trees.Stmts.{StmtTree}
use Rattle.pfc_tree.specs.views.Stmts.{stmts_of, arms_of, alts_of}
use Rattle.pfc_tree.specs.kept.Exprs.{Step, here, next, expr_trace}
use Rattle.pfc_tree.specs.kept.Types.{constant_trace, comma_constants_trace, constants_trace, formals_trace}
use Rattle.pfc_tree.specs.kept.Stmts.{replication_trace, guard_trace, pri_trace, stmt_trace, stmts_trace, semicolon_stmts_trace, body_trace, arm_trace}
use Rattle.pfc_tree.specs.kept.Stmts.{arms_trace, semicolon_arms_trace, accept_trace, alt_trace, comm_trace, alts_trace, or_alts_trace}
use Rattle.pfc_grammar.specs.placed.Reading.{Reader}
use Rattle.pfc_grammar.specs.placed.Stmts.{test_before, for_head, accept_head, labels, spread_behind, replication, guard, alt_head, requeue_behind}
use Rattle.pfc_grammar.specs.placed.Stmts.{action_behind, comm_behind, message, message_or_wait, comm_plain, stmts_with, body_behind, body_with, block_behind}
use Rattle.pfc_grammar.specs.placed.Stmts.{if_behind, arm_with, case_behind, while_behind, repeat_behind, for_behind, cobegin_behind, accept_behind}
use Rattle.pfc_grammar.specs.placed.Stmts.{accepting_behind, comm_with, alt_with, select_behind, pri_behind, stmt_second, stmt_with, stmt_at}
use Rattle.pfc_grammar.proofs.placed_kept.Readers.{same_traces, Traced, Leading, Keeps, Whole, keeps_pure, leads_pure, keeps_stop, keeps_stop_deep, keeps_bind}
use Rattle.pfc_grammar.proofs.placed_kept.Readers.{keeps_then, pass_branch, keep_branch, keep_branch_twice, pass_then, keep_then, keeps_choose, keeps_end}
use Rattle.pfc_grammar.proofs.placed_kept.Loops.{separate, keeps_many, keeps_list, leads_list_end}
use Rattle.pfc_grammar.proofs.placed_kept.Exprs.{leads_desig_behind, keeps_desig, keeps_actuals, keeps_expr_at}
use Rattle.pfc_grammar.proofs.placed_kept.Types.{keeps_constant, keeps_formals}

-- What stands before the first statement of a form.
leads_accept_head : {F : List Step → List Step} → Keeps F (Leading (λ h steps. F (here h.0.1 ∷ next ∷ (formals_trace h.1 ++ steps)))) accept_head
unfolding accept_head
leads_accept_head = keep_then _ (λ x. keeps_then keeps_formals (λ gs. leads_pure _ (λ steps. refl)))

leads_labels : {F : List Step → List Step} → Keeps F (Leading (λ cs steps. F (constants_trace cs ++ (next ∷ steps)))) labels
unfolding labels
leads_labels = keeps_then (keeps_list constant_trace comma_constants_trace (record { none = refl; more = λ c cs. refl }) _ keeps_constant constants_trace
    (λ c cs. refl)) (λ cs. pass_then _ (λ t. leads_pure _ (λ steps. refl)))

leads_spread : {F : List Step → List Step} →
    Keeps F (Leading (λ r steps. F (here r.place ∷ next ∷ next ∷ (constant_trace r.low ++ (next ∷ (constant_trace r.high ++ (next ∷ steps))))))) spread_behind
unfolding spread_behind
leads_spread = keep_then _
    (λ x. pass_then _ (λ t. keeps_then keeps_constant
    (λ low. pass_then _ (λ u. keeps_then keeps_constant (λ high. pass_then _ (λ v. leads_pure _ (λ steps. refl)))))))

spread_whole : (p : Place) (low high : List Step) → next ∷ here p ∷ next ∷ next ∷ (low ++ (next ∷ (high ++ (next ∷ [])))) ≡ next ∷ here p ∷ next ∷ next ∷
    ((low ++ (next ∷ high)) ++ (next ∷ []))
spread_whole p low high = search same_traces

keeps_replication : Whole replication_trace replication
unfolding replication
keeps_replication = pass_branch _ (λ t. keeps_bind leads_spread (λ r. keeps_pure _ (spread_whole r.place (constant_trace r.low) (constant_trace r.high))))
    (keeps_pure _ refl)

abbrev alt_head_trace : Option Spread × Option ExprTree → List Step
alt_head_trace h = replication_trace h.0 ++ guard_trace h.1

module _ {e : Reader ExprTree} (h : Whole expr_trace e) where
  leads_test : {F : List Step → List Step} (w : ℕ) → Keeps F (Leading (λ x steps. F (expr_trace x ++ (next ∷ steps)))) (test_before e w)
  unfolding test_before
  leads_test w = keeps_then h (λ x. pass_then _ (λ t. leads_pure _ (λ steps. refl)))

  leads_for_head : {F : List Step → List Step} →
      Keeps F (Leading (λ a steps. F (here a.0.1 ∷ next ∷ next ∷ (expr_trace a.1 ++ (next ∷ (expr_trace a.3 ++ (next ∷ steps))))))) (for_head e)
  unfolding for_head
  leads_for_head = keep_then _
      (λ x. pass_then _ (λ t. keeps_then h (λ from. pass_then _ (λ down. keeps_then h (λ to. pass_then _ (λ u. leads_pure _ (λ steps. refl)))))))

  keeps_guard : Whole guard_trace (guard e)
  unfolding guard
  keeps_guard = pass_branch _ (λ t. keeps_then h (λ x. pass_then _ (λ u. keeps_pure _ refl))) (keeps_pure _ refl)

  keeps_alt_head : Whole alt_head_trace (alt_head e)
  unfolding alt_head
  keeps_alt_head = keeps_then keeps_replication (λ r. keeps_then keeps_guard (λ g. keeps_pure _ (search same_traces)))

  keeps_requeue : (p : Place) → Keeps (λ steps. here p ∷ next ∷ steps) (Traced stmt_trace) (requeue_behind e p)
  unfolding requeue_behind
  keeps_requeue p = keep_then _ (λ x. keeps_then (keeps_actuals h) (λ args. keeps_pure _ (search same_traces)))

  keeps_action : (x : Text × Place) → Keeps (λ steps. here x.1 ∷ here x.1 ∷ next ∷ steps) (Traced stmt_trace) (action_behind e x)
  unfolding action_behind
  keeps_action x = keeps_bind (leads_desig_behind h (λ steps. here x.1 ∷ steps) x) (λ d.
      keep_branch _ (λ t. keeps_then h (λ value. keeps_pure _ (search same_traces))) (
      keep_branch _ (λ t. keeps_then h (λ value. keeps_pure _ (search same_traces))) (
      keep_branch _ (λ t. keeps_then (keeps_desig h) (λ v. keeps_pure _ (search same_traces)))
      (keeps_then (keeps_actuals h) (λ args. keeps_pure _ (search same_traces))))))

  keeps_comm_behind : (x : Text × Place) → Keeps (λ steps. here x.1 ∷ next ∷ steps) (Traced comm_trace) (comm_behind e x)
  unfolding comm_behind
  keeps_comm_behind x = keeps_bind (leads_desig_behind h (λ steps. steps) x) (λ d.
      keep_branch _ (λ t. keeps_then h (λ value. keeps_pure _ (search same_traces)))
      (keep_then _ (λ t. keeps_then (keeps_desig h) (λ v. keeps_pure _ (search same_traces)))))

  keeps_message : Whole comm_trace (message e)
  unfolding message
  keeps_message = keep_branch _ keeps_comm_behind keeps_stop

  keeps_message_or_wait : Whole comm_trace (message_or_wait e)
  unfolding message_or_wait
  keeps_message_or_wait = keep_branch _ (λ t. keeps_then h (λ x. keeps_pure _ (search same_traces))) (keep_branch _ (λ t. keeps_pure _ refl) keeps_message)

  keeps_comm_plain : (replicated : Bool) → Whole comm_trace (comm_plain e replicated)
  unfolding comm_plain
  keeps_comm_plain true = keeps_message
  keeps_comm_plain false = keeps_message_or_wait

module _ {s : Reader StmtTree} (k : Whole stmt_trace s) where
  keeps_stmts : Whole (λ ss. stmts_trace (stmts_of ss)) (stmts_with s)
  unfolding stmts_with
  keeps_stmts = keeps_list stmt_trace (λ ss. semicolon_stmts_trace (stmts_of ss)) (record { none = refl; more = λ x xs. refl }) _ k
      (λ ss. stmts_trace (stmts_of ss)) (λ x xs. refl)

  -- behind `begin`, which is kept as the place of the body
  leads_body_behind : (F : List Step → List Step) (p : Place) →
      Keeps (λ steps. F (here p ∷ next ∷ steps)) (Leading (λ b steps. F (body_trace b ++ steps))) (body_behind s p)
  unfolding body_behind
  leads_body_behind F p = keeps_then keeps_stmts (λ ss. keep_then _ (λ t. leads_pure _ (λ steps. ap F (search same_traces))))

  pub keeps_body : Whole body_trace (body_with s)
  unfolding body_with
  keeps_body = keep_then _ (λ t. keeps_end (λ b. search same_traces) (leads_body_behind (λ steps. steps) t.1))

  keeps_block : (p : Place) → Keeps (λ steps. here p ∷ here p ∷ next ∷ steps) (Traced stmt_trace) (block_behind s p)
  unfolding block_behind
  keeps_block p = keeps_bind (leads_body_behind (λ steps. here p ∷ steps) p) (λ b. keeps_pure _ (search same_traces))

  keeps_arm : Whole arm_trace (arm_with s)
  unfolding arm_with
  keeps_arm = keeps_bind leads_labels (λ cs. keeps_then k (λ x. keeps_pure _ (search same_traces)))

  keeps_cobegin : (p : Place) → Keeps (λ steps. here p ∷ next ∷ steps) (Traced stmt_trace) (cobegin_behind s p)
  unfolding cobegin_behind
  keeps_cobegin p = keeps_then keeps_stmts (λ ss. keep_then _ (λ t. keeps_pure _ (search same_traces)))

  keeps_accept : Whole accept_trace (accept_behind s)
  unfolding accept_behind
  keeps_accept = keeps_bind leads_accept_head
      (λ a. pass_branch _ (λ t. keeps_then k (λ x. keeps_pure _ (search same_traces))) (keeps_pure _ (search same_traces)))

  keeps_accepting : (p : Place) → Keeps (λ steps. here p ∷ next ∷ steps) (Traced stmt_trace) (accepting_behind s p)
  unfolding accepting_behind
  keeps_accepting p = keeps_then keeps_accept (λ a. keeps_pure _ (search same_traces))

module _ {e : Reader ExprTree} (h : Whole expr_trace e) {s : Reader StmtTree} (k : Whole stmt_trace s) where
  keeps_if : (p : Place) → Keeps (λ steps. here p ∷ next ∷ steps) (Traced stmt_trace) (if_behind e s p)
  unfolding if_behind
  keeps_if p = keeps_bind (leads_test h _)
      (λ test. keeps_then k (λ first. pass_branch _ (λ t. keeps_then k (λ second. keeps_pure _ (search same_traces))) (keeps_pure _ (search same_traces))))

  keeps_case : (p : Place) → Keeps (λ steps. here p ∷ next ∷ steps) (Traced stmt_trace) (case_behind e s p)
  unfolding case_behind
  keeps_case p = keeps_bind (leads_test h _) (λ value. keeps_bind (leads_list_end arm_trace (λ arms. semicolon_arms_trace (arms_of arms)) (record {
    none = refl;
    more = λ a arms. refl;
  }) _ _ (keeps_arm k) (λ arms. arms_trace (arms_of arms)) (λ a arms. refl))
      (λ arms. pass_then _ (λ t. keeps_pure _ (search same_traces))))

  keeps_while_do : (p : Place) → Keeps (λ steps. here p ∷ next ∷ steps) (Traced stmt_trace) (while_behind e s p)
  unfolding while_behind
  keeps_while_do p = keeps_bind (leads_test h _) (λ test. keeps_then k (λ x. keeps_pure _ (search same_traces)))

  keeps_repeat : (p : Place) → Keeps (λ steps. here p ∷ next ∷ steps) (Traced stmt_trace) (repeat_behind e s p)
  unfolding repeat_behind
  keeps_repeat p = keeps_then (keeps_stmts k) (λ ss. pass_branch _ (λ t. keeps_then h (λ test. keeps_pure _ (search same_traces)))
      (pass_then _ (λ t. keeps_pure _ (search same_traces))))

  keeps_for : (p : Place) → Keeps (λ steps. here p ∷ next ∷ steps) (Traced stmt_trace) (for_behind e s p)
  unfolding for_behind
  keeps_for p = keeps_bind (leads_for_head h)
      (λ a. keeps_then k (λ x. keeps_pure _ (ap (λ z. here p ∷ next ∷ here a.0.1 ∷ next ∷ next ∷ z)
      (between (expr_trace a.1) (expr_trace a.3) (stmt_trace x)))))
    where
      between : (a b c : List Step) → a ++ (next ∷ (b ++ (next ∷ (c ++ [])))) ≡ (a ++ (next ∷ b)) ++ (next ∷ c)
      between a b c = search same_traces

  keeps_comm : (replicated : Bool) → Whole comm_trace (comm_with e s replicated)
  unfolding comm_with
  keeps_comm replicated = keep_branch _ (λ t. keeps_then (keeps_accept k) (λ a. keeps_pure _ (search same_traces))) (keeps_comm_plain h replicated)

  keeps_alt : Whole alt_trace (alt_with e s)
  unfolding alt_with
  keeps_alt = keeps_then (keeps_alt_head h) (λ a. keeps_then (keeps_comm (is_some a.0)) (λ c.
      keeps_then (keeps_many (λ x. next ∷ stmt_trace x) (λ ss. semicolon_stmts_trace (stmts_of ss)) (record { none = refl; more = λ x xs. refl }) _
      (separate k)) (λ ss. keeps_pure _ (search same_traces))))

  -- behind the `select` at p, in a statement whose first token stands at first
  keeps_select : (pri : Bool) (first p : Place) →
      Keeps (λ steps. pri_trace pri first ++ (here p ∷ next ∷ steps)) (Traced stmt_trace) (select_behind e s pri first p)
  unfolding select_behind
  keeps_select pri first p = keeps_then (keeps_list alt_trace (λ alts. or_alts_trace (alts_of alts)) (record { none = refl; more = λ a alts. refl }) _ keeps_alt
      (λ alts. alts_trace (alts_of alts)) (λ a alts. refl)) (λ alts.
      keep_branch _ (λ t. keeps_then (keeps_stmts k) (λ ss. pass_then _ (λ u. keeps_pure _ (search same_traces))))
      (pass_then _ (λ t. keeps_pure _ (search same_traces))))

  keeps_pri : (p : Place) → Keeps (λ steps. here p ∷ next ∷ steps) (Traced stmt_trace) (pri_behind e s p)
  unfolding pri_behind
  keeps_pri p = keep_then _ (λ u. keeps_select true p u.1)

  keeps_second : Whole stmt_trace (stmt_second e s)
  unfolding stmt_second
  keeps_second = keep_branch _ (λ t. keeps_cobegin k t.1) (
      keep_branch _ (λ t. keeps_accepting k t.1) (
      keep_branch _ (λ t. keeps_requeue h t.1) (
      keep_branch _ (λ t. keeps_pri t.1) (
      keep_branch_twice _ (λ t. keeps_select false t.1 t.1) (keep_branch_twice _ (keeps_action h) (keeps_pure _ refl))))))

  keeps_stmt_with : Whole stmt_trace (stmt_with e s)
  unfolding stmt_with
  keeps_stmt_with = keep_branch _ (λ t. keeps_pure _ refl) (
      keep_branch_twice _ (λ t. keeps_block k t.1) (
      keep_branch _ (λ t. keeps_if t.1) (
      keep_branch _ (λ t. keeps_case t.1) (
      keep_branch _ (λ t. keeps_while_do t.1) (
      keep_branch _ (λ t. keeps_repeat t.1) (keep_branch _ (λ t. keeps_for t.1) keeps_second))))))

-- Whatever the number of levels.
pub keeps_stmt_at : (n : ℕ) → Whole stmt_trace (stmt_at n)
unfolding stmt_at
keeps_stmt_at zero = keeps_choose _ keeps_stop_deep (keeps_pure _ refl)
keeps_stmt_at (suc n) = keeps_stmt_with (keeps_expr_at n) (keeps_stmt_at n)
