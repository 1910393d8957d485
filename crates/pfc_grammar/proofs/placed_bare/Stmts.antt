-- The readers of statements from tokens agree with those from kinds but for places.
use Rattle.std.proofs.Common.{◌≡◌, ℕ, zero, suc, List, [], ◌∷◌, map, Bool, true, false, Option, Some, None, is_some, option_map, refl, ap, ◌∙◌}
use Rattle.pfc_base.specs.declared.places.Place.{Place}
use Rattle.pfc_tree.specs.Symbols.{Text}
use Rattle.pfc_tree.specs.shapes.Exprs.{ExprShape}
use Rattle.pfc_tree.specs.shapes.Types.{GroupShape}
use Rattle.pfc_tree.specs.declared.tree.Spread.{Spread}
use Rattle.pfc_tree.specs.shapes.Stmts.{SpreadShape, StmtShape, case_of, repeat_until, repeat_forever, cobegin, select, select_else, more_stmts, body}
use Rattle.pfc_tree.specs.shapes.Stmts.{more_arms, alt, more_alts}
use Rattle.pfc_tree.specs.trees.Exprs.{ExprTree}
use Rattle.pfc_tree.specs.trees.Types.{GroupTree}
use Rattle.pfc_tree.specs.trees.Stmts.{StmtTree, ArmTree, AltTree}
use Rattle.pfc_tree.specs.views.Stmts.{stmts_of, arms_of, alts_of}
use Rattle.pfc_tree.specs.forget.Exprs.{forget_expr}
use Rattle.pfc_tree.specs.forget.Types.{forget_constant, forget_group}
use Rattle.pfc_tree.specs.forget.Stmts.{forget_spread, forget_stmt, forget_stmts, forget_body, forget_arm, forget_arms, forget_accept, forget_alt, forget_alts}
use Rattle.pfc_tree.specs.forget.Stmts.{forget_comm}
use Rattle.pfc_grammar.specs.Reading.{Reader as KindReader}
use Rattle.pfc_grammar.specs.grammar.Stmts as kinds
use Rattle.pfc_grammar.specs.placed.Reading.{Reader}
use Rattle.pfc_grammar.specs.placed.Stmts.{test_before, for_head, accept_head, labels, spread_behind, replication, guard, alt_head, requeue_behind}
use Rattle.pfc_grammar.specs.placed.Stmts.{action_behind, comm_behind, message, message_or_wait, comm_plain, stmts_with, body_behind, body_with, block_behind}
use Rattle.pfc_grammar.specs.placed.Stmts.{if_behind, arm_with, case_behind, while_behind, repeat_behind, for_behind, cobegin_behind, accept_behind}
use Rattle.pfc_grammar.specs.placed.Stmts.{accepting_behind, comm_with, alt_with, select_behind, pri_behind, stmt_second, stmt_with, stmt_at}
use Rattle.pfc_grammar.proofs.placed_bare.Readers.{Bares, bare_pure, bare_stop, bare_stop_deep, bare_bind, bare_branch, bare_choose, bare_take}
use Rattle.pfc_grammar.proofs.placed_bare.Loops.{bare_many, bare_list, bare_list_end}
use Rattle.pfc_grammar.proofs.placed_bare.Exprs.{bare_desig_behind, bare_desig, bare_actuals, bare_expr_at}
use Rattle.pfc_grammar.proofs.placed_bare.Types.{bare_constant, bare_formals}

-- lists without places
bare_stmts_of : (ss : List StmtTree) → forget_stmts (stmts_of ss) ≡ kinds.stmts_of (map forget_stmt ss)
bare_stmts_of [] = refl
bare_stmts_of (s ∷ ss) = ap (λ z. more_stmts (forget_stmt s) z) (bare_stmts_of ss)

bare_arms_of : (arms : List ArmTree) → forget_arms (arms_of arms) ≡ kinds.arms_of (map forget_arm arms)
bare_arms_of [] = refl
bare_arms_of (a ∷ arms) = ap (λ z. more_arms (forget_arm a) z) (bare_arms_of arms)

bare_alts_of : (alts : List AltTree) → forget_alts (alts_of alts) ≡ kinds.alts_of (map forget_alt alts)
bare_alts_of [] = refl
bare_alts_of (a ∷ alts) = ap (λ z. more_alts (forget_alt a) z) (bare_alts_of alts)

-- what stands before the first statement of a form
abbrev forget_for_head : (Text × Place) × ExprTree × Bool × ExprTree → Text × ExprShape × Bool × ExprShape
forget_for_head h = (h.0.0, forget_expr h.1, h.2, forget_expr h.3)

abbrev forget_accept_head : (Text × Place) × List GroupTree → Text × List GroupShape
forget_accept_head h = (h.0.0, map forget_group h.1)

bare_accept_head : Bares forget_accept_head accept_head kinds.accept_head
unfolding accept_head kinds.accept_head
bare_accept_head = bare_bind _ (bare_take _) (λ x. bare_bind _ bare_formals (λ gs. bare_pure _ refl))

bare_labels : Bares (map forget_constant) labels kinds.labels
unfolding labels kinds.labels
bare_labels = bare_bind _ (bare_list _ bare_constant) (λ cs. bare_bind _ (bare_take _) (λ t. bare_pure _ refl))

abbrev forget_alt_head : Option Spread × Option ExprTree → Option SpreadShape × Option ExprShape
forget_alt_head h = (option_map forget_spread h.0, option_map forget_expr h.1)

bare_spread : Bares forget_spread spread_behind kinds.spread_behind
unfolding spread_behind kinds.spread_behind
bare_spread = bare_bind _ (bare_take _)
    (λ x. bare_bind _ (bare_take _)
    (λ t. bare_bind _ bare_constant
    (λ low. bare_bind _ (bare_take _) (λ u. bare_bind _ bare_constant (λ high. bare_bind _ (bare_take _) (λ v. bare_pure _ refl))))))

bare_replication : Bares (option_map forget_spread) replication kinds.replication
unfolding replication kinds.replication
bare_replication = bare_branch _ _ (λ t. bare_bind _ bare_spread (λ r. bare_pure _ refl)) (bare_pure _ refl)

module _ {e : Reader ExprTree} {q : KindReader ExprShape} (h : Bares forget_expr e q) where
  bare_test : (w : ℕ) → Bares forget_expr (test_before e w) (kinds.test_before q w)
  unfolding test_before kinds.test_before
  bare_test w = bare_bind _ h (λ x. bare_bind _ (bare_take _) (λ t. bare_pure _ refl))

  bare_for_head : Bares forget_for_head (for_head e) (kinds.for_head q)
  unfolding for_head kinds.for_head
  bare_for_head = bare_bind _ (bare_take _)
      (λ x. bare_bind _ (bare_take _)
      (λ t. bare_bind _ h (λ from. bare_bind _ (bare_take _) (λ down. bare_bind _ h (λ to. bare_bind _ (bare_take _) (λ u. bare_pure _ refl))))))

  bare_guard : Bares (option_map forget_expr) (guard e) (kinds.guard q)
  unfolding guard kinds.guard
  bare_guard = bare_branch _ _ (λ t. bare_bind _ h (λ x. bare_bind _ (bare_take _) (λ u. bare_pure _ refl))) (bare_pure _ refl)

  bare_alt_head : Bares forget_alt_head (alt_head e) (kinds.alt_head q)
  unfolding alt_head kinds.alt_head
  bare_alt_head = bare_bind _ bare_replication (λ r. bare_bind _ bare_guard (λ g. bare_pure _ refl))

  bare_requeue : (p : Place) → Bares forget_stmt (requeue_behind e p) (kinds.requeue_behind q)
  unfolding requeue_behind kinds.requeue_behind
  bare_requeue p = bare_bind _ (bare_take _) (λ x. bare_bind _ (bare_actuals h) (λ args. bare_pure _ refl))

  bare_action : (x : Text × Place) → Bares forget_stmt (action_behind e x) (kinds.action_behind q x.0)
  unfolding action_behind kinds.action_behind
  bare_action x = bare_bind _ (bare_desig_behind h x) (λ d.
      bare_branch _ _ (λ t. bare_bind _ h (λ value. bare_pure _ refl)) (
      bare_branch _ _ (λ t. bare_bind _ h (λ value. bare_pure _ refl)) (
      bare_branch _ _ (λ t. bare_bind _ (bare_desig h) (λ v. bare_pure _ refl)) (bare_bind _ (bare_actuals h) (λ args. bare_pure _ refl)))))

  bare_comm_behind : (x : Text × Place) → Bares forget_comm (comm_behind e x) (kinds.comm_behind q x.0)
  unfolding comm_behind kinds.comm_behind
  bare_comm_behind x = bare_bind _ (bare_desig_behind h x) (λ d.
      bare_branch _ _ (λ t. bare_bind _ h (λ value. bare_pure _ refl)) (bare_bind _ (bare_take _) (λ t. bare_bind _ (bare_desig h) (λ v. bare_pure _ refl))))

  bare_message : Bares forget_comm (message e) (kinds.message q)
  unfolding message kinds.message
  bare_message = bare_branch _ _ bare_comm_behind bare_stop

  bare_message_or_wait : Bares forget_comm (message_or_wait e) (kinds.message_or_wait q)
  unfolding message_or_wait kinds.message_or_wait
  bare_message_or_wait = bare_branch _ _ (λ t. bare_bind _ h (λ x. bare_pure _ refl)) (bare_branch _ _ (λ t. bare_pure _ refl) bare_message)

  bare_comm_plain : (r : Option Spread) → Bares forget_comm (comm_plain e (is_some r)) (kinds.comm_plain q (is_some (option_map forget_spread r)))
  unfolding comm_plain kinds.comm_plain
  bare_comm_plain None = bare_message_or_wait
  bare_comm_plain (Some r) = bare_message

module _ {s : Reader StmtTree} {o : KindReader StmtShape} (k : Bares forget_stmt s o) where
  bare_stmts : Bares (map forget_stmt) (stmts_with s) (kinds.stmts_with o)
  unfolding stmts_with kinds.stmts_with
  bare_stmts = bare_list _ k

  bare_body_behind : (p : Place) → Bares forget_body (body_behind s p) (kinds.body_behind o)
  unfolding body_behind kinds.body_behind
  bare_body_behind p = bare_bind _ bare_stmts (λ ss. bare_bind _ (bare_take _) (λ t. bare_pure _ (ap (λ z. body z) (bare_stmts_of ss))))

  pub bare_body : Bares forget_body (body_with s) (kinds.body_with o)
  unfolding body_with kinds.body_with
  bare_body = bare_bind _ (bare_take _) (λ t. bare_body_behind t.1)

  bare_arm : Bares forget_arm (arm_with s) (kinds.arm_with o)
  unfolding arm_with kinds.arm_with
  bare_arm = bare_bind _ bare_labels (λ cs. bare_bind _ k (λ x. bare_pure _ refl))

  bare_cobegin : (p : Place) → Bares forget_stmt (cobegin_behind s p) (kinds.cobegin_behind o)
  unfolding cobegin_behind kinds.cobegin_behind
  bare_cobegin p = bare_bind _ bare_stmts (λ ss. bare_bind _ (bare_take _) (λ t. bare_pure _ (ap (λ z. cobegin z) (bare_stmts_of ss))))

  bare_accept : Bares forget_accept (accept_behind s) (kinds.accept_behind o)
  unfolding accept_behind kinds.accept_behind
  bare_accept = bare_bind _ bare_accept_head (λ a. bare_branch _ _ (λ t. bare_bind _ k (λ x. bare_pure _ refl)) (bare_pure _ refl))

module _ {e : Reader ExprTree} {q : KindReader ExprShape} (h : Bares forget_expr e q) {s : Reader StmtTree}
    {o : KindReader StmtShape} (k : Bares forget_stmt s o) where
  bare_if : (p : Place) → Bares forget_stmt (if_behind e s p) (kinds.if_behind q o)
  unfolding if_behind kinds.if_behind
  bare_if p = bare_bind _ (bare_test h _)
      (λ test. bare_bind _ k (λ first. bare_branch _ _ (λ t. bare_bind _ k (λ second. bare_pure _ refl)) (bare_pure _ refl)))

  bare_case : (p : Place) → Bares forget_stmt (case_behind e s p) (kinds.case_behind q o)
  unfolding case_behind kinds.case_behind
  bare_case p = bare_bind _ (bare_test h _) (λ value. bare_bind _ (bare_list_end _ _ (bare_arm k))
      (λ arms. bare_bind _ (bare_take _) (λ t. bare_pure _ (ap (λ z. case_of (forget_expr value) z arms.1) (bare_arms_of arms.0)))))

  bare_while_do : (p : Place) → Bares forget_stmt (while_behind e s p) (kinds.while_behind q o)
  unfolding while_behind kinds.while_behind
  bare_while_do p = bare_bind _ (bare_test h _) (λ test. bare_bind _ k (λ x. bare_pure _ refl))

  bare_repeat : (p : Place) → Bares forget_stmt (repeat_behind e s p) (kinds.repeat_behind q o)
  unfolding repeat_behind kinds.repeat_behind
  bare_repeat p = bare_bind _ (bare_stmts k) (λ ss.
      bare_branch _ _ (λ t. bare_bind _ h (λ test. bare_pure _ (ap (λ z. repeat_until z (forget_expr test)) (bare_stmts_of ss))))
      (bare_bind _ (bare_take _) (λ t. bare_pure _ (ap (λ z. repeat_forever z) (bare_stmts_of ss)))))

  bare_for : (p : Place) → Bares forget_stmt (for_behind e s p) (kinds.for_behind q o)
  unfolding for_behind kinds.for_behind
  bare_for p = bare_bind _ (bare_for_head h) (λ a. bare_bind _ k (λ x. bare_pure _ refl))

  bare_comm : (r : Option Spread) → Bares forget_comm (comm_with e s (is_some r)) (kinds.comm_with q o (is_some (option_map forget_spread r)))
  unfolding comm_with kinds.comm_with
  bare_comm r = bare_branch _ _ (λ t. bare_bind _ (bare_accept k) (λ a. bare_pure _ refl)) (bare_comm_plain h r)

  bare_alt : Bares forget_alt (alt_with e s) (kinds.alt_with q o)
  unfolding alt_with kinds.alt_with
  bare_alt = bare_bind _ (bare_alt_head h) (λ a. bare_bind _ (bare_comm a.0) (λ c. bare_bind _ (bare_many _ _ (λ t. k)) (λ ss.
      bare_pure _ (ap (λ z. alt (option_map forget_spread a.0) (option_map forget_expr a.1) (forget_comm c) z) (bare_stmts_of ss)))))

  bare_select : (pri : Bool) (first p : Place) → Bares forget_stmt (select_behind e s pri first p) (kinds.select_behind q o pri)
  unfolding select_behind kinds.select_behind
  bare_select pri first p = bare_bind _ (bare_list _ bare_alt) (λ alts.
      bare_branch _ _ (λ t. bare_bind _ (bare_stmts k)
      (λ ss. bare_bind _ (bare_take _) (λ u. bare_pure _ (ap (λ z. select_else pri z (forget_stmts (stmts_of ss))) (bare_alts_of alts) ∙
      ap (λ z. select_else pri (kinds.alts_of (map forget_alt alts)) z) (bare_stmts_of ss)))))
      (bare_bind _ (bare_take _) (λ t. bare_pure _ (ap (λ z. select pri z) (bare_alts_of alts)))))

  bare_second : Bares forget_stmt (stmt_second e s) (kinds.stmt_second q o)
  unfolding stmt_second accepting_behind pri_behind kinds.stmt_second
  bare_second = bare_branch _ _ (λ t. bare_cobegin k t.1) (
      bare_branch _ _ (λ t. bare_bind _ (bare_accept k) (λ a. bare_pure _ refl)) (
      bare_branch _ _ (λ t. bare_requeue h t.1) (
      bare_branch _ _ (λ t. bare_bind _ (bare_take _) (λ u. bare_select true t.1 u.1)) (
      bare_branch _ _ (λ t. bare_select false t.1 t.1) (bare_branch _ _ (bare_action h) (bare_pure _ refl))))))

  bare_stmt_with : Bares forget_stmt (stmt_with e s) (kinds.stmt_with q o)
  unfolding stmt_with block_behind kinds.stmt_with
  bare_stmt_with = bare_branch _ _ (λ t. bare_pure _ refl) (
      bare_branch _ _ (λ t. bare_bind _ (bare_body_behind k t.1) (λ b. bare_pure _ refl)) (
      bare_branch _ _ (λ t. bare_if t.1) (
      bare_branch _ _ (λ t. bare_case t.1) (
      bare_branch _ _ (λ t. bare_while_do t.1) (
      bare_branch _ _ (λ t. bare_repeat t.1) (bare_branch _ _ (λ t. bare_for t.1) bare_second))))))

-- Whatever the number of levels.
pub bare_stmt_at : (n : ℕ) → Bares forget_stmt (stmt_at n) (kinds.stmt_at n)
unfolding stmt_at kinds.stmt_at
bare_stmt_at zero = bare_choose _ bare_stop_deep (bare_pure _ refl)
bare_stmt_at (suc n) = bare_stmt_with (bare_expr_at n) (bare_stmt_at n)
