-- Statements in which no rule is broken call what the rules ask.
use Rattle.std.proofs.Common.{◌≡◌, ℕ, ◌+◌, Bool, true, false, not, ◌&&◌, Option, Some, None, refl, arith}
use Rattle.pfc_base.specs.declared.places.Place.{Place}
use Rattle.pfc_tree.specs.Symbols.{Text}
use Rattle.pfc_tree.specs.trees.Exprs.{ExprTree, DesigTree, ActualTrees, plain, sum, no_summands, product, no_multipliers, applied, desig, no_selectors}
use Rattle.pfc_tree.specs.trees.Exprs.{more_selectors, no_actuals}
use Rattle.pfc_tree.specs.trees.Stmts.{StmtTree, StmtTrees, ArmTrees, AcceptTree, AltTrees, CommTree, empty, null, block, if_then, if_then_else, case_of}
use Rattle.pfc_tree.specs.trees.Stmts.{while_do, repeat_until, repeat_forever, for_do, cobegin, accepting, requeue, select, select_else, assign, send, receive}
use Rattle.pfc_tree.specs.trees.Stmts.{call, no_stmts, more_stmts, body, arm, no_arms, more_arms, accept, accept_do, alt, no_alts, more_alts, comm_accept}
use Rattle.pfc_tree.specs.trees.Stmts.{comm_send, comm_receive, timeout, terminate}
use Rattle.pfc_types.specs.Scopes.{meaning_of}
use Rattle.pfc_types.specs.Blocks.{sub_at}
use Rattle.pfc_types.specs.declared.types.TypeId.{TypeId}
use Rattle.pfc_types.specs.declared.view.Around.{Around}
use Rattle.pfc_types.specs.declared.scope.Meaning.{Meaning}
use Rattle.pfc_types.specs.declared.scope.Meaning.TheVariants.{Constant, Named, Variable, Sub, Module, Process, Entry, Predeclared, Faulty}
use Rattle.pfc_types.specs.declared.heads.SubSort.TheVariants.{Guarded}
use Rattle.pfc_types.specs.rules.Routines.{is_any}
use Rattle.pfc_types.specs.rules.Expressions.{Env, find, as_desig, desig_type, broken_expr, broken_desig}
use Rattle.pfc_types.specs.rules.Statements.{names_any, carried_by, broken_target, broken_message, broken_receiver, broken_guard, broken_requeue, innermost}
use Rattle.pfc_types.specs.rules.Statements.{within_accept, scopes_in, stmts_scopes, arm_scopes, arms_scopes, accept_scopes, comm_scopes, alt_scopes}
use Rattle.pfc_types.specs.rules.Statements.{alts_scopes, accept_rules, broken_stmt, broken_stmts, broken_arms, broken_accept, broken_alts, broken_comm}
use Rattle.pfc_semantics.specs.Programs.{Program}
use Rattle.pfc_image_numbers.proofs.Rules.{IsClean, held, and_right}
use Rattle.pfc_guard_laws.specs.Tops.{Standing}
use Rattle.pfc_guard_laws.specs.Written.{MayRequeue, SuitsName, SuitsRequeue, SuitsFactor, SuitsExpr, SuitsDesig, SuitsPerhaps, SuitActuals, SuitsStmt}
use Rattle.pfc_guard_laws.specs.Written.{SuitStmts, SuitArms, SuitsAccept, SuitsComm, SuitAlts}
use Rattle.pfc_checked_guards.specs.Subs.{SubsStand}
use Rattle.pfc_checked_guards.specs.Order.{InOrder, Along}
use Rattle.pfc_checked_guards.proofs.Expressions.{under, expr_called, desig_called}
use Rattle.pfc_checked_guards.proofs.Calls.{AreExported, call_called, IsGuardedSub, requeue_called}

-- What is known at a place of a body. In the body of a guarded procedure, which is a sub, a requeue that names a guarded procedure may name it.
pub record IsPlace (g : Program) (standing : Standing) (env : Env) (a : Around) : Type 0 where
  pub subs : SubsStand g env.state.blocks
  pub exported : AreExported g env
  pub state : env.state ≡ g.state
  pub order : InOrder g standing.tops standing.scope env
  pub guarded_sub : a.guarded ≡ true → a.sub ≡ true
  pub requeues : a.guarded ≡ true → (x : Text) (n : ℕ) → meaning_of (find env x) ≡ Some (Sub n) → (sub_at env.state.blocks n).sort ≡ Guarded
      → MayRequeue g standing (sub_at env.state.blocks n).scope

not_so : false ≡ true → ⊥
not_so e = cc

not_both : (b : Bool) → b ≡ true → not b ≡ true → ⊥
not_both true e h = cc
not_both false e h = cc

module _ (g : Program) (standing : Standing) (P : ℕ → Type 0)
    (within : (env : Env) (n : ℕ) → env.state ≡ g.state → InOrder g standing.tops standing.scope env → P n →
    InOrder g standing.tops standing.scope (within_accept env n)) where
  first : (n a b : ℕ) → Along P n (a + b) → Along P n a
  first n a b all = λ i low high. all i low (omega (arith, high))

  second : (n a b : ℕ) → Along P n (a + b) → Along P (n + a) b
  second n a b all = λ i low high. all i (omega (arith, low)) (omega (arith, high))

  -- no accept stands in the body of a sub
  in_accept : (env : Env) (a : Around) (n : ℕ) → IsPlace g standing env a → P n → (x : Text) (p q : Place) → IsClean (accept_rules (under env a) x p q)
      → IsPlace g standing (within_accept env n) a
  in_accept env a n is so x p q h =
      let allowed = held (a.process && not a.sub) q 414 h.0 in
      let outside = and_right a.process (not a.sub) allowed in
      record {
        subs = is.subs;
        exported = is.exported;
        state = is.state;
        order = within env n is.state is.order so;
        guarded_sub = is.guarded_sub;
        requeues = λ guarded y m e sort. absurd (not_both a.sub (is.guarded_sub guarded) outside);
      }

  in_cobegin : (env : Env) (a : Around) → IsPlace g standing env a → IsPlace g standing env (record a { cobegin = true })
  in_cobegin env a is =
      record {
        subs = is.subs;
        exported = is.exported;
        state = is.state;
        order = is.order;
        guarded_sub = is.guarded_sub;
        requeues = is.requeues;
      }

  module _ (env : Env) (a : Around) (is : IsPlace g standing env a) where
    expr_suits : (e : ExprTree) → IsClean (broken_expr (under env a) e) → SuitsExpr g standing env e
    expr_suits e h = expr_called g standing env a is.subs (λ x n none e. is.order.called x n e) e h

    desig_suits : (d : DesigTree) → IsClean (broken_desig (under env a) d) → SuitsDesig g standing env d
    desig_suits d h = desig_called g standing env a is.subs (λ x n none e. is.order.called x n e) d h

    target_suits : (d : DesigTree) → IsClean (broken_target (under env a) d) → SuitsDesig g standing env d
    target_suits (desig x no_selectors p) h = tt
    target_suits (desig x (more_selectors s ss) p) h = desig_suits (desig x (more_selectors s ss) p) h

    guard_suits : (guard : Option ExprTree) → IsClean (broken_guard (under env a) guard) → SuitsPerhaps g standing env guard
    guard_suits None h = tt
    guard_suits (Some e) h = expr_suits e h.0

    -- `any` is no sub
    any_name : (m : Option Meaning) → is_any m ≡ true → SuitsName g standing env m
    any_name None e = tt
    any_name (Some (Predeclared k)) e = tt
    any_name (Some (Sub n)) e = absurd (cc)
    any_name (Some (Constant t v)) e = tt
    any_name (Some (Named t)) e = tt
    any_name (Some (Variable t r)) e = tt
    any_name (Some (Module n)) e = tt
    any_name (Some (Process n)) e = tt
    any_name (Some (Entry n)) e = tt
    any_name (Some Faulty) e = tt

    any_use : (d : DesigTree) (q : Place) → names_any (under env a) (Some d) ≡ true → SuitsFactor g standing env (applied d no_actuals q)
    any_use (desig x no_selectors p) q h = (any_name (meaning_of (find env x)) h, tt, tt)
    any_use (desig x (more_selectors s ss) p) q h = absurd (not_so h)

    any_suits : (e : ExprTree) → names_any (under env a) (as_desig e) ≡ true → SuitsExpr g standing env e
    any_suits (plain (sum None (product (applied d no_actuals q) no_multipliers) no_summands) r) h = ((any_use d q h, tt), tt)
    any_suits e h = absurd (not_so h)

    message_suits :
        (t : Option TypeId) (e : ExprTree) (p : Place) → IsClean (broken_message (under env a) t e p) → SuitsExpr g standing env e
    message_suits t e p h = by (names_any (under env a) (as_desig e)) refl
      where
        by : (z : Bool) → names_any (under env a) (as_desig e) ≡ z → SuitsExpr g standing env e
        by true q = any_suits e q
        by false q = let k = rw q at h in expr_suits e k.0

    any_receiver : (v : DesigTree) → names_any (under env a) (Some v) ≡ true → SuitsDesig g standing env v
    any_receiver (desig x no_selectors p) e = tt
    any_receiver (desig x (more_selectors s ss) p) e = absurd (cc)

    receiver_suits :
        (t : Option TypeId) (v : DesigTree) (p : Place) → IsClean (broken_receiver (under env a) t v p) → SuitsDesig g standing env v
    receiver_suits t v p h = by (names_any (under env a) (Some v)) refl
      where
        by : (z : Bool) → names_any (under env a) (Some v) ≡ z → SuitsDesig g standing env v
        by true q = any_receiver v q
        by false q = let k = rw q at h in desig_suits v k.0

    requeue_suits : (x : Text × Place) (args : ActualTrees) (q : Place) → IsClean (broken_requeue (under env a) x args q)
        → SuitsRequeue g standing env (meaning_of (find env x.0)) × SuitActuals g standing env args
    requeue_suits x args q h =
        let guarded = held a.guarded q 418 h.0 in
        let called = requeue_called g standing env a is.subs is.order is.exported (innermost env.view) (meaning_of (find env x.0)) x.1 args h.1 in
        (by guarded (meaning_of (find env x.0)) refl called.0, called.1)
      where
        by : a.guarded ≡ true → (m : Option Meaning) → meaning_of (find env x.0) ≡ m →
            IsGuardedSub g standing env a is.subs is.order is.exported m → SuitsRequeue g standing env m
        by guarded (Some (Sub n)) e sort = is.requeues guarded x.0 n e sort
        by guarded m e sort = tt

  mutual
    pub stmt_called : (env : Env) (a : Around) → IsPlace g standing env a → (n : ℕ) (t : StmtTree) → IsClean (broken_stmt (under env a) n t)
        → Along P n (scopes_in t) → SuitsStmt g standing env n t
    stmt_called env a is n empty h all = tt
    stmt_called env a is n (null p) h all = tt
    stmt_called env a is n (block (body ss first last) p) h all = stmts_called env a is n ss h all
    stmt_called env a is n (if_then e t p) h all = (expr_suits env a is e h.0, stmt_called env a is n t h.1.1 all)
    stmt_called env a is n (if_then_else e t u p) h all = (
      expr_suits env a is e h.0,
      stmt_called env a is n t h.1.1.0 (first n (scopes_in t) (scopes_in u) all),
      stmt_called env a is (n + scopes_in t) u h.1.1.1 (second n (scopes_in t) (scopes_in u) all),
    )
    stmt_called env a is n (case_of e arms last p) h all = (expr_suits env a is e h.0, arms_called env a is n _ arms h.1 all)
    stmt_called env a is n (while_do e t p) h all = (expr_suits env a is e h.0, stmt_called env a is n t h.1.1 all)
    stmt_called env a is n (repeat_until ss e p) h all = (stmts_called env a is n ss h.0 all, expr_suits env a is e h.1.0)
    stmt_called env a is n (repeat_forever ss p) h all = stmts_called env a is n ss h all
    stmt_called env a is n (for_do x from down to t p q) h all =
        (expr_suits env a is from h.0.1.0, expr_suits env a is to h.0.1.1.0, stmt_called env a is n t h.1 all)
    stmt_called env a is n (cobegin ss last p) h all = stmts_called env (record a { cobegin = true }) (in_cobegin env a is) n ss h.1 all
    stmt_called env a is n (accepting b p) h all = accept_called env a is n b p h all
    stmt_called env a is n (requeue x args p) h all = requeue_suits env a is x args p h
    stmt_called env a is n (select pri alts p q) h all = alts_called env a is n alts h.1.1.1 all
    stmt_called env a is n (select_else pri alts ss at p q) h all = (
      alts_called env a is n alts h.1.1.1.0 (first n (alts_scopes alts) (stmts_scopes ss) all),
      stmts_called env a is (n + alts_scopes alts) ss h.1.1.1.1.1 (second n (alts_scopes alts) (stmts_scopes ss) all),
    )
    stmt_called env a is n (assign d e p q) h all = (target_suits env a is d h.0, expr_suits env a is e h.1.0)
    stmt_called env a is n (send d e p q) h all =
        (desig_suits env a is d h.0.0, message_suits env a is (carried_by env.state.forms (desig_type (under env a) d)) e q h.1)
    stmt_called env a is n (receive d v p q) h all =
        (desig_suits env a is d h.0.0, receiver_suits env a is (carried_by env.state.forms (desig_type (under env a) d)) v q h.1)
    stmt_called env a is n (call d args p) h all = call_called g standing env a is.subs is.order is.exported d args h

    pub stmts_called :
        (env : Env) (a : Around) → IsPlace g standing env a → (n : ℕ) (ts : StmtTrees) → IsClean (broken_stmts (under env a) n ts) → Along P n (stmts_scopes ts)
        → SuitStmts g standing env n ts
    stmts_called env a is n no_stmts h all = tt
    stmts_called env a is n (more_stmts t ts) h all = (
      stmt_called env a is n t h.0 (first n (scopes_in t) (stmts_scopes ts) all),
      stmts_called env a is (n + scopes_in t) ts h.1 (second n (scopes_in t) (stmts_scopes ts) all),
    )

    arms_called :
        (env : Env) (a : Around) → IsPlace g standing env a → (n : ℕ) (t : Option TypeId) (arms : ArmTrees) → IsClean (broken_arms (under env a) n t arms)
        → Along P n (arms_scopes arms) → SuitArms g standing env n arms
    arms_called env a is n t no_arms h all = tt
    arms_called env a is n t (more_arms (arm ls k) arms) h all = (
      stmt_called env a is n k h.0.1 (first n (arm_scopes (arm ls k)) (arms_scopes arms) all),
      arms_called env a is (n + arm_scopes (arm ls k)) t arms h.1 (second n (arm_scopes (arm ls k)) (arms_scopes arms) all),
    )

    accept_called :
        (env : Env) (a : Around) → IsPlace g standing env a → (n : ℕ) (b : AcceptTree) (q : Place) → IsClean (broken_accept (under env a) n b q)
        → Along P n (accept_scopes b) → SuitsAccept g standing env n b
    accept_called env a is n (accept x gs p) q h all = tt
    accept_called env a is n (accept_do x gs t p) q h all =
        stmt_called (within_accept env n) a (in_accept env a n is (all n (omega arith) (omega arith)) x p q h.0) (n + 1) t h.1
        (second n 1 (scopes_in t) all)

    comm_called :
        (env : Env) (a : Around) → IsPlace g standing env a → (n : ℕ) (c : CommTree) → IsClean (broken_comm (under env a) n c) → Along P n (comm_scopes c)
        → SuitsComm g standing env n c
    comm_called env a is n (comm_accept b p) h all = accept_called env a is n b p h all
    comm_called env a is n (comm_send d e p) h all =
        (desig_suits env a is d h.0.0, message_suits env a is (carried_by env.state.forms (desig_type (under env a) d)) e p h.1)
    comm_called env a is n (comm_receive d v p) h all =
        (desig_suits env a is d h.0.0, receiver_suits env a is (carried_by env.state.forms (desig_type (under env a) d)) v p h.1)
    comm_called env a is n (timeout e p) h all = expr_suits env a is e h.0
    comm_called env a is n (terminate p) h all = tt

    alts_called :
        (env : Env) (a : Around) → IsPlace g standing env a → (n : ℕ) (alts : AltTrees) →
        IsClean (broken_alts (under env a) n alts) → Along P n (alts_scopes alts)
        → SuitAlts g standing env n alts
    alts_called env a is n no_alts h all = tt
    alts_called env a is n (more_alts (alt spread guard comm ss) alts) h all = (
      (
        guard_suits env a is guard h.0.1.0,
        comm_called env a is n comm h.0.1.1.0
            (first n (comm_scopes comm) (stmts_scopes ss) (first n (alt_scopes (alt spread guard comm ss)) (alts_scopes alts) all)),
        stmts_called env a is (n + comm_scopes comm) ss h.0.1.1.1
            (second n (comm_scopes comm) (stmts_scopes ss) (first n (alt_scopes (alt spread guard comm ss)) (alts_scopes alts) all)),
      ),
      alts_called env a is (n + alt_scopes (alt spread guard comm ss)) alts h.1 (second n (alt_scopes (alt spread guard comm ss)) (alts_scopes alts) all),
    )
