-- The words of the rules of statements.
use Rattle.std.proofs.Common.{refl}
use Rattle.std.specs.Prelude.{ℕ, ◌+◌, Bool, false, not, ◌||◌, List, [], ◌∷◌, Option, Some, None}
use Rattle.pfc_base.specs.declared.places.Place.{Place}
use Rattle.pfc_tree.specs.Symbols.{Text}
use Rattle.pfc_tree.specs.declared.tree.Constant.{Constant}
use Rattle.pfc_tree.specs.declared.tree.Spread.{Spread}
use Rattle.pfc_tree.specs.trees.Exprs.{ExprTree, DesigTree, ActualTrees, desig, no_selectors, more_selectors}
use Rattle.pfc_tree.specs.trees.Stmts.{StmtTree, StmtTrees, BodyTree, ArmTree, ArmTrees, AcceptTree, AltTree, AltTrees, CommTree, empty, null, block, if_then}
use Rattle.pfc_tree.specs.trees.Stmts.{if_then_else, case_of, while_do, repeat_until, repeat_forever, for_do, cobegin, accepting, requeue, select, select_else}
use Rattle.pfc_tree.specs.trees.Stmts.{assign, send, receive, call, no_stmts, more_stmts, body, arm, no_arms, more_arms, accept, accept_do, alt, no_alts}
use Rattle.pfc_tree.specs.trees.Stmts.{more_alts, comm_accept, comm_send, comm_receive, timeout, terminate}
use Rattle.pfc_types.specs.Types.{Forms}
use Rattle.pfc_types.specs.Scopes.{meaning_of}
use Rattle.pfc_types.specs.Blocks.{sub_at}
use Rattle.pfc_types.specs.declared.types.TypeId.{TypeId}
use Rattle.pfc_types.specs.declared.scope.Meaning.{Meaning}
use Rattle.pfc_types.specs.declared.scope.Meaning.TheVariants.{Sub}
use Rattle.pfc_types.specs.declared.heads.SubSort.{SubSort}
use Rattle.pfc_types.specs.declared.heads.SubSort.TheVariants.{Procedure, Guarded, Function}
use Rattle.pfc_types.specs.rules.Kinds.{a_variable, an_entry}
use Rattle.pfc_types.specs.rules.Constants.{constant_type, constant_place}
use Rattle.pfc_types.specs.rules.Expressions.{Env, find, desig_place, expr_type, desig_type}
use Rattle.pfc_types.specs.rules.Statements.{is_around, sub_target, target_rules, broken_target, broken_assign, carried_by, channel_rule, broken_channel}
use Rattle.pfc_types.specs.rules.Statements.{broken_message, broken_send, broken_receiver, broken_receive, written_constant, label_rule, broken_label}
use Rattle.pfc_types.specs.rules.Statements.{broken_labels, broken_for, broken_spread, within_cobegin, accept_rules, within_accept, innermost, broken_requeue}
use Rattle.pfc_types.specs.rules.Statements.{broken_timeout, communicates, way_rule, ways_rule, broken_guard, scopes_in, arm_scopes, alt_scopes, alts_scopes}
use Rattle.pfc_types.specs.rules.Statements.{comm_scopes, broken_stmt, broken_stmts, broken_body, broken_arms, broken_arm, broken_accept, broken_alts}
use Rattle.pfc_types.specs.rules.Statements.{broken_alt, broken_comm}
use Rattle.pfc_refusals.proofs.Worded.{Worded, no_rule, ◌&◌, rule, broken_rule, either}
use Rattle.pfc_refusals.proofs.Small.{name_worded, constant_worded}
use Rattle.pfc_refusals.proofs.Expressions.{expr_worded, desig_worded}
use Rattle.pfc_refusals.proofs.Calls.{call_worded, requeue_worded}

-- ## Assignments

sub_target_worded : (inside : Bool) (sort : SubSort) (p : Place) → Worded (sub_target inside sort p)
sub_target_worded inside Procedure p = broken_rule _ _ refl
sub_target_worded inside Guarded p = broken_rule _ _ refl
sub_target_worded inside (Function t) p = rule _ _ _ refl

target_rules_worded : (env : Env) (m : Option Meaning) (p : Place) → Worded (target_rules env m p)
target_rules_worded env (Some (Sub n)) p = sub_target_worded (is_around env.view (sub_at env.state.blocks n).scope) (sub_at env.state.blocks n).sort p
target_rules_worded env m p = name_worded a_variable m p

target_worded : (env : Env) (d : DesigTree) → Worded (broken_target env d)
target_worded env (desig x no_selectors p) = target_rules_worded env (meaning_of (find env x)) p
target_worded env (desig x (more_selectors s ss) p) = desig_worded env (desig x (more_selectors s ss) p)

assign_worded : (env : Env) (d : DesigTree) (e : ExprTree) (p : Place) → Worded (broken_assign env d e p)
assign_worded env d e p = target_worded env d & expr_worded env e & rule _ _ _ refl & rule _ _ _ refl & rule _ _ _ refl

-- ## Communication

channel_rule_worded : (forms : Forms) (t : Option TypeId) (p : Place) → Worded (channel_rule forms t p)
channel_rule_worded forms None p = no_rule
channel_rule_worded forms (Some t) p = rule _ _ _ refl

channel_worded : (env : Env) (d : DesigTree) → Worded (broken_channel env d)
channel_worded env d = desig_worded env d & channel_rule_worded env.state.forms (desig_type env d) (desig_place d)

message_worded : (env : Env) (carried : Option TypeId) (e : ExprTree) (p : Place) → Worded (broken_message env carried e p)
message_worded env carried e p =
    either _ (rule _ _ _ refl) (expr_worded env e & rule _ _ _ refl & rule _ _ _ refl & rule _ _ _ refl)

send_worded : (env : Env) (d : DesigTree) (e : ExprTree) (p : Place) → Worded (broken_send env d e p)
send_worded env d e p = channel_worded env d & message_worded env (carried_by env.state.forms (desig_type env d)) e p

receiver_worded : (env : Env) (carried : Option TypeId) (v : DesigTree) (p : Place) → Worded (broken_receiver env carried v p)
receiver_worded env carried v p =
    either _ (rule _ _ _ refl) (desig_worded env v & rule _ _ _ refl & rule _ _ _ refl & rule _ _ _ refl)

receive_worded : (env : Env) (d v : DesigTree) (p : Place) → Worded (broken_receive env d v p)
receive_worded env d v p = channel_worded env d & receiver_worded env (carried_by env.state.forms (desig_type env d)) v p

-- ## Case and for

label_rule_worded : (t u : Option TypeId) (p : Place) → Worded (label_rule t u p)
label_rule_worded None u p = no_rule
label_rule_worded (Some t) u p = rule _ _ _ refl

label_worded : (env : Env) (t : Option TypeId) (c : Constant) → Worded (broken_label env t c)
label_worded env t c =
    constant_worded env.state.blocks.scopes env.view c & label_rule_worded t (constant_type (written_constant env c)) (constant_place c)

labels_worded : (env : Env) (t : Option TypeId) (cs : List Constant) → Worded (broken_labels env t cs)
labels_worded env t [] = no_rule
labels_worded env t (c ∷ cs) = label_worded env t c & labels_worded env t cs

for_worded : (env : Env) (x : Text) (a b : ExprTree) (p : Place) → Worded (broken_for env x a b p)
for_worded env x a b p = name_worded a_variable (meaning_of (find env x)) p & expr_worded env a & expr_worded env b & rule _ _ _ refl

spread_worded : (env : Env) (spread : Option Spread) → Worded (broken_spread env spread)
spread_worded env None = no_rule
spread_worded env (Some s) =
    name_worded a_variable (meaning_of (find env s.name)) s.place
    & constant_worded env.state.blocks.scopes env.view s.low
    & constant_worded env.state.blocks.scopes env.view s.high
    & rule _ _ _ refl

-- ## Concurrent statements

accept_rules_worded : (env : Env) (x : Text) (p q : Place) → Worded (accept_rules env x p q)
accept_rules_worded env x p q = rule _ _ _ refl & name_worded an_entry (meaning_of (find env x)) p

requeue_stmt_worded : (env : Env) (x : Text × Place) (args : ActualTrees) (q : Place) → Worded (broken_requeue env x args q)
requeue_stmt_worded env x args q = rule _ _ _ refl & requeue_worded env (innermost env.view) (meaning_of (find env x.0)) x.1 args

timeout_worded : (env : Env) (e : ExprTree) → Worded (broken_timeout env e)
timeout_worded env e = expr_worded env e & rule _ _ _ refl

way_worded : (had : Bool) (c : CommTree) → Worded (way_rule had c)
way_worded had (comm_accept a p) = no_rule
way_worded had (comm_send d e p) = no_rule
way_worded had (comm_receive d v p) = no_rule
way_worded had (timeout e p) = rule _ _ _ refl
way_worded had (terminate p) = rule _ _ _ refl

ways_worded : (had : Bool) (alts : AltTrees) → Worded (ways_rule had alts)
ways_worded had no_alts = no_rule
ways_worded had (more_alts (alt spread guard c ts) alts) = way_worded had c & ways_worded (had || not (communicates c)) alts

guard_worded : (env : Env) (guard : Option ExprTree) → Worded (broken_guard env guard)
guard_worded env None = no_rule
guard_worded env (Some e) = expr_worded env e & rule _ _ _ refl

-- ## Statements

mutual
  pub stmt_worded : (env : Env) (next : ℕ) (t : StmtTree) → Worded (broken_stmt env next t)
  stmt_worded env next empty = no_rule
  stmt_worded env next (null p) = no_rule
  stmt_worded env next (block b p) = body_worded env next b
  stmt_worded env next (if_then e t p) = expr_worded env e & rule _ _ _ refl & stmt_worded env next t
  stmt_worded env next (if_then_else e t u p) =
      expr_worded env e & rule _ _ _ refl & stmt_worded env next t & stmt_worded env (next + scopes_in t) u
  stmt_worded env next (case_of e arms last p) = expr_worded env e & arms_worded env next (expr_type env e) arms
  stmt_worded env next (while_do e t p) = expr_worded env e & rule _ _ _ refl & stmt_worded env next t
  stmt_worded env next (repeat_until ts e p) = stmts_worded env next ts & expr_worded env e & rule _ _ _ refl
  stmt_worded env next (repeat_forever ts p) = stmts_worded env next ts
  stmt_worded env next (for_do x from down to t p q) = for_worded env x from to q & stmt_worded env next t
  stmt_worded env next (cobegin ts last p) = rule _ _ _ refl & stmts_worded (within_cobegin env) next ts
  stmt_worded env next (accepting a p) = accept_worded env next a p
  stmt_worded env next (requeue x args p) = requeue_stmt_worded env x args p
  stmt_worded env next (select pri alts p q) = rule _ _ _ refl & rule _ _ _ refl & ways_worded false alts & alts_worded env next alts
  stmt_worded env next (select_else pri alts ts at p q) =
      rule _ _ _ refl
      & rule _ _ _ refl
      & ways_worded false alts
      & alts_worded env next alts
      & rule _ _ _ refl
      & stmts_worded env (next + alts_scopes alts) ts
  stmt_worded env next (assign d e p q) = assign_worded env d e q
  stmt_worded env next (send d e p q) = send_worded env d e q
  stmt_worded env next (receive d v p q) = receive_worded env d v q
  stmt_worded env next (call d args p) = call_worded env d args

  stmts_worded : (env : Env) (next : ℕ) (ts : StmtTrees) → Worded (broken_stmts env next ts)
  stmts_worded env next no_stmts = no_rule
  stmts_worded env next (more_stmts t ts) = stmt_worded env next t & stmts_worded env (next + scopes_in t) ts

  pub body_worded : (env : Env) (next : ℕ) (b : BodyTree) → Worded (broken_body env next b)
  body_worded env next (body ts first last) = stmts_worded env next ts

  arms_worded : (env : Env) (next : ℕ) (t : Option TypeId) (arms : ArmTrees) → Worded (broken_arms env next t arms)
  arms_worded env next t no_arms = no_rule
  arms_worded env next t (more_arms a arms) = arm_worded env next t a & arms_worded env (next + arm_scopes a) t arms

  arm_worded : (env : Env) (next : ℕ) (t : Option TypeId) (a : ArmTree) → Worded (broken_arm env next t a)
  arm_worded env next t (arm cs s) = labels_worded env t cs & stmt_worded env next s

  accept_worded : (env : Env) (next : ℕ) (a : AcceptTree) (q : Place) → Worded (broken_accept env next a q)
  accept_worded env next (accept x gs p) q = accept_rules_worded env x p q
  accept_worded env next (accept_do x gs t p) q = accept_rules_worded env x p q & stmt_worded (within_accept env next) (next + 1) t

  alts_worded : (env : Env) (next : ℕ) (alts : AltTrees) → Worded (broken_alts env next alts)
  alts_worded env next no_alts = no_rule
  alts_worded env next (more_alts a alts) = alt_worded env next a & alts_worded env (next + alt_scopes a) alts

  alt_worded : (env : Env) (next : ℕ) (a : AltTree) → Worded (broken_alt env next a)
  alt_worded env next (alt spread guard c ts) =
      spread_worded env spread & guard_worded env guard & comm_worded env next c & stmts_worded env (next + comm_scopes c) ts

  comm_worded : (env : Env) (next : ℕ) (c : CommTree) → Worded (broken_comm env next c)
  comm_worded env next (comm_accept a p) = accept_worded env next a p
  comm_worded env next (comm_send d e p) = send_worded env d e p
  comm_worded env next (comm_receive d v p) = receive_worded env d v p
  comm_worded env next (timeout e p) = timeout_worded env e
  comm_worded env next (terminate p) = rule _ _ _ refl
