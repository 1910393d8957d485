-- Statements: the rules that are broken in them.
use Rattle.std.specs.Prelude.{ℕ, ◌+◌, ◌==◌, Bool, true, false, not, ◌&&◌, ◌||◌, if◌then◌else◌, nat_le, List, [], ◌∷◌, Option, Some, None, is_some}
use Rattle.pfc_base.specs.declared.places.Place.{Place}
use Rattle.pfc_tree.specs.Symbols.{Text}
use Rattle.pfc_tree.specs.declared.tree.Constant.{Constant}
use Rattle.pfc_tree.specs.declared.tree.Spread.{Spread}
use Rattle.pfc_tree.specs.trees.Exprs.{ExprTree, DesigTree, ActualTrees, desig, no_selectors, more_selectors}
use Rattle.pfc_tree.specs.trees.Stmts.{StmtTree, StmtTrees, BodyTree, ArmTree, ArmTrees, AcceptTree, AltTree, AltTrees, CommTree, empty, null, block, if_then}
use Rattle.pfc_tree.specs.trees.Stmts.{if_then_else, case_of, while_do, repeat_until, repeat_forever, for_do, cobegin, accepting, requeue, select, select_else}
use Rattle.pfc_tree.specs.trees.Stmts.{assign, send, receive, call, no_stmts, more_stmts, body, arm, no_arms, more_arms, accept, accept_do, alt, no_alts}
use Rattle.pfc_tree.specs.trees.Stmts.{more_alts, comm_accept, comm_send, comm_receive, timeout, terminate}
use Rattle.pfc_types.specs.Faults.{Faults, none, ◌⨾◌, unless}
use Rattle.pfc_types.specs.Types.{Forms, integer, synchronous, is_simple, form_of, carried_form, extent}
use Rattle.pfc_types.specs.Scopes.{Level, here, meaning_of}
use Rattle.pfc_types.specs.Blocks.{sub_at}
use Rattle.pfc_types.specs.declared.types.TypeId.{TypeId}
use Rattle.pfc_types.specs.declared.scope.Meaning.{Meaning}
use Rattle.pfc_types.specs.declared.scope.Meaning.TheVariants.{Sub}
use Rattle.pfc_types.specs.declared.view.Around.{Around}
use Rattle.pfc_types.specs.declared.heads.SubHead.{SubHead}
use Rattle.pfc_types.specs.declared.heads.SubSort.{SubSort}
use Rattle.pfc_types.specs.declared.heads.SubSort.TheVariants.{Procedure, Guarded, Function}
use Rattle.pfc_types.specs.rules.Kinds.{has, may_have, may_agree, may_be_simple, value_rule, condition_rule, name_rules, wrong_kind, a_variable, an_entry}
use Rattle.pfc_types.specs.rules.Kinds.{variable_type}
use Rattle.pfc_types.specs.rules.Constants.{Ordinal, are_bounds, constant_value, constant_type, constant_place, broken_constant}
use Rattle.pfc_types.specs.rules.Routines.{is_any}
use Rattle.pfc_types.specs.rules.Expressions.{Env, find, expr_place, desig_place, as_desig, expr_type, desig_type, broken_expr, broken_desig}
use Rattle.pfc_types.specs.rules.Calls.{broken_call, requeue_rules}

-- ## Assignments

-- a function is assigned inside its body only, its nested subs included: its scope is among those around
abbrev pub is_around : List Level → ℕ → Bool
is_around [] i = false
is_around (level ∷ view) i = level.scope == i || is_around view i

abbrev pub assigned_sub : List Level → SubHead → Option TypeId
assigned_sub view head = result_of (is_around view head.scope) head.sort
  where
    result_of : Bool → SubSort → Option TypeId
    result_of inside Procedure = None
    result_of inside Guarded = None
    result_of inside (Function t) = if inside then t else None

-- the type of what is assigned: a variable, or the result of a function around
abbrev pub target_of : Env → Option Meaning → Option TypeId
target_of env (Some (Sub n)) = assigned_sub env.view (sub_at env.state.blocks n)
target_of env m = variable_type m

abbrev pub target_type : Env → DesigTree → Option TypeId
target_type env (desig x no_selectors p) = target_of env (meaning_of (find env x))
target_type env (desig x (more_selectors s ss) p) = desig_type env (desig x (more_selectors s ss) p)

-- 310: what is assigned is a variable or a function
-- 327: a function's name is assigned inside its body only; at the name
abbrev pub sub_target : Bool → SubSort → Place → Faults
sub_target inside Procedure p = wrong_kind p
sub_target inside Guarded p = wrong_kind p
sub_target inside (Function t) p = unless inside p 327

abbrev pub target_rules : Env → Option Meaning → Place → Faults
target_rules env (Some (Sub n)) p =
    sub_target (is_around env.view (sub_at env.state.blocks n).scope) (sub_at env.state.blocks n).sort p
target_rules env m p = name_rules a_variable m p

abbrev pub broken_target : Env → DesigTree → Faults
broken_target env (desig x no_selectors p) = target_rules env (meaning_of (find env x)) p
broken_target env (desig x (more_selectors s ss) p) = broken_desig env (desig x (more_selectors s ss) p)

-- 312: both sides have one type; at `:=`, `!` or `?`
abbrev pub types_rule : Option TypeId → Option TypeId → Place → Faults
types_rule t u p = unless (may_agree t u) p 312

-- x := e; 406: no object is assigned, on either side
abbrev pub broken_assign : Env → DesigTree → ExprTree → Place → Faults
broken_assign env d e p =
    broken_target env d
    ⨾ broken_expr env e
    ⨾ types_rule (target_type env d) (expr_type env e) p
    ⨾ value_rule env.state.forms (target_type env d) (desig_place d)
    ⨾ value_rule env.state.forms (expr_type env e) (expr_place e)

-- ## Communication

-- what the channel carries, None where the channel is faulty or none
abbrev pub carried_by : Forms → Option TypeId → Option TypeId
carried_by forms None = None
carried_by forms (Some t) = carried_form (form_of forms t)

-- 310: what stands before `!` or `?` is a channel; at its name
abbrev pub channel_rule : Forms → Option TypeId → Place → Faults
channel_rule forms None p = none
channel_rule forms (Some t) p = unless (is_some (carried_form (form_of forms t))) p 310

abbrev pub broken_channel : Env → DesigTree → Faults
broken_channel env d = broken_desig env d ⨾ channel_rule env.state.forms (desig_type env d) (desig_place d)

-- `any`, alone, as it is predeclared
abbrev pub names_any : Env → Option DesigTree → Bool
names_any env None = false
names_any env (Some (desig x no_selectors p)) = is_any (meaning_of (find env x))
names_any env (Some (desig x (more_selectors s ss) p)) = false

-- 412: `any` is communicated only over a channel of `synchronous`; at its name
abbrev pub any_rule : Option TypeId → Place → Faults
any_rule carried p = unless (may_have synchronous carried) p 412

-- 412: over a channel of `synchronous` only `any` is communicated, whatever else stands there; at `!` or `?`
abbrev pub only_any_rule : Option TypeId → Place → Faults
only_any_rule carried p = unless (not (has synchronous carried)) p 412

-- the message: 312, and 406, since no object is sent
abbrev pub broken_message : Env → Option TypeId → ExprTree → Place → Faults
broken_message env carried e p =
    if names_any env (as_desig e)
    then any_rule carried (expr_place e)
    else (
    broken_expr env e
    ⨾ types_rule carried (expr_type env e) p
    ⨾ only_any_rule carried p
    ⨾ value_rule env.state.forms (expr_type env e) (expr_place e))

-- c ! e
abbrev pub broken_send : Env → DesigTree → ExprTree → Place → Faults
broken_send env d e p = broken_channel env d ⨾ broken_message env (carried_by env.state.forms (desig_type env d)) e p

-- the receiving variable: 312, and 406, since no object is received
abbrev pub broken_receiver : Env → Option TypeId → DesigTree → Place → Faults
broken_receiver env carried v p =
    if names_any env (Some v)
    then any_rule carried (desig_place v)
    else (
    broken_desig env v
    ⨾ types_rule carried (desig_type env v) p
    ⨾ only_any_rule carried p
    ⨾ value_rule env.state.forms (desig_type env v) (desig_place v))

-- c ? v
abbrev pub broken_receive : Env → DesigTree → DesigTree → Place → Faults
broken_receive env d v p = broken_channel env d ⨾ broken_receiver env (carried_by env.state.forms (desig_type env d)) v p

-- ## Case and for

-- a constant as it is written, None where it is faulty
abbrev pub written_constant : Env → Constant → Option Ordinal
written_constant env c = constant_value env.state.blocks.scopes env.view c

-- 319: a label has the type of its `case`, which is simple; at the label
abbrev pub may_label : TypeId → Option TypeId → Bool
may_label t u = is_simple t && may_have t u

abbrev pub label_rule : Option TypeId → Option TypeId → Place → Faults
label_rule None u p = none
label_rule (Some t) u p = unless (may_label t u) p 319

abbrev pub broken_label : Env → Option TypeId → Constant → Faults
broken_label env t c =
    broken_constant env.state.blocks.scopes env.view c
    ⨾ label_rule t (constant_type (written_constant env c)) (constant_place c)

abbrev pub broken_labels : Env → Option TypeId → List Constant → Faults
broken_labels env t [] = none
broken_labels env t (c ∷ cs) = broken_label env t c ⨾ broken_labels env t cs

-- 321: a simple variable named alone, and bounds of its type; at the variable
abbrev pub for_rule : Option TypeId → Option TypeId → Option TypeId → Place → Faults
for_rule t a b p = unless ((may_be_simple t && may_agree t a) && may_agree t b) p 321

abbrev pub broken_for : Env → Text → ExprTree → ExprTree → Place → Faults
broken_for env x a b p =
    let m = meaning_of (find env x) in
    name_rules a_variable m p
    ⨾ broken_expr env a
    ⨾ broken_expr env b
    ⨾ for_rule (variable_type m) (expr_type env a) (expr_type env b) p

-- ## Spreads

-- for x := 1 to 3 replicate; 321: a simple variable named alone, and constants of its type; at the variable. The low constant may be
-- above the high one.
abbrev pub broken_spread : Env → Option Spread → Faults
broken_spread env None = none
broken_spread env (Some s) =
    let m = meaning_of (find env s.name) in
    name_rules a_variable m s.place
    ⨾ broken_constant env.state.blocks.scopes env.view s.low
    ⨾ broken_constant env.state.blocks.scopes env.view s.high
    ⨾ for_rule (variable_type m) (constant_type (written_constant env s.low)) (constant_type (written_constant env s.high)) s.place

-- How many values lie from a low constant to a high one of its type: none where the low one is above the high one. Where a constant
-- is faulty or the types differ the values are not known, and none is counted.
abbrev pub values_between : Option Ordinal → Option Ordinal → ℕ
values_between (Some a) (Some b) = if are_bounds a b then extent a.value b.value else 0
values_between a b = 0

-- how many alternatives one stands for: as many as its spread has values
abbrev pub spread_count : Env → Option Spread → ℕ
spread_count env None = 1
spread_count env (Some s) = values_between (written_constant env s.low) (written_constant env s.high)

abbrev pub alts_count : Env → AltTrees → ℕ
alts_count env no_alts = 0
alts_count env (more_alts (alt spread guard c ts) alts) = spread_count env spread + alts_count env alts

-- 425: the alternatives of one `select`, one with a spread counted once for each value, are at most 1,024; at `select`
abbrev pub number_rule : Env → AltTrees → Place → Faults
number_rule env alts p = unless (nat_le (alts_count env alts) 1024) p 425

-- ## Concurrent statements

-- 401: `cobegin` stands only in the main body, and not in another; at `cobegin`
abbrev pub cobegin_rule : Around → Place → Faults
cobegin_rule around p = unless (around.main && not around.cobegin) p 401

abbrev pub within_cobegin : Env → Env
within_cobegin env = record env { around = record env.around { cobegin = true } }

-- 414: `accept` stands only in the body of a process, outside its subs; at `accept`
-- 301 and 310: it names an entry, and one in view is its process's own; at the name. What it lists was asked with the declarations.
abbrev pub accept_rules : Env → Text → Place → Place → Faults
accept_rules env x p q = unless (env.around.process && not env.around.sub) q 414 ⨾ name_rules an_entry (meaning_of (find env x)) p

-- the parameters of an accept, whose scope is number i, are in view in its statement
abbrev pub within_accept : Env → ℕ → Env
within_accept env i = record env { view = here env.state.blocks.scopes i env.view }

-- 418: `requeue` stands only in the body of a guarded procedure, outside its subs; at `requeue`
abbrev pub innermost : List Level → ℕ
innermost [] = 0
innermost (level ∷ view) = level.scope

abbrev pub broken_requeue : Env → Text × Place → ActualTrees → Place → Faults
broken_requeue env x args q =
    unless env.around.guarded q 418 ⨾ requeue_rules env (innermost env.view) (meaning_of (find env x.0)) x.1 args

-- 421: `terminate` stands only in a process, whose subs count; at `terminate`
abbrev pub terminate_rule : Around → Place → Faults
terminate_rule around p = unless around.process p 421

-- 317: the seconds of a `timeout` are an integer; at the expression
abbrev pub broken_timeout : Env → ExprTree → Faults
broken_timeout env e = broken_expr env e ⨾ unless (may_have integer (expr_type env e)) (expr_place e) 317

-- 416: one alternative at least communicates; at `select`
abbrev pub communicates : CommTree → Bool
communicates (comm_accept a p) = true
communicates (comm_send d e p) = true
communicates (comm_receive d v p) = true
communicates (timeout e p) = false
communicates (terminate p) = false

abbrev pub any_communicates : AltTrees → Bool
any_communicates no_alts = false
any_communicates (more_alts (alt spread guard c ts) alts) = communicates c || any_communicates alts

abbrev pub select_rule : AltTrees → Place → Faults
select_rule alts p = unless (any_communicates alts) p 416

-- 417: at most one of `timeout`, `else` and `terminate` in one `select`; at the second. `had` says that one stood before.
abbrev pub way_rule : Bool → CommTree → Faults
way_rule had (comm_accept a p) = none
way_rule had (comm_send d e p) = none
way_rule had (comm_receive d v p) = none
way_rule had (timeout e p) = unless (not had) p 417
way_rule had (terminate p) = unless (not had) p 417

abbrev pub ways_rule : Bool → AltTrees → Faults
ways_rule had no_alts = none
ways_rule had (more_alts (alt spread guard c ts) alts) = way_rule had c ⨾ ways_rule (had || not (communicates c)) alts

abbrev pub has_way : AltTrees → Bool
has_way no_alts = false
has_way (more_alts (alt spread guard c ts) alts) = not (communicates c) || has_way alts

abbrev pub else_rule : AltTrees → Place → Faults
else_rule alts p = unless (not (has_way alts)) p 417

abbrev pub broken_guard : Env → Option ExprTree → Faults
broken_guard env None = none
broken_guard env (Some e) = broken_expr env e ⨾ condition_rule (expr_type env e) (expr_place e)

-- ## Scopes in a statement

-- how many accepts stand in a statement: each has a scope of its own
abbrev mutual
  pub scopes_in : StmtTree → ℕ
  scopes_in empty = 0
  scopes_in (null p) = 0
  scopes_in (block b p) = body_scopes b
  scopes_in (if_then e t p) = scopes_in t
  scopes_in (if_then_else e t u p) = scopes_in t + scopes_in u
  scopes_in (case_of e arms last p) = arms_scopes arms
  scopes_in (while_do e t p) = scopes_in t
  scopes_in (repeat_until ts e p) = stmts_scopes ts
  scopes_in (repeat_forever ts p) = stmts_scopes ts
  scopes_in (for_do x from down to t p q) = scopes_in t
  scopes_in (cobegin ts last p) = stmts_scopes ts
  scopes_in (accepting a p) = accept_scopes a
  scopes_in (requeue x args p) = 0
  scopes_in (select pri alts p q) = alts_scopes alts
  scopes_in (select_else pri alts ts p q r) = alts_scopes alts + stmts_scopes ts
  scopes_in (assign d e p q) = 0
  scopes_in (send d e p q) = 0
  scopes_in (receive d v p q) = 0
  scopes_in (call d args p) = 0

  pub stmts_scopes : StmtTrees → ℕ
  stmts_scopes no_stmts = 0
  stmts_scopes (more_stmts t ts) = scopes_in t + stmts_scopes ts

  pub body_scopes : BodyTree → ℕ
  body_scopes (body ts first last) = stmts_scopes ts

  pub arms_scopes : ArmTrees → ℕ
  arms_scopes no_arms = 0
  arms_scopes (more_arms a arms) = arm_scopes a + arms_scopes arms

  pub arm_scopes : ArmTree → ℕ
  arm_scopes (arm cs t) = scopes_in t

  pub accept_scopes : AcceptTree → ℕ
  accept_scopes (accept x gs p) = 1
  accept_scopes (accept_do x gs t p) = 1 + scopes_in t

  pub alts_scopes : AltTrees → ℕ
  alts_scopes no_alts = 0
  alts_scopes (more_alts a alts) = alt_scopes a + alts_scopes alts

  pub alt_scopes : AltTree → ℕ
  alt_scopes (alt spread guard c ts) = comm_scopes c + stmts_scopes ts

  pub comm_scopes : CommTree → ℕ
  comm_scopes (comm_accept a p) = accept_scopes a
  comm_scopes (comm_send d e p) = 0
  comm_scopes (comm_receive d v p) = 0
  comm_scopes (timeout e p) = 0
  comm_scopes (terminate p) = 0

-- ## Statements

-- The rules that are broken in a statement, in the order of its parts. `next` is the number of the next scope of the text.
abbrev mutual
  pub broken_stmt : Env → ℕ → StmtTree → Faults
  broken_stmt env next empty = none
  broken_stmt env next (null p) = none
  broken_stmt env next (block b p) = broken_body env next b
  broken_stmt env next (if_then e t p) =
      broken_expr env e ⨾ condition_rule (expr_type env e) (expr_place e) ⨾ broken_stmt env next t
  broken_stmt env next (if_then_else e t u p) =
      broken_expr env e
      ⨾ condition_rule (expr_type env e) (expr_place e)
      ⨾ broken_stmt env next t
      ⨾ broken_stmt env (next + scopes_in t) u
  broken_stmt env next (case_of e arms last p) = broken_expr env e ⨾ broken_arms env next (expr_type env e) arms
  broken_stmt env next (while_do e t p) =
      broken_expr env e ⨾ condition_rule (expr_type env e) (expr_place e) ⨾ broken_stmt env next t
  broken_stmt env next (repeat_until ts e p) =
      broken_stmts env next ts ⨾ broken_expr env e ⨾ condition_rule (expr_type env e) (expr_place e)
  broken_stmt env next (repeat_forever ts p) = broken_stmts env next ts
  broken_stmt env next (for_do x from down to t p q) = broken_for env x from to q ⨾ broken_stmt env next t
  broken_stmt env next (cobegin ts last p) = cobegin_rule env.around p ⨾ broken_stmts (within_cobegin env) next ts
  broken_stmt env next (accepting a p) = broken_accept env next a p
  broken_stmt env next (requeue x args p) = broken_requeue env x args p
  broken_stmt env next (select pri alts p q) =
      select_rule alts q ⨾ number_rule env alts q ⨾ ways_rule false alts ⨾ broken_alts env next alts
  broken_stmt env next (select_else pri alts ts at p q) =
      select_rule alts q
      ⨾ number_rule env alts q
      ⨾ ways_rule false alts
      ⨾ broken_alts env next alts
      ⨾ else_rule alts at
      ⨾ broken_stmts env (next + alts_scopes alts) ts
  broken_stmt env next (assign d e p q) = broken_assign env d e q
  broken_stmt env next (send d e p q) = broken_send env d e q
  broken_stmt env next (receive d v p q) = broken_receive env d v q
  broken_stmt env next (call d args p) = broken_call env d args

  pub broken_stmts : Env → ℕ → StmtTrees → Faults
  broken_stmts env next no_stmts = none
  broken_stmts env next (more_stmts t ts) = broken_stmt env next t ⨾ broken_stmts env (next + scopes_in t) ts

  pub broken_body : Env → ℕ → BodyTree → Faults
  broken_body env next (body ts first last) = broken_stmts env next ts

  pub broken_arms : Env → ℕ → Option TypeId → ArmTrees → Faults
  broken_arms env next t no_arms = none
  broken_arms env next t (more_arms a arms) = broken_arm env next t a ⨾ broken_arms env (next + arm_scopes a) t arms

  pub broken_arm : Env → ℕ → Option TypeId → ArmTree → Faults
  broken_arm env next t (arm cs s) = broken_labels env t cs ⨾ broken_stmt env next s

  -- an accept has the next scope, and the scopes in its statement follow
  pub broken_accept : Env → ℕ → AcceptTree → Place → Faults
  broken_accept env next (accept x gs p) q = accept_rules env x p q
  broken_accept env next (accept_do x gs t p) q = accept_rules env x p q ⨾ broken_stmt (within_accept env next) (next + 1) t

  pub broken_alts : Env → ℕ → AltTrees → Faults
  broken_alts env next no_alts = none
  broken_alts env next (more_alts a alts) = broken_alt env next a ⨾ broken_alts env (next + alt_scopes a) alts

  pub broken_alt : Env → ℕ → AltTree → Faults
  broken_alt env next (alt spread guard c ts) =
      broken_spread env spread ⨾ broken_guard env guard ⨾ broken_comm env next c ⨾ broken_stmts env (next + comm_scopes c) ts

  pub broken_comm : Env → ℕ → CommTree → Faults
  broken_comm env next (comm_accept a p) = broken_accept env next a p
  broken_comm env next (comm_send d e p) = broken_send env d e p
  broken_comm env next (comm_receive d v p) = broken_receive env d v p
  broken_comm env next (timeout e p) = broken_timeout env e
  broken_comm env next (terminate p) = terminate_rule env.around p
