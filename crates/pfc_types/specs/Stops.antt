-- The names in view at each body, as the walk over the bodies has them, in the order of the text.
--
-- The walk has the finished scopes, and counts which of their names were declared before a place. It is followed here with the same
-- steps as in the rules, from stop to stop: the bodies and the guards, where it asks all its rules.
use Rattle.std.specs.Prelude.{ℕ, ◌+◌, Bool, true, false, List, [], ◌∷◌, ◌++◌, Option, Some, None}
use Rattle.pfc_tree.specs.trees.Stmts.{StmtTree, StmtTrees, BodyTree, ArmTree, ArmTrees, AcceptTree, AltTree, AltTrees, CommTree, empty, null, block, if_then}
use Rattle.pfc_tree.specs.trees.Stmts.{if_then_else, case_of, while_do, repeat_until, repeat_forever, for_do, cobegin, accepting, requeue, select, select_else}
use Rattle.pfc_tree.specs.trees.Stmts.{assign, send, receive, call, no_stmts, more_stmts, body, arm, no_arms, more_arms, accept, accept_do, alt, no_alts}
use Rattle.pfc_tree.specs.trees.Stmts.{more_alts, comm_accept, comm_send, comm_receive, timeout, terminate}
use Rattle.pfc_tree.specs.trees.Parts.{KindTree, PartTree, PartTrees, SubTree, ModuleTree, ProcessTree, ProgramTree, procedure, function, guarded, consts}
use Rattle.pfc_tree.specs.trees.Parts.{types, vars, sub_part, monitor, resource, process_part, no_parts, more_parts, sub, the_module, process}
use Rattle.pfc_base.specs.declared.faults.Refusal.{Refusal}
use Rattle.pfc_types.specs.Faults.{Faults, listed}
use Rattle.pfc_types.specs.rules.Expressions.{Env}
use Rattle.pfc_types.specs.Scopes.{Names, Level, scope_at, here}
use Rattle.pfc_types.specs.Blocks.{State}
use Rattle.pfc_types.specs.rules.Statements.{broken_body, scopes_in, arm_scopes, alts_scopes, alt_scopes, comm_scopes}
use Rattle.pfc_types.specs.rules.Bodies.{env_at, around_main, around_process, around_sub, around_guard, around_nothing, broken_when, passed, passed_part}
use Rattle.pfc_types.specs.rules.Bodies.{passed_groups, passed_entries, part_scopes, parts_scopes, level}

-- ## Views in statements

abbrev mutual
  pub stmt_views : List Names → List Level → ℕ → StmtTree → List (List Level)
  stmt_views scopes view next empty = []
  stmt_views scopes view next (null p) = []
  stmt_views scopes view next (block b p) = inner_views scopes view next b
  stmt_views scopes view next (if_then e t p) = stmt_views scopes view next t
  stmt_views scopes view next (if_then_else e t u p) = stmt_views scopes view next t ++ stmt_views scopes view (next + scopes_in t) u
  stmt_views scopes view next (case_of e arms last p) = arms_views scopes view next arms
  stmt_views scopes view next (while_do e t p) = stmt_views scopes view next t
  stmt_views scopes view next (repeat_until ts e p) = stmts_views scopes view next ts
  stmt_views scopes view next (repeat_forever ts p) = stmts_views scopes view next ts
  stmt_views scopes view next (for_do x from down to t p q) = stmt_views scopes view next t
  stmt_views scopes view next (cobegin ts last p) = stmts_views scopes view next ts
  stmt_views scopes view next (accepting a p) = accept_views scopes view next a
  stmt_views scopes view next (requeue x args p) = []
  stmt_views scopes view next (select pri alts p q) = alts_views scopes view next alts
  stmt_views scopes view next (select_else pri alts ts p q r) = alts_views scopes view next alts ++ stmts_views scopes view (next + alts_scopes alts) ts
  stmt_views scopes view next (assign d e p q) = []
  stmt_views scopes view next (send d e p q) = []
  stmt_views scopes view next (receive d v p q) = []
  stmt_views scopes view next (call d args p) = []

  pub stmts_views : List Names → List Level → ℕ → StmtTrees → List (List Level)
  stmts_views scopes view next no_stmts = []
  stmts_views scopes view next (more_stmts t ts) = stmt_views scopes view next t ++ stmts_views scopes view (next + scopes_in t) ts

  pub inner_views : List Names → List Level → ℕ → BodyTree → List (List Level)
  inner_views scopes view next (body ts first last) = stmts_views scopes view next ts

  pub arms_views : List Names → List Level → ℕ → ArmTrees → List (List Level)
  arms_views scopes view next no_arms = []
  arms_views scopes view next (more_arms a arms) = arm_views scopes view next a ++ arms_views scopes view (next + arm_scopes a) arms

  pub arm_views : List Names → List Level → ℕ → ArmTree → List (List Level)
  arm_views scopes view next (arm cs t) = stmt_views scopes view next t

  pub accept_views : List Names → List Level → ℕ → AcceptTree → List (List Level)
  accept_views scopes view next (accept x gs p) = []
  accept_views scopes view next (accept_do x gs t p) =
      let inner = here scopes next view in inner ∷ stmt_views scopes inner (next + 1) t

  pub alts_views : List Names → List Level → ℕ → AltTrees → List (List Level)
  alts_views scopes view next no_alts = []
  alts_views scopes view next (more_alts a alts) = alt_views scopes view next a ++ alts_views scopes view (next + alt_scopes a) alts

  pub alt_views : List Names → List Level → ℕ → AltTree → List (List Level)
  alt_views scopes view next (alt spread guard c ts) = comm_views scopes view next c ++ stmts_views scopes view (next + comm_scopes c) ts

  pub comm_views : List Names → List Level → ℕ → CommTree → List (List Level)
  comm_views scopes view next (comm_accept a p) = accept_views scopes view next a
  comm_views scopes view next (comm_send d e p) = []
  comm_views scopes view next (comm_receive d v p) = []
  comm_views scopes view next (timeout e p) = []
  comm_views scopes view next (terminate p) = []

abbrev pub body_views : List Names → List Level → ℕ → BodyTree → List (List Level)
body_views scopes view next b = view ∷ inner_views scopes view next b

abbrev pub guard_views : KindTree → List Level → List (List Level)
guard_views procedure view = []
guard_views (function x p) view = []
guard_views (guarded e p) view = view ∷ []

-- ## Stops

-- what stands where the walk over the bodies stops: the guard of a sub that has one, or a body
pub data Inside : Type 0 where
  a_guard : KindTree → Inside
  a_body : BodyTree → Inside

-- a stop, with what is known there and the number of the next scope of the text
pub record Stop : Type 0 where
  pub env : Env
  pub next : ℕ
  pub inside : Inside

-- the rules that are broken there
abbrev pub broken_inside : Env → ℕ → Inside → Faults
broken_inside env next (a_guard kind) = broken_when env kind
broken_inside env next (a_body b) = broken_body env next b

abbrev pub broken_stops : List Stop → List Refusal
broken_stops [] = []
broken_stops (stop ∷ stops) = listed (broken_inside stop.env stop.next stop.inside) ++ broken_stops stops

-- the views there
abbrev pub inside_views : List Names → List Level → ℕ → Inside → List (List Level)
inside_views scopes view next (a_guard kind) = guard_views kind view
inside_views scopes view next (a_body b) = body_views scopes view next b

abbrev pub views : List Stop → List (List Level)
views [] = []
views (stop ∷ stops) = inside_views stop.env.state.blocks.scopes stop.env.view stop.next stop.inside ++ views stops

abbrev pub one_stop : Env → ℕ → Inside → List Stop
one_stop env next inside = record { env = env; next = next; inside = inside } ∷ []

abbrev pub init_stops : State → List Level → ℕ → Option BodyTree → List Stop
init_stops s view next None = []
init_stops s view next (Some b) = one_stop (env_at s view around_nothing) next (a_body b)

abbrev mutual
  pub part_stops : State → Bool → ℕ → ℕ → List Level → ℕ → PartTree → List Stop
  part_stops s in_process i n outer next (consts items) = []
  part_stops s in_process i n outer next (types items) = []
  part_stops s in_process i n outer next (vars vs) = []
  part_stops s in_process i n outer next (sub_part b) = sub_stops s in_process i n outer next b
  part_stops s in_process i n outer next (monitor m) = module_stops s i n outer next m
  part_stops s in_process i n outer next (resource m) = module_stops s i n outer next m
  part_stops s in_process i n outer next (process_part q) = process_stops s i n outer next q

  pub parts_stops : State → Bool → ℕ → ℕ → List Level → ℕ → PartTrees → List Stop
  parts_stops s in_process i n outer next no_parts = []
  parts_stops s in_process i n outer next (more_parts q qs) =
      part_stops s in_process i n outer next q
      ++ parts_stops s in_process i (passed_part (scope_at s.blocks.scopes i) n q) outer (next + part_scopes q) qs

  pub sub_stops : State → Bool → ℕ → ℕ → List Level → ℕ → SubTree → List Stop
  sub_stops s in_process i n outer next (sub x gs kind ps b p) =
      let own = scope_at s.blocks.scopes next in
      let count = passed_groups own 0 gs in
      let around = level i (passed (scope_at s.blocks.scopes i) n x) ∷ outer in
      one_stop (env_at s (level next count ∷ level i n ∷ outer) (around_guard i)) next (a_guard kind)
      ++ (parts_stops s in_process next count around (next + 1) ps
      ++ one_stop (env_at s (here s.blocks.scopes next around) (around_sub in_process kind)) (next + 1 + parts_scopes ps) (a_body b))

  pub module_stops : State → ℕ → ℕ → List Level → ℕ → ModuleTree → List Stop
  module_stops s i n outer next (the_module x exports ps b last p) =
      let around = level i n ∷ outer in
      parts_stops s false next 0 around (next + 1) ps ++ init_stops s (here s.blocks.scopes next around) (next + 1 + parts_scopes ps) b

  pub process_stops : State → ℕ → ℕ → List Level → ℕ → ProcessTree → List Stop
  process_stops s i n outer next (process many x gs es ps b p) =
      let own = scope_at s.blocks.scopes next in
      let count = passed_entries own (passed_groups own 0 gs) es in
      let around = level i (passed (scope_at s.blocks.scopes i) n x) ∷ outer in
      parts_stops s true next count around (next + 1) ps
      ++ one_stop (env_at s (here s.blocks.scopes next around) around_process) (next + 1 + parts_scopes ps) (a_body b)

-- the stops of the walk over a whole tree; the body of the program is the last
abbrev pub stops : State → ProgramTree → List Stop
stops s t =
    parts_stops s false 0 0 [] 1 t.parts
    ++ one_stop (env_at s (here s.blocks.scopes 0 []) around_main) (1 + parts_scopes t.parts) (a_body t.body)
