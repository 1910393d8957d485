-- The words of the rules of accepts, labels, subs, modules and processes.
use Rattle.std.proofs.Common.{refl}
use Rattle.std.specs.Prelude.{ℕ, Bool, true, false, List, [], ◌∷◌, ◌++◌, length, Option, Some, None}
use Rattle.std.specs.List.{list_any}
use Rattle.pfc_base.specs.declared.places.Place.{Place}
use Rattle.pfc_tree.specs.Symbols.{Text}
use Rattle.pfc_tree.specs.declared.tree.Constant.{Constant}
use Rattle.pfc_tree.specs.trees.Types.{GroupTree}
use Rattle.pfc_tree.specs.trees.Stmts.{StmtTree, StmtTrees, BodyTree, ArmTree, ArmTrees, AcceptTree, AltTree, AltTrees, CommTree, empty, null, block, if_then}
use Rattle.pfc_tree.specs.trees.Stmts.{if_then_else, case_of, while_do, repeat_until, repeat_forever, for_do, cobegin, accepting, requeue, select, select_else}
use Rattle.pfc_tree.specs.trees.Stmts.{assign, send, receive, call, no_stmts, more_stmts, body, arm, no_arms, more_arms, accept, accept_do, alt, no_alts}
use Rattle.pfc_tree.specs.trees.Stmts.{more_alts, comm_accept, comm_send, comm_receive, timeout, terminate}
use Rattle.pfc_tree.specs.trees.Parts.{PartTree, PartTrees, SubTree, ModuleTree, ProcessTree, consts, types, vars, sub_part, monitor, resource, process_part}
use Rattle.pfc_tree.specs.trees.Parts.{no_parts, more_parts, sub, the_module, process}
use Rattle.pfc_types.specs.Faults.{unless}
use Rattle.pfc_types.specs.Scopes.{Level, here, look}
use Rattle.pfc_types.specs.Blocks.{State, Blocks, note, open_scope, add_module}
use Rattle.pfc_types.specs.declared.scope.Meaning.{Meaning}
use Rattle.pfc_types.specs.declared.scope.Meaning.TheVariants.{Module, Entry}
use Rattle.pfc_types.specs.declared.heads.Formal.{Formal}
use Rattle.pfc_types.specs.declared.heads.ModuleHead.{ModuleHead}
use Rattle.pfc_types.specs.rules.Constants.{Ordinal, same_ordinal, constant_value, constant_place}
use Rattle.pfc_types.specs.rules.Declarations.{Owner, elsewhere, Heading, group_viewed, accept_rule, accept_groups, accept_heading, accepted, Labels}
use Rattle.pfc_types.specs.rules.Declarations.{label_noted, labels_noted, stmt_state, stmts_state, body_state, arms_state, arm_state, accept_state, alts_state}
use Rattle.pfc_types.specs.rules.Declarations.{alt_state, comm_state, exports_state, module_owner, module_closed, init_state, sub_headed, process_headed}
use Rattle.pfc_types.specs.rules.Declarations.{entries_state, part_state, parts_state, sub_state, module_state, process_state}
use Rattle.pfc_refusals.proofs.Worded.{Worded, no_rule, rule, broken_rule}
use Rattle.pfc_refusals.proofs.Noted.{Noted, noted, one_of, declared}
use Rattle.pfc_refusals.proofs.Declarations.{consts_noted, types_noted, vars_noted, group_noted, entries_noted, opened_noted, sub_headed_noted, exports_noted}
use Rattle.pfc_refusals.proofs.Declarations.{process_headed_noted}

-- ## Accepts and labels

accept_worded : (b : Blocks) (m : Option Meaning) (formals : List Formal) (p : Place) → Worded (accept_rule b m formals p)
accept_worded b (Some (Entry k)) formals p = rule _ _ _ refl
accept_worded b m formals p = no_rule

accept_groups_noted : (i : ℕ) (view : List Level) (h : Heading) (gs : List GroupTree) → Noted h.state → Noted (accept_groups i view h gs).state
accept_groups_noted i view h [] k = k
accept_groups_noted i view h (g ∷ gs) k = accept_groups_noted i view (group_viewed i view h g) gs (group_noted i view h g k)

accepted_noted : (s : State) (view : List Level) (x : Text) (gs : List GroupTree) (p : Place) → Noted s → Noted (accepted s view x gs p)
accepted_noted s view x gs p k =
    let h = accept_heading (open_scope s) (length s.blocks.scopes) view gs in
    noted (accept_worded h.state.blocks (look s.blocks.scopes view x) h.formals p)
    (accept_groups_noted (length s.blocks.scopes) view (record { state = open_scope s; formals = []; whole = true }) gs (opened_noted s k))

one_label_noted : (c : Option Ordinal) (p : Place) (r : Labels) → Noted r.state → Noted (label_noted c p r).state
one_label_noted None p r h = h
one_label_noted (Some c) p r h =
    one_of (λ (l : Labels). l.state) (list_any (same_ordinal c) r.seen)
    (record r { state = note r.state (unless false p 320) }) (record r { seen = r.seen ++ c ∷ [] })
    (noted (broken_rule _ _ refl) h) h

all_labels_noted : (view : List Level) (r : Labels) (cs : List Constant) → Noted r.state → Noted (labels_noted view r cs).state
all_labels_noted view r [] h = h
all_labels_noted view r (c ∷ cs) h =
    let m = constant_value r.state.blocks.scopes view c in
    all_labels_noted view (label_noted m (constant_place c) r) cs (one_label_noted m (constant_place c) r h)

-- ## Statements

mutual
  stmt_noted : (s : State) (view : List Level) (t : StmtTree) → Noted s → Noted (stmt_state s view t)
  stmt_noted s view empty h = h
  stmt_noted s view (null p) h = h
  stmt_noted s view (block b p) h = body_noted s view b h
  stmt_noted s view (if_then e t p) h = stmt_noted s view t h
  stmt_noted s view (if_then_else e t u p) h = stmt_noted (stmt_state s view t) view u (stmt_noted s view t h)
  stmt_noted s view (case_of e arms last p) h = arms_noted view (record { state = s; seen = [] }) arms h
  stmt_noted s view (while_do e t p) h = stmt_noted s view t h
  stmt_noted s view (repeat_until ts e p) h = stmts_noted s view ts h
  stmt_noted s view (repeat_forever ts p) h = stmts_noted s view ts h
  stmt_noted s view (for_do x from down to t p q) h = stmt_noted s view t h
  stmt_noted s view (cobegin ts last p) h = stmts_noted s view ts h
  stmt_noted s view (accepting a p) h = accept_noted s view a h
  stmt_noted s view (requeue x args p) h = h
  stmt_noted s view (select pri alts p q) h = alts_noted s view alts h
  stmt_noted s view (select_else pri alts ts p q r) h = stmts_noted (alts_state s view alts) view ts (alts_noted s view alts h)
  stmt_noted s view (assign d e p q) h = h
  stmt_noted s view (send d e p q) h = h
  stmt_noted s view (receive d v p q) h = h
  stmt_noted s view (call d args p) h = h

  stmts_noted : (s : State) (view : List Level) (ts : StmtTrees) → Noted s → Noted (stmts_state s view ts)
  stmts_noted s view no_stmts h = h
  stmts_noted s view (more_stmts t ts) h = stmts_noted (stmt_state s view t) view ts (stmt_noted s view t h)

  pub body_noted : (s : State) (view : List Level) (b : BodyTree) → Noted s → Noted (body_state s view b)
  body_noted s view (body ts first last) h = stmts_noted s view ts h

  arms_noted : (view : List Level) (r : Labels) (arms : ArmTrees) → Noted r.state → Noted (arms_state view r arms).state
  arms_noted view r no_arms h = h
  arms_noted view r (more_arms a arms) h = arms_noted view (arm_state view r a) arms (arm_noted view r a h)

  arm_noted : (view : List Level) (r : Labels) (a : ArmTree) → Noted r.state → Noted (arm_state view r a).state
  arm_noted view r (arm cs t) h = stmt_noted (labels_noted view r cs).state view t (all_labels_noted view r cs h)

  accept_noted : (s : State) (view : List Level) (a : AcceptTree) → Noted s → Noted (accept_state s view a)
  accept_noted s view (accept x gs p) h = accepted_noted s view x gs p h
  accept_noted s view (accept_do x gs t p) h =
      let opened = accepted s view x gs p in
      stmt_noted opened (here opened.blocks.scopes (length s.blocks.scopes) view) t (accepted_noted s view x gs p h)

  alts_noted : (s : State) (view : List Level) (alts : AltTrees) → Noted s → Noted (alts_state s view alts)
  alts_noted s view no_alts h = h
  alts_noted s view (more_alts a alts) h = alts_noted (alt_state s view a) view alts (alt_noted s view a h)

  alt_noted : (s : State) (view : List Level) (a : AltTree) → Noted s → Noted (alt_state s view a)
  alt_noted s view (alt spread guard c ts) h = stmts_noted (comm_state s view c) view ts (comm_noted s view c h)

  comm_noted : (s : State) (view : List Level) (c : CommTree) → Noted s → Noted (comm_state s view c)
  comm_noted s view (comm_accept a p) h = accept_noted s view a h
  comm_noted s view (comm_send d e p) h = h
  comm_noted s view (comm_receive d v p) h = h
  comm_noted s view (timeout e p) h = h
  comm_noted s view (terminate p) h = h

-- ## Modules

with_module_noted : (s : State) (head : ModuleHead) → Noted s → Noted (add_module s head)
with_module_noted s head h = record { all = h.all }

module_closed_noted : (is_resource : Bool) (s : State) (i own : ℕ) (x : Text × Place) (exports : List (List (Text × Place))) → Noted s →
    Noted (module_closed is_resource s i own x exports)
module_closed_noted is_resource s i own x exports h =
    declared i x (Module (length s.blocks.modules))
    (with_module_noted (exports_state s own exports) (record { scope = own; resource = is_resource }) (exports_noted s own exports h))

init_noted : (s : State) (view : List Level) (b : Option BodyTree) → Noted s → Noted (init_state s view b)
init_noted s view None h = h
init_noted s view (Some b) h = body_noted s view b h

-- ## Parts

mutual
  part_noted : (owner : Owner) (s : State) (i : ℕ) (outer : List Level) (q : PartTree) → Noted s → Noted (part_state owner s i outer q)
  part_noted owner s i outer (consts items) h = consts_noted s i outer items h
  part_noted owner s i outer (types items) h = types_noted s i outer items h
  part_noted owner s i outer (vars vs) h = vars_noted owner s i outer vs h
  part_noted owner s i outer (sub_part b) h = sub_noted s i outer b h
  part_noted owner s i outer (monitor m) h = module_noted false s i outer m h
  part_noted owner s i outer (resource m) h = module_noted true s i outer m h
  part_noted owner s i outer (process_part q) h = process_noted s i outer q h

  pub parts_noted : (owner : Owner) (s : State) (i : ℕ) (outer : List Level) (qs : PartTrees) → Noted s → Noted (parts_state owner s i outer qs)
  parts_noted owner s i outer no_parts h = h
  parts_noted owner s i outer (more_parts q qs) h = parts_noted owner (part_state owner s i outer q) i outer qs (part_noted owner s i outer q h)

  sub_noted : (s : State) (i : ℕ) (outer : List Level) (b : SubTree) → Noted s → Noted (sub_state s i outer b)
  sub_noted s i outer (sub x gs kind ps b p) h =
      let own = length s.blocks.scopes in
      let headed = sub_headed s i outer (x, p) gs kind in
      let around = here headed.blocks.scopes i outer in
      let made = parts_state elsewhere headed own around ps in
      noted (rule _ _ _ refl)
      (body_noted made (here made.blocks.scopes own around) b
      (parts_noted elsewhere headed own around ps (sub_headed_noted s i outer (x, p) gs kind h)))

  module_noted : (is_resource : Bool) (s : State) (i : ℕ) (outer : List Level) (m : ModuleTree) → Noted s → Noted (module_state is_resource s i outer m)
  module_noted is_resource s i outer (the_module x exports ps b last p) h =
      let own = length s.blocks.scopes in
      let around = here s.blocks.scopes i outer in
      let made = parts_state (module_owner is_resource) (open_scope s) own around ps in
      let view = here made.blocks.scopes own around in
      module_closed_noted is_resource (init_state made view b) i own (x, p) exports
      (init_noted made view b (parts_noted (module_owner is_resource) (open_scope s) own around ps (opened_noted s h)))

  process_noted : (s : State) (i : ℕ) (outer : List Level) (q : ProcessTree) → Noted s → Noted (process_state s i outer q)
  process_noted s i outer (process many x gs es ps b p) h =
      let own = length s.blocks.scopes in
      let headed = process_headed s i outer many (x, p) gs in
      let around = here headed.blocks.scopes i outer in
      let entered = entries_state headed own around 0 es in
      let made = parts_state elsewhere entered own around ps in
      noted (rule _ _ _ refl)
      (body_noted made (here made.blocks.scopes own around) b
      (parts_noted elsewhere entered own around ps
      (entries_noted headed own around 0 es (process_headed_noted s i outer many (x, p) gs h))))
