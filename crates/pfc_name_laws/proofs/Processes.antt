-- The headings of processes: only a process adds one, with its own scope.
use Rattle.std.proofs.Common.{◌≡◌, ℕ, ◌+◌, ◌<◌, Bool, true, false, not, if◌then◌else◌, is_some, List, [], ◌∷◌, ◌++◌, length, map, Option, Some, None, refl, ap}
use Rattle.std.proofs.Common.{sym, ◌∙◌, arith}
use Rattle.std.specs.List.{list_any}
use Rattle.std.proofs.lemmas.List.{append-nil, append_assoc, map-append}
use Rattle.pfc_base.specs.declared.places.Place.{Place}
use Rattle.pfc_tree.specs.Symbols.{Text}
use Rattle.pfc_tree.specs.declared.tree.Constant.{Constant}
use Rattle.pfc_tree.specs.declared.tree.ConstItem.{ConstItem}
use Rattle.pfc_tree.specs.trees.Types.{TypeTree, VarTree, VarTrees, TypeItemTree, GroupTree, named, channel, array, fields, var_item, no_vars, more_vars}
use Rattle.pfc_tree.specs.trees.Stmts.{StmtTree, StmtTrees, BodyTree, ArmTree, ArmTrees, AcceptTree, AltTree, AltTrees, CommTree, empty, null, block, if_then}
use Rattle.pfc_tree.specs.trees.Stmts.{if_then_else, case_of, while_do, repeat_until, repeat_forever, for_do, cobegin, accepting, requeue, select, select_else}
use Rattle.pfc_tree.specs.trees.Stmts.{assign, send, receive, call, no_stmts, more_stmts, body, arm, no_arms, more_arms, accept, accept_do, alt, no_alts}
use Rattle.pfc_tree.specs.trees.Stmts.{more_alts, comm_accept, comm_send, comm_receive, timeout, terminate}
use Rattle.pfc_tree.specs.trees.Parts.{KindTree, EntryTree, PartTree, PartTrees, SubTree, ModuleTree, ProcessTree, ProgramTree, consts, types, vars, sub_part}
use Rattle.pfc_tree.specs.trees.Parts.{monitor, resource, process_part, no_parts, more_parts, sub, the_module, process}
use Rattle.pfc_tree.specs.forget.Parts.{forget_part, forget_parts, forget_sub, forget_module, forget_process, forget_program}
use Rattle.pfc_tree.specs.lawful.Parts.{Home, of_program, of_resource, of_other, HoldsModules, IsLawfulPart, AreLawfulParts, IsLawfulSub, IsLawfulModule}
use Rattle.pfc_tree.specs.lawful.Parts.{IsLawfulProcess, IsLawful}
use Rattle.pfc_types.specs.Faults.{Faults, none, one, ◌⨾◌, unless}
use Rattle.pfc_types.specs.Types.{integer, refusal_of, most_processes}
use Rattle.pfc_types.specs.Fields.{type_named}
use Rattle.pfc_types.specs.Scopes.{Level, scope_at, here, meaning_in, look}
use Rattle.pfc_types.specs.Blocks.{State, note, declare, add_form, add_name, add_entry, add_module, add_process, set_population, sub_at, export_sub, open_scope}
use Rattle.pfc_types.specs.declared.types.TypeId.{TypeId}
use Rattle.pfc_types.specs.declared.types.TypeForm.{TypeForm}
use Rattle.pfc_types.specs.declared.types.TypeForm.TheVariants.{Process as AProcess}
use Rattle.pfc_types.specs.declared.table.TypeFault.{TypeFault}
use Rattle.pfc_types.specs.declared.table.TypeFault.TheVariants.{Bounds, Cells, Memory}
use Rattle.pfc_types.specs.declared.heads.ModuleHead.{ModuleHead}
use Rattle.pfc_types.specs.declared.heads.ProcessHead.{ProcessHead}
use Rattle.pfc_types.specs.declared.scope.Meaning.{Meaning}
use Rattle.pfc_types.specs.declared.scope.Meaning.TheVariants.{Constant as AConstant, Named, Variable, Sub, Module, Process, Entry, Predeclared, Faulty}
use Rattle.pfc_types.specs.rules.Kinds.{type_name_rules, has_object, variable_meaning}
use Rattle.pfc_types.specs.rules.Constants.{Ordinal, Extent, same_ordinal, constant_place, constant_value, broken_constant, broken_ranges, range_extents, Made}
use Rattle.pfc_types.specs.rules.Constants.{added_unless, added, channel_form, array_of, made_arrays, MadeFields, made_field, made_names, made_group}
use Rattle.pfc_types.specs.rules.Constants.{record_form, fields_begun, made, made_items, made_item, type_place}
use Rattle.pfc_types.specs.rules.Declarations.{constant_meaning, const_state, consts_state, type_state, types_state, Owner, in_program, elsewhere, owner_rules}
use Rattle.pfc_types.specs.rules.Declarations.{owned_type, passes_most, populated, brought, var_name_state, var_names_state, var_state, vars_state, group_type}
use Rattle.pfc_types.specs.rules.Declarations.{broken_group, Heading, formal_heading, formals_heading, group_viewed, group_heading, groups_heading, heading}
use Rattle.pfc_types.specs.rules.Declarations.{accept_groups, accept_heading, accept_rule, accepted, EntryHeading, entry_formal, entry_formals, entry_group}
use Rattle.pfc_types.specs.rules.Declarations.{entry_groups, entry_state, entries_state, may_export, export_state, export_list, exports_state, process_named}
use Rattle.pfc_types.specs.rules.Declarations.{process_headed, process_cells, Labels, label_noted, labels_noted, stmt_state, stmts_state, body_state}
use Rattle.pfc_types.specs.rules.Declarations.{arms_state, arm_state, accept_state, alts_state, alt_state, comm_state, init_state, broken_sort, sub_headed}
use Rattle.pfc_types.specs.rules.Declarations.{module_owner, cells_rule, scope_cells, result_cells, part_state, parts_state, sub_state, module_state}
use Rattle.pfc_types.specs.rules.Declarations.{process_state}
use Rattle.pfc_types.specs.rules.Bodies.{part_scopes}
use Rattle.pfc_types.specs.rules.Whole.{begun, declared_parts, declared_all, main_cells, finished}
use Rattle.pfc_types.proofs.WalkParts.{part_walked}
use Rattle.pfc_name_laws.specs.Processes.{processes_from}

-- ## Steps

-- the same processes
abbrev Same : State → State → Type 0
Same s t = t.blocks.processes ≡ s.blocks.processes

note_same : (s : State) (fs : Faults) → Same s (note s fs)
note_same s none = refl
note_same s (one f) = refl
note_same s (fs ⨾ gs) = note_same (note s fs) gs ∙ note_same s fs

declare_same : (s : State) (i : ℕ) (x : Text × Place) (m : Meaning) → Same s (declare s i x m)
declare_same s i x m = by (is_some (meaning_in (scope_at s.blocks.scopes i) x.0))
  where
    by : (b : Bool) → Same s (if b then note s (unless false x.1 302) else add_name s i x.0 m)
    by true = note_same s (unless false x.1 302)
    by false = refl

-- ## Types as they are written

added_unless_same : (fault : Option TypeFault) (s : State) (form : TypeForm) (p : Place) → Same s (added_unless fault s form p).state
added_unless_same None s form p = refl
added_unless_same (Some Bounds) s form p = refl
added_unless_same (Some Cells) s form p = note_same s (unless false p 304)
added_unless_same (Some Memory) s form p = refl

added_same : (s : State) (form : Option TypeForm) (p : Place) → Same s (added s form p).state
added_same s None p = refl
added_same s (Some form) p = added_unless_same (refusal_of s.forms form) s form p

arrays_same : (m : Made) (rs : List (Option Extent)) (p : Place) → Same m.state (made_arrays m rs p).state
arrays_same m [] p = refl
arrays_same m (r ∷ rs) p = added_same (made_arrays m rs p).state (array_of r (made_arrays m rs p).t) p ∙ arrays_same m rs p

field_same : (t : TypeId) (r : MadeFields) (x : Text × Place) → Same r.state (made_field t r x).state
field_same t r x = by (is_some (type_named r.list x.0))
  where
    by : (b : Bool)
        → Same r.state
        (if b then record { state = note r.state (unless false x.1 302); list = r.list; whole = false } else record r { list = r.list ++ (x.0, t) ∷ [] }).state
    by true = note_same r.state (unless false x.1 302)
    by false = refl

names_same : (t : TypeId) (r : MadeFields) (xs : List (Text × Place)) → Same r.state (made_names t r xs).state
names_same t r [] = refl
names_same t r (x ∷ xs) = names_same t (made_field t r x) xs ∙ field_same t r x

group_same : (r : MadeFields) (t : Option TypeId) (xs : List (Text × Place)) → Same r.state (made_group r t xs).state
group_same r None xs = names_same integer (record r { whole = false }) xs
group_same r (Some t) xs = names_same t r xs

mutual
  made_same : (carried : Bool) (s : State) (view : List Level) (t : TypeTree) → Same s (made carried s view t).state
  made_same carried s view (named x p) = note_same s (type_name_rules carried (look s.blocks.scopes view x) p)
  made_same carried s view (channel t p) =
      let m = made true s view t in
      let fault = unless (not (has_object m.state.forms m.t)) (type_place t) 406 in
      added_same (note m.state fault) (channel_form m.state.forms m.t) p ∙ note_same m.state fault ∙ made_same true s view t
  made_same carried s view (array rs t p) =
      let noted = note s (broken_ranges s.blocks.scopes view rs) in
      arrays_same (made false noted view t) (range_extents s.blocks.scopes view rs) p ∙ made_same false noted view t
      ∙ note_same s (broken_ranges s.blocks.scopes view rs)
  made_same carried s view (fields vs last p) =
      let r = made_items view (fields_begun s) vs in added_same r.state (record_form r) p ∙ items_same view (fields_begun s) vs

  items_same : (view : List Level) (r : MadeFields) (vs : VarTrees) → Same r.state (made_items view r vs).state
  items_same view r no_vars = refl
  items_same view r (more_vars v vs) = items_same view (made_item view r v) vs ∙ item_same view r v

  item_same : (view : List Level) (r : MadeFields) (v : VarTree) → Same r.state (made_item view r v).state
  item_same view r (var_item xs t) =
      let m = made false r.state view t in group_same (record r { state = m.state }) m.t xs ∙ made_same false r.state view t

-- ## Constants, types and variables

consts_same : (s : State) (i : ℕ) (outer : List Level) (cs : List ConstItem) → Same s (consts_state s i outer cs)
consts_same s i outer [] = refl
consts_same s i outer (c ∷ cs) =
    let view = here s.blocks.scopes i outer in
    let fault = broken_constant s.blocks.scopes view c.value in
    consts_same (const_state s i outer c) i outer cs
    ∙ (declare_same (note s fault) i (c.name, c.place) (constant_meaning (constant_value s.blocks.scopes view c.value)) ∙ note_same s fault)

types_same : (s : State) (i : ℕ) (outer : List Level) (ds : List TypeItemTree) → Same s (types_state s i outer ds)
types_same s i outer [] = refl
types_same s i outer (d ∷ ds) =
    types_same (type_state s i outer d) i outer ds ∙ (declare_same _ i _ _ ∙ made_same false s (here s.blocks.scopes i outer) d.form)

populated_same : (s : State) (i more : ℕ) (x : Text × Place) (m : Meaning) → Same s (populated s i more x m)
populated_same s i more x m = by (passes_most s.blocks.population more)
  where
    by : (t : Bool)
        → Same s
        (if t
        then declare (note (set_population s (most_processes (s.blocks.population + more))) (unless false x.1 424)) i x Faulty
        else declare (set_population s (most_processes (s.blocks.population + more))) i x m)
    by true =
        declare_same (note (set_population s (most_processes (s.blocks.population + more))) (unless false x.1 424)) i x Faulty
        ∙ note_same (set_population s (most_processes (s.blocks.population + more))) (unless false x.1 424)
    by false = declare_same (set_population s (most_processes (s.blocks.population + more))) i x m

var_name_same : (s : State) (i : ℕ) (t : Option TypeId) (x : Text × Place) → Same s (var_name_state s i t x)
var_name_same s i t x = by (is_some (meaning_in (scope_at s.blocks.scopes i) x.0))
  where
    by : (r : Bool) → Same s (if r then declare s i x Faulty else populated s i (brought s.forms t) x (variable_meaning false t))
    by true = declare_same s i x Faulty
    by false = populated_same s i (brought s.forms t) x (variable_meaning false t)

var_names_same : (s : State) (i : ℕ) (t : Option TypeId) (xs : List (Text × Place)) → Same s (var_names_state s i t xs)
var_names_same s i t [] = refl
var_names_same s i t (x ∷ xs) = var_names_same (var_name_state s i t x) i t xs ∙ var_name_same s i t x

vars_same : (owner : Owner) (s : State) (i : ℕ) (outer : List Level) (vs : VarTrees) → Same s (vars_state owner s i outer vs)
vars_same owner s i outer no_vars = refl
vars_same owner s i outer (more_vars (var_item xs t) vs) =
    let m = made false s (here s.blocks.scopes i outer) t in
    let noted = note m.state (owner_rules owner m.state.forms m.t (type_place t)) in
    vars_same owner (var_state owner s i outer (var_item xs t)) i outer vs
    ∙ (var_names_same noted i (owned_type owner m.state.forms m.t) xs ∙ note_same m.state (owner_rules owner m.state.forms m.t (type_place t))
    ∙ made_same false s (here s.blocks.scopes i outer) t)

-- ## Headings

formals_same : (i : ℕ) (reference : Bool) (t : Option TypeId) (h : Heading) (xs : List (Text × Place)) → Same h.state (formals_heading i reference t h xs).state
formals_same i reference t h [] = refl
formals_same i reference t h (x ∷ xs) =
    formals_same i reference t (formal_heading i reference t h x) xs ∙ declare_same h.state i x (variable_meaning reference t)

group_viewed_same : (i : ℕ) (view : List Level) (h : Heading) (g : GroupTree) → Same h.state (group_viewed i view h g).state
group_viewed_same i view h g = formals_same i g.reference (group_type h.state view g) _ g.names ∙ note_same h.state (broken_group h.state view g)

groups_same : (i : ℕ) (outer : List Level) (h : Heading) (gs : List GroupTree) → Same h.state (groups_heading i outer h gs).state
groups_same i outer h [] = refl
groups_same i outer h (g ∷ gs) = groups_same i outer (group_heading i outer h g) gs ∙ group_viewed_same i (here h.state.blocks.scopes i outer) h g

accept_groups_same : (i : ℕ) (view : List Level) (h : Heading) (gs : List GroupTree) → Same h.state (accept_groups i view h gs).state
accept_groups_same i view h [] = refl
accept_groups_same i view h (g ∷ gs) = accept_groups_same i view (group_viewed i view h g) gs ∙ group_viewed_same i view h g

entry_formals_same : (reference : Bool) (t : Option TypeId) (h : EntryHeading) (xs : List (Text × Place)) → Same h.state (entry_formals reference t h xs).state
entry_formals_same reference t h [] = refl
entry_formals_same reference t h (x ∷ xs) =
    entry_formals_same reference t (entry_formal reference t h x) xs ∙ note_same h.state (unless (not (is_some (meaning_in h.own x.0))) x.1 302)

entry_groups_same : (view : List Level) (h : EntryHeading) (gs : List GroupTree) → Same h.state (entry_groups view h gs).state
entry_groups_same view h [] = refl
entry_groups_same view h (g ∷ gs) =
    entry_groups_same view (entry_group view h g) gs
    ∙ (entry_formals_same g.reference (group_type h.state view g) _ g.names ∙ note_same h.state (broken_group h.state view g))

pub entries_same : (s : State) (i : ℕ) (outer : List Level) (k : ℕ) (es : List EntryTree) → Same s (entries_state s i outer k es)
entries_same s i outer k [] = refl
entries_same s i outer k (e ∷ es) =
    let h = entry_groups (here s.blocks.scopes i outer) (record { state = s; own = []; formals = []; whole = true }) e.formals in
    entries_same (entry_state s i outer k e) i outer (k + 1) es
    ∙ (declare_same (add_entry h.state h.formals) i _ _ ∙ entry_groups_same (here s.blocks.scopes i outer)
    (record { state = s; own = []; formals = []; whole = true }) e.formals)

-- ## Exports and processes

export_same : (s : State) (m : Option Meaning) (p : Place) → Same s (export_state s m p)
export_same s None p = note_same s (unless false p 409)
export_same s (Some (AConstant t v)) p = note_same s (unless false p 409)
export_same s (Some (Named t)) p = note_same s (unless false p 409)
export_same s (Some (Variable t r)) p = note_same s (unless false p 409)
export_same s (Some (Sub n)) p = by (may_export (sub_at s.blocks n))
  where
    by : (b : Bool) → Same s (if b then export_sub s n else note s (unless false p 409))
    by true = refl
    by false = note_same s (unless false p 409)
export_same s (Some (Module n)) p = note_same s (unless false p 409)
export_same s (Some (Process n)) p = note_same s (unless false p 409)
export_same s (Some (Entry n)) p = note_same s (unless false p 409)
export_same s (Some (Predeclared k)) p = note_same s (unless false p 409)
export_same s (Some Faulty) p = refl

export_list_same : (s : State) (i : ℕ) (xs : List (Text × Place)) → Same s (export_list s i xs)
export_list_same s i [] = refl
export_list_same s i (x ∷ xs) =
    let m = meaning_in (scope_at s.blocks.scopes i) x.0 in export_list_same (export_state s m x.1) i xs ∙ export_same s m x.1

exports_same : (s : State) (i : ℕ) (lists : List (List (Text × Place))) → Same s (exports_state s i lists)
exports_same s i [] = refl
exports_same s i (xs ∷ lists) = exports_same (export_list s i xs) i lists ∙ export_list_same s i xs

process_named_same : (s : State) (i : ℕ) (many whole : Bool) (x : Text × Place) (n : ℕ) → Same s (process_named s i many whole x n)
process_named_same s i many false x n = declare_same s i x Faulty
process_named_same s i true true x n = declare_same (add_form s (AProcess n)) i x (Named (record { place = length s.forms }))
process_named_same s i false true x n = by (is_some (meaning_in (scope_at s.blocks.scopes i) x.0))
  where
    by : (r : Bool) → Same s (if r then declare s i x Faulty else populated s i 1 x (Process n))
    by true = declare_same s i x Faulty
    by false = populated_same s i 1 x (Process n)

-- ## Statements

accepted_same : (s : State) (view : List Level) (x : Text) (gs : List GroupTree) (p : Place) → Same s (accepted s view x gs p)
accepted_same s view x gs p =
    let h = accept_heading (open_scope s) (length s.blocks.scopes) view gs in
    note_same h.state (accept_rule h.state.blocks (look s.blocks.scopes view x) h.formals p)
    ∙ accept_groups_same (length s.blocks.scopes) view (record { state = open_scope s; formals = []; whole = true }) gs

label_same : (c : Option Ordinal) (p : Place) (r : Labels) → Same r.state (label_noted c p r).state
label_same None p r = refl
label_same (Some c) p r = by (list_any (same_ordinal c) r.seen)
  where
    by : (b : Bool) → Same r.state (if b then record r { state = note r.state (unless false p 320) } else record r { seen = r.seen ++ c ∷ [] }).state
    by true = note_same r.state (unless false p 320)
    by false = refl

labels_same : (view : List Level) (r : Labels) (cs : List Constant) → Same r.state (labels_noted view r cs).state
labels_same view r [] = refl
labels_same view r (c ∷ cs) =
    let x = constant_value r.state.blocks.scopes view c in
    labels_same view (label_noted x (constant_place c) r) cs ∙ label_same x (constant_place c) r

mutual
  stmt_same : (s : State) (view : List Level) (t : StmtTree) → Same s (stmt_state s view t)
  stmt_same s view empty = refl
  stmt_same s view (null p) = refl
  stmt_same s view (block b p) = body_same s view b
  stmt_same s view (if_then e t p) = stmt_same s view t
  stmt_same s view (if_then_else e t u p) = stmt_same (stmt_state s view t) view u ∙ stmt_same s view t
  stmt_same s view (case_of e arms last p) = arms_same view (record { state = s; seen = [] }) arms
  stmt_same s view (while_do e t p) = stmt_same s view t
  stmt_same s view (repeat_until ts e p) = stmts_same s view ts
  stmt_same s view (repeat_forever ts p) = stmts_same s view ts
  stmt_same s view (for_do x from down to t p q) = stmt_same s view t
  stmt_same s view (cobegin ts last p) = stmts_same s view ts
  stmt_same s view (accepting a p) = accept_same s view a
  stmt_same s view (requeue x args p) = refl
  stmt_same s view (select pri alts p q) = alts_same s view alts
  stmt_same s view (select_else pri alts ts p q r) = stmts_same (alts_state s view alts) view ts ∙ alts_same s view alts
  stmt_same s view (assign d e p q) = refl
  stmt_same s view (send d e p q) = refl
  stmt_same s view (receive d v p q) = refl
  stmt_same s view (call d args p) = refl

  stmts_same : (s : State) (view : List Level) (ts : StmtTrees) → Same s (stmts_state s view ts)
  stmts_same s view no_stmts = refl
  stmts_same s view (more_stmts t ts) = stmts_same (stmt_state s view t) view ts ∙ stmt_same s view t

  body_same : (s : State) (view : List Level) (b : BodyTree) → Same s (body_state s view b)
  body_same s view (body ts from to) = stmts_same s view ts

  arms_same : (view : List Level) (r : Labels) (arms : ArmTrees) → Same r.state (arms_state view r arms).state
  arms_same view r no_arms = refl
  arms_same view r (more_arms a arms) = arms_same view (arm_state view r a) arms ∙ arm_same view r a

  arm_same : (view : List Level) (r : Labels) (a : ArmTree) → Same r.state (arm_state view r a).state
  arm_same view r (arm cs t) = stmt_same (labels_noted view r cs).state view t ∙ labels_same view r cs

  accept_same : (s : State) (view : List Level) (a : AcceptTree) → Same s (accept_state s view a)
  accept_same s view (accept x gs p) = accepted_same s view x gs p
  accept_same s view (accept_do x gs t p) =
      let opened = accepted s view x gs p in
      stmt_same opened (here opened.blocks.scopes (length s.blocks.scopes) view) t ∙ accepted_same s view x gs p

  alts_same : (s : State) (view : List Level) (alts : AltTrees) → Same s (alts_state s view alts)
  alts_same s view no_alts = refl
  alts_same s view (more_alts a alts) = alts_same (alt_state s view a) view alts ∙ alt_same s view a

  alt_same : (s : State) (view : List Level) (a : AltTree) → Same s (alt_state s view a)
  alt_same s view (alt spread guard c ts) = stmts_same (comm_state s view c) view ts ∙ comm_same s view c

  comm_same : (s : State) (view : List Level) (c : CommTree) → Same s (comm_state s view c)
  comm_same s view (comm_accept a p) = accept_same s view a
  comm_same s view (comm_send d e p) = refl
  comm_same s view (comm_receive d v p) = refl
  comm_same s view (timeout e p) = refl
  comm_same s view (terminate p) = refl

init_same : (s : State) (view : List Level) (b : Option BodyTree) → Same s (init_state s view b)
init_same s view None = refl
init_same s view (Some b) = body_same s view b

-- ## Parts in which no module stands

sub_headed_same : (s : State) (i : ℕ) (outer : List Level) (x : Text × Place) (gs : List GroupTree) (kind : KindTree) → Same s (sub_headed s i outer x gs kind)
sub_headed_same s i outer x gs kind =
    let own = length s.blocks.scopes in
    let around = here s.blocks.scopes i outer in
    let h = heading (open_scope s) own around gs in
    declare_same _ i x _ ∙ (note_same h.state (broken_sort h.state (here h.state.blocks.scopes own around) kind)
    ∙ groups_same own around (record { state = open_scope s; formals = []; whole = true }) gs)

-- a process adds its heading
headed : State → ℕ → List Level → List GroupTree → ProcessHead
headed s i outer gs =
    record {
      formals = (heading (open_scope s) (length s.blocks.scopes) (here s.blocks.scopes i outer) gs).formals;
      entries = length s.blocks.entries;
      scope = length s.blocks.scopes;
    }

process_headed_added : (s : State) (i : ℕ) (outer : List Level) (many : Bool) (x : Text × Place) (gs : List GroupTree)
    → (process_headed s i outer many x gs).blocks.processes ≡ s.blocks.processes ++ headed s i outer gs ∷ []
unfolding headed
process_headed_added s i outer many x gs =
    let own = length s.blocks.scopes in
    let around = here s.blocks.scopes i outer in
    let h = heading (open_scope s) own around gs in
    let head : ProcessHead = record { formals = h.formals; entries = length s.blocks.entries; scope = own } in
    process_named_same (add_process h.state head) i many h.whole x (length s.blocks.processes)
    ∙ ap (λ (l : List ProcessHead). l ++ head ∷ []) (groups_same own around (record { state = open_scope s; formals = []; whole = true }) gs)

mutual
  part_same :
      (h : Home) (owner : Owner) (s : State) (i : ℕ) (outer : List Level) (q : PartTree) → (HoldsModules h → ⊥) → IsLawfulPart h (forget_part q)
      → Same s (part_state owner s i outer q)
  part_same h owner s i outer (consts items) apart lawful = consts_same s i outer items
  part_same h owner s i outer (types items) apart lawful = types_same s i outer items
  part_same h owner s i outer (vars vs) apart lawful = vars_same owner s i outer vs
  part_same h owner s i outer (sub_part b) apart lawful = sub_same h s i outer b lawful
  part_same h owner s i outer (monitor m) apart lawful = absurd (apart lawful.0)
  part_same h owner s i outer (resource m) apart lawful = absurd (apart lawful.0)
  part_same h owner s i outer (process_part p) apart lawful = absurd (apart lawful.0)

  pub parts_same :
      (h : Home) (owner : Owner) (s : State) (i : ℕ) (outer : List Level) (qs : PartTrees) → (HoldsModules h → ⊥) → AreLawfulParts h (forget_parts qs)
      → Same s (parts_state owner s i outer qs)
  parts_same h owner s i outer no_parts apart lawful = refl
  parts_same h owner s i outer (more_parts q qs) apart lawful =
      parts_same h owner (part_state owner s i outer q) i outer qs apart lawful.1 ∙ part_same h owner s i outer q apart lawful.0

  sub_same : (h : Home) (s : State) (i : ℕ) (outer : List Level) (b : SubTree) → IsLawfulSub h (forget_sub b) → Same s (sub_state s i outer b)
  sub_same h s i outer (sub x gs kind ps b p) lawful =
      let own = length s.blocks.scopes in
      let headed = sub_headed s i outer (x, p) gs kind in
      let around = here headed.blocks.scopes i outer in
      let declared = parts_state elsewhere headed own around ps in
      let done = body_state declared (here declared.blocks.scopes own around) b in
      note_same done (cells_rule (scope_cells done.forms (scope_at done.blocks.scopes own) + result_cells kind) p)
      ∙ (body_same declared (here declared.blocks.scopes own around) b
      ∙ (parts_same of_other elsewhere headed own around ps (λ e. e) lawful.2 ∙ sub_headed_same s i outer (x, p) gs kind))

module_same :
    (is_resource : Bool) (h : Home) (s : State) (i : ℕ) (outer : List Level) (m : ModuleTree) → (HoldsModules h → ⊥) → IsLawfulModule h (forget_module m)
    → Same s (module_state is_resource s i outer m)
module_same is_resource h s i outer (the_module x exports ps b last p) apart lawful =
    let own = length s.blocks.scopes in
    let around = here s.blocks.scopes i outer in
    let declared = parts_state (module_owner is_resource) (open_scope s) own around ps in
    let inits = init_state declared (here declared.blocks.scopes own around) b in
    let t = exports_state inits own exports in
    let head : ModuleHead = record { scope = own; resource = is_resource } in
    declare_same (add_module t head) i (x, p) _
    ∙ (exports_same inits own exports ∙ (init_same declared (here declared.blocks.scopes own around) b
    ∙ parts_same h (module_owner is_resource) (open_scope s) own around ps apart lawful.1))

process_scopes_added : (s : State) (i : ℕ) (outer : List Level) (q : ProcessTree) → IsLawfulProcess (forget_process q)
    → map (λ (h : ProcessHead). h.scope) (process_state s i outer q).blocks.processes ≡ map (λ
    (h : ProcessHead). h.scope) s.blocks.processes ++ length s.blocks.scopes ∷ []
unfolding headed
process_scopes_added s i outer (process many x gs es ps b p) lawful =
    let own = length s.blocks.scopes in
    let at_head = process_headed s i outer many (x, p) gs in
    let around = here at_head.blocks.scopes i outer in
    let entered = entries_state at_head own around 0 es in
    let declared = parts_state elsewhere entered own around ps in
    let done = body_state declared (here declared.blocks.scopes own around) b in
    ap (λ (l : List ProcessHead). map (λ (h : ProcessHead). h.scope) l)
    (note_same done (cells_rule (process_cells done own (length declared.blocks.scopes)) p)
    ∙ (body_same declared (here declared.blocks.scopes own around) b
    ∙ (parts_same of_other elsewhere entered own around ps (λ e. e) lawful.2 ∙ (entries_same at_head own around 0 es
    ∙ process_headed_added s i outer many (x, p) gs))))
    ∙ map-append (λ (h : ProcessHead). h.scope) s.blocks.processes (headed s i outer gs ∷ [])

-- ## The processes of a program

abbrev scopes_so_far : State → List ℕ
scopes_so_far s = map (λ (h : ProcessHead). h.scope) s.blocks.processes

kept_scopes : (s t : State) → Same s t → scopes_so_far t ≡ scopes_so_far s
kept_scopes s t e = ap (λ (l : List ProcessHead). map (λ (h : ProcessHead). h.scope) l) e

-- what a part of the program adds
processes_step :
    (s : State) (next : ℕ) (q : PartTree) (qs : PartTrees) → length s.blocks.scopes ≡ next → IsLawfulPart of_program (forget_part q)
    → scopes_so_far (part_state in_program s 0 [] q) ++ processes_from (next + part_scopes q) qs ≡ scopes_so_far s ++ processes_from next (more_parts q qs)
processes_step s next (consts items) qs at lawful =
    ap (λ (l : List ℕ). l ++ processes_from (next + 0) qs) (kept_scopes s (part_state in_program s 0 [] (consts items)) (consts_same s 0 [] items))
processes_step s next (types items) qs at lawful =
    ap (λ (l : List ℕ). l ++ processes_from (next + 0) qs) (kept_scopes s (part_state in_program s 0 [] (types items)) (types_same s 0 [] items))
processes_step s next (vars vs) qs at lawful =
    ap (λ (l : List ℕ). l ++ processes_from (next + 0) qs) (kept_scopes s (part_state in_program s 0 [] (vars vs)) (vars_same in_program s 0 [] vs))
processes_step s next (sub_part b) qs at lawful =
    ap (λ (l : List ℕ). l ++ processes_from (next + part_scopes (sub_part b)) qs)
    (kept_scopes s (part_state in_program s 0 [] (sub_part b)) (sub_same of_program s 0 [] b lawful))
processes_step s next (monitor m) qs at lawful =
    ap (λ (l : List ℕ). l ++ processes_from (next + part_scopes (monitor m)) qs)
    (kept_scopes s (part_state in_program s 0 [] (monitor m)) (module_same false of_other s 0 [] m (λ e. e) lawful.1))
processes_step s next (resource m) qs at lawful =
    ap (λ (l : List ℕ). l ++ processes_from (next + part_scopes (resource m)) qs)
    (kept_scopes s (part_state in_program s 0 [] (resource m)) (module_same true of_resource s 0 [] m (λ e. e) lawful.1))
processes_step s next (process_part p) qs at lawful =
    let rest = processes_from (next + part_scopes (process_part p)) qs in
    ap (λ (l : List ℕ). l ++ rest) (process_scopes_added s 0 [] p lawful.1)
    ∙ append_assoc (scopes_so_far s) (length s.blocks.scopes ∷ []) rest
    ∙ ap (λ n. scopes_so_far s ++ (n ∷ rest)) at

processes_added :
    (s : State) (next : ℕ) (qs : PartTrees) → length s.blocks.scopes ≡ next → 0 < next → AreLawfulParts of_program (forget_parts qs)
    → scopes_so_far (parts_state in_program s 0 [] qs) ≡ scopes_so_far s ++ processes_from next qs
processes_added s next no_parts at some lawful = sym (append-nil (scopes_so_far s))
processes_added s next (more_parts q qs) at some lawful =
    let t = part_state in_program s 0 [] q in
    let walked = part_walked in_program s 0 [] q (omega (arith, at, some)) in
    let count = walked.count in
    processes_added t (next + part_scopes q) qs (omega (arith, at, count)) (omega (arith, some)) lawful.1 ∙ processes_step s next q qs at lawful.0

pub program_processes : (t : ProgramTree) → IsLawful (forget_program t) → scopes_so_far (finished t) ≡ processes_from 1 t.parts
program_processes t lawful =
    let s = declared_parts t in
    kept_scopes s (finished t)
    (note_same (declared_all t) (cells_rule (main_cells (declared_all t)) t.name.1) ∙ body_same s (here s.blocks.scopes 0 []) t.body)
    ∙ processes_added begun 1 t.parts refl (omega arith) lawful.0
