-- Each type of a lawful tree takes a cell, since no record is without fields: by induction over the parts.
use Rattle.std.proofs.Common.{◌≡◌, ℕ, ◌+◌, ◌*◌, ◌<◌, ◌≤◌, zero, suc, ℤ, int_le, Bool, true, false, not, ◌&&◌, nat_lt, if◌then◌else◌, is_some, List, [], ◌∷◌}
use Rattle.std.proofs.Common.{◌++◌, length, take, map, Option, Some, None, refl, ap, sym, ◌∙◌, subst, arith}
use Rattle.std.specs.List.{All, list_any}
use Rattle.std.proofs.lemmas.Bool.Decides.{nat_tests}
use Rattle.std.proofs.lemmas.List.Elements.{All-nil, All-cons, All-append}
use Rattle.std.proofs.lemmas.List.Sums.{sum_by-cons}
use Rattle.std.proofs.lemmas.List.{get_or_past}
use Rattle.pfc_types.proofs.Clean.{and-right}
use Rattle.pfc_base.specs.declared.places.Place.{Place}
use Rattle.pfc_tree.specs.Symbols.{Text}
use Rattle.pfc_tree.specs.declared.tree.Constant.{Constant}
use Rattle.pfc_tree.specs.declared.tree.ConstItem.{ConstItem}
use Rattle.pfc_tree.specs.trees.Types.{TypeTree, VarTree, VarTrees, TypeItemTree, GroupTree, named, channel, array, fields, var_item, no_vars, more_vars}
use Rattle.pfc_tree.specs.trees.Stmts.{StmtTree, StmtTrees, BodyTree, ArmTree, ArmTrees, AcceptTree, AltTree, AltTrees, CommTree, block, if_then, if_then_else}
use Rattle.pfc_tree.specs.trees.Stmts.{case_of, while_do, repeat_until, repeat_forever, for_do, cobegin, accepting, select, select_else, no_stmts, more_stmts}
use Rattle.pfc_tree.specs.trees.Stmts.{body, arm, no_arms, more_arms, accept, accept_do, alt, no_alts, more_alts, comm_accept}
use Rattle.pfc_tree.specs.trees.Parts.{KindTree, EntryTree, PartTree, PartTrees, SubTree, ModuleTree, ProcessTree, ProgramTree, consts, types, vars, sub_part}
use Rattle.pfc_tree.specs.trees.Parts.{monitor, resource, process_part, no_parts, more_parts, sub, the_module, process}
use Rattle.pfc_tree.specs.forget.Types.{bare, forget_type, forget_var, forget_vars, forget_type_item}
use Rattle.pfc_tree.specs.forget.Parts.{forget_part, forget_parts, forget_sub, forget_module, forget_process, forget_program}
use Rattle.pfc_tree.specs.lawful.Types.{IsFilled, IsLawfulType, IsLawfulVar, AreLawfulFields, AreLawfulVars, AreLawfulTypeItems}
use Rattle.pfc_tree.specs.lawful.Parts.{Home, of_program, of_resource, of_other, IsLawfulPart, AreLawfulParts, IsLawfulSub, IsLawfulModule, IsLawfulProcess}
use Rattle.pfc_tree.specs.lawful.Parts.{IsLawful}
use Rattle.pfc_types.specs.Faults.{Faults, unless}
use Rattle.pfc_types.specs.Types.{Forms, integer, form_of, cells_in, extent, is_object, refusal_of, most_processes, is_simple}
use Rattle.pfc_types.specs.Fields.{FieldList, type_named}
use Rattle.pfc_types.specs.Scopes.{Level, scope_at, here, meaning_in, look}
use Rattle.pfc_types.specs.Blocks.{State, declare, note, open_scope, add_name, add_sub, add_module, add_process, add_entry, add_form, export_sub}
use Rattle.pfc_types.specs.Blocks.{set_population, sub_at}
use Rattle.pfc_types.specs.declared.types.TypeId.{TypeId}
use Rattle.pfc_types.specs.declared.types.TypeForm.{TypeForm}
use Rattle.pfc_types.specs.declared.types.TypeForm.TheVariants.{Channel, Array, Record, Process as AProcess}
use Rattle.pfc_types.specs.declared.table.TypeFault.{TypeFault}
use Rattle.pfc_types.specs.declared.table.TypeFault.TheVariants.{Bounds, Cells, Memory}
use Rattle.pfc_types.specs.declared.scope.Meaning.{Meaning}
use Rattle.pfc_types.specs.declared.scope.Meaning.TheVariants.{Named, Sub, Module, Process, Faulty}
use Rattle.pfc_types.specs.declared.heads.SubHead.{SubHead}
use Rattle.pfc_types.specs.declared.heads.ProcessHead.{ProcessHead}
use Rattle.pfc_types.specs.rules.Kinds.{type_name_rules, has_object, type_meaning, variable_meaning}
use Rattle.pfc_types.specs.rules.Constants.{Ordinal, Extent, same_ordinal, constant_place, constant_value, broken_constant, broken_ranges, range_extents}
use Rattle.pfc_types.specs.rules.Constants.{type_place, Made, added_unless, added, channel_form, array_of, made_arrays, MadeFields, made_field, made_names}
use Rattle.pfc_types.specs.rules.Constants.{made_group, record_form, fields_begun, made, made_items, made_item}
use Rattle.pfc_types.specs.rules.Declarations.{constant_meaning, const_state, consts_state, type_state, types_state, Owner, in_program, elsewhere, owner_rules}
use Rattle.pfc_types.specs.rules.Declarations.{owned_type, passes_most, populated, brought, var_name_state, var_names_state, var_state, vars_state, group_type}
use Rattle.pfc_types.specs.rules.Declarations.{broken_group, Heading, formal_heading, formals_heading, group_viewed, group_heading, groups_heading, heading}
use Rattle.pfc_types.specs.rules.Declarations.{EntryHeading, entry_formal, entry_formals, entry_group, entry_groups, entry_meaning, entry_state, entries_state}
use Rattle.pfc_types.specs.rules.Declarations.{accept_rule, accept_groups, accept_heading, accepted, Labels, label_noted, labels_noted, stmt_state, stmts_state}
use Rattle.pfc_types.specs.rules.Declarations.{body_state, arms_state, arm_state, accept_state, alts_state, alt_state, comm_state, broken_sort, sort_of}
use Rattle.pfc_types.specs.rules.Declarations.{sub_meaning, whole_sort, sub_headed, may_export, export_state, export_list, exports_state, module_owner}
use Rattle.pfc_types.specs.rules.Declarations.{init_state, process_named, process_headed, process_cells, scope_cells, result_cells, cells_rule, part_state}
use Rattle.pfc_types.specs.rules.Declarations.{parts_state, sub_state, module_state, process_state}
use Rattle.pfc_types.specs.rules.Whole.{begun, declared_parts, declared_all, main_cells, finished}
use Rattle.pfc_translation.specs.Addresses.{fields_before}
use Rattle.pfc_cells.specs.Shapes.{has_parts}
use Rattle.pfc_type_laws.specs.Tables.{IsBuiltUp, AreBefore}
use Rattle.pfc_type_laws.proofs.WalkTypes.{note_forms}
use Rattle.pfc_type_laws.proofs.WalkBlocks.{types_built}
use Rattle.pfc_type_laws.proofs.SoundTables.{formless_cells, array_takes, record_takes, built_counted}

-- ## Records have fields

abbrev pub HasFields : Option TypeForm → Type 0
HasFields (Some (Record list)) = IsFilled list
HasFields form = Unit {0}

abbrev IsFull : Forms → Type 0
IsFull forms = All HasFields forms

note_full : (s : State) (fs : Faults) → IsFull s.forms → IsFull (note s fs).forms
note_full s fs h = subst IsFull (sym (note_forms s fs)) h

declare_full : (s : State) (i : ℕ) (x : Text × Place) (m : Meaning) → IsFull s.forms → IsFull (declare s i x m).forms
declare_full s i x m h = by (is_some (meaning_in (scope_at s.blocks.scopes i) x.0))
  where
    by : (b : Bool) → IsFull (if b then note s (unless false x.1 302) else add_name s i x.0 m).forms
    by true = note_full s (unless false x.1 302) h
    by false = h

form_full : (forms : Forms) (form : TypeForm) → IsFull forms → HasFields (Some form) → IsFull (forms ++ Some form ∷ [])
form_full forms form h is = All-append HasFields forms (Some form ∷ []) h (All-cons HasFields (Some form) [] is (All-nil HasFields))

-- ## Types as they are written

added_full : (s : State) (form : Option TypeForm) (p : Place) → IsFull s.forms → HasFields form → IsFull (added s form p).state.forms
added_full s None p h is = h
added_full s (Some form) p h is = by (refusal_of s.forms form)
  where
    by : (fault : Option TypeFault) → IsFull (added_unless fault s form p).state.forms
    by None = form_full s.forms form h is
    by (Some Bounds) = h
    by (Some Cells) = note_full s (unless false p 304) h
    by (Some Memory) = h

channel_full : (forms : Forms) (t : Option TypeId) → HasFields (channel_form forms t)
channel_full forms None = tt
channel_full forms (Some t) = by (is_object forms t)
  where
    by : (b : Bool) → HasFields (if b then None else Some (Channel t))
    by true = tt
    by false = tt

array_full : (r : Option Extent) (t : Option TypeId) → HasFields (array_of r t)
array_full None t = tt
array_full (Some r) None = tt
array_full (Some r) (Some t) = tt

arrays_full : (m : Made) (rs : List (Option Extent)) (p : Place) → IsFull m.state.forms → IsFull (made_arrays m rs p).state.forms
arrays_full m [] p h = h
arrays_full m (r ∷ rs) p h =
    let inner = made_arrays m rs p in added_full inner.state (array_of r inner.t) p (arrays_full m rs p h) (array_full r inner.t)

one_more : (list : FieldList) (x : Text × TypeId) → IsFilled (list ++ x ∷ [])
one_more [] x = tt
one_more (f ∷ list) x = tt

named_filled : (list : FieldList) (x : Text) → is_some (type_named list x) ≡ true → IsFilled list
named_filled [] x e = absurd (cc)
named_filled (f ∷ list) x e = tt

field_filled : (t : TypeId) (r : MadeFields) (x : Text × Place) → IsFilled (made_field t r x).list
field_filled t r x = by (is_some (type_named r.list x.0)) refl
  where
    by : (b : Bool) → is_some (type_named r.list x.0) ≡ b
        → IsFilled
        (if b then record { state = note r.state (unless false x.1 302); list = r.list; whole = false } else record r { list = r.list ++ (x.0, t) ∷ [] }).list
    by true e = named_filled r.list x.0 e
    by false e = one_more r.list (x.0, t)

field_full : (t : TypeId) (r : MadeFields) (x : Text × Place) → IsFull r.state.forms → IsFull (made_field t r x).state.forms
field_full t r x h = by (is_some (type_named r.list x.0))
  where
    noted : MadeFields
    noted = record { state = note r.state (unless false x.1 302); list = r.list; whole = false }

    by : (b : Bool) → IsFull (if b then noted else record r { list = r.list ++ (x.0, t) ∷ [] }).state.forms
    by true = note_full r.state (unless false x.1 302) h
    by false = h

names_full : (t : TypeId) (r : MadeFields) (xs : List (Text × Place)) → IsFull r.state.forms → IsFull (made_names t r xs).state.forms
names_full t r [] h = h
names_full t r (x ∷ xs) h = names_full t (made_field t r x) xs (field_full t r x h)

names_filled : (t : TypeId) (r : MadeFields) (xs : List (Text × Place)) → IsFilled r.list → IsFilled (made_names t r xs).list
names_filled t r [] h = h
names_filled t r (x ∷ xs) h = names_filled t (made_field t r x) xs (field_filled t r x)

some_filled : (t : TypeId) (r : MadeFields) (xs : List (Text × Place)) → IsFilled xs → IsFilled (made_names t r xs).list
some_filled t r [] some = absurd some
some_filled t r (x ∷ xs) some = names_filled t (made_field t r x) xs (field_filled t r x)

group_full : (r : MadeFields) (t : Option TypeId) (xs : List (Text × Place)) → IsFull r.state.forms → IsFull (made_group r t xs).state.forms
group_full r None xs h = names_full integer (record r { whole = false }) xs h
group_full r (Some t) xs h = names_full t r xs h

group_filled : (r : MadeFields) (t : Option TypeId) (xs : List (Text × Place)) → IsFilled xs → IsFilled (made_group r t xs).list
group_filled r None xs some = some_filled integer (record r { whole = false }) xs some
group_filled r (Some t) xs some = some_filled t r xs some

record_full : (r : MadeFields) → IsFilled r.list → HasFields (record_form r)
record_full r h = by r.whole
  where
    by : (b : Bool) → HasFields (if b then Some (Record r.list) else None)
    by true = h
    by false = tt

filled_names : (xs : List (Text × Place)) → IsFilled (bare xs) → IsFilled xs
filled_names [] h = h
filled_names (x ∷ xs) h = tt

item_filled : (view : List Level) (r : MadeFields) (v : VarTree) → IsLawfulVar (forget_var v) → IsFilled (made_item view r v).list
item_filled view r (var_item xs t) lawful =
    let m = made false r.state view t in group_filled (record r { state = m.state }) m.t xs (filled_names xs lawful.0)

item_kept : (view : List Level) (r : MadeFields) (v : VarTree) → IsFilled r.list → IsFilled (made_item view r v).list
item_kept view r (var_item xs t) h = by (made false r.state view t).t
  where
    by : (o : Option TypeId) → IsFilled (made_group (record r { state = (made false r.state view t).state }) o xs).list
    by None = names_filled integer (record r { state = (made false r.state view t).state; whole = false }) xs h
    by (Some u) = names_filled u (record r { state = (made false r.state view t).state }) xs h

items_kept : (view : List Level) (r : MadeFields) (vs : VarTrees) → IsFilled r.list → IsFilled (made_items view r vs).list
items_kept view r no_vars h = h
items_kept view r (more_vars v vs) h = items_kept view (made_item view r v) vs (item_kept view r v h)

fields_filled : (view : List Level) (r : MadeFields) (vs : VarTrees) → AreLawfulFields (forget_vars vs) → IsFilled (made_items view r vs).list
fields_filled view r no_vars lawful = absurd lawful
fields_filled view r (more_vars v vs) lawful = items_kept view (made_item view r v) vs (item_filled view r v lawful.0)

fields_vars : (vs : VarTrees) → AreLawfulFields (forget_vars vs) → AreLawfulVars (forget_vars vs)
fields_vars no_vars lawful = absurd lawful
fields_vars (more_vars v vs) lawful = lawful

mutual
  type_full :
      (carried : Bool) (s : State) (view : List Level) (t : TypeTree) → IsLawfulType (forget_type t) → IsFull s.forms
      → IsFull (made carried s view t).state.forms
  type_full carried s view (named x p) lawful h = note_full s (type_name_rules carried (look s.blocks.scopes view x) p) h
  type_full carried s view (channel t p) lawful h =
      let m = made true s view t in
      let fs : Faults = unless (not (has_object m.state.forms m.t)) (type_place t) 406 in
      added_full (note m.state fs) (channel_form m.state.forms m.t) p (note_full m.state fs (type_full true s view t lawful h))
      (channel_full m.state.forms m.t)
  type_full carried s view (array rs t p) lawful h =
      let before = note s (broken_ranges s.blocks.scopes view rs) in
      arrays_full (made false before view t) (range_extents s.blocks.scopes view rs) p
      (type_full false before view t lawful.2 (note_full s (broken_ranges s.blocks.scopes view rs) h))
  type_full carried s view (fields vs last p) lawful h =
      let r = made_items view (fields_begun s) vs in
      added_full r.state (record_form r) p (items_full view (fields_begun s) vs (fields_vars vs lawful) h)
      (record_full r (fields_filled view (fields_begun s) vs lawful))

  items_full :
      (view : List Level) (r : MadeFields) (vs : VarTrees) → AreLawfulVars (forget_vars vs) → IsFull r.state.forms
      → IsFull (made_items view r vs).state.forms
  items_full view r no_vars lawful h = h
  items_full view r (more_vars v vs) lawful h = items_full view (made_item view r v) vs lawful.1 (item_full view r v lawful.0 h)

  item_full :
      (view : List Level) (r : MadeFields) (v : VarTree) → IsLawfulVar (forget_var v) → IsFull r.state.forms → IsFull (made_item view r v).state.forms
  item_full view r (var_item xs t) lawful h =
      let m = made false r.state view t in group_full (record r { state = m.state }) m.t xs (type_full false r.state view t lawful.1 h)

-- ## Constants, types and variables

consts_full : (s : State) (i : ℕ) (outer : List Level) (cs : List ConstItem) → IsFull s.forms → IsFull (consts_state s i outer cs).forms
consts_full s i outer [] h = h
consts_full s i outer (c ∷ cs) h =
    let view = here s.blocks.scopes i outer in
    let fs = broken_constant s.blocks.scopes view c.value in
    consts_full (const_state s i outer c) i outer cs
    (declare_full (note s fs) i (c.name, c.place) (constant_meaning (constant_value s.blocks.scopes view c.value)) (note_full s fs h))

types_full : (s : State) (i : ℕ) (outer : List Level) (ds : List TypeItemTree) → AreLawfulTypeItems (map forget_type_item ds) → IsFull s.forms
    → IsFull (types_state s i outer ds).forms
types_full s i outer [] lawful h = h
types_full s i outer (d ∷ ds) lawful h =
    let view = here s.blocks.scopes i outer in
    let m = made false s view d.form in
    types_full (type_state s i outer d) i outer ds lawful.1
    (declare_full m.state i (d.name, d.place) (type_meaning m.t) (type_full false s view d.form lawful.0 h))

populated_full : (s : State) (i more : ℕ) (x : Text × Place) (m : Meaning) → IsFull s.forms → IsFull (populated s i more x m).forms
populated_full s i more x m h = by (passes_most s.blocks.population more)
  where
    all : ℕ
    all = most_processes (s.blocks.population + more)

    by : (b : Bool)
        → IsFull
        (if b
        then declare (note (set_population s (most_processes (s.blocks.population + more))) (unless false x.1 424)) i x Faulty
        else declare (set_population s (most_processes (s.blocks.population + more))) i x m).forms
    by true =
        declare_full (note (set_population s all) (unless false x.1 424)) i x Faulty (note_full (set_population s all) (unless false x.1 424) h)
    by false = declare_full (set_population s all) i x m h

var_name_full : (s : State) (i : ℕ) (t : Option TypeId) (x : Text × Place) → IsFull s.forms → IsFull (var_name_state s i t x).forms
var_name_full s i t x h = by (is_some (meaning_in (scope_at s.blocks.scopes i) x.0))
  where
    by : (b : Bool) → IsFull (if b then declare s i x Faulty else populated s i (brought s.forms t) x (variable_meaning false t)).forms
    by true = declare_full s i x Faulty h
    by false = populated_full s i (brought s.forms t) x (variable_meaning false t) h

var_names_full : (s : State) (i : ℕ) (t : Option TypeId) (xs : List (Text × Place)) → IsFull s.forms → IsFull (var_names_state s i t xs).forms
var_names_full s i t [] h = h
var_names_full s i t (x ∷ xs) h = var_names_full (var_name_state s i t x) i t xs (var_name_full s i t x h)

vars_full : (owner : Owner) (s : State) (i : ℕ) (outer : List Level) (vs : VarTrees) → AreLawfulVars (forget_vars vs) → IsFull s.forms
    → IsFull (vars_state owner s i outer vs).forms
vars_full owner s i outer no_vars lawful h = h
vars_full owner s i outer (more_vars (var_item xs t) vs) lawful h =
    let view = here s.blocks.scopes i outer in
    let m = made false s view t in
    let fs = owner_rules owner m.state.forms m.t (type_place t) in
    vars_full owner (var_state owner s i outer (var_item xs t)) i outer vs lawful.1
    (var_names_full (note m.state fs) i (owned_type owner m.state.forms m.t) xs (note_full m.state fs (type_full false s view t lawful.0.1 h)))

-- ## Headings and entries

formals_full : (i : ℕ) (reference : Bool) (t : Option TypeId) (h : Heading) (xs : List (Text × Place)) → IsFull h.state.forms
    → IsFull (formals_heading i reference t h xs).state.forms
formals_full i reference t h [] full = full
formals_full i reference t h (x ∷ xs) full =
    formals_full i reference t (formal_heading i reference t h x) xs (declare_full h.state i x (variable_meaning reference t) full)

groups_full : (i : ℕ) (outer : List Level) (h : Heading) (gs : List GroupTree) → IsFull h.state.forms → IsFull (groups_heading i outer h gs).state.forms
groups_full i outer h [] full = full
groups_full i outer h (g ∷ gs) full =
    let view = here h.state.blocks.scopes i outer in
    groups_full i outer (group_heading i outer h g) gs
    (formals_full i g.reference (group_type h.state view g) _ g.names (note_full h.state (broken_group h.state view g) full))

accept_groups_full : (i : ℕ) (view : List Level) (h : Heading) (gs : List GroupTree) → IsFull h.state.forms → IsFull (accept_groups i view h gs).state.forms
accept_groups_full i view h [] full = full
accept_groups_full i view h (g ∷ gs) full =
    accept_groups_full i view (group_viewed i view h g) gs
    (formals_full i g.reference (group_type h.state view g) _ g.names (note_full h.state (broken_group h.state view g) full))

heading_full : (s : State) (view : List Level) (gs : List GroupTree) → IsFull s.forms
    → IsFull (heading (open_scope s) (length s.blocks.scopes) view gs).state.forms
heading_full s view gs h = groups_full (length s.blocks.scopes) view (record { state = open_scope s; formals = []; whole = true }) gs h

entry_formals_full : (reference : Bool) (t : Option TypeId) (h : EntryHeading) (xs : List (Text × Place)) → IsFull h.state.forms
    → IsFull (entry_formals reference t h xs).state.forms
entry_formals_full reference t h [] full = full
entry_formals_full reference t h (x ∷ xs) full =
    entry_formals_full reference t (entry_formal reference t h x) xs (note_full h.state (unless (not (is_some (meaning_in h.own x.0))) x.1 302) full)

entry_groups_full : (view : List Level) (h : EntryHeading) (gs : List GroupTree) → IsFull h.state.forms → IsFull (entry_groups view h gs).state.forms
entry_groups_full view h [] full = full
entry_groups_full view h (g ∷ gs) full =
    entry_groups_full view (entry_group view h g) gs
    (entry_formals_full g.reference (group_type h.state view g) _ g.names (note_full h.state (broken_group h.state view g) full))

entries_full : (s : State) (i : ℕ) (outer : List Level) (k : ℕ) (es : List EntryTree) → IsFull s.forms → IsFull (entries_state s i outer k es).forms
entries_full s i outer k [] full = full
entries_full s i outer k (e ∷ es) full =
    let view = here s.blocks.scopes i outer in
    let begin : EntryHeading = record { state = s; own = []; formals = []; whole = true } in
    let h = entry_groups view begin e.formals in
    entries_full (entry_state s i outer k e) i outer (k + 1) es
    (declare_full (add_entry h.state h.formals) i (e.name, e.place) (entry_meaning h.whole k) (entry_groups_full view begin e.formals full))

-- ## Exports and processes

export_full : (s : State) (m : Option Meaning) (p : Place) → IsFull s.forms → IsFull (export_state s m p).forms
export_full s (Some (Sub n)) p h = by (may_export (sub_at s.blocks n))
  where
    by : (b : Bool) → IsFull (if b then export_sub s n else note s (unless false p 409)).forms
    by true = h
    by false = note_full s (unless false p 409) h
export_full s (Some Faulty) p h = h
export_full s m p h = note_full s (unless false p 409) h

export_list_full : (s : State) (i : ℕ) (xs : List (Text × Place)) → IsFull s.forms → IsFull (export_list s i xs).forms
export_list_full s i [] h = h
export_list_full s i (x ∷ xs) h =
    let m = meaning_in (scope_at s.blocks.scopes i) x.0 in export_list_full (export_state s m x.1) i xs (export_full s m x.1 h)

exports_full : (s : State) (i : ℕ) (lists : List (List (Text × Place))) → IsFull s.forms → IsFull (exports_state s i lists).forms
exports_full s i [] h = h
exports_full s i (xs ∷ lists) h = exports_full (export_list s i xs) i lists (export_list_full s i xs h)

process_named_full : (s : State) (i : ℕ) (many whole : Bool) (x : Text × Place) (n : ℕ) → IsFull s.forms → IsFull (process_named s i many whole x n).forms
process_named_full s i many false x n h = declare_full s i x Faulty h
process_named_full s i true true x n h =
    declare_full (add_form s (AProcess n)) i x (Named (record { place = length s.forms })) (form_full s.forms (AProcess n) h tt)
process_named_full s i false true x n h = by (is_some (meaning_in (scope_at s.blocks.scopes i) x.0))
  where
    by : (b : Bool) → IsFull (if b then declare s i x Faulty else populated s i 1 x (Process n)).forms
    by true = declare_full s i x Faulty h
    by false = populated_full s i 1 x (Process n) h

-- ## Statements

label_full : (c : Option Ordinal) (p : Place) (r : Labels) → IsFull r.state.forms → IsFull (label_noted c p r).state.forms
label_full None p r h = h
label_full (Some c) p r h = by (list_any (same_ordinal c) r.seen)
  where
    by : (b : Bool) → IsFull (if b then record r { state = note r.state (unless false p 320) } else record r { seen = r.seen ++ c ∷ [] }).state.forms
    by true = note_full r.state (unless false p 320) h
    by false = h

labels_full : (view : List Level) (r : Labels) (cs : List Constant) → IsFull r.state.forms → IsFull (labels_noted view r cs).state.forms
labels_full view r [] h = h
labels_full view r (c ∷ cs) h =
    let x = constant_value r.state.blocks.scopes view c in
    labels_full view (label_noted x (constant_place c) r) cs (label_full x (constant_place c) r h)

accepted_full : (s : State) (view : List Level) (x : Text) (gs : List GroupTree) (p : Place) → IsFull s.forms → IsFull (accepted s view x gs p).forms
accepted_full s view x gs p full =
    let h : Heading = accept_heading (open_scope s) (length s.blocks.scopes) view gs in
    note_full h.state (accept_rule h.state.blocks (look s.blocks.scopes view x) h.formals p)
    (accept_groups_full (length s.blocks.scopes) view (record { state = open_scope s; formals = []; whole = true }) gs full)

mutual
  stmt_full : (s : State) (view : List Level) (t : StmtTree) → IsFull s.forms → IsFull (stmt_state s view t).forms
  stmt_full s view (block b p) h = body_full s view b h
  stmt_full s view (if_then e t p) h = stmt_full s view t h
  stmt_full s view (if_then_else e t u p) h = stmt_full (stmt_state s view t) view u (stmt_full s view t h)
  stmt_full s view (case_of e arms last p) h = arms_are_full view (record { state = s; seen = [] }) arms h
  stmt_full s view (while_do e t p) h = stmt_full s view t h
  stmt_full s view (repeat_until ts e p) h = stmts_full s view ts h
  stmt_full s view (repeat_forever ts p) h = stmts_full s view ts h
  stmt_full s view (for_do x from down to t p q) h = stmt_full s view t h
  stmt_full s view (cobegin ts last p) h = stmts_full s view ts h
  stmt_full s view (accepting a p) h = accept_full s view a h
  stmt_full s view (select pri alts p q) h = alts_full s view alts h
  stmt_full s view (select_else pri alts ts p q r) h = stmts_full (alts_state s view alts) view ts (alts_full s view alts h)
  stmt_full s view t h = h

  stmts_full : (s : State) (view : List Level) (ts : StmtTrees) → IsFull s.forms → IsFull (stmts_state s view ts).forms
  stmts_full s view no_stmts h = h
  stmts_full s view (more_stmts t ts) h = stmts_full (stmt_state s view t) view ts (stmt_full s view t h)

  body_full : (s : State) (view : List Level) (b : BodyTree) → IsFull s.forms → IsFull (body_state s view b).forms
  body_full s view (body ts first last) h = stmts_full s view ts h

  arms_are_full : (view : List Level) (r : Labels) (arms : ArmTrees) → IsFull r.state.forms → IsFull (arms_state view r arms).state.forms
  arms_are_full view r no_arms h = h
  arms_are_full view r (more_arms a arms) h = arms_are_full view (arm_state view r a) arms (arm_full view r a h)

  arm_full : (view : List Level) (r : Labels) (a : ArmTree) → IsFull r.state.forms → IsFull (arm_state view r a).state.forms
  arm_full view r (arm cs t) h = stmt_full (labels_noted view r cs).state view t (labels_full view r cs h)

  accept_full : (s : State) (view : List Level) (a : AcceptTree) → IsFull s.forms → IsFull (accept_state s view a).forms
  accept_full s view (accept x gs p) h = accepted_full s view x gs p h
  accept_full s view (accept_do x gs t p) h =
      let inner = accepted s view x gs p in stmt_full inner (here inner.blocks.scopes (length s.blocks.scopes) view) t (accepted_full s view x gs p h)

  alts_full : (s : State) (view : List Level) (alts : AltTrees) → IsFull s.forms → IsFull (alts_state s view alts).forms
  alts_full s view no_alts h = h
  alts_full s view (more_alts a alts) h = alts_full (alt_state s view a) view alts (alt_full s view a h)

  alt_full : (s : State) (view : List Level) (a : AltTree) → IsFull s.forms → IsFull (alt_state s view a).forms
  alt_full s view (alt spread guard c ts) h = stmts_full (comm_state s view c) view ts (comm_full s view c h)

  comm_full : (s : State) (view : List Level) (c : CommTree) → IsFull s.forms → IsFull (comm_state s view c).forms
  comm_full s view (comm_accept a p) h = accept_full s view a h
  comm_full s view c h = h

init_full : (s : State) (view : List Level) (b : Option BodyTree) → IsFull s.forms → IsFull (init_state s view b).forms
init_full s view None h = h
init_full s view (Some b) h = body_full s view b h

-- ## Parts

sub_headed_full : (s : State) (i : ℕ) (outer : List Level) (x : Text × Place) (gs : List GroupTree) (kind : KindTree) → IsFull s.forms
    → IsFull (sub_headed s i outer x gs kind).forms
sub_headed_full s i outer x gs kind full =
    let own = length s.blocks.scopes in
    let around = here s.blocks.scopes i outer in
    let h : Heading = heading (open_scope s) own around gs in
    let view = here h.state.blocks.scopes own around in
    let sort = sort_of h.state view kind in
    let head : SubHead = record { formals = h.formals; sort = sort; scope = own; exported = false } in
    let fs = broken_sort h.state view kind in
    declare_full (add_sub (note h.state fs) head) i x (sub_meaning (h.whole && whole_sort sort) (length s.blocks.subs))
    (note_full h.state fs (heading_full s around gs full))

process_headed_full : (s : State) (i : ℕ) (outer : List Level) (many : Bool) (x : Text × Place) (gs : List GroupTree) → IsFull s.forms
    → IsFull (process_headed s i outer many x gs).forms
process_headed_full s i outer many x gs full =
    let own = length s.blocks.scopes in
    let h : Heading = heading (open_scope s) own (here s.blocks.scopes i outer) gs in
    let head : ProcessHead = record { formals = h.formals; entries = length s.blocks.entries; scope = own } in
    process_named_full (add_process h.state head) i many h.whole x (length s.blocks.processes) (heading_full s (here s.blocks.scopes i outer) gs full)

mutual
  part_full :
      (home : Home) (owner : Owner) (s : State) (i : ℕ) (outer : List Level) (q : PartTree) → IsLawfulPart home (forget_part q) → IsFull s.forms
      → IsFull (part_state owner s i outer q).forms
  part_full home owner s i outer (consts items) lawful h = consts_full s i outer items h
  part_full home owner s i outer (types items) lawful h = types_full s i outer items lawful.1 h
  part_full home owner s i outer (vars vs) lawful h = vars_full owner s i outer vs (fields_vars vs lawful) h
  part_full home owner s i outer (sub_part q) lawful h = sub_full home s i outer q lawful h
  part_full home owner s i outer (monitor m) lawful h = module_full of_other false s i outer m lawful.1 h
  part_full home owner s i outer (resource m) lawful h = module_full of_resource true s i outer m lawful.1 h
  part_full home owner s i outer (process_part q) lawful h = process_full s i outer q lawful.1 h

  parts_full :
      (home : Home) (owner : Owner) (s : State) (i : ℕ) (outer : List Level) (qs : PartTrees) → AreLawfulParts home (forget_parts qs) → IsFull s.forms
      → IsFull (parts_state owner s i outer qs).forms
  parts_full home owner s i outer no_parts lawful h = h
  parts_full home owner s i outer (more_parts q qs) lawful h =
      parts_full home owner (part_state owner s i outer q) i outer qs lawful.1 (part_full home owner s i outer q lawful.0 h)

  sub_full : (home : Home) (s : State) (i : ℕ) (outer : List Level) (q : SubTree) → IsLawfulSub home (forget_sub q) → IsFull s.forms
      → IsFull (sub_state s i outer q).forms
  sub_full home s i outer (sub x gs kind ps inside p) lawful h =
      let own = length s.blocks.scopes in
      let headed = sub_headed s i outer (x, p) gs kind in
      let around = here headed.blocks.scopes i outer in
      let declared = parts_state elsewhere headed own around ps in
      let view = here declared.blocks.scopes own around in
      let done = body_state declared view inside in
      note_full done (cells_rule (scope_cells done.forms (scope_at done.blocks.scopes own) + result_cells kind) p)
      (body_full declared view inside (parts_full of_other elsewhere headed own around ps lawful.2 (sub_headed_full s i outer (x, p) gs kind h)))

  module_full :
      (home : Home) (is_resource : Bool) (s : State) (i : ℕ) (outer : List Level) (q : ModuleTree) → IsLawfulModule home (forget_module q)
      → IsFull s.forms → IsFull (module_state is_resource s i outer q).forms
  module_full home is_resource s i outer (the_module x exports ps b last p) lawful h =
      let own = length s.blocks.scopes in
      let around = here s.blocks.scopes i outer in
      let declared = parts_state (module_owner is_resource) (open_scope s) own around ps in
      let view = here declared.blocks.scopes own around in
      let done = init_state declared view b in
      declare_full (add_module (exports_state done own exports) (record { scope = own; resource = is_resource })) i (x, p)
      (Module (length done.blocks.modules))
      (exports_full done own exports (init_full declared view b (parts_full home (module_owner is_resource) (open_scope s) own around ps lawful.1 h)))

  process_full : (s : State) (i : ℕ) (outer : List Level) (q : ProcessTree) → IsLawfulProcess (forget_process q) → IsFull s.forms
      → IsFull (process_state s i outer q).forms
  process_full s i outer (process many x gs es ps inside p) lawful h =
      let own = length s.blocks.scopes in
      let headed = process_headed s i outer many (x, p) gs in
      let around = here headed.blocks.scopes i outer in
      let entered = entries_state headed own around 0 es in
      let declared = parts_state elsewhere entered own around ps in
      let view = here declared.blocks.scopes own around in
      let done = body_state declared view inside in
      note_full done (cells_rule (process_cells done own (length declared.blocks.scopes)) p)
      (body_full declared view inside
      (parts_full of_other elsewhere entered own around ps lawful.2
      (entries_full headed own around 0 es (process_headed_full s i outer many (x, p) gs h))))

none_full : (forms : Forms) → IsFull forms → IsFull (None ∷ forms)
none_full forms h = All-cons HasFields None forms tt h

begun_full : IsFull begun.forms
begun_full =
    none_full (None ∷ None ∷ None ∷ None ∷ None ∷ []) (none_full (None ∷ None ∷ None ∷ None ∷ []) (none_full (None ∷ None ∷ None ∷ [])
    (none_full (None ∷ None ∷ []) (none_full (None ∷ []) (none_full [] (All-nil HasFields))))))

finished_full : (t : ProgramTree) → IsLawful (forget_program t) → IsFull (finished t).forms
finished_full t lawful =
    let s = declared_parts t in
    let view = here s.blocks.scopes 0 [] in
    note_full (declared_all t) (cells_rule (main_cells (declared_all t)) t.name.1)
    (body_full s view t.body (parts_full of_program in_program begun 0 [] t.parts lawful.0 begun_full))

-- ## Cells

full_at : (forms : Forms) (t : TypeId) (list : FieldList) → IsFull forms → form_of forms t ≡ Some (Record list) → IsFilled list
full_at forms t list h e = by (nat_lt t.place (length forms)) refl
  where
    by : (r : Bool) → nat_lt t.place (length forms) ≡ r → IsFilled list
    by true q = let below : t.place < length forms = grind (arith, nat_tests) in subst HasFields e (h t.place None below)
    by false q =
        let beyond : length forms ≤ t.place = grind (arith, nat_tests) in
        let none : None ≡ Some (Record list) = sym (get_or_past forms t.place None beyond) ∙ e in
        absurd (cc)

product_positive : (m n : ℕ) → 0 < m → 0 < n → 0 < m * n
product_positive m n p q = grind (arith)

extent_positive : (low high : ℤ) → int_le low high ≡ true → 0 < extent low high
extent_positive low high h = grind (arith, nat_tests)

-- the first field takes a cell
some_field : (forms : Forms) (list : FieldList) → IsFilled list → ((f : Text × TypeId) (rest : FieldList) → list ≡ f ∷ rest → 0 < cells_in forms f.1)
    → 0 < fields_before forms list (length list)
some_field forms [] some h = absurd some
some_field forms (f ∷ rest) some h =
    let first = h f rest refl in
    let sum = sum_by-cons (λ (x : Text × TypeId). cells_in forms x.1) f (take (length rest) rest) in
    omega (arith, first, sum)

positive : (forms : Forms) → IsBuiltUp forms → IsFull forms → (n : ℕ) (u : TypeId) → u.place < n → 0 < cells_in forms u
positive forms built full zero u below = absurd (omega (arith, below))
positive forms built full (suc n) u below = by (form_of forms u) refl (λ v less. positive forms built full n v less)
  where
    by : (form : Option TypeForm) → form_of forms u ≡ form → ((v : TypeId) → v.place < n → 0 < cells_in forms v) → 0 < cells_in forms u
    by None e rest = let one = formless_cells forms u e in omega (arith, one)
    by (Some (Channel t)) e rest = let one = (built_counted forms built).single_cells u (ap has_parts e) in omega (arith, one)
    by (Some (AProcess k)) e rest = let one = (built_counted forms built).single_cells u (ap has_parts e) in omega (arith, one)
    by (Some (Array over low high element)) e rest =
        let before = built.behind u (Array over low high element) e in
        let bounds = and-right (is_simple over) (int_le low high) (built.bounds u (Array over low high element) e) in
        let all = array_takes forms u over element low high e before in
        subst (λ k. 0 < k) (sym all)
        (product_positive (extent low high) (cells_in forms element) (extent_positive low high bounds) (rest element (omega (arith, before, below))))
    by (Some (Record list)) e rest =
        let before = built.behind u (Record list) e in
        subst (λ k. 0 < k) (sym (record_takes forms u list e before))
        (some_field forms list (full_at forms u list full e)
        (λ f others same. let early = (subst (λ (l : FieldList). AreBefore u.place l) same before).0 in rest f.1 (omega (arith, early, below))))

-- each type of a lawful program takes a cell
pub types_filled : (t : ProgramTree) → IsLawful (forget_program t) → (u : TypeId) → 0 < cells_in (finished t).forms u
types_filled t lawful u = positive (finished t).forms (types_built t) (finished_full t lawful) (suc u.place) u (omega arith)
