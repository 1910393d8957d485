-- The headings of subs and of modules: only a sub adds one of a sub, with its own scope, and each module has its name.
use Rattle.std.proofs.Common.{◌≡◌, ℕ, ◌+◌, ◌<◌, ◌≤◌, Bool, true, false, not, if◌then◌else◌, is_some, List, [], ◌∷◌, ◌++◌, length, length-append}
use Rattle.std.proofs.Common.{get_or-set_same, subst, nat_lt, ◌==◌, ◌||◌, map, set, ◌&&◌, Option, Some, None, refl, ap, sym, ◌∙◌, arith}
use Rattle.std.specs.List.{list_any}
use Rattle.std.proofs.lemmas.List.{append-nil, append_assoc, map-append, map-set, set-get_or}
use Rattle.pfc_base.specs.declared.places.Place.{Place}
use Rattle.pfc_tree.specs.Symbols.{Text}
use Rattle.pfc_tree.specs.declared.tree.Constant.{Constant}
use Rattle.pfc_tree.specs.declared.tree.ConstItem.{ConstItem}
use Rattle.pfc_tree.specs.trees.Types.{TypeTree, VarTree, VarTrees, TypeItemTree, GroupTree, named, channel, array, fields, var_item, no_vars, more_vars}
use Rattle.pfc_tree.specs.trees.Stmts.{StmtTree, StmtTrees, BodyTree, ArmTree, ArmTrees, AcceptTree, AltTree, AltTrees, CommTree, empty, null, block, if_then}
use Rattle.pfc_tree.specs.trees.Stmts.{if_then_else, case_of, while_do, repeat_until, repeat_forever, for_do, cobegin, accepting, requeue, select, select_else}
use Rattle.pfc_tree.specs.trees.Stmts.{assign, send, receive, call, no_stmts, more_stmts, body, arm, no_arms, more_arms, accept, accept_do, alt, no_alts}
use Rattle.pfc_tree.specs.trees.Stmts.{more_alts, comm_accept, comm_send, comm_receive, timeout, terminate}
use Rattle.pfc_tree.specs.trees.Parts.{KindTree, EntryTree, PartTree, PartTrees, SubTree, ModuleTree, ProcessTree, ProgramTree, consts, types, vars, sub_part}
use Rattle.pfc_tree.specs.trees.Parts.{monitor, resource, process_part, no_parts, more_parts, sub, the_module, process}
use Rattle.pfc_types.specs.Faults.{Faults, none, one, ◌⨾◌, unless}
use Rattle.pfc_types.specs.Types.{integer, refusal_of, most_processes}
use Rattle.pfc_types.specs.Fields.{type_named}
use Rattle.pfc_types.specs.Scopes.{Names, Level, scope_at, here, meaning_in, look}
use Rattle.pfc_types.specs.Blocks.{State, note, declare, add_form, add_name, add_entry, add_module, add_process, set_population, sub_at, no_sub, add_sub}
use Rattle.pfc_types.specs.Blocks.{export_sub, open_scope}
use Rattle.pfc_types.specs.declared.types.TypeId.{TypeId}
use Rattle.pfc_types.specs.declared.types.TypeForm.{TypeForm}
use Rattle.pfc_types.specs.declared.types.TypeForm.TheVariants.{Process as AProcess}
use Rattle.pfc_types.specs.declared.table.TypeFault.{TypeFault}
use Rattle.pfc_types.specs.declared.table.TypeFault.TheVariants.{Bounds, Cells, Memory}
use Rattle.pfc_types.specs.declared.heads.ModuleHead.{ModuleHead}
use Rattle.pfc_types.specs.declared.heads.ProcessHead.{ProcessHead}
use Rattle.pfc_types.specs.declared.scope.Meaning.{Meaning}
use Rattle.pfc_types.specs.declared.scope.Meaning.TheVariants.{Constant as AConstant, Named, Variable, Sub, Module, Process, Entry, Predeclared, Faulty}
use Rattle.pfc_types.specs.rules.Kinds.{type_name_rules, has_object, variable_meaning}
use Rattle.pfc_types.specs.rules.Constants.{Ordinal, Extent, same_ordinal, constant_place, constant_value, broken_constant, broken_ranges, range_extents, Made}
use Rattle.pfc_types.specs.rules.Constants.{added_unless, added, channel_form, array_of, made_arrays, MadeFields, made_field, made_names, made_group}
use Rattle.pfc_types.specs.rules.Constants.{record_form, fields_begun, made, made_items, made_item, type_place}
use Rattle.pfc_types.specs.rules.Declarations.{constant_meaning, const_state, consts_state, type_state, types_state, Owner, in_program, elsewhere, owner_rules}
use Rattle.pfc_types.specs.rules.Declarations.{owned_type, passes_most, populated, brought, var_name_state, var_names_state, var_state, vars_state, group_type}
use Rattle.pfc_types.specs.rules.Declarations.{broken_group, Heading, formal_heading, formals_heading, group_viewed, group_heading, groups_heading, heading}
use Rattle.pfc_types.specs.rules.Declarations.{accept_groups, accept_heading, accept_rule, accepted, EntryHeading, entry_formal, entry_formals, entry_group}
use Rattle.pfc_types.specs.rules.Declarations.{entry_groups, entry_state, entries_state, may_export, export_state, export_list, exports_state, process_named}
use Rattle.pfc_types.specs.rules.Declarations.{process_headed, process_cells, Labels, label_noted, labels_noted, stmt_state, stmts_state, body_state}
use Rattle.pfc_types.specs.rules.Declarations.{arms_state, arm_state, accept_state, alts_state, alt_state, comm_state, init_state, broken_sort, sort_of}
use Rattle.pfc_types.specs.rules.Declarations.{sub_meaning, whole_sort, sub_headed, module_owner, cells_rule, scope_cells, result_cells, part_state}
use Rattle.pfc_types.specs.rules.Declarations.{parts_state, sub_state, module_state, process_state}
use Rattle.pfc_types.specs.rules.Bodies.{part_scopes}
use Rattle.std.proofs.Math.ListN.{get_or-map}
use Rattle.pfc_types.specs.rules.Whole.{begun, declared_parts, declared_all, main_cells, finished}
use Rattle.pfc_types.proofs.WalkParts.{part_walked, parts_walked, sub_headed_walked, process_headed_walked}
use Rattle.pfc_types.proofs.WalkDeclarations.{entries_walked, exports_kept}
use Rattle.pfc_types.proofs.WalkStatements.{body_opened, init_opened}
use Rattle.pfc_types.specs.Growing.{Begins}
use Rattle.pfc_name_laws.proofs.Numbers.{none_before}
use Rattle.pfc_name_laws.proofs.Steps.{never_noted, note_scopes}
use Rattle.pfc_semantics.specs.Layouts.{is_module}
use Rattle.pfc_image_cells.specs.Cells.{names_module, AreNamed}
use Rattle.pfc_tree.specs.forget.Parts.{forget_part, forget_parts, forget_sub, forget_module, forget_process, forget_program}
use Rattle.pfc_tree.specs.lawful.Parts.{Home, of_program, of_resource, of_other, HoldsModules, IsLawfulPart, AreLawfulParts, IsLawfulSub, IsLawfulModule}
use Rattle.pfc_tree.specs.lawful.Parts.{IsLawfulProcess, IsLawful}
use Rattle.std.proofs.Math.ListN.{get_or-append}
use Rattle.std.proofs.lemmas.Bool.Decides.{nat_tests}
use Rattle.pfc_types.specs.declared.heads.SubHead.{SubHead}
use Rattle.pfc_types.specs.declared.heads.Formal.{Formal}
use Rattle.pfc_image_cells.specs.Subs.{part_subs, parts_subs, sub_subs, module_subs, process_subs}

-- ## Steps

-- the scopes of all subs
abbrev pub sub_scopes_in : State → List ℕ
sub_scopes_in s = map (λ (h : SubHead). h.scope) s.blocks.subs

-- subs of the same scopes and the same modules, and no fewer rules noted
pub record Same (s t : State) : Type 0 where
  pub subs : sub_scopes_in t ≡ sub_scopes_in s
  pub modules : t.blocks.modules ≡ s.blocks.modules
  pub clean : t.blocks.noted ≡ [] → s.blocks.noted ≡ []

same : {s : State} → Same s s
same = record { subs = refl; modules = refl; clean = λ e. e }

infixr 55 ◌⊳◌
-- the later behind the earlier
pub ◌⊳◌ : {s t u : State} → Same t u → Same s t → Same s u
(q ⊳ p) = record { subs = q.subs ∙ p.subs; modules = q.modules ∙ p.modules; clean = λ e. p.clean (q.clean e) }

-- a scope is opened, processes are counted, an entry is added
pub open_same : (s : State) → Same s (open_scope s)
open_same s = record { subs = refl; modules = refl; clean = λ e. e }

count_same : (s : State) (n : ℕ) → Same s (set_population s n)
count_same s n = record { subs = refl; modules = refl; clean = λ e. e }

entry_same : (s : State) (formals : List Formal) → Same s (add_entry s formals)
entry_same s formals = record { subs = refl; modules = refl; clean = λ e. e }

form_same : (s : State) (form : TypeForm) → Same s (add_form s form)
form_same s form = record { subs = refl; modules = refl; clean = λ e. e }

pub note_same : (s : State) (fs : Faults) → Same s (note s fs)
note_same s none = record { subs = refl; modules = refl; clean = λ e. e }
note_same s (one f) = record { subs = refl; modules = refl; clean = λ e. none_before s.blocks.noted (f ∷ []) e }
note_same s (fs ⨾ gs) = note_same (note s fs) gs ⊳ note_same s fs

pub declare_same : (s : State) (i : ℕ) (x : Text × Place) (m : Meaning) → Same s (declare s i x m)
declare_same s i x m = by (is_some (meaning_in (scope_at s.blocks.scopes i) x.0))
  where
    by : (b : Bool) → Same s (if b then note s (unless false x.1 302) else add_name s i x.0 m)
    by true = note_same s (unless false x.1 302)
    by false = record { subs = refl; modules = refl; clean = λ e. e }

-- ## Types as they are written

added_unless_same : (fault : Option TypeFault) (s : State) (form : TypeForm) (p : Place) → Same s (added_unless fault s form p).state
added_unless_same None s form p = record { subs = refl; modules = refl; clean = λ e. e }
added_unless_same (Some Bounds) s form p = record { subs = refl; modules = refl; clean = λ e. e }
added_unless_same (Some Cells) s form p = note_same s (unless false p 304)
added_unless_same (Some Memory) s form p = record { subs = refl; modules = refl; clean = λ e. e }

added_same : (s : State) (form : Option TypeForm) (p : Place) → Same s (added s form p).state
added_same s None p = record { subs = refl; modules = refl; clean = λ e. e }
added_same s (Some form) p = added_unless_same (refusal_of s.forms form) s form p

arrays_same : (m : Made) (rs : List (Option Extent)) (p : Place) → Same m.state (made_arrays m rs p).state
arrays_same m [] p = record { subs = refl; modules = refl; clean = λ e. e }
arrays_same m (r ∷ rs) p = added_same (made_arrays m rs p).state (array_of r (made_arrays m rs p).t) p ⊳ arrays_same m rs p

field_same : (t : TypeId) (r : MadeFields) (x : Text × Place) → Same r.state (made_field t r x).state
field_same t r x = by (is_some (type_named r.list x.0))
  where
    by : (b : Bool)
        → Same r.state
        (if b then record { state = note r.state (unless false x.1 302); list = r.list; whole = false } else record r { list = r.list ++ (x.0, t) ∷ [] }).state
    by true = note_same r.state (unless false x.1 302)
    by false = record { subs = refl; modules = refl; clean = λ e. e }

names_same : (t : TypeId) (r : MadeFields) (xs : List (Text × Place)) → Same r.state (made_names t r xs).state
names_same t r [] = record { subs = refl; modules = refl; clean = λ e. e }
names_same t r (x ∷ xs) = names_same t (made_field t r x) xs ⊳ field_same t r x

group_same : (r : MadeFields) (t : Option TypeId) (xs : List (Text × Place)) → Same r.state (made_group r t xs).state
group_same r None xs = names_same integer (record r { whole = false }) xs
group_same r (Some t) xs = names_same t r xs

mutual
  made_same : (carried : Bool) (s : State) (view : List Level) (t : TypeTree) → Same s (made carried s view t).state
  made_same carried s view (named x p) = note_same s (type_name_rules carried (look s.blocks.scopes view x) p)
  made_same carried s view (channel t p) =
      let m = made true s view t in
      let fault = unless (not (has_object m.state.forms m.t)) (type_place t) 406 in
      added_same (note m.state fault) (channel_form m.state.forms m.t) p ⊳ note_same m.state fault ⊳ made_same true s view t
  made_same carried s view (array rs t p) =
      let noted = note s (broken_ranges s.blocks.scopes view rs) in
      arrays_same (made false noted view t) (range_extents s.blocks.scopes view rs) p ⊳ made_same false noted view t
      ⊳ note_same s (broken_ranges s.blocks.scopes view rs)
  made_same carried s view (fields vs last p) =
      let r = made_items view (fields_begun s) vs in added_same r.state (record_form r) p ⊳ items_same view (fields_begun s) vs

  items_same : (view : List Level) (r : MadeFields) (vs : VarTrees) → Same r.state (made_items view r vs).state
  items_same view r no_vars = record { subs = refl; modules = refl; clean = λ e. e }
  items_same view r (more_vars v vs) = items_same view (made_item view r v) vs ⊳ item_same view r v

  item_same : (view : List Level) (r : MadeFields) (v : VarTree) → Same r.state (made_item view r v).state
  item_same view r (var_item xs t) =
      let m = made false r.state view t in group_same (record r { state = m.state }) m.t xs ⊳ made_same false r.state view t

-- ## Constants, types and variables

pub consts_same : (s : State) (i : ℕ) (outer : List Level) (cs : List ConstItem) → Same s (consts_state s i outer cs)
consts_same s i outer [] = record { subs = refl; modules = refl; clean = λ e. e }
consts_same s i outer (c ∷ cs) =
    let view = here s.blocks.scopes i outer in
    let fault = broken_constant s.blocks.scopes view c.value in
    consts_same (const_state s i outer c) i outer cs
    ⊳ (declare_same (note s fault) i (c.name, c.place) (constant_meaning (constant_value s.blocks.scopes view c.value)) ⊳ note_same s fault)

pub types_same : (s : State) (i : ℕ) (outer : List Level) (ds : List TypeItemTree) → Same s (types_state s i outer ds)
types_same s i outer [] = record { subs = refl; modules = refl; clean = λ e. e }
types_same s i outer (d ∷ ds) =
    types_same (type_state s i outer d) i outer ds ⊳ (declare_same _ i _ _ ⊳ made_same false s (here s.blocks.scopes i outer) d.form)

populated_same : (s : State) (i more : ℕ) (x : Text × Place) (m : Meaning) → Same s (populated s i more x m)
populated_same s i more x m = by (passes_most s.blocks.population more)
  where
    by : (t : Bool)
        → Same s
        (if t
        then declare (note (set_population s (most_processes (s.blocks.population + more))) (unless false x.1 424)) i x Faulty
        else declare (set_population s (most_processes (s.blocks.population + more))) i x m)
    by true =
        declare_same (note (set_population s (most_processes (s.blocks.population + more))) (unless false x.1 424)) i x Faulty
        ⊳ note_same (set_population s (most_processes (s.blocks.population + more))) (unless false x.1 424)
        ⊳ count_same s (most_processes (s.blocks.population + more))
    by false =
        declare_same (set_population s (most_processes (s.blocks.population + more))) i x m ⊳ count_same s (most_processes (s.blocks.population + more))

var_name_same : (s : State) (i : ℕ) (t : Option TypeId) (x : Text × Place) → Same s (var_name_state s i t x)
var_name_same s i t x = by (is_some (meaning_in (scope_at s.blocks.scopes i) x.0))
  where
    by : (r : Bool) → Same s (if r then declare s i x Faulty else populated s i (brought s.forms t) x (variable_meaning false t))
    by true = declare_same s i x Faulty
    by false = populated_same s i (brought s.forms t) x (variable_meaning false t)

var_names_same : (s : State) (i : ℕ) (t : Option TypeId) (xs : List (Text × Place)) → Same s (var_names_state s i t xs)
var_names_same s i t [] = record { subs = refl; modules = refl; clean = λ e. e }
var_names_same s i t (x ∷ xs) = var_names_same (var_name_state s i t x) i t xs ⊳ var_name_same s i t x

pub vars_same : (owner : Owner) (s : State) (i : ℕ) (outer : List Level) (vs : VarTrees) → Same s (vars_state owner s i outer vs)
vars_same owner s i outer no_vars = record { subs = refl; modules = refl; clean = λ e. e }
vars_same owner s i outer (more_vars (var_item xs t) vs) =
    let m = made false s (here s.blocks.scopes i outer) t in
    let noted = note m.state (owner_rules owner m.state.forms m.t (type_place t)) in
    vars_same owner (var_state owner s i outer (var_item xs t)) i outer vs
    ⊳ (var_names_same noted i (owned_type owner m.state.forms m.t) xs ⊳ note_same m.state (owner_rules owner m.state.forms m.t (type_place t))
    ⊳ made_same false s (here s.blocks.scopes i outer) t)

-- ## Headings

pub formals_same : (i : ℕ) (reference : Bool) (t : Option TypeId) (h : Heading) (xs : List (Text × Place))
    → Same h.state (formals_heading i reference t h xs).state
formals_same i reference t h [] = record { subs = refl; modules = refl; clean = λ e. e }
formals_same i reference t h (x ∷ xs) =
    formals_same i reference t (formal_heading i reference t h x) xs ⊳ declare_same h.state i x (variable_meaning reference t)

group_viewed_same : (i : ℕ) (view : List Level) (h : Heading) (g : GroupTree) → Same h.state (group_viewed i view h g).state
group_viewed_same i view h g = formals_same i g.reference (group_type h.state view g) _ g.names ⊳ note_same h.state (broken_group h.state view g)

pub groups_same : (i : ℕ) (outer : List Level) (h : Heading) (gs : List GroupTree) → Same h.state (groups_heading i outer h gs).state
groups_same i outer h [] = record { subs = refl; modules = refl; clean = λ e. e }
groups_same i outer h (g ∷ gs) = groups_same i outer (group_heading i outer h g) gs ⊳ group_viewed_same i (here h.state.blocks.scopes i outer) h g

accept_groups_same : (i : ℕ) (view : List Level) (h : Heading) (gs : List GroupTree) → Same h.state (accept_groups i view h gs).state
accept_groups_same i view h [] = record { subs = refl; modules = refl; clean = λ e. e }
accept_groups_same i view h (g ∷ gs) = accept_groups_same i view (group_viewed i view h g) gs ⊳ group_viewed_same i view h g

entry_formals_same : (reference : Bool) (t : Option TypeId) (h : EntryHeading) (xs : List (Text × Place)) → Same h.state (entry_formals reference t h xs).state
entry_formals_same reference t h [] = record { subs = refl; modules = refl; clean = λ e. e }
entry_formals_same reference t h (x ∷ xs) =
    entry_formals_same reference t (entry_formal reference t h x) xs ⊳ note_same h.state (unless (not (is_some (meaning_in h.own x.0))) x.1 302)

entry_groups_same : (view : List Level) (h : EntryHeading) (gs : List GroupTree) → Same h.state (entry_groups view h gs).state
entry_groups_same view h [] = record { subs = refl; modules = refl; clean = λ e. e }
entry_groups_same view h (g ∷ gs) =
    entry_groups_same view (entry_group view h g) gs
    ⊳ (entry_formals_same g.reference (group_type h.state view g) _ g.names ⊳ note_same h.state (broken_group h.state view g))

pub entries_same : (s : State) (i : ℕ) (outer : List Level) (k : ℕ) (es : List EntryTree) → Same s (entries_state s i outer k es)
entries_same s i outer k [] = record { subs = refl; modules = refl; clean = λ e. e }
entries_same s i outer k (e ∷ es) =
    let h = entry_groups (here s.blocks.scopes i outer) (record { state = s; own = []; formals = []; whole = true }) e.formals in
    entries_same (entry_state s i outer k e) i outer (k + 1) es
    ⊳ (declare_same (add_entry h.state h.formals) i _ _ ⊳ entry_same h.state h.formals ⊳ entry_groups_same (here s.blocks.scopes i outer)
    (record { state = s; own = []; formals = []; whole = true }) e.formals)

-- ## Exports and processes

-- an exported sub keeps its scope
exported_same : (s : State) (n : ℕ) → Same s (export_sub s n)
exported_same s n =
    let scope : SubHead → ℕ = λ h. h.scope in
    record {
      subs = map-set scope s.blocks.subs n (record (sub_at s.blocks n) { exported = true })
          ∙ ap (λ (k : ℕ). set (map (λ (h : SubHead). h.scope) s.blocks.subs) n k) (sym (get_or-map scope s.blocks.subs n no_sub))
          ∙ set-get_or (map (λ (h : SubHead). h.scope) s.blocks.subs) n 0;
      modules = refl;
      clean = λ e. e;
    }

export_same : (s : State) (m : Option Meaning) (p : Place) → Same s (export_state s m p)
export_same s None p = note_same s (unless false p 409)
export_same s (Some (AConstant t v)) p = note_same s (unless false p 409)
export_same s (Some (Named t)) p = note_same s (unless false p 409)
export_same s (Some (Variable t r)) p = note_same s (unless false p 409)
export_same s (Some (Sub n)) p = by (may_export (sub_at s.blocks n))
  where
    by : (b : Bool) → Same s (if b then export_sub s n else note s (unless false p 409))
    by true = exported_same s n
    by false = note_same s (unless false p 409)
export_same s (Some (Module n)) p = note_same s (unless false p 409)
export_same s (Some (Process n)) p = note_same s (unless false p 409)
export_same s (Some (Entry n)) p = note_same s (unless false p 409)
export_same s (Some (Predeclared k)) p = note_same s (unless false p 409)
export_same s (Some Faulty) p = record { subs = refl; modules = refl; clean = λ e. e }

export_list_same : (s : State) (i : ℕ) (xs : List (Text × Place)) → Same s (export_list s i xs)
export_list_same s i [] = record { subs = refl; modules = refl; clean = λ e. e }
export_list_same s i (x ∷ xs) =
    let m = meaning_in (scope_at s.blocks.scopes i) x.0 in export_list_same (export_state s m x.1) i xs ⊳ export_same s m x.1

pub exports_same : (s : State) (i : ℕ) (lists : List (List (Text × Place))) → Same s (exports_state s i lists)
exports_same s i [] = record { subs = refl; modules = refl; clean = λ e. e }
exports_same s i (xs ∷ lists) = exports_same (export_list s i xs) i lists ⊳ export_list_same s i xs

process_named_same : (s : State) (i : ℕ) (many whole : Bool) (x : Text × Place) (n : ℕ) → Same s (process_named s i many whole x n)
process_named_same s i many false x n = declare_same s i x Faulty
process_named_same s i true true x n =
    declare_same (add_form s (AProcess n)) i x (Named (record { place = length s.forms })) ⊳ form_same s (AProcess n)
process_named_same s i false true x n = by (is_some (meaning_in (scope_at s.blocks.scopes i) x.0))
  where
    by : (r : Bool) → Same s (if r then declare s i x Faulty else populated s i 1 x (Process n))
    by true = declare_same s i x Faulty
    by false = populated_same s i 1 x (Process n)

-- ## Statements

accepted_same : (s : State) (view : List Level) (x : Text) (gs : List GroupTree) (p : Place) → Same s (accepted s view x gs p)
accepted_same s view x gs p =
    let h = accept_heading (open_scope s) (length s.blocks.scopes) view gs in
    note_same h.state (accept_rule h.state.blocks (look s.blocks.scopes view x) h.formals p)
    ⊳ accept_groups_same (length s.blocks.scopes) view (record { state = open_scope s; formals = []; whole = true }) gs ⊳ open_same s

label_same : (c : Option Ordinal) (p : Place) (r : Labels) → Same r.state (label_noted c p r).state
label_same None p r = record { subs = refl; modules = refl; clean = λ e. e }
label_same (Some c) p r = by (list_any (same_ordinal c) r.seen)
  where
    by : (b : Bool) → Same r.state (if b then record r { state = note r.state (unless false p 320) } else record r { seen = r.seen ++ c ∷ [] }).state
    by true = note_same r.state (unless false p 320)
    by false = record { subs = refl; modules = refl; clean = λ e. e }

labels_same : (view : List Level) (r : Labels) (cs : List Constant) → Same r.state (labels_noted view r cs).state
labels_same view r [] = record { subs = refl; modules = refl; clean = λ e. e }
labels_same view r (c ∷ cs) =
    let x = constant_value r.state.blocks.scopes view c in
    labels_same view (label_noted x (constant_place c) r) cs ⊳ label_same x (constant_place c) r

mutual
  stmt_same : (s : State) (view : List Level) (t : StmtTree) → Same s (stmt_state s view t)
  stmt_same s view empty = record { subs = refl; modules = refl; clean = λ e. e }
  stmt_same s view (null p) = record { subs = refl; modules = refl; clean = λ e. e }
  stmt_same s view (block b p) = body_same s view b
  stmt_same s view (if_then e t p) = stmt_same s view t
  stmt_same s view (if_then_else e t u p) = stmt_same (stmt_state s view t) view u ⊳ stmt_same s view t
  stmt_same s view (case_of e arms last p) = arms_same view (record { state = s; seen = [] }) arms
  stmt_same s view (while_do e t p) = stmt_same s view t
  stmt_same s view (repeat_until ts e p) = stmts_same s view ts
  stmt_same s view (repeat_forever ts p) = stmts_same s view ts
  stmt_same s view (for_do x from down to t p q) = stmt_same s view t
  stmt_same s view (cobegin ts last p) = stmts_same s view ts
  stmt_same s view (accepting a p) = accept_same s view a
  stmt_same s view (requeue x args p) = record { subs = refl; modules = refl; clean = λ e. e }
  stmt_same s view (select pri alts p q) = alts_same s view alts
  stmt_same s view (select_else pri alts ts p q r) = stmts_same (alts_state s view alts) view ts ⊳ alts_same s view alts
  stmt_same s view (assign d e p q) = record { subs = refl; modules = refl; clean = λ e. e }
  stmt_same s view (send d e p q) = record { subs = refl; modules = refl; clean = λ e. e }
  stmt_same s view (receive d v p q) = record { subs = refl; modules = refl; clean = λ e. e }
  stmt_same s view (call d args p) = record { subs = refl; modules = refl; clean = λ e. e }

  stmts_same : (s : State) (view : List Level) (ts : StmtTrees) → Same s (stmts_state s view ts)
  stmts_same s view no_stmts = record { subs = refl; modules = refl; clean = λ e. e }
  stmts_same s view (more_stmts t ts) = stmts_same (stmt_state s view t) view ts ⊳ stmt_same s view t

  pub body_same : (s : State) (view : List Level) (b : BodyTree) → Same s (body_state s view b)
  body_same s view (body ts from to) = stmts_same s view ts

  arms_same : (view : List Level) (r : Labels) (arms : ArmTrees) → Same r.state (arms_state view r arms).state
  arms_same view r no_arms = record { subs = refl; modules = refl; clean = λ e. e }
  arms_same view r (more_arms a arms) = arms_same view (arm_state view r a) arms ⊳ arm_same view r a

  arm_same : (view : List Level) (r : Labels) (a : ArmTree) → Same r.state (arm_state view r a).state
  arm_same view r (arm cs t) = stmt_same (labels_noted view r cs).state view t ⊳ labels_same view r cs

  accept_same : (s : State) (view : List Level) (a : AcceptTree) → Same s (accept_state s view a)
  accept_same s view (accept x gs p) = accepted_same s view x gs p
  accept_same s view (accept_do x gs t p) =
      let opened = accepted s view x gs p in
      stmt_same opened (here opened.blocks.scopes (length s.blocks.scopes) view) t ⊳ accepted_same s view x gs p

  alts_same : (s : State) (view : List Level) (alts : AltTrees) → Same s (alts_state s view alts)
  alts_same s view no_alts = record { subs = refl; modules = refl; clean = λ e. e }
  alts_same s view (more_alts a alts) = alts_same (alt_state s view a) view alts ⊳ alt_same s view a

  alt_same : (s : State) (view : List Level) (a : AltTree) → Same s (alt_state s view a)
  alt_same s view (alt spread guard c ts) = stmts_same (comm_state s view c) view ts ⊳ comm_same s view c

  comm_same : (s : State) (view : List Level) (c : CommTree) → Same s (comm_state s view c)
  comm_same s view (comm_accept a p) = accept_same s view a
  comm_same s view (comm_send d e p) = record { subs = refl; modules = refl; clean = λ e. e }
  comm_same s view (comm_receive d v p) = record { subs = refl; modules = refl; clean = λ e. e }
  comm_same s view (timeout e p) = record { subs = refl; modules = refl; clean = λ e. e }
  comm_same s view (terminate p) = record { subs = refl; modules = refl; clean = λ e. e }

pub init_same : (s : State) (view : List Level) (b : Option BodyTree) → Same s (init_state s view b)
init_same s view None = record { subs = refl; modules = refl; clean = λ e. e }
init_same s view (Some b) = body_same s view b

-- ## Parts

-- subs of these scopes are added
pub record Added (s t : State) (is : List ℕ) : Type 0 where
  pub subs : sub_scopes_in t ≡ sub_scopes_in s ++ is
  pub clean : t.blocks.noted ≡ [] → s.blocks.noted ≡ []

none_added : {s t : State} → Same s t → Added s t []
none_added {s} {t} h = record { subs = h.subs ∙ sym (append-nil (sub_scopes_in s)); clean = h.clean }

-- what is added behind what was added
added_then : (s t u : State) (is js : List ℕ) → Added s t is → Added t u js → Added s u (is ++ js)
added_then s t u is js e f =
    record {
      subs = f.subs ∙ ap (λ (l : List ℕ). l ++ js) e.subs ∙ append_assoc (sub_scopes_in s) is js;
      clean = λ q. e.clean (f.clean q);
    }

added_same_after : (s t u : State) (is : List ℕ) → Added s t is → Same t u → Added s u is
added_same_after s t u is e f = record { subs = f.subs ∙ e.subs; clean = λ q. e.clean (f.clean q) }

added_before : (s t u : State) (is : List ℕ) → Same s t → Added t u is → Added s u is
added_before s t u is e f = record { subs = f.subs ∙ ap (λ (l : List ℕ). l ++ is) e.subs; clean = λ q. e.clean (f.clean q) }

added_at : (s t : State) (m n : ℕ) → Added s t (m ∷ []) → m ≡ n → Added s t (n ∷ [])
added_at s t m n h e = subst (λ (k : ℕ). Added s t (k ∷ [])) e h

sub_headed_added : (s : State) (i : ℕ) (outer : List Level) (x : Text × Place) (gs : List GroupTree) (kind : KindTree)
    → Added s (sub_headed s i outer x gs kind) (length s.blocks.scopes ∷ [])
sub_headed_added s i outer x gs kind =
    let own = length s.blocks.scopes in
    let around = here s.blocks.scopes i outer in
    let h = heading (open_scope s) own around gs in
    let view = here h.state.blocks.scopes own around in
    let sort = sort_of h.state view kind in
    let head : SubHead = record { formals = h.formals; sort = sort; scope = own; exported = false } in
    let ruled = note h.state (broken_sort h.state view kind) in
    let before : Same s ruled =
    note_same h.state (broken_sort h.state view kind) ⊳ groups_same own around (record { state = open_scope s; formals = []; whole = true }) gs
    ⊳ open_same s in
    let behind = declare_same (add_sub ruled head) i x (sub_meaning (h.whole && whole_sort sort) (length s.blocks.subs)) in
    record {
      subs = behind.subs ∙ map-append (λ (h : SubHead). h.scope) ruled.blocks.subs (head ∷ []) ∙ ap (λ (l : List ℕ). l ++ own ∷ []) before.subs;
      clean = λ q. before.clean (behind.clean q);
    }

sub_headed_modules : (s : State) (i : ℕ) (outer : List Level) (x : Text × Place) (gs : List GroupTree) (kind : KindTree)
    → (sub_headed s i outer x gs kind).blocks.modules ≡ s.blocks.modules
sub_headed_modules s i outer x gs kind =
    let own = length s.blocks.scopes in
    let around = here s.blocks.scopes i outer in
    let h = heading (open_scope s) own around gs in
    let view = here h.state.blocks.scopes own around in
    let sort = sort_of h.state view kind in
    let head : SubHead = record { formals = h.formals; sort = sort; scope = own; exported = false } in
    let ruled = note h.state (broken_sort h.state view kind) in
    (declare_same (add_sub ruled head) i x (sub_meaning (h.whole && whole_sort sort) (length s.blocks.subs))).modules
    ∙ ((note_same h.state (broken_sort h.state view kind)).modules
    ∙ (groups_same own around (record { state = open_scope s; formals = []; whole = true }) gs).modules)

pub process_headed_same : (s : State) (i : ℕ) (outer : List Level) (many : Bool) (x : Text × Place) (gs : List GroupTree)
    → Same s (process_headed s i outer many x gs)
process_headed_same s i outer many x gs =
    let own = length s.blocks.scopes in
    let around = here s.blocks.scopes i outer in
    let h = heading (open_scope s) own around gs in
    let head : ProcessHead = record { formals = h.formals; entries = length s.blocks.entries; scope = own } in
    let added : Same h.state (add_process h.state head) = record { subs = refl; modules = refl; clean = λ e. e } in
    process_named_same (add_process h.state head) i many h.whole x (length s.blocks.processes) ⊳ added
    ⊳ groups_same own around (record { state = open_scope s; formals = []; whole = true }) gs ⊳ open_same s

mutual
  pub part_added :
      (owner : Owner) (s : State) (i : ℕ) (outer : List Level) (next : ℕ) (q : PartTree) → length s.blocks.scopes ≡ next → i < next
      → Added s (part_state owner s i outer q) (part_subs next q)
  part_added owner s i outer next (consts items) at inside = none_added (consts_same s i outer items)
  part_added owner s i outer next (types items) at inside = none_added (types_same s i outer items)
  part_added owner s i outer next (vars vs) at inside = none_added (vars_same owner s i outer vs)
  part_added owner s i outer next (sub_part b) at inside = sub_added s i outer next b at inside
  part_added owner s i outer next (monitor m) at inside = module_added false s i outer next m at inside
  part_added owner s i outer next (resource m) at inside = module_added true s i outer next m at inside
  part_added owner s i outer next (process_part p) at inside = process_added s i outer next p at inside

  pub parts_added :
      (owner : Owner) (s : State) (i : ℕ) (outer : List Level) (next : ℕ) (qs : PartTrees) → length s.blocks.scopes ≡ next → i < next
      → Added s (parts_state owner s i outer qs) (parts_subs next qs)
  parts_added owner s i outer next no_parts at inside = none_added same
  parts_added owner s i outer next (more_parts q qs) at inside =
      let walked = part_walked owner s i outer q (omega (arith, at, inside)) in
      let one = part_state owner s i outer q in
      added_then s one (parts_state owner one i outer qs) (part_subs next q) (parts_subs (next + part_scopes q) qs)
      (part_added owner s i outer next q at inside)
      (parts_added owner one i outer (next + part_scopes q) qs (omega (arith, walked.count, at)) (omega (arith, inside)))

  sub_added :
      (s : State) (i : ℕ) (outer : List Level) (next : ℕ) (b : SubTree) → length s.blocks.scopes ≡ next → i < next
      → Added s (sub_state s i outer b) (sub_subs next b)
  sub_added s i outer next (sub x gs kind ps b p) at inside =
      let own = length s.blocks.scopes in
      let headed = sub_headed s i outer (x, p) gs kind in
      let around = here headed.blocks.scopes i outer in
      let declared = parts_state elsewhere headed own around ps in
      let done = body_state declared (here declared.blocks.scopes own around) b in
      let rule = cells_rule (scope_cells done.forms (scope_at done.blocks.scopes own) + result_cells kind) p in
      let walked = sub_headed_walked s i outer (x, p) gs kind (omega (arith, at, inside)) in
      added_same_after s declared (note done rule) (next ∷ parts_subs (next + 1) ps)
      (added_then s headed declared (next ∷ []) (parts_subs (next + 1) ps) (added_at s headed own next (sub_headed_added s i outer (x, p) gs kind) at)
      (parts_added elsewhere headed own around (next + 1) ps (omega (arith, walked.count, at)) (omega (arith, at))))
      (note_same done rule ⊳ body_same declared (here declared.blocks.scopes own around) b)

  module_added :
      (is_resource : Bool) (s : State) (i : ℕ) (outer : List Level) (next : ℕ) (m : ModuleTree) → length s.blocks.scopes ≡ next → i < next
      → Added s (module_state is_resource s i outer m) (module_subs next m)
  module_added is_resource s i outer next (the_module x exports ps b last p) at inside =
      let own = length s.blocks.scopes in
      let around = here s.blocks.scopes i outer in
      let declared = parts_state (module_owner is_resource) (open_scope s) own around ps in
      let inits = init_state declared (here declared.blocks.scopes own around) b in
      let t = exports_state inits own exports in
      let head : ModuleHead = record { scope = own; resource = is_resource } in
      let count = length-append s.blocks.scopes ([] ∷ []) in
      let inner = added_before s (open_scope s) declared (parts_subs (next + 1) ps) (open_same s)
      (parts_added (module_owner is_resource) (open_scope s) own around (next + 1) ps (omega (arith, count, at)) (omega (arith, at))) in
      let before = exports_same inits own exports ⊳ init_same declared (here declared.blocks.scopes own around) b in
      let behind = declare_same (add_module t head) i (x, p) (Module (length inits.blocks.modules)) in
      record { subs = behind.subs ∙ (before.subs ∙ inner.subs); clean = λ q. inner.clean (before.clean (behind.clean q)) }

  process_added :
      (s : State) (i : ℕ) (outer : List Level) (next : ℕ) (q : ProcessTree) → length s.blocks.scopes ≡ next → i < next
      → Added s (process_state s i outer q) (process_subs next q)
  process_added s i outer next (process many x gs es ps b p) at inside =
      let own = length s.blocks.scopes in
      let headed = process_headed s i outer many (x, p) gs in
      let around = here headed.blocks.scopes i outer in
      let entered = entries_state headed own around 0 es in
      let declared = parts_state elsewhere entered own around ps in
      let done = body_state declared (here declared.blocks.scopes own around) b in
      let rule = cells_rule (process_cells done own (length declared.blocks.scopes)) p in
      let walked = process_headed_walked s i outer many (x, p) gs (omega (arith, at, inside)) in
      let names = entries_walked headed own around 0 es (omega (arith, walked.count, at)) in
      added_same_after s declared (note done rule) (parts_subs (next + 1) ps)
      (added_before s entered declared (parts_subs (next + 1) ps) (entries_same headed own around 0 es ⊳ process_headed_same s i outer many (x, p) gs)
      (parts_added elsewhere entered own around (next + 1) ps (omega (arith, walked.count, names.count, at)) (omega (arith, at))))
      (note_same done rule ⊳ body_same declared (here declared.blocks.scopes own around) b)

pub program_subs : (t : ProgramTree) → map (λ (h : SubHead). h.scope) (finished t).blocks.subs ≡ parts_subs 1 t.parts
program_subs t =
    let s = declared_parts t in
    (note_same (declared_all t) (cells_rule (main_cells (declared_all t)) t.name.1)).subs
    ∙ ((body_same s (here s.blocks.scopes 0 []) t.body).subs ∙ (parts_added in_program begun 0 [] 1 t.parts refl (omega arith)).subs)

-- ## Parts in which no module stands

mutual
  part_modules :
      (h : Home) (owner : Owner) (s : State) (i : ℕ) (outer : List Level) (q : PartTree) → (HoldsModules h → ⊥) → IsLawfulPart h (forget_part q)
      → (part_state owner s i outer q).blocks.modules ≡ s.blocks.modules
  part_modules h owner s i outer (consts items) apart lawful = (consts_same s i outer items).modules
  part_modules h owner s i outer (types items) apart lawful = (types_same s i outer items).modules
  part_modules h owner s i outer (vars vs) apart lawful = (vars_same owner s i outer vs).modules
  part_modules h owner s i outer (sub_part b) apart lawful = sub_modules h s i outer b lawful
  part_modules h owner s i outer (monitor m) apart lawful = absurd (apart lawful.0)
  part_modules h owner s i outer (resource m) apart lawful = absurd (apart lawful.0)
  part_modules h owner s i outer (process_part p) apart lawful = absurd (apart lawful.0)

  parts_modules :
      (h : Home) (owner : Owner) (s : State) (i : ℕ) (outer : List Level) (qs : PartTrees) → (HoldsModules h → ⊥) → AreLawfulParts h (forget_parts qs)
      → (parts_state owner s i outer qs).blocks.modules ≡ s.blocks.modules
  parts_modules h owner s i outer no_parts apart lawful = refl
  parts_modules h owner s i outer (more_parts q qs) apart lawful =
      parts_modules h owner (part_state owner s i outer q) i outer qs apart lawful.1 ∙ part_modules h owner s i outer q apart lawful.0

  pub sub_modules : (h : Home) (s : State) (i : ℕ) (outer : List Level) (b : SubTree) → IsLawfulSub h (forget_sub b)
      → (sub_state s i outer b).blocks.modules ≡ s.blocks.modules
  sub_modules h s i outer (sub x gs kind ps b p) lawful =
      let own = length s.blocks.scopes in
      let headed = sub_headed s i outer (x, p) gs kind in
      let around = here headed.blocks.scopes i outer in
      let declared = parts_state elsewhere headed own around ps in
      let done = body_state declared (here declared.blocks.scopes own around) b in
      (note_same done (cells_rule (scope_cells done.forms (scope_at done.blocks.scopes own) + result_cells kind) p)).modules
      ∙ ((body_same declared (here declared.blocks.scopes own around) b).modules
      ∙ (parts_modules of_other elsewhere headed own around ps (λ e. e) lawful.2 ∙ sub_headed_modules s i outer (x, p) gs kind))

process_modules : (s : State) (i : ℕ) (outer : List Level) (q : ProcessTree) → IsLawfulProcess (forget_process q)
    → (process_state s i outer q).blocks.modules ≡ s.blocks.modules
process_modules s i outer (process many x gs es ps b p) lawful =
    let own = length s.blocks.scopes in
    let headed = process_headed s i outer many (x, p) gs in
    let around = here headed.blocks.scopes i outer in
    let entered = entries_state headed own around 0 es in
    let declared = parts_state elsewhere entered own around ps in
    let done = body_state declared (here declared.blocks.scopes own around) b in
    (note_same done (cells_rule (process_cells done own (length declared.blocks.scopes)) p)).modules
    ∙ ((body_same declared (here declared.blocks.scopes own around) b).modules
    ∙ (parts_modules of_other elsewhere entered own around ps (λ e. e) lawful.2 ∙ ((entries_same headed own around 0 es).modules
    ∙ (process_headed_same s i outer many (x, p) gs).modules)))

-- ## Each module has its name

module_in : (n : ℕ) (a b : Names) → names_module n a ≡ true → names_module n (a ++ b) ≡ true
module_in n [] b e = absurd (cc)
module_in n (x ∷ a) b e = by (is_module n x.1) e (λ q. module_in n a b q)
  where
    by : (r : Bool) → (r || names_module n a) ≡ true → (names_module n a ≡ true → names_module n (a ++ b) ≡ true) → (r || names_module n (a ++ b)) ≡ true
    by true q rest = refl
    by false q rest = rest q

module_last : (n : ℕ) (x : Text) (a : Names) → names_module n (a ++ (x, Module n) ∷ []) ≡ true
module_last n x [] = let same_one : (n == n) ≡ true = grind (arith, nat_tests) in ap (λ (r : Bool). r || false) same_one
module_last n x (y ∷ a) = by (is_module n y.1) (module_last n x a)
  where
    by : (r : Bool) → names_module n (a ++ (x, Module n) ∷ []) ≡ true → (r || names_module n (a ++ (x, Module n) ∷ [])) ≡ true
    by true e = refl
    by false e = e

-- more names, and the same modules
named_grows : (s t : State) → Begins (scope_at s.blocks.scopes 0) (scope_at t.blocks.scopes 0) → t.blocks.modules ≡ s.blocks.modules → AreNamed s → AreNamed t
named_grows s t b e h n below =
    let count = ap (λ (l : List ModuleHead). length l) e in
    subst (λ (l : Names). names_module n l ≡ true) (sym b.splits)
    (module_in n (scope_at s.blocks.scopes 0) b.more (h n (omega (arith, below, count))))

pub declared_named :
    (s : State) (x : Text × Place) (m : Meaning) → 0 < length s.blocks.scopes → (declare s 0 x m).blocks.noted ≡ []
    → scope_at (declare s 0 x m).blocks.scopes 0 ≡ scope_at s.blocks.scopes 0 ++ (x.0, m) ∷ []
declared_named s x m some e = by (is_some (meaning_in (scope_at s.blocks.scopes 0) x.0)) e
  where
    by : (r : Bool) → (if r then note s (unless false x.1 302) else add_name s 0 x.0 m).blocks.noted ≡ []
        → scope_at (if r then note s (unless false x.1 302) else add_name s 0 x.0 m).blocks.scopes 0 ≡ scope_at s.blocks.scopes 0 ++ (x.0, m) ∷ []
    by true q = absurd (never_noted s x.1 302 q)
    by false q = get_or-set_same s.blocks.scopes 0 (scope_at s.blocks.scopes 0 ++ (x.0, m) ∷ []) [] some

-- one module more, with its name
one_more : (s : State) (names : Names) (x : Text) (k n : ℕ) → k ≡ length s.blocks.modules → names ≡ scope_at s.blocks.scopes 0 ++ (x, Module k) ∷ []
    → AreNamed s → n < length s.blocks.modules + 1 → names_module n names ≡ true
one_more s names x k n last e so below = by (nat_lt n (length s.blocks.modules)) refl
  where
    own : Names
    own = scope_at s.blocks.scopes 0

    by : (r : Bool) → nat_lt n (length s.blocks.modules) ≡ r → names_module n names ≡ true
    by true q =
        let inside : n < length s.blocks.modules = grind (arith, nat_tests) in
        subst (λ (l : Names). names_module n l ≡ true) (sym e) (module_in n own ((x, Module k) ∷ []) (so n inside))
    by false q =
        let outside : length s.blocks.modules ≤ n = grind (arith, nat_tests) in
        let is : k ≡ n = omega (arith, outside, below, last) in
        subst (λ (l : Names). names_module n l ≡ true) (sym e)
        (subst (λ (j : ℕ). names_module j (own ++ (x, Module k) ∷ []) ≡ true) is (module_last k x own))

module_named :
    (is_resource : Bool) (h : Home) (s : State) (m : ModuleTree) → (HoldsModules h → ⊥) → IsLawfulModule h (forget_module m) → 0 < length s.blocks.scopes
    → (module_state is_resource s 0 [] m).blocks.noted ≡ [] → AreNamed s → AreNamed (module_state is_resource s 0 [] m)
module_named is_resource h s (the_module x exports ps b last p) apart lawful some clean so n below =
    let own = length s.blocks.scopes in
    let around = here s.blocks.scopes 0 [] in
    let declared = parts_state (module_owner is_resource) (open_scope s) own around ps in
    let view = here declared.blocks.scopes own around in
    let inits = init_state declared view b in
    let t = exports_state inits own exports in
    let head : ModuleHead = record { scope = own; resource = is_resource } in
    let u = add_module t head in
    let name = Module (length inits.blocks.modules) in
    let modules : inits.blocks.modules ≡ s.blocks.modules =
    (init_same declared view b).modules ∙ parts_modules h (module_owner is_resource) (open_scope s) own around ps apart lawful.1 in
    let before : t.blocks.modules ≡ s.blocks.modules = (exports_same inits own exports).modules ∙ modules in
    let count : length (declare u 0 (x, p) name).blocks.modules ≡ length s.blocks.modules + 1 =
    ap (λ (l : List ModuleHead). length l) ((declare_same u 0 (x, p) name).modules ∙ ap (λ (l : List ModuleHead). l ++ head ∷ []) before)
    ∙ length-append s.blocks.modules (head ∷ []) in
    let more = length-append s.blocks.scopes ([] ∷ []) in
    let walked = parts_walked (module_owner is_resource) (open_scope s) own around ps (omega (arith, more)) in
    let opened = init_opened declared view b in
    let kept = exports_kept inits own exports in
    let same_scopes = ap (λ (l : List Names). length l) kept.scopes in
    let base : scope_at u.blocks.scopes 0 ≡ scope_at s.blocks.scopes 0 =
    ap (λ (l : List Names). scope_at l 0) kept.scopes
    ∙ opened.others 0 (omega (arith, walked.count, more))
    ∙ walked.others 0 (omega (arith, more)) (λ e. omega (arith, e, some))
    ∙ get_or-append s.blocks.scopes ([] ∷ []) [] 0 some in
    let names : scope_at (declare u 0 (x, p) name).blocks.scopes 0 ≡ scope_at s.blocks.scopes 0 ++ (x, name) ∷ [] =
    declared_named u (x, p) name (omega (arith, same_scopes, opened.count, walked.count, more)) clean
    ∙ ap (λ (l : Names). l ++ (x, name) ∷ []) base in
    one_more s (scope_at (declare u 0 (x, p) name).blocks.scopes 0) x (length inits.blocks.modules) n (ap (λ (l : List ModuleHead). length l) modules) names so
    (omega (arith, below, count))

part_named :
    (s : State) (q : PartTree) → IsLawfulPart of_program (forget_part q) → 0 < length s.blocks.scopes
    → (part_state in_program s 0 [] q).blocks.noted ≡ [] → AreNamed s → AreNamed (part_state in_program s 0 [] q)
part_named s (consts items) lawful some clean so =
    named_grows s (part_state in_program s 0 [] (consts items)) (part_walked in_program s 0 [] (consts items) some).own (consts_same s 0 [] items).modules so
part_named s (types items) lawful some clean so =
    named_grows s (part_state in_program s 0 [] (types items)) (part_walked in_program s 0 [] (types items) some).own (types_same s 0 [] items).modules so
part_named s (vars vs) lawful some clean so =
    named_grows s (part_state in_program s 0 [] (vars vs)) (part_walked in_program s 0 [] (vars vs) some).own (vars_same in_program s 0 [] vs).modules so
part_named s (sub_part b) lawful some clean so =
    named_grows s (part_state in_program s 0 [] (sub_part b)) (part_walked in_program s 0 [] (sub_part b) some).own (sub_modules of_program s 0 [] b lawful)
    so
part_named s (process_part p) lawful some clean so =
    named_grows s (part_state in_program s 0 [] (process_part p)) (part_walked in_program s 0 [] (process_part p) some).own
    (process_modules s 0 [] p lawful.1) so
part_named s (monitor m) lawful some clean so = module_named false of_other s m (λ e. e) lawful.1 some clean so
part_named s (resource m) lawful some clean so = module_named true of_resource s m (λ e. e) lawful.1 some clean so

parts_named :
    (s : State) (next : ℕ) (qs : PartTrees) → AreLawfulParts of_program (forget_parts qs) → length s.blocks.scopes ≡ next → 0 < next
    → (parts_state in_program s 0 [] qs).blocks.noted ≡ [] → AreNamed s → AreNamed (parts_state in_program s 0 [] qs)
parts_named s next no_parts lawful at some clean so = so
parts_named s next (more_parts q qs) lawful at some clean so =
    let walked = part_walked in_program s 0 [] q (omega (arith, at, some)) in
    let one = part_state in_program s 0 [] q in
    let count : length one.blocks.scopes ≡ next + part_scopes q = omega (arith, walked.count, at) in
    let rest = parts_added in_program one 0 [] (next + part_scopes q) qs count (omega (arith, some)) in
    parts_named one (next + part_scopes q) qs lawful.1 count (omega (arith, some)) clean
    (part_named s q lawful.0 (omega (arith, at, some)) (rest.clean clean) so)

-- where no rule is noted, each module of a lawful program has its name
pub program_named : (t : ProgramTree) → IsLawful (forget_program t) → (finished t).blocks.noted ≡ [] → AreNamed (finished t)
program_named t lawful clean =
    let s = declared_parts t in
    let view = here s.blocks.scopes 0 [] in
    let done = declared_all t in
    let rule = cells_rule (main_cells done) t.name.1 in
    let walked = parts_walked in_program begun 0 [] t.parts (omega arith) in
    let opened = body_opened s view t.body in
    let later = note_same done rule ⊳ body_same s view t.body in
    let names : scope_at (finished t).blocks.scopes 0 ≡ scope_at s.blocks.scopes 0 =
    ap (λ (l : List Names). scope_at l 0) (note_scopes done rule) ∙ opened.others 0 (omega (arith, walked.count)) in
    named_grows s (finished t) (record { more = []; splits = names ∙ sym (append-nil (scope_at s.blocks.scopes 0)) }) later.modules
    (parts_named begun 1 t.parts lawful.0 refl (omega arith) (later.clean clean) (λ n below. absurd (omega (arith, below))))
