-- How many processes are counted: no part but the program's variables and its single processes adds any.
use Rattle.std.proofs.Common.{◌≡◌, ℕ, ◌+◌, Bool, true, false, not, if◌then◌else◌, is_some, List, [], ◌∷◌, ◌++◌, length, ◌&&◌, Option, Some, None, refl, ap, ◌∙◌}
use Rattle.std.proofs.Common.{arith}
use Rattle.std.specs.List.{list_any}
use Rattle.pfc_base.specs.declared.places.Place.{Place}
use Rattle.pfc_tree.specs.Symbols.{Text}
use Rattle.pfc_tree.specs.declared.tree.Constant.{Constant}
use Rattle.pfc_tree.specs.declared.tree.ConstItem.{ConstItem}
use Rattle.pfc_tree.specs.trees.Types.{TypeTree, VarTree, VarTrees, TypeItemTree, GroupTree, named, channel, array, fields, var_item, no_vars, more_vars}
use Rattle.pfc_tree.specs.trees.Stmts.{StmtTree, StmtTrees, BodyTree, ArmTree, ArmTrees, AcceptTree, AltTree, AltTrees, CommTree, empty, null, block, if_then}
use Rattle.pfc_tree.specs.trees.Stmts.{if_then_else, case_of, while_do, repeat_until, repeat_forever, for_do, cobegin, accepting, requeue, select, select_else}
use Rattle.pfc_tree.specs.trees.Stmts.{assign, send, receive, call, no_stmts, more_stmts, body, arm, no_arms, more_arms, accept, accept_do, alt, no_alts}
use Rattle.pfc_tree.specs.trees.Stmts.{more_alts, comm_accept, comm_send, comm_receive, timeout, terminate}
use Rattle.pfc_tree.specs.trees.Parts.{KindTree, EntryTree, PartTree, PartTrees, SubTree, consts, types, vars, sub_part, monitor, resource, process_part}
use Rattle.pfc_tree.specs.trees.Parts.{no_parts, more_parts, sub}
use Rattle.pfc_types.specs.Faults.{Faults, none, one, ◌⨾◌, unless}
use Rattle.pfc_types.specs.Types.{integer, refusal_of, most_processes}
use Rattle.pfc_types.specs.Fields.{type_named}
use Rattle.pfc_types.specs.Scopes.{Level, scope_at, here, meaning_in, look}
use Rattle.pfc_types.specs.Blocks.{State, note, declare, add_form, add_name, add_entry, set_population, sub_at, add_sub, export_sub, open_scope}
use Rattle.pfc_types.specs.declared.types.TypeId.{TypeId}
use Rattle.pfc_types.specs.declared.types.TypeForm.{TypeForm}
use Rattle.pfc_types.specs.declared.table.TypeFault.{TypeFault}
use Rattle.pfc_types.specs.declared.table.TypeFault.TheVariants.{Bounds, Cells, Memory}
use Rattle.pfc_types.specs.declared.scope.Meaning.{Meaning}
use Rattle.pfc_types.specs.declared.scope.Meaning.TheVariants.{Constant as AConstant, Named, Variable, Sub, Module, Process, Entry, Predeclared, Faulty}
use Rattle.pfc_types.specs.rules.Kinds.{type_name_rules, has_object, variable_meaning}
use Rattle.pfc_types.specs.rules.Constants.{Ordinal, Extent, same_ordinal, constant_place, constant_value, broken_constant, broken_ranges, range_extents, Made}
use Rattle.pfc_types.specs.rules.Constants.{added_unless, added, channel_form, array_of, made_arrays, MadeFields, made_field, made_names, made_group}
use Rattle.pfc_types.specs.rules.Constants.{record_form, fields_begun, made, made_items, made_item, type_place}
use Rattle.pfc_types.specs.rules.Declarations.{constant_meaning, const_state, consts_state, type_state, types_state, Owner, elsewhere, owner_rules, owned_type}
use Rattle.pfc_types.specs.rules.Declarations.{passes_most, populated, brought, var_name_state, var_names_state, var_state, vars_state, group_type}
use Rattle.pfc_types.specs.rules.Declarations.{broken_group, Heading, formal_heading, formals_heading, group_viewed, group_heading, groups_heading, heading}
use Rattle.pfc_types.specs.rules.Declarations.{accept_groups, accept_heading, accept_rule, accepted, EntryHeading, entry_formal, entry_formals, entry_group}
use Rattle.pfc_types.specs.rules.Declarations.{entry_groups, entry_state, entries_state, may_export, export_state, export_list, exports_state, Labels}
use Rattle.pfc_types.specs.rules.Declarations.{label_noted, labels_noted, stmt_state, stmts_state, body_state, arms_state, arm_state, accept_state, alts_state}
use Rattle.pfc_types.specs.rules.Declarations.{alt_state, comm_state, init_state, broken_sort, sort_of, sub_meaning, whole_sort, sub_headed, cells_rule}
use Rattle.pfc_types.specs.rules.Declarations.{scope_cells, result_cells, part_state, parts_state, sub_state}
use Rattle.pfc_name_laws.proofs.Numbers.{none_before}
use Rattle.pfc_tree.specs.forget.Parts.{forget_part, forget_parts, forget_sub}
use Rattle.pfc_tree.specs.lawful.Parts.{Home, of_other, HoldsModules, IsLawfulPart, AreLawfulParts, IsLawfulSub}
use Rattle.pfc_types.specs.declared.heads.SubHead.{SubHead}
use Rattle.pfc_types.specs.declared.heads.Formal.{Formal}
use Rattle.pfc_types.specs.Types.{Forms, held_of}
use Rattle.pfc_types.specs.rules.Kinds.{where_so}
use Rattle.pfc_types.specs.rules.Declarations.{may_share, shared_fits, condition_fits, holds_shared}
use Rattle.pfc_type_laws.proofs.WalkTypes.{note_forms}
use Rattle.pfc_main_names.proofs.Owned.{no_shared, fits_none, names_forms}

-- ## Steps

-- as many processes, counted so far as they are counted, and no fewer rules noted
pub record Same (s t : State) : Type 0 where
  pub population : most_processes t.blocks.population ≡ most_processes s.blocks.population
  pub clean : t.blocks.noted ≡ [] → s.blocks.noted ≡ []

pub same : {s : State} → Same s s
same = record { population = refl; clean = λ e. e }

infixr 55 ◌⊳◌
-- the later behind the earlier
pub ◌⊳◌ : {s t u : State} → Same t u → Same s t → Same s u
(q ⊳ p) = record { population = q.population ∙ p.population; clean = λ e. p.clean (q.clean e) }

-- a scope is opened, processes are counted, an entry is added
pub open_same : (s : State) → Same s (open_scope s)
open_same s = record { population = refl; clean = λ e. e }

count_same : (s : State) (more : ℕ) → more ≡ 0 → Same s (set_population s (most_processes (s.blocks.population + more)))
count_same s more e = record { population = omega (arith, e); clean = λ h. h }

entry_same : (s : State) (formals : List Formal) → Same s (add_entry s formals)
entry_same s formals = record { population = refl; clean = λ e. e }

form_same : (s : State) (form : TypeForm) → Same s (add_form s form)
form_same s form = record { population = refl; clean = λ e. e }

pub note_same : (s : State) (fs : Faults) → Same s (note s fs)
note_same s none = record { population = refl; clean = λ e. e }
note_same s (one f) = record { population = refl; clean = λ e. none_before s.blocks.noted (f ∷ []) e }
note_same s (fs ⨾ gs) = note_same (note s fs) gs ⊳ note_same s fs

pub declare_same : (s : State) (i : ℕ) (x : Text × Place) (m : Meaning) → Same s (declare s i x m)
declare_same s i x m = by (is_some (meaning_in (scope_at s.blocks.scopes i) x.0))
  where
    by : (b : Bool) → Same s (if b then note s (unless false x.1 302) else add_name s i x.0 m)
    by true = note_same s (unless false x.1 302)
    by false = record { population = refl; clean = λ e. e }

-- ## Types as they are written

added_unless_same : (fault : Option TypeFault) (s : State) (form : TypeForm) (p : Place) → Same s (added_unless fault s form p).state
added_unless_same None s form p = record { population = refl; clean = λ e. e }
added_unless_same (Some Bounds) s form p = record { population = refl; clean = λ e. e }
added_unless_same (Some Cells) s form p = note_same s (unless false p 304)
added_unless_same (Some Memory) s form p = record { population = refl; clean = λ e. e }

added_same : (s : State) (form : Option TypeForm) (p : Place) → Same s (added s form p).state
added_same s None p = record { population = refl; clean = λ e. e }
added_same s (Some form) p = added_unless_same (refusal_of s.forms form) s form p

arrays_same : (m : Made) (rs : List (Option Extent)) (p : Place) → Same m.state (made_arrays m rs p).state
arrays_same m [] p = record { population = refl; clean = λ e. e }
arrays_same m (r ∷ rs) p = added_same (made_arrays m rs p).state (array_of r (made_arrays m rs p).t) p ⊳ arrays_same m rs p

field_same : (t : TypeId) (r : MadeFields) (x : Text × Place) → Same r.state (made_field t r x).state
field_same t r x = by (is_some (type_named r.list x.0))
  where
    by : (b : Bool)
        → Same r.state
        (if b then record { state = note r.state (unless false x.1 302); list = r.list; whole = false } else record r { list = r.list ++ (x.0, t) ∷ [] }).state
    by true = note_same r.state (unless false x.1 302)
    by false = record { population = refl; clean = λ e. e }

names_same : (t : TypeId) (r : MadeFields) (xs : List (Text × Place)) → Same r.state (made_names t r xs).state
names_same t r [] = record { population = refl; clean = λ e. e }
names_same t r (x ∷ xs) = names_same t (made_field t r x) xs ⊳ field_same t r x

group_same : (r : MadeFields) (t : Option TypeId) (xs : List (Text × Place)) → Same r.state (made_group r t xs).state
group_same r None xs = names_same integer (record r { whole = false }) xs
group_same r (Some t) xs = names_same t r xs

mutual
  pub made_same : (carried : Bool) (s : State) (view : List Level) (t : TypeTree) → Same s (made carried s view t).state
  made_same carried s view (named x p) = note_same s (type_name_rules carried (look s.blocks.scopes view x) p)
  made_same carried s view (channel t p) =
      let m = made true s view t in
      let fault = unless (not (has_object m.state.forms m.t)) (type_place t) 406 in
      added_same (note m.state fault) (channel_form m.state.forms m.t) p ⊳ note_same m.state fault ⊳ made_same true s view t
  made_same carried s view (array rs t p) =
      let noted = note s (broken_ranges s.blocks.scopes view rs) in
      arrays_same (made false noted view t) (range_extents s.blocks.scopes view rs) p ⊳ made_same false noted view t
      ⊳ note_same s (broken_ranges s.blocks.scopes view rs)
  made_same carried s view (fields vs last p) =
      let r = made_items view (fields_begun s) vs in added_same r.state (record_form r) p ⊳ items_same view (fields_begun s) vs

  items_same : (view : List Level) (r : MadeFields) (vs : VarTrees) → Same r.state (made_items view r vs).state
  items_same view r no_vars = record { population = refl; clean = λ e. e }
  items_same view r (more_vars v vs) = items_same view (made_item view r v) vs ⊳ item_same view r v

  item_same : (view : List Level) (r : MadeFields) (v : VarTree) → Same r.state (made_item view r v).state
  item_same view r (var_item xs t) =
      let m = made false r.state view t in group_same (record r { state = m.state }) m.t xs ⊳ made_same false r.state view t

-- ## Constants, types and variables

pub consts_same : (s : State) (i : ℕ) (outer : List Level) (cs : List ConstItem) → Same s (consts_state s i outer cs)
consts_same s i outer [] = record { population = refl; clean = λ e. e }
consts_same s i outer (c ∷ cs) =
    let view = here s.blocks.scopes i outer in
    let fault = broken_constant s.blocks.scopes view c.value in
    consts_same (const_state s i outer c) i outer cs
    ⊳ (declare_same (note s fault) i (c.name, c.place) (constant_meaning (constant_value s.blocks.scopes view c.value)) ⊳ note_same s fault)

pub types_same : (s : State) (i : ℕ) (outer : List Level) (ds : List TypeItemTree) → Same s (types_state s i outer ds)
types_same s i outer [] = record { population = refl; clean = λ e. e }
types_same s i outer (d ∷ ds) =
    types_same (type_state s i outer d) i outer ds ⊳ (declare_same _ i _ _ ⊳ made_same false s (here s.blocks.scopes i outer) d.form)

populated_same : (s : State) (i more : ℕ) (x : Text × Place) (m : Meaning) → more ≡ 0 → Same s (populated s i more x m)
populated_same s i more x m e = by (passes_most s.blocks.population more)
  where
    by : (t : Bool)
        → Same s
        (if t
        then declare (note (set_population s (most_processes (s.blocks.population + more))) (unless false x.1 424)) i x Faulty
        else declare (set_population s (most_processes (s.blocks.population + more))) i x m)
    by true =
        declare_same (note (set_population s (most_processes (s.blocks.population + more))) (unless false x.1 424)) i x Faulty
        ⊳ note_same (set_population s (most_processes (s.blocks.population + more))) (unless false x.1 424)
        ⊳ count_same s more e
    by false = declare_same (set_population s (most_processes (s.blocks.population + more))) i x m ⊳ count_same s more e

var_name_same : (s : State) (i : ℕ) (t : Option TypeId) (x : Text × Place) → brought s.forms t ≡ 0 → Same s (var_name_state s i t x)
var_name_same s i t x e = by (is_some (meaning_in (scope_at s.blocks.scopes i) x.0))
  where
    by : (r : Bool) → Same s (if r then declare s i x Faulty else populated s i (brought s.forms t) x (variable_meaning false t))
    by true = declare_same s i x Faulty
    by false = populated_same s i (brought s.forms t) x (variable_meaning false t) e

var_names_same : (s : State) (i : ℕ) (t : Option TypeId) (xs : List (Text × Place)) → brought s.forms t ≡ 0 → Same s (var_names_state s i t xs)
var_names_same s i t [] e = same
var_names_same s i t (x ∷ xs) e =
    var_names_same (var_name_state s i t x) i t xs (ap (λ (f : Forms). brought f t) (names_forms s i t (x ∷ [])) ∙ e) ⊳ var_name_same s i t x e

none_brought : (owner : Owner) (forms : Forms) (t : Option TypeId) → may_share owner ≡ false → brought forms (owned_type owner forms t) ≡ 0
none_brought owner forms None may = refl
none_brought owner forms (Some u) may = by (shared_fits owner forms u) (condition_fits owner forms u) refl
  where
    by : (r q : Bool) → shared_fits owner forms u ≡ r → brought forms (where_so (r && q) u) ≡ 0
    by true true e = no_shared (held_of forms u).processes (held_of forms u).shared (fits_none (may_share owner) (holds_shared forms u) e may)
    by true false e = refl
    by false q e = refl

pub vars_same : (owner : Owner) (s : State) (i : ℕ) (outer : List Level) (vs : VarTrees) → may_share owner ≡ false → Same s (vars_state owner s i outer vs)
vars_same owner s i outer no_vars may = same
vars_same owner s i outer (more_vars (var_item xs t) vs) may =
    let m = made false s (here s.blocks.scopes i outer) t in
    let rules = owner_rules owner m.state.forms m.t (type_place t) in
    vars_same owner (var_state owner s i outer (var_item xs t)) i outer vs may
    ⊳ (var_names_same (note m.state rules) i (owned_type owner m.state.forms m.t) xs
    (ap (λ (f : Forms). brought f (owned_type owner m.state.forms m.t)) (note_forms m.state rules) ∙ none_brought owner m.state.forms m.t may)
    ⊳ note_same m.state rules ⊳ made_same false s (here s.blocks.scopes i outer) t)

-- ## Headings

pub formals_same : (i : ℕ) (reference : Bool) (t : Option TypeId) (h : Heading) (xs : List (Text × Place))
    → Same h.state (formals_heading i reference t h xs).state
formals_same i reference t h [] = record { population = refl; clean = λ e. e }
formals_same i reference t h (x ∷ xs) =
    formals_same i reference t (formal_heading i reference t h x) xs ⊳ declare_same h.state i x (variable_meaning reference t)

group_viewed_same : (i : ℕ) (view : List Level) (h : Heading) (g : GroupTree) → Same h.state (group_viewed i view h g).state
group_viewed_same i view h g = formals_same i g.reference (group_type h.state view g) _ g.names ⊳ note_same h.state (broken_group h.state view g)

pub groups_same : (i : ℕ) (outer : List Level) (h : Heading) (gs : List GroupTree) → Same h.state (groups_heading i outer h gs).state
groups_same i outer h [] = record { population = refl; clean = λ e. e }
groups_same i outer h (g ∷ gs) = groups_same i outer (group_heading i outer h g) gs ⊳ group_viewed_same i (here h.state.blocks.scopes i outer) h g

accept_groups_same : (i : ℕ) (view : List Level) (h : Heading) (gs : List GroupTree) → Same h.state (accept_groups i view h gs).state
accept_groups_same i view h [] = record { population = refl; clean = λ e. e }
accept_groups_same i view h (g ∷ gs) = accept_groups_same i view (group_viewed i view h g) gs ⊳ group_viewed_same i view h g

entry_formals_same : (reference : Bool) (t : Option TypeId) (h : EntryHeading) (xs : List (Text × Place)) → Same h.state (entry_formals reference t h xs).state
entry_formals_same reference t h [] = record { population = refl; clean = λ e. e }
entry_formals_same reference t h (x ∷ xs) =
    entry_formals_same reference t (entry_formal reference t h x) xs ⊳ note_same h.state (unless (not (is_some (meaning_in h.own x.0))) x.1 302)

entry_groups_same : (view : List Level) (h : EntryHeading) (gs : List GroupTree) → Same h.state (entry_groups view h gs).state
entry_groups_same view h [] = record { population = refl; clean = λ e. e }
entry_groups_same view h (g ∷ gs) =
    entry_groups_same view (entry_group view h g) gs
    ⊳ (entry_formals_same g.reference (group_type h.state view g) _ g.names ⊳ note_same h.state (broken_group h.state view g))

pub entries_same : (s : State) (i : ℕ) (outer : List Level) (k : ℕ) (es : List EntryTree) → Same s (entries_state s i outer k es)
entries_same s i outer k [] = record { population = refl; clean = λ e. e }
entries_same s i outer k (e ∷ es) =
    let h = entry_groups (here s.blocks.scopes i outer) (record { state = s; own = []; formals = []; whole = true }) e.formals in
    entries_same (entry_state s i outer k e) i outer (k + 1) es
    ⊳ (declare_same (add_entry h.state h.formals) i _ _ ⊳ entry_same h.state h.formals ⊳ entry_groups_same (here s.blocks.scopes i outer)
    (record { state = s; own = []; formals = []; whole = true }) e.formals)

-- ## Exports and processes

exported_same : (s : State) (n : ℕ) → Same s (export_sub s n)
exported_same s n = record { population = refl; clean = λ e. e }

export_same : (s : State) (m : Option Meaning) (p : Place) → Same s (export_state s m p)
export_same s None p = note_same s (unless false p 409)
export_same s (Some (AConstant t v)) p = note_same s (unless false p 409)
export_same s (Some (Named t)) p = note_same s (unless false p 409)
export_same s (Some (Variable t r)) p = note_same s (unless false p 409)
export_same s (Some (Sub n)) p = by (may_export (sub_at s.blocks n))
  where
    by : (b : Bool) → Same s (if b then export_sub s n else note s (unless false p 409))
    by true = exported_same s n
    by false = note_same s (unless false p 409)
export_same s (Some (Module n)) p = note_same s (unless false p 409)
export_same s (Some (Process n)) p = note_same s (unless false p 409)
export_same s (Some (Entry n)) p = note_same s (unless false p 409)
export_same s (Some (Predeclared k)) p = note_same s (unless false p 409)
export_same s (Some Faulty) p = record { population = refl; clean = λ e. e }

export_list_same : (s : State) (i : ℕ) (xs : List (Text × Place)) → Same s (export_list s i xs)
export_list_same s i [] = record { population = refl; clean = λ e. e }
export_list_same s i (x ∷ xs) =
    let m = meaning_in (scope_at s.blocks.scopes i) x.0 in export_list_same (export_state s m x.1) i xs ⊳ export_same s m x.1

pub exports_same : (s : State) (i : ℕ) (lists : List (List (Text × Place))) → Same s (exports_state s i lists)
exports_same s i [] = record { population = refl; clean = λ e. e }
exports_same s i (xs ∷ lists) = exports_same (export_list s i xs) i lists ⊳ export_list_same s i xs

-- ## Statements

accepted_same : (s : State) (view : List Level) (x : Text) (gs : List GroupTree) (p : Place) → Same s (accepted s view x gs p)
accepted_same s view x gs p =
    let h = accept_heading (open_scope s) (length s.blocks.scopes) view gs in
    note_same h.state (accept_rule h.state.blocks (look s.blocks.scopes view x) h.formals p)
    ⊳ accept_groups_same (length s.blocks.scopes) view (record { state = open_scope s; formals = []; whole = true }) gs ⊳ open_same s

label_same : (c : Option Ordinal) (p : Place) (r : Labels) → Same r.state (label_noted c p r).state
label_same None p r = record { population = refl; clean = λ e. e }
label_same (Some c) p r = by (list_any (same_ordinal c) r.seen)
  where
    by : (b : Bool) → Same r.state (if b then record r { state = note r.state (unless false p 320) } else record r { seen = r.seen ++ c ∷ [] }).state
    by true = note_same r.state (unless false p 320)
    by false = record { population = refl; clean = λ e. e }

labels_same : (view : List Level) (r : Labels) (cs : List Constant) → Same r.state (labels_noted view r cs).state
labels_same view r [] = record { population = refl; clean = λ e. e }
labels_same view r (c ∷ cs) =
    let x = constant_value r.state.blocks.scopes view c in
    labels_same view (label_noted x (constant_place c) r) cs ⊳ label_same x (constant_place c) r

mutual
  stmt_same : (s : State) (view : List Level) (t : StmtTree) → Same s (stmt_state s view t)
  stmt_same s view empty = record { population = refl; clean = λ e. e }
  stmt_same s view (null p) = record { population = refl; clean = λ e. e }
  stmt_same s view (block b p) = body_same s view b
  stmt_same s view (if_then e t p) = stmt_same s view t
  stmt_same s view (if_then_else e t u p) = stmt_same (stmt_state s view t) view u ⊳ stmt_same s view t
  stmt_same s view (case_of e arms last p) = arms_same view (record { state = s; seen = [] }) arms
  stmt_same s view (while_do e t p) = stmt_same s view t
  stmt_same s view (repeat_until ts e p) = stmts_same s view ts
  stmt_same s view (repeat_forever ts p) = stmts_same s view ts
  stmt_same s view (for_do x from down to t p q) = stmt_same s view t
  stmt_same s view (cobegin ts last p) = stmts_same s view ts
  stmt_same s view (accepting a p) = accept_same s view a
  stmt_same s view (requeue x args p) = record { population = refl; clean = λ e. e }
  stmt_same s view (select pri alts p q) = alts_same s view alts
  stmt_same s view (select_else pri alts ts p q r) = stmts_same (alts_state s view alts) view ts ⊳ alts_same s view alts
  stmt_same s view (assign d e p q) = record { population = refl; clean = λ e. e }
  stmt_same s view (send d e p q) = record { population = refl; clean = λ e. e }
  stmt_same s view (receive d v p q) = record { population = refl; clean = λ e. e }
  stmt_same s view (call d args p) = record { population = refl; clean = λ e. e }

  stmts_same : (s : State) (view : List Level) (ts : StmtTrees) → Same s (stmts_state s view ts)
  stmts_same s view no_stmts = record { population = refl; clean = λ e. e }
  stmts_same s view (more_stmts t ts) = stmts_same (stmt_state s view t) view ts ⊳ stmt_same s view t

  pub body_same : (s : State) (view : List Level) (b : BodyTree) → Same s (body_state s view b)
  body_same s view (body ts from to) = stmts_same s view ts

  arms_same : (view : List Level) (r : Labels) (arms : ArmTrees) → Same r.state (arms_state view r arms).state
  arms_same view r no_arms = record { population = refl; clean = λ e. e }
  arms_same view r (more_arms a arms) = arms_same view (arm_state view r a) arms ⊳ arm_same view r a

  arm_same : (view : List Level) (r : Labels) (a : ArmTree) → Same r.state (arm_state view r a).state
  arm_same view r (arm cs t) = stmt_same (labels_noted view r cs).state view t ⊳ labels_same view r cs

  accept_same : (s : State) (view : List Level) (a : AcceptTree) → Same s (accept_state s view a)
  accept_same s view (accept x gs p) = accepted_same s view x gs p
  accept_same s view (accept_do x gs t p) =
      let opened = accepted s view x gs p in
      stmt_same opened (here opened.blocks.scopes (length s.blocks.scopes) view) t ⊳ accepted_same s view x gs p

  alts_same : (s : State) (view : List Level) (alts : AltTrees) → Same s (alts_state s view alts)
  alts_same s view no_alts = record { population = refl; clean = λ e. e }
  alts_same s view (more_alts a alts) = alts_same (alt_state s view a) view alts ⊳ alt_same s view a

  alt_same : (s : State) (view : List Level) (a : AltTree) → Same s (alt_state s view a)
  alt_same s view (alt spread guard c ts) = stmts_same (comm_state s view c) view ts ⊳ comm_same s view c

  comm_same : (s : State) (view : List Level) (c : CommTree) → Same s (comm_state s view c)
  comm_same s view (comm_accept a p) = accept_same s view a
  comm_same s view (comm_send d e p) = record { population = refl; clean = λ e. e }
  comm_same s view (comm_receive d v p) = record { population = refl; clean = λ e. e }
  comm_same s view (timeout e p) = record { population = refl; clean = λ e. e }
  comm_same s view (terminate p) = record { population = refl; clean = λ e. e }

pub init_same : (s : State) (view : List Level) (b : Option BodyTree) → Same s (init_state s view b)
init_same s view None = record { population = refl; clean = λ e. e }
init_same s view (Some b) = body_same s view b

-- ## Parts that share nothing

sub_headed_same : (s : State) (i : ℕ) (outer : List Level) (x : Text × Place) (gs : List GroupTree) (kind : KindTree) → Same s (sub_headed s i outer x gs kind)
sub_headed_same s i outer x gs kind =
    let own = length s.blocks.scopes in
    let around = here s.blocks.scopes i outer in
    let h = heading (open_scope s) own around gs in
    let view = here h.state.blocks.scopes own around in
    let sort = sort_of h.state view kind in
    let head : SubHead = record { formals = h.formals; sort = sort; scope = own; exported = false } in
    let ruled = note h.state (broken_sort h.state view kind) in
    let added : Same ruled (add_sub ruled head) = record { population = refl; clean = λ e. e } in
    declare_same (add_sub ruled head) i x (sub_meaning (h.whole && whole_sort sort) (length s.blocks.subs)) ⊳ added
    ⊳ note_same h.state (broken_sort h.state view kind)
    ⊳ groups_same own around (record { state = open_scope s; formals = []; whole = true }) gs ⊳ open_same s

mutual
  part_same : (h : Home) (owner : Owner) (s : State) (i : ℕ) (outer : List Level) (q : PartTree) → may_share owner ≡ false → (HoldsModules h → ⊥)
      → IsLawfulPart h (forget_part q) → Same s (part_state owner s i outer q)
  part_same h owner s i outer (consts items) may apart lawful = consts_same s i outer items
  part_same h owner s i outer (types items) may apart lawful = types_same s i outer items
  part_same h owner s i outer (vars vs) may apart lawful = vars_same owner s i outer vs may
  part_same h owner s i outer (sub_part b) may apart lawful = sub_same h s i outer b lawful
  part_same h owner s i outer (monitor m) may apart lawful = absurd (apart lawful.0)
  part_same h owner s i outer (resource m) may apart lawful = absurd (apart lawful.0)
  part_same h owner s i outer (process_part p) may apart lawful = absurd (apart lawful.0)

  pub parts_same : (h : Home) (owner : Owner) (s : State) (i : ℕ) (outer : List Level) (qs : PartTrees) → may_share owner ≡ false → (HoldsModules h → ⊥)
      → AreLawfulParts h (forget_parts qs) → Same s (parts_state owner s i outer qs)
  parts_same h owner s i outer no_parts may apart lawful = same
  parts_same h owner s i outer (more_parts q qs) may apart lawful =
      parts_same h owner (part_state owner s i outer q) i outer qs may apart lawful.1 ⊳ part_same h owner s i outer q may apart lawful.0

  pub sub_same : (h : Home) (s : State) (i : ℕ) (outer : List Level) (b : SubTree) → IsLawfulSub h (forget_sub b) → Same s (sub_state s i outer b)
  sub_same h s i outer (sub x gs kind ps b p) lawful =
      let own = length s.blocks.scopes in
      let headed = sub_headed s i outer (x, p) gs kind in
      let around = here headed.blocks.scopes i outer in
      let declared = parts_state elsewhere headed own around ps in
      let done = body_state declared (here declared.blocks.scopes own around) b in
      note_same done (cells_rule (scope_cells done.forms (scope_at done.blocks.scopes own) + result_cells kind) p)
      ⊳ body_same declared (here declared.blocks.scopes own around) b
      ⊳ parts_same of_other elsewhere headed own around ps refl (λ e. e) lawful.2 ⊳ sub_headed_same s i outer (x, p) gs kind
