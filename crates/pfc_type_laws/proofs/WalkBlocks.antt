-- Through all declarations of a tree each type stands behind those that it is made of.
use Rattle.std.proofs.Common.{◌≡◌, ℕ, zero, suc, ◌+◌, Bool, true, false, not, ◌&&◌, if◌then◌else◌, is_some, List, [], ◌∷◌, ◌++◌, length, get_or, Option, Some}
use Rattle.std.proofs.Common.{None, refl, sym, subst, arith, length-append}
use Rattle.std.specs.List.{list_any}
use Rattle.pfc_base.specs.declared.places.Place.{Place}
use Rattle.pfc_tree.specs.Symbols.{Text}
use Rattle.pfc_tree.specs.declared.tree.Constant.{Constant}
use Rattle.pfc_tree.specs.declared.tree.ConstItem.{ConstItem}
use Rattle.pfc_tree.specs.trees.Types.{VarTrees, TypeItemTree, GroupTree, var_item, no_vars, more_vars}
use Rattle.pfc_tree.specs.trees.Stmts.{StmtTree, StmtTrees, BodyTree, ArmTree, ArmTrees, AcceptTree, AltTree, AltTrees, CommTree, block, if_then, if_then_else}
use Rattle.pfc_tree.specs.trees.Stmts.{case_of, while_do, repeat_until, repeat_forever, for_do, cobegin, accepting, select, select_else, no_stmts, more_stmts}
use Rattle.pfc_tree.specs.trees.Stmts.{body, arm, no_arms, more_arms, accept, accept_do, alt, no_alts, more_alts, comm_accept}
use Rattle.pfc_tree.specs.trees.Parts.{KindTree, EntryTree, PartTree, PartTrees, SubTree, ModuleTree, ProcessTree, ProgramTree, consts, types, vars, sub_part}
use Rattle.pfc_tree.specs.trees.Parts.{monitor, resource, process_part, no_parts, more_parts, sub, the_module, process}
use Rattle.pfc_types.specs.Faults.{unless}
use Rattle.pfc_types.specs.Types.{Forms, predeclared_forms, most_processes}
use Rattle.pfc_types.specs.Scopes.{Level, scope_at, here, meaning_in, look}
use Rattle.pfc_types.specs.Blocks.{State, no_blocks, note, declare, add_name, add_form, add_sub, add_module, add_process, add_entry, open_scope, set_population}
use Rattle.pfc_types.specs.Blocks.{sub_at, export_sub}
use Rattle.pfc_types.specs.declared.types.TypeId.{TypeId}
use Rattle.pfc_types.specs.declared.types.TypeForm.{TypeForm}
use Rattle.pfc_types.specs.declared.types.TypeForm.TheVariants.{Process as AProcess}
use Rattle.pfc_types.specs.declared.heads.SubHead.{SubHead}
use Rattle.pfc_types.specs.declared.heads.ProcessHead.{ProcessHead}
use Rattle.pfc_types.specs.declared.scope.Meaning.{Meaning}
use Rattle.pfc_types.specs.declared.scope.Meaning.TheVariants.{Named, Sub, Module, Process, Faulty}
use Rattle.pfc_types.specs.rules.Kinds.{where_so, named_type, type_meaning, variable_meaning}
use Rattle.pfc_types.specs.rules.Constants.{Ordinal, same_ordinal, constant_value, constant_place, broken_constant, made, type_place}
use Rattle.pfc_types.specs.rules.Declarations.{constant_meaning, const_state, consts_state, type_state, types_state, Owner, in_program, elsewhere, owner_rules}
use Rattle.pfc_types.specs.rules.Declarations.{shared_fits, condition_fits, owned_type, passed_fits, parameter_fits, parameter_type, passes_most, populated}
use Rattle.pfc_types.specs.rules.Declarations.{brought, var_name_state, var_names_state, var_state, vars_state, group_type, broken_group, Heading, heading}
use Rattle.pfc_types.specs.rules.Declarations.{accept_heading, formal_heading, formals_heading, group_viewed, group_heading, groups_heading, accept_groups}
use Rattle.pfc_types.specs.rules.Declarations.{EntryHeading, entry_formal, entry_formals, entry_group, entry_groups, entry_meaning, entry_state, entries_state}
use Rattle.pfc_types.specs.rules.Declarations.{accept_rule, accepted, Labels, label_noted, labels_noted, stmt_state, stmts_state, body_state, arms_state}
use Rattle.pfc_types.specs.rules.Declarations.{arm_state, accept_state, alts_state, alt_state, comm_state, broken_sort, sort_of, whole_sort, sub_meaning}
use Rattle.pfc_types.specs.rules.Declarations.{sub_headed, may_export, export_state, export_list, exports_state, module_owner, module_closed, init_state}
use Rattle.pfc_types.specs.rules.Declarations.{process_named, process_headed, process_cells, cells_rule, scope_cells, result_cells, part_state, parts_state}
use Rattle.pfc_types.specs.rules.Declarations.{sub_state, module_state, process_state}
use Rattle.pfc_types.specs.rules.Whole.{begun, declared_parts, declared_all, finished, types_of, scopes_of, main_cells}
use Rattle.pfc_types.proofs.Prefixes.{begins_same}
use Rattle.pfc_type_laws.specs.Tables.{IsBuiltUp}
use Rattle.pfc_type_laws.proofs.WalkTypes.{IsPlaced, HasPlace, NoSignal, Holds, add_form_holds, note_holds, note_forms, open_holds, declare_holds, look_placed}
use Rattle.pfc_type_laws.proofs.WalkTypes.{named_placed, named_no_signal, type_made, type_no_signal}

-- ## What names are declared to stand for

constant_placed : (forms : Forms) (c : Option Ordinal) → IsPlaced forms (Some (constant_meaning c))
constant_placed forms None = tt
constant_placed forms (Some c) = tt

type_placed : (forms : Forms) (t : Option TypeId) → HasPlace forms t → IsPlaced forms (Some (type_meaning t))
type_placed forms None h = tt
type_placed forms (Some t) h = h

variable_placed : (forms : Forms) (reference : Bool) (t : Option TypeId) → HasPlace forms t → NoSignal t → IsPlaced forms (Some (variable_meaning reference t))
variable_placed forms reference None h value = tt
variable_placed forms reference (Some t) h value = (h, value)

-- ## The table stays as it is while names are declared

declare_forms : (s : State) (i : ℕ) (x : Text × Place) (m : Meaning) → (declare s i x m).forms ≡ s.forms
declare_forms s i x m = by (is_some (meaning_in (scope_at s.blocks.scopes i) x.0))
  where
    by : (b : Bool) → (if b then note s (unless false x.1 302) else add_name s i x.0 m).forms ≡ s.forms
    by true = refl
    by false = refl

populated_forms : (s : State) (i more : ℕ) (x : Text × Place) (m : Meaning) → (populated s i more x m).forms ≡ s.forms
populated_forms s i more x m = by (passes_most s.blocks.population more)
  where
    counted : State
    counted = set_population s (most_processes (s.blocks.population + more))

    by : (b : Bool) → (if b then declare (note counted (unless false x.1 424)) i x Faulty else declare counted i x m).forms ≡ s.forms
    by true = declare_forms (note counted (unless false x.1 424)) i x Faulty
    by false = declare_forms counted i x m

var_name_forms : (s : State) (i : ℕ) (t : Option TypeId) (x : Text × Place) → (var_name_state s i t x).forms ≡ s.forms
var_name_forms s i t x = by (is_some (meaning_in (scope_at s.blocks.scopes i) x.0))
  where
    by : (b : Bool) → (if b then declare s i x Faulty else populated s i (brought s.forms t) x (variable_meaning false t)).forms ≡ s.forms
    by true = declare_forms s i x Faulty
    by false = populated_forms s i (brought s.forms t) x (variable_meaning false t)

has_place : (forms forms' : Forms) (t : Option TypeId) → forms' ≡ forms → HasPlace forms t → HasPlace forms' t
has_place forms forms' t same h = subst (λ (f : Forms). HasPlace f t) (sym same) h

-- of the types that a rule lets pass the same is true
where_placed : (forms : Forms) (b : Bool) (t : TypeId) → HasPlace forms (Some t) → HasPlace forms (where_so b t)
where_placed forms true t h = h
where_placed forms false t h = tt

where_no_signal : (b : Bool) (t : TypeId) → NoSignal (Some t) → NoSignal (where_so b t)
where_no_signal true t h = h
where_no_signal false t h = tt

owned_placed : (owner : Owner) (forms forms' : Forms) (t : Option TypeId) → HasPlace forms t → HasPlace forms (owned_type owner forms' t)
owned_placed owner forms forms' None h = tt
owned_placed owner forms forms' (Some t) h = where_placed forms (shared_fits owner forms' t && condition_fits owner forms' t) t h

owned_no_signal : (owner : Owner) (forms : Forms) (t : Option TypeId) → NoSignal t → NoSignal (owned_type owner forms t)
owned_no_signal owner forms None h = tt
owned_no_signal owner forms (Some t) h = where_no_signal (shared_fits owner forms t && condition_fits owner forms t) t h

parameter_placed : (reference : Bool) (forms : Forms) (t : Option TypeId) → HasPlace forms t → HasPlace forms (parameter_type reference forms t)
parameter_placed reference forms None h = tt
parameter_placed reference forms (Some t) h = where_placed forms (passed_fits reference forms t && parameter_fits forms t) t h

parameter_no_signal : (reference : Bool) (forms : Forms) (t : Option TypeId) → NoSignal t → NoSignal (parameter_type reference forms t)
parameter_no_signal reference forms None h = tt
parameter_no_signal reference forms (Some t) h = where_no_signal (passed_fits reference forms t && parameter_fits forms t) t h

group_placed : (s : State) (view : List Level) (g : GroupTree) → Holds s → HasPlace s.forms (group_type s view g)
group_placed s view g h =
    let m = look s.blocks.scopes view g.form.0 in
    parameter_placed g.reference s.forms (named_type false m) (named_placed s.forms false m (look_placed s h view g.form.0))

group_no_signal : (s : State) (view : List Level) (g : GroupTree) → NoSignal (group_type s view g)
group_no_signal s view g =
    let m = look s.blocks.scopes view g.form.0 in parameter_no_signal g.reference s.forms (named_type false m) (named_no_signal m)

entry_placed : (forms : Forms) (whole : Bool) (k : ℕ) → IsPlaced forms (Some (entry_meaning whole k))
entry_placed forms true k = tt
entry_placed forms false k = tt

sub_placed : (forms : Forms) (whole : Bool) (n : ℕ) → IsPlaced forms (Some (sub_meaning whole n))
sub_placed forms true n = tt
sub_placed forms false n = tt

-- ## Constants, types and variables

consts_hold : (s : State) (i : ℕ) (outer : List Level) (cs : List ConstItem) → Holds s → Holds (consts_state s i outer cs)
consts_hold s i outer [] h = h
consts_hold s i outer (c ∷ cs) h =
    let view = here s.blocks.scopes i outer in
    let noted : State = note s (broken_constant s.blocks.scopes view c.value) in
    consts_hold (const_state s i outer c) i outer cs
    (declare_holds noted i (c.name, c.place) (constant_meaning (constant_value s.blocks.scopes view c.value))
    (note_holds s (broken_constant s.blocks.scopes view c.value) h) (constant_placed noted.forms (constant_value s.blocks.scopes view c.value)))

types_hold : (s : State) (i : ℕ) (outer : List Level) (ds : List TypeItemTree) → Holds s → Holds (types_state s i outer ds)
types_hold s i outer [] h = h
types_hold s i outer (d ∷ ds) h =
    let view = here s.blocks.scopes i outer in
    let m = type_made false s view d.form h in
    types_hold (type_state s i outer d) i outer ds
    (declare_holds (made false s view d.form).state i (d.name, d.place) (type_meaning (made false s view d.form).t) m.holds
    (type_placed (made false s view d.form).state.forms (made false s view d.form).t m.place))

population_holds : (s : State) (n : ℕ) → Holds s → Holds (set_population s n)
population_holds s n h = record { built = h.built; placed = h.placed }

populated_holds : (s : State) (i more : ℕ) (x : Text × Place) (m : Meaning) → Holds s → IsPlaced s.forms (Some m) → Holds (populated s i more x m)
populated_holds s i more x m h placed = by (passes_most s.blocks.population more)
  where
    by : (b : Bool) → Holds (if b then
        declare (note (set_population s (most_processes (s.blocks.population + more))) (unless false x.1 424)) i x Faulty else declare
        (set_population s (most_processes (s.blocks.population + more))) i x m)
    by true =
        declare_holds (note (set_population s (most_processes (s.blocks.population + more))) (unless false x.1 424)) i x Faulty
        (note_holds (set_population s (most_processes (s.blocks.population + more))) (unless false x.1 424)
        (population_holds s (most_processes (s.blocks.population + more)) h)) tt
    by false = declare_holds (set_population s (most_processes (s.blocks.population + more))) i x m
        (population_holds s (most_processes (s.blocks.population + more)) h) placed

var_name_holds : (s : State) (i : ℕ) (t : Option TypeId) (x : Text × Place) → Holds s → HasPlace s.forms t → NoSignal t → Holds (var_name_state s i t x)
var_name_holds s i t x h place value = by (is_some (meaning_in (scope_at s.blocks.scopes i) x.0))
  where
    by : (b : Bool) → Holds (if b then declare s i x Faulty else populated s i (brought s.forms t) x (variable_meaning false t))
    by true = declare_holds s i x Faulty h tt
    by false = populated_holds s i (brought s.forms t) x (variable_meaning false t) h (variable_placed s.forms false t place value)

var_names_hold : (s : State) (i : ℕ) (t : Option TypeId) (xs : List (Text × Place)) → Holds s → HasPlace s.forms t → NoSignal t
    → Holds (var_names_state s i t xs)
var_names_hold s i t [] h place value = h
var_names_hold s i t (x ∷ xs) h place value =
    var_names_hold (var_name_state s i t x) i t xs (var_name_holds s i t x h place value)
    (has_place s.forms (var_name_state s i t x).forms t (var_name_forms s i t x) place) value

vars_hold : (owner : Owner) (s : State) (i : ℕ) (outer : List Level) (vs : VarTrees) → Holds s → Holds (vars_state owner s i outer vs)
vars_hold owner s i outer no_vars h = h
vars_hold owner s i outer (more_vars (var_item xs t) vs) h =
    let view = here s.blocks.scopes i outer in
    let m = type_made false s view t h in
    vars_hold owner (var_state owner s i outer (var_item xs t)) i outer vs
    (var_names_hold (note (made false s view t).state (owner_rules owner (made false s view t).state.forms (made false s view t).t (type_place t))) i
    (owned_type owner (made false s view t).state.forms (made false s view t).t) xs
    (note_holds (made false s view t).state (owner_rules owner (made false s view t).state.forms (made false s view t).t (type_place t)) m.holds)
    (has_place (made false s view t).state.forms
    (note (made false s view t).state (owner_rules owner (made false s view t).state.forms (made false s view t).t (type_place t))).forms
    (owned_type owner (made false s view t).state.forms (made false s view t).t)
    (note_forms (made false s view t).state (owner_rules owner (made false s view t).state.forms (made false s view t).t (type_place t)))
    (owned_placed owner (made false s view t).state.forms (made false s view t).state.forms (made false s view t).t m.place))
    (owned_no_signal owner (made false s view t).state.forms (made false s view t).t (type_no_signal s view t h)))

-- ## Headings and entries

formals_hold : (i : ℕ) (reference : Bool) (t : Option TypeId) (h : Heading) (xs : List (Text × Place)) → Holds h.state → HasPlace h.state.forms t → NoSignal t
    → Holds (formals_heading i reference t h xs).state
formals_hold i reference t h [] held place value = held
formals_hold i reference t h (x ∷ xs) held place value =
    formals_hold i reference t (formal_heading i reference t h x) xs
    (declare_holds h.state i x (variable_meaning reference t) held (variable_placed h.state.forms reference t place value))
    (has_place h.state.forms (formal_heading i reference t h x).state.forms t (declare_forms h.state i x (variable_meaning reference t)) place) value

groups_hold : (i : ℕ) (outer : List Level) (h : Heading) (gs : List GroupTree) → Holds h.state → Holds (groups_heading i outer h gs).state
groups_hold i outer h [] held = held
groups_hold i outer h (g ∷ gs) held =
    let view = here h.state.blocks.scopes i outer in
    groups_hold i outer (group_heading i outer h g) gs
    (formals_hold i g.reference (group_type h.state view g) _ g.names (note_holds h.state (broken_group h.state view g) held)
    (has_place h.state.forms (note h.state (broken_group h.state view g)).forms (group_type h.state view g) (note_forms h.state (broken_group h.state view g))
    (group_placed h.state view g held))
    (group_no_signal h.state view g))

accept_groups_hold : (i : ℕ) (view : List Level) (h : Heading) (gs : List GroupTree) → Holds h.state → Holds (accept_groups i view h gs).state
accept_groups_hold i view h [] held = held
accept_groups_hold i view h (g ∷ gs) held =
    accept_groups_hold i view (group_viewed i view h g) gs
    (formals_hold i g.reference (group_type h.state view g) _ g.names (note_holds h.state (broken_group h.state view g) held)
    (has_place h.state.forms (note h.state (broken_group h.state view g)).forms (group_type h.state view g) (note_forms h.state (broken_group h.state view g))
    (group_placed h.state view g held))
    (group_no_signal h.state view g))

heading_holds : (s : State) (view : List Level) (gs : List GroupTree) → Holds s → Holds (heading (open_scope s) (length s.blocks.scopes) view gs).state
heading_holds s view gs h = groups_hold (length s.blocks.scopes) view (record { state = open_scope s; formals = []; whole = true }) gs (open_holds s h)

entry_formals_hold : (reference : Bool) (t : Option TypeId) (h : EntryHeading) (xs : List (Text × Place)) → Holds h.state →
    Holds (entry_formals reference t h xs).state
entry_formals_hold reference t h [] held = held
entry_formals_hold reference t h (x ∷ xs) held =
    entry_formals_hold reference t (entry_formal reference t h x) xs (note_holds h.state (unless (not (is_some (meaning_in h.own x.0))) x.1 302) held)

entry_groups_hold : (view : List Level) (h : EntryHeading) (gs : List GroupTree) → Holds h.state → Holds (entry_groups view h gs).state
entry_groups_hold view h [] held = held
entry_groups_hold view h (g ∷ gs) held =
    entry_groups_hold view (entry_group view h g) gs
    (entry_formals_hold g.reference (group_type h.state view g) _ g.names (note_holds h.state (broken_group h.state view g) held))

entries_hold : (s : State) (i : ℕ) (outer : List Level) (k : ℕ) (es : List EntryTree) → Holds s → Holds (entries_state s i outer k es)
entries_hold s i outer k [] held = held
entries_hold s i outer k (e ∷ es) held =
    let h : EntryHeading = entry_groups (here s.blocks.scopes i outer) (record { state = s; own = []; formals = []; whole = true }) e.formals in
    let groups = entry_groups_hold (here s.blocks.scopes i outer) (record { state = s; own = []; formals = []; whole = true }) e.formals held in
    entries_hold (entry_state s i outer k e) i outer (k + 1) es
    (declare_holds (add_entry h.state h.formals) i (e.name, e.place) (entry_meaning h.whole k) (record { built = groups.built; placed = groups.placed })
    (entry_placed h.state.forms h.whole k))

-- ## Exports and processes

export_holds : (s : State) (m : Option Meaning) (p : Place) → Holds s → Holds (export_state s m p)
export_holds s (Some (Sub n)) p h = by (may_export (sub_at s.blocks n))
  where
    by : (b : Bool) → Holds (if b then export_sub s n else note s (unless false p 409))
    by true = record { built = h.built; placed = h.placed }
    by false = note_holds s (unless false p 409) h
export_holds s (Some Faulty) p h = h
export_holds s m p h = note_holds s (unless false p 409) h

export_list_holds : (s : State) (i : ℕ) (xs : List (Text × Place)) → Holds s → Holds (export_list s i xs)
export_list_holds s i [] h = h
export_list_holds s i (x ∷ xs) h =
    export_list_holds (export_state s (meaning_in (scope_at s.blocks.scopes i) x.0) x.1) i xs
    (export_holds s (meaning_in (scope_at s.blocks.scopes i) x.0) x.1 h)

exports_hold : (s : State) (i : ℕ) (lists : List (List (Text × Place))) → Holds s → Holds (exports_state s i lists)
exports_hold s i [] h = h
exports_hold s i (xs ∷ lists) h = exports_hold (export_list s i xs) i lists (export_list_holds s i xs h)

process_named_holds : (s : State) (i : ℕ) (many whole : Bool) (x : Text × Place) (n : ℕ) → Holds s → Holds (process_named s i many whole x n)
process_named_holds s i many false x n h = declare_holds s i x Faulty h tt
process_named_holds s i true true x n h =
    declare_holds (add_form s (AProcess n)) i x (Named (record { place = length s.forms })) (add_form_holds s (AProcess n) h tt tt refl)
    (omega (arith, length-append s.forms (Some (AProcess n) ∷ [])))
process_named_holds s i false true x n h = by (is_some (meaning_in (scope_at s.blocks.scopes i) x.0))
  where
    by : (b : Bool) → Holds (if b then declare s i x Faulty else populated s i 1 x (Process n))
    by true = declare_holds s i x Faulty h tt
    by false = populated_holds s i 1 x (Process n) h tt

-- ## Statements

label_holds : (c : Option Ordinal) (p : Place) (r : Labels) → Holds r.state → Holds (label_noted c p r).state
label_holds None p r h = h
label_holds (Some c) p r h = by (list_any (same_ordinal c) r.seen)
  where
    by : (b : Bool) → Holds (if b then record r { state = note r.state (unless false p 320) } else record r { seen = r.seen ++ c ∷ [] }).state
    by true = note_holds r.state (unless false p 320) h
    by false = h

labels_hold : (view : List Level) (r : Labels) (cs : List Constant) → Holds r.state → Holds (labels_noted view r cs).state
labels_hold view r [] h = h
labels_hold view r (c ∷ cs) h =
    labels_hold view (label_noted (constant_value r.state.blocks.scopes view c) (constant_place c) r) cs
    (label_holds (constant_value r.state.blocks.scopes view c) (constant_place c) r h)

accepted_holds : (s : State) (view : List Level) (x : Text) (gs : List GroupTree) (p : Place) → Holds s → Holds (accepted s view x gs p)
accepted_holds s view x gs p held =
    let h : Heading = accept_heading (open_scope s) (length s.blocks.scopes) view gs in
    note_holds h.state (accept_rule h.state.blocks (look s.blocks.scopes view x) h.formals p)
    (accept_groups_hold (length s.blocks.scopes) view (record { state = open_scope s; formals = []; whole = true }) gs (open_holds s held))

mutual
  stmt_holds : (s : State) (view : List Level) (t : StmtTree) → Holds s → Holds (stmt_state s view t)
  stmt_holds s view (block b p) h = body_holds s view b h
  stmt_holds s view (if_then e t p) h = stmt_holds s view t h
  stmt_holds s view (if_then_else e t u p) h = stmt_holds (stmt_state s view t) view u (stmt_holds s view t h)
  stmt_holds s view (case_of e arms last p) h = arms_hold view (record { state = s; seen = [] }) arms h
  stmt_holds s view (while_do e t p) h = stmt_holds s view t h
  stmt_holds s view (repeat_until ts e p) h = stmts_hold s view ts h
  stmt_holds s view (repeat_forever ts p) h = stmts_hold s view ts h
  stmt_holds s view (for_do x from down to t p q) h = stmt_holds s view t h
  stmt_holds s view (cobegin ts last p) h = stmts_hold s view ts h
  stmt_holds s view (accepting a p) h = accept_holds s view a h
  stmt_holds s view (select pri alts p q) h = alts_hold s view alts h
  stmt_holds s view (select_else pri alts ts p q r) h = stmts_hold (alts_state s view alts) view ts (alts_hold s view alts h)
  stmt_holds s view t h = h

  stmts_hold : (s : State) (view : List Level) (ts : StmtTrees) → Holds s → Holds (stmts_state s view ts)
  stmts_hold s view no_stmts h = h
  stmts_hold s view (more_stmts t ts) h = stmts_hold (stmt_state s view t) view ts (stmt_holds s view t h)

  body_holds : (s : State) (view : List Level) (b : BodyTree) → Holds s → Holds (body_state s view b)
  body_holds s view (body ts first last) h = stmts_hold s view ts h

  arms_hold : (view : List Level) (r : Labels) (arms : ArmTrees) → Holds r.state → Holds (arms_state view r arms).state
  arms_hold view r no_arms h = h
  arms_hold view r (more_arms a arms) h = arms_hold view (arm_state view r a) arms (arm_holds view r a h)

  arm_holds : (view : List Level) (r : Labels) (a : ArmTree) → Holds r.state → Holds (arm_state view r a).state
  arm_holds view r (arm cs t) h = stmt_holds (labels_noted view r cs).state view t (labels_hold view r cs h)

  accept_holds : (s : State) (view : List Level) (a : AcceptTree) → Holds s → Holds (accept_state s view a)
  accept_holds s view (accept x gs p) h = accepted_holds s view x gs p h
  accept_holds s view (accept_do x gs t p) h =
      stmt_holds (accepted s view x gs p) (here (accepted s view x gs p).blocks.scopes (length s.blocks.scopes) view) t (accepted_holds s view x gs p h)

  alts_hold : (s : State) (view : List Level) (alts : AltTrees) → Holds s → Holds (alts_state s view alts)
  alts_hold s view no_alts h = h
  alts_hold s view (more_alts a alts) h = alts_hold (alt_state s view a) view alts (alt_holds s view a h)

  alt_holds : (s : State) (view : List Level) (a : AltTree) → Holds s → Holds (alt_state s view a)
  alt_holds s view (alt spread guard c ts) h = stmts_hold (comm_state s view c) view ts (comm_holds s view c h)

  comm_holds : (s : State) (view : List Level) (c : CommTree) → Holds s → Holds (comm_state s view c)
  comm_holds s view (comm_accept a p) h = accept_holds s view a h
  comm_holds s view c h = h

init_holds : (s : State) (view : List Level) (b : Option BodyTree) → Holds s → Holds (init_state s view b)
init_holds s view None h = h
init_holds s view (Some b) h = body_holds s view b h

-- ## Parts

sub_headed_holds : (s : State) (i : ℕ) (outer : List Level) (x : Text × Place) (gs : List GroupTree) (kind : KindTree) →
    Holds s → Holds (sub_headed s i outer x gs kind)
sub_headed_holds s i outer x gs kind held =
    let own = length s.blocks.scopes in
    let around = here s.blocks.scopes i outer in
    let h : Heading = heading (open_scope s) own around gs in
    let view = here h.state.blocks.scopes own around in
    let sort = sort_of h.state view kind in
    let head : SubHead = record { formals = h.formals; sort = sort; scope = own; exported = false } in
    let noted = note_holds h.state (broken_sort h.state view kind) (heading_holds s around gs held) in
    declare_holds (add_sub (note h.state (broken_sort h.state view kind)) head) i x (sub_meaning (h.whole && whole_sort sort) (length s.blocks.subs))
    (record { built = noted.built; placed = noted.placed })
    (sub_placed (note h.state (broken_sort h.state view kind)).forms (h.whole && whole_sort sort) (length s.blocks.subs))

process_headed_holds : (s : State) (i : ℕ) (outer : List Level) (many : Bool) (x : Text × Place) (gs : List GroupTree) → Holds s →
    Holds (process_headed s i outer many x gs)
process_headed_holds s i outer many x gs held =
    let own = length s.blocks.scopes in
    let h : Heading = heading (open_scope s) own (here s.blocks.scopes i outer) gs in
    let head : ProcessHead = record { formals = h.formals; entries = length s.blocks.entries; scope = own } in
    let k = heading_holds s (here s.blocks.scopes i outer) gs held in
    process_named_holds (add_process h.state head) i many h.whole x (length s.blocks.processes) (record { built = k.built; placed = k.placed })

module_closed_holds : (is_resource : Bool) (s : State) (i own : ℕ) (x : Text × Place) (exports : List (List (Text × Place))) → Holds s →
    Holds (module_closed is_resource s i own x exports)
module_closed_holds is_resource s i own x exports h =
    let k = exports_hold s own exports h in
    declare_holds (add_module (exports_state s own exports) (record { scope = own; resource = is_resource })) i x (Module (length s.blocks.modules))
    (record { built = k.built; placed = k.placed }) tt

mutual
  part_holds : (owner : Owner) (s : State) (i : ℕ) (outer : List Level) (q : PartTree) → Holds s → Holds (part_state owner s i outer q)
  part_holds owner s i outer (consts items) h = consts_hold s i outer items h
  part_holds owner s i outer (types items) h = types_hold s i outer items h
  part_holds owner s i outer (vars vs) h = vars_hold owner s i outer vs h
  part_holds owner s i outer (sub_part q) h = sub_holds s i outer q h
  part_holds owner s i outer (monitor m) h = module_holds false s i outer m h
  part_holds owner s i outer (resource m) h = module_holds true s i outer m h
  part_holds owner s i outer (process_part q) h = process_holds s i outer q h

  parts_hold : (owner : Owner) (s : State) (i : ℕ) (outer : List Level) (qs : PartTrees) → Holds s → Holds (parts_state owner s i outer qs)
  parts_hold owner s i outer no_parts h = h
  parts_hold owner s i outer (more_parts q qs) h = parts_hold owner (part_state owner s i outer q) i outer qs (part_holds owner s i outer q h)

  sub_holds : (s : State) (i : ℕ) (outer : List Level) (q : SubTree) → Holds s → Holds (sub_state s i outer q)
  sub_holds s i outer (sub x gs kind ps inside p) h =
      let own = length s.blocks.scopes in
      let headed = sub_headed s i outer (x, p) gs kind in
      let around = here headed.blocks.scopes i outer in
      let declared = parts_state elsewhere headed own around ps in
      let done = body_state declared (here declared.blocks.scopes own around) inside in
      note_holds done (cells_rule (scope_cells done.forms (scope_at done.blocks.scopes own) + result_cells kind) p)
      (body_holds declared (here declared.blocks.scopes own around) inside (parts_hold elsewhere headed own around ps
      (sub_headed_holds s i outer (x, p) gs kind h)))

  module_holds : (is_resource : Bool) (s : State) (i : ℕ) (outer : List Level) (q : ModuleTree) → Holds s → Holds (module_state is_resource s i outer q)
  module_holds is_resource s i outer (the_module x exports ps b last p) h =
      let own = length s.blocks.scopes in
      let around = here s.blocks.scopes i outer in
      let declared = parts_state (module_owner is_resource) (open_scope s) own around ps in
      module_closed_holds is_resource (init_state declared (here declared.blocks.scopes own around) b) i own (x, p) exports
      (init_holds declared (here declared.blocks.scopes own around) b (parts_hold (module_owner is_resource) (open_scope s) own around ps (open_holds s h)))

  process_holds : (s : State) (i : ℕ) (outer : List Level) (q : ProcessTree) → Holds s → Holds (process_state s i outer q)
  process_holds s i outer (process many x gs es ps inside p) h =
      let own = length s.blocks.scopes in
      let headed = process_headed s i outer many (x, p) gs in
      let around = here headed.blocks.scopes i outer in
      let entered = entries_state headed own around 0 es in
      let declared = parts_state elsewhere entered own around ps in
      let done = body_state declared (here declared.blocks.scopes own around) inside in
      note_holds done (cells_rule (process_cells done own (length declared.blocks.scopes)) p)
      (body_holds declared (here declared.blocks.scopes own around) inside (parts_hold elsewhere entered own around ps
      (entries_hold headed own around 0 es (process_headed_holds s i outer many (x, p) gs h))))

-- ## The whole

predeclared_formless : (n : ℕ) (form : TypeForm) → get_or predeclared_forms n None ≡ Some form → ⊥
predeclared_formless zero form e = cc
predeclared_formless (suc zero) form e = cc
predeclared_formless (suc (suc zero)) form e = cc
predeclared_formless (suc (suc (suc zero))) form e = cc
predeclared_formless (suc (suc (suc (suc zero)))) form e = cc
predeclared_formless (suc (suc (suc (suc (suc zero))))) form e = cc
predeclared_formless (suc (suc (suc (suc (suc (suc n)))))) form e = cc

begun_holds : Holds begun
begun_holds =
    open_holds (record { forms = predeclared_forms; blocks = no_blocks })
    (record {
      built = record {
        predeclared = begins_same predeclared_forms;
        made = λ t past within. absurd (omega (arith, past, within));
        parts = λ t form e. absurd
            (predeclared_formless t.place form e);
        behind = λ t form e. absurd (predeclared_formless t.place form e);
        bounds = λ t form e. absurd
            (predeclared_formless t.place form e);
      };
      placed = λ i x. tt;
    })

-- what holds of the finished declarations of a tree, also of a faulty one
pub finished_holds : (t : ProgramTree) → Holds (finished t)
finished_holds t =
    let s = declared_parts t in
    note_holds (declared_all t) (cells_rule (main_cells (declared_all t)) t.name.1)
    (body_holds s (here s.blocks.scopes 0 []) t.body (parts_hold in_program begun 0 [] t.parts begun_holds))

-- the table of types of a tree is built up
pub types_built : (t : ProgramTree) → IsBuiltUp (types_of t)
types_built t = (finished_holds t).built

-- a variable that is in view has a type of the table
pub variable_placed_in : (t : ProgramTree) (view : List Level) (x : Text) → IsPlaced (types_of t) (look (scopes_of t).scopes view x)
variable_placed_in t view x = look_placed (finished t) (finished_holds t) view x
