-- The words of the rules of declarations: of constants, variables, headings, entries and exports.
use Rattle.std.proofs.Common.{refl}
use Rattle.std.specs.Prelude.{ℕ, ◌+◌, Bool, true, false, ◌&&◌, List, [], ◌∷◌, length, Option, Some, None, is_some}
use Rattle.pfc_base.specs.declared.places.Place.{Place}
use Rattle.pfc_tree.specs.Symbols.{Text}
use Rattle.pfc_tree.specs.declared.tree.ConstItem.{ConstItem}
use Rattle.pfc_tree.specs.trees.Types.{TypeItemTree, VarTree, VarTrees, GroupTree, var_item, no_vars, more_vars}
use Rattle.pfc_tree.specs.trees.Parts.{KindTree, EntryTree, procedure, function, guarded}
use Rattle.pfc_types.specs.Faults.{unless}
use Rattle.pfc_types.specs.Types.{Forms, most_processes}
use Rattle.pfc_types.specs.Scopes.{Level, scope_at, here, meaning_in, look}
use Rattle.pfc_types.specs.Blocks.{State, note, declare, open_scope, add_sub, add_process, add_entry, add_form, export_sub, set_population, sub_at}
use Rattle.pfc_types.specs.declared.types.TypeId.{TypeId}
use Rattle.pfc_types.specs.declared.types.TypeForm.TheVariants.{Process as AProcess}
use Rattle.pfc_types.specs.declared.scope.Meaning.{Meaning}
use Rattle.pfc_types.specs.declared.scope.Meaning.TheVariants.{Named, Sub, Process, Faulty}
use Rattle.pfc_types.specs.declared.heads.SubHead.{SubHead}
use Rattle.pfc_types.specs.declared.heads.ProcessHead.{ProcessHead}
use Rattle.pfc_types.specs.rules.Kinds.{named_type, variable_meaning, type_meaning}
use Rattle.pfc_types.specs.rules.Constants.{constant_value, type_place, made}
use Rattle.pfc_types.specs.rules.Declarations.{constant_meaning, const_state, consts_state, type_state, types_state, Owner, owner_rules, owned_type}
use Rattle.pfc_types.specs.rules.Declarations.{passes_most, populated, brought, var_name_state, var_names_state, var_state, vars_state, parameter_rules}
use Rattle.pfc_types.specs.rules.Declarations.{group_type, broken_group, Heading, formal_heading, formals_heading, group_viewed, group_heading, groups_heading}
use Rattle.pfc_types.specs.rules.Declarations.{heading, EntryHeading, entry_formal, entry_formals, entry_group, entry_groups, entry_meaning, entry_state}
use Rattle.pfc_types.specs.rules.Declarations.{entries_state, broken_sort, sort_of, whole_sort, sub_meaning, sub_headed, may_export, export_state, export_list}
use Rattle.pfc_types.specs.rules.Declarations.{exports_state, process_named, process_headed}
use Rattle.pfc_refusals.proofs.Worded.{Worded, no_rule, ◌&◌, rule, broken_rule}
use Rattle.pfc_refusals.proofs.Small.{constant_worded, type_name_worded}
use Rattle.pfc_refusals.proofs.Noted.{Noted, noted, one_of, declared}
use Rattle.pfc_refusals.proofs.Types.{made_noted}

-- ## Constants and types

const_noted : (s : State) (i : ℕ) (outer : List Level) (c : ConstItem) → Noted s → Noted (const_state s i outer c)
const_noted s i outer c h =
    let view = here s.blocks.scopes i outer in
    declared i (c.name, c.place) (constant_meaning (constant_value s.blocks.scopes view c.value)) (noted (constant_worded s.blocks.scopes view c.value) h)

pub consts_noted : (s : State) (i : ℕ) (outer : List Level) (cs : List ConstItem) → Noted s → Noted (consts_state s i outer cs)
consts_noted s i outer [] h = h
consts_noted s i outer (c ∷ cs) h = consts_noted (const_state s i outer c) i outer cs (const_noted s i outer c h)

type_noted : (s : State) (i : ℕ) (outer : List Level) (d : TypeItemTree) → Noted s → Noted (type_state s i outer d)
type_noted s i outer d h =
    let view = here s.blocks.scopes i outer in
    declared i (d.name, d.place) (type_meaning (made false s view d.form).t) (made_noted false s view d.form h)

pub types_noted : (s : State) (i : ℕ) (outer : List Level) (ds : List TypeItemTree) → Noted s → Noted (types_state s i outer ds)
types_noted s i outer [] h = h
types_noted s i outer (d ∷ ds) h = types_noted (type_state s i outer d) i outer ds (type_noted s i outer d h)

-- ## Variables

owner_worded : (owner : Owner) (forms : Forms) (t : Option TypeId) (p : Place) → Worded (owner_rules owner forms t p)
owner_worded owner forms None p = no_rule
owner_worded owner forms (Some t) p = rule _ _ _ refl & rule _ _ _ refl

counted_noted : (s : State) (n : ℕ) → Noted s → Noted (set_population s n)
counted_noted s n h = record { all = h.all }

populated_noted : (s : State) (i more : ℕ) (x : Text × Place) (m : Meaning) → Noted s → Noted (populated s i more x m)
populated_noted s i more x m h =
    let counted = set_population s (most_processes (s.blocks.population + more)) in
    one_of (λ t. t) (passes_most s.blocks.population more) (declare (note counted (unless false x.1 424)) i x Faulty) (declare counted i x m)
    (declared i x Faulty (noted (broken_rule _ _ refl) (counted_noted s (most_processes (s.blocks.population + more)) h)))
    (declared i x m (counted_noted s (most_processes (s.blocks.population + more)) h))

var_name_noted : (s : State) (i : ℕ) (t : Option TypeId) (x : Text × Place) → Noted s → Noted (var_name_state s i t x)
var_name_noted s i t x h =
    one_of (λ t. t) (is_some (meaning_in (scope_at s.blocks.scopes i) x.0)) (declare s i x Faulty)
    (populated s i (brought s.forms t) x (variable_meaning false t))
    (declared i x Faulty h) (populated_noted s i (brought s.forms t) x (variable_meaning false t) h)

var_names_noted : (s : State) (i : ℕ) (t : Option TypeId) (xs : List (Text × Place)) → Noted s → Noted (var_names_state s i t xs)
var_names_noted s i t [] h = h
var_names_noted s i t (x ∷ xs) h = var_names_noted (var_name_state s i t x) i t xs (var_name_noted s i t x h)

var_noted : (owner : Owner) (s : State) (i : ℕ) (outer : List Level) (v : VarTree) → Noted s → Noted (var_state owner s i outer v)
var_noted owner s i outer (var_item xs t) h =
    let m = made false s (here s.blocks.scopes i outer) t in
    var_names_noted (note m.state (owner_rules owner m.state.forms m.t (type_place t))) i (owned_type owner m.state.forms m.t) xs
    (noted (owner_worded owner m.state.forms m.t (type_place t)) (made_noted false s (here s.blocks.scopes i outer) t h))

pub vars_noted : (owner : Owner) (s : State) (i : ℕ) (outer : List Level) (vs : VarTrees) → Noted s → Noted (vars_state owner s i outer vs)
vars_noted owner s i outer no_vars h = h
vars_noted owner s i outer (more_vars v vs) h = vars_noted owner (var_state owner s i outer v) i outer vs (var_noted owner s i outer v h)

-- ## Headings

parameter_worded : (reference : Bool) (forms : Forms) (t : Option TypeId) (p : Place) → Worded (parameter_rules reference forms t p)
parameter_worded reference forms None p = no_rule
parameter_worded reference forms (Some t) p = rule _ _ _ refl & rule _ _ _ refl

group_worded : (s : State) (view : List Level) (g : GroupTree) → Worded (broken_group s view g)
group_worded s view g =
    type_name_worded false (look s.blocks.scopes view g.form.0) g.form.1
    & parameter_worded g.reference s.forms (named_type false (look s.blocks.scopes view g.form.0)) g.form.1

formals_noted : (i : ℕ) (reference : Bool) (t : Option TypeId) (h : Heading) (xs : List (Text × Place)) → Noted h.state →
    Noted (formals_heading i reference t h xs).state
formals_noted i reference t h [] k = k
formals_noted i reference t h (x ∷ xs) k =
    formals_noted i reference t (formal_heading i reference t h x) xs (declared i x (variable_meaning reference t) k)

pub group_noted : (i : ℕ) (view : List Level) (h : Heading) (g : GroupTree) → Noted h.state → Noted (group_viewed i view h g).state
group_noted i view h g k =
    let t = group_type h.state view g in
    formals_noted i g.reference t (record { state = note h.state (broken_group h.state view g); formals = h.formals; whole = h.whole && is_some t }) g.names
    (noted (group_worded h.state view g) k)

groups_noted : (i : ℕ) (outer : List Level) (h : Heading) (gs : List GroupTree) → Noted h.state → Noted (groups_heading i outer h gs).state
groups_noted i outer h [] k = k
groups_noted i outer h (g ∷ gs) k =
    groups_noted i outer (group_heading i outer h g) gs (group_noted i (here h.state.blocks.scopes i outer) h g k)

heading_noted : (s : State) (i : ℕ) (outer : List Level) (gs : List GroupTree) → Noted s → Noted (heading s i outer gs).state
heading_noted s i outer gs h = groups_noted i outer (record { state = s; formals = []; whole = true }) gs h

-- ## Entries

entry_formals_noted : (reference : Bool) (t : Option TypeId) (h : EntryHeading) (xs : List (Text × Place)) → Noted h.state →
    Noted (entry_formals reference t h xs).state
entry_formals_noted reference t h [] k = k
entry_formals_noted reference t h (x ∷ xs) k = entry_formals_noted reference t (entry_formal reference t h x) xs (noted (rule _ _ _ refl) k)

entry_groups_noted : (view : List Level) (h : EntryHeading) (gs : List GroupTree) → Noted h.state → Noted (entry_groups view h gs).state
entry_groups_noted view h [] k = k
entry_groups_noted view h (g ∷ gs) k =
    let t = group_type h.state view g in
    entry_groups_noted view (entry_group view h g) gs
    (entry_formals_noted g.reference t (record h { state = note h.state (broken_group h.state view g); whole = h.whole && is_some t }) g.names
    (noted (group_worded h.state view g) k))

with_entry_noted : (h : EntryHeading) → Noted h.state → Noted (add_entry h.state h.formals)
with_entry_noted h k = record { all = k.all }

entry_noted : (s : State) (i : ℕ) (outer : List Level) (n : ℕ) (e : EntryTree) → Noted s → Noted (entry_state s i outer n e)
entry_noted s i outer n e k =
    let view = here s.blocks.scopes i outer in
    let begun : EntryHeading = record { state = s; own = []; formals = []; whole = true } in
    let h = entry_groups view begun e.formals in
    declared i (e.name, e.place) (entry_meaning h.whole n) (with_entry_noted h (entry_groups_noted view begun e.formals k))

pub entries_noted : (s : State) (i : ℕ) (outer : List Level) (n : ℕ) (es : List EntryTree) → Noted s → Noted (entries_state s i outer n es)
entries_noted s i outer n [] h = h
entries_noted s i outer n (e ∷ es) h = entries_noted (entry_state s i outer n e) i outer (n + 1) es (entry_noted s i outer n e h)

-- ## Subs

sort_worded : (s : State) (view : List Level) (kind : KindTree) → Worded (broken_sort s view kind)
sort_worded s view procedure = no_rule
sort_worded s view (function x p) = type_name_worded false (look s.blocks.scopes view x) p & rule _ _ _ refl
sort_worded s view (guarded e p) = no_rule

pub opened_noted : (s : State) → Noted s → Noted (open_scope s)
opened_noted s h = record { all = h.all }

with_sub_noted : (s : State) (head : SubHead) → Noted s → Noted (add_sub s head)
with_sub_noted s head h = record { all = h.all }

pub sub_headed_noted : (s : State) (i : ℕ) (outer : List Level) (x : Text × Place) (gs : List GroupTree) (kind : KindTree) →
    Noted s → Noted (sub_headed s i outer x gs kind)
sub_headed_noted s i outer x gs kind k =
    let own = length s.blocks.scopes in
    let around = here s.blocks.scopes i outer in
    let h = heading (open_scope s) own around gs in
    let view = here h.state.blocks.scopes own around in
    let sort = sort_of h.state view kind in
    let head : SubHead = record { formals = h.formals; sort = sort; scope = own; exported = false } in
    declared i x (sub_meaning (h.whole && whole_sort sort) (length s.blocks.subs))
    (with_sub_noted (note h.state (broken_sort h.state view kind)) head
    (noted (sort_worded h.state view kind) (heading_noted (open_scope s) own around gs (opened_noted s k))))

-- ## Exports

export_noted : (s : State) (m : Option Meaning) (p : Place) → Noted s → Noted (export_state s m p)
export_noted s (Some (Sub n)) p h = one_of (λ t. t) (may_export (sub_at s.blocks n)) (export_sub s n) (note s (unless false p 409)) (record {
  all =
      h.all;
}) (noted (broken_rule _ _ refl) h)
export_noted s (Some Faulty) p h = h
export_noted s m p h = noted (broken_rule _ _ refl) h

export_list_noted : (s : State) (i : ℕ) (xs : List (Text × Place)) → Noted s → Noted (export_list s i xs)
export_list_noted s i [] h = h
export_list_noted s i (x ∷ xs) h =
    export_list_noted (export_state s (meaning_in (scope_at s.blocks.scopes i) x.0) x.1) i xs
    (export_noted s (meaning_in (scope_at s.blocks.scopes i) x.0) x.1 h)

pub exports_noted : (s : State) (i : ℕ) (lists : List (List (Text × Place))) → Noted s → Noted (exports_state s i lists)
exports_noted s i [] h = h
exports_noted s i (xs ∷ lists) h = exports_noted (export_list s i xs) i lists (export_list_noted s i xs h)

-- ## Processes

with_form_noted : (s : State) (n : ℕ) → Noted s → Noted (add_form s (AProcess n))
with_form_noted s n h = record { all = h.all }

process_named_noted : (s : State) (i : ℕ) (many whole : Bool) (x : Text × Place) (n : ℕ) → Noted s → Noted (process_named s i many whole x n)
process_named_noted s i many false x n h = declared i x Faulty h
process_named_noted s i true true x n h = declared i x (Named (record { place = length s.forms })) (with_form_noted s n h)
process_named_noted s i false true x n h =
    one_of (λ t. t) (is_some (meaning_in (scope_at s.blocks.scopes i) x.0)) (declare s i x Faulty) (populated s i 1 x (Process n))
    (declared i x Faulty h) (populated_noted s i 1 x (Process n) h)

with_process_noted : (s : State) (head : ProcessHead) → Noted s → Noted (add_process s head)
with_process_noted s head h = record { all = h.all }

pub process_headed_noted : (s : State) (i : ℕ) (outer : List Level) (many : Bool) (x : Text × Place) (gs : List GroupTree) → Noted s →
    Noted (process_headed s i outer many x gs)
process_headed_noted s i outer many x gs k =
    let own = length s.blocks.scopes in
    let around = here s.blocks.scopes i outer in
    let h = heading (open_scope s) own around gs in
    let head : ProcessHead = record { formals = h.formals; entries = length s.blocks.entries; scope = own } in
    process_named_noted (add_process h.state head) i many h.whole x (length s.blocks.processes)
    (with_process_noted h.state head (heading_noted (open_scope s) own around gs (opened_noted s k)))
