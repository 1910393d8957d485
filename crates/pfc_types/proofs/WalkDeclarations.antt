-- What each declaration does to the scopes: a type as it is written opens and declares nothing, and a constant, a type, a variable, a
-- parameter and an entry declare their names in one scope.
use Rattle.std.proofs.Common.{ℕ, ◌+◌, ◌<◌, Bool, true, false, not, if◌then◌else◌, is_some, List, [], ◌∷◌, ◌++◌, length, Option, Some, None, refl, ap, arith}
use Rattle.std.proofs.Common.{subst}
use Rattle.pfc_base.specs.declared.places.Place.{Place}
use Rattle.pfc_tree.specs.Symbols.{Text}
use Rattle.pfc_tree.specs.declared.tree.ConstItem.{ConstItem}
use Rattle.pfc_tree.specs.trees.Types.{TypeTree, VarTree, VarTrees, TypeItemTree, GroupTree, named, channel, array, fields, var_item, no_vars, more_vars}
use Rattle.pfc_tree.specs.trees.Parts.{EntryTree}
use Rattle.pfc_types.specs.Faults.{unless}
use Rattle.pfc_types.specs.Types.{integer, refusal_of, most_processes}
use Rattle.pfc_types.specs.Fields.{type_named}
use Rattle.pfc_types.specs.Scopes.{Level, scope_at, here, meaning_in, look}
use Rattle.pfc_types.specs.Faulty.{HoldSimpleConstants}
use Rattle.pfc_types.proofs.FaultyConstants.{IsSimpleValue, constant_simple}
use Rattle.pfc_types.proofs.Sound.{IsSound, AreSound, subs_same, subs_export, sound_simple}
use Rattle.pfc_types.specs.Blocks.{Blocks, State, note, declare, add_form, add_entry, set_population, sub_at, export_sub}
use Rattle.pfc_types.specs.declared.types.TypeId.{TypeId}
use Rattle.pfc_types.specs.declared.types.TypeForm.{TypeForm}
use Rattle.pfc_types.specs.declared.types.TypeForm.TheVariants.{Process as AProcess}
use Rattle.pfc_types.specs.declared.table.TypeFault.{TypeFault}
use Rattle.pfc_types.specs.declared.table.TypeFault.TheVariants.{Bounds, Cells, Memory}
use Rattle.pfc_types.specs.declared.scope.Meaning.{Meaning}
use Rattle.pfc_types.specs.declared.scope.Meaning.TheVariants.{Constant as AConstant, Named, Variable, Sub, Module, Process, Entry, Predeclared, Faulty}
use Rattle.pfc_types.specs.rules.Kinds.{type_name_rules, has_object, type_meaning, variable_meaning}
use Rattle.pfc_types.specs.rules.Constants.{Ordinal, Extent, constant_value, broken_constant, broken_ranges, range_extents, Made, added_unless, added}
use Rattle.pfc_types.specs.rules.Constants.{channel_form, array_of, made_arrays, MadeFields, made_field, made_names, made_group, record_form, fields_begun}
use Rattle.pfc_types.specs.rules.Constants.{made, made_items, made_item, type_place}
use Rattle.pfc_types.specs.rules.Declarations.{constant_meaning, const_state, consts_state, type_state, types_state, Owner, owner_rules, owned_type}
use Rattle.pfc_types.specs.rules.Declarations.{passes_most, populated, brought, var_name_state, var_names_state, var_state, vars_state, group_type}
use Rattle.pfc_types.specs.rules.Declarations.{broken_group, Heading, formal_heading, formals_heading, group_viewed, group_heading, groups_heading}
use Rattle.pfc_types.specs.rules.Declarations.{accept_groups, EntryHeading, entry_formal, entry_formals, entry_group, entry_groups, entry_meaning, entry_state}
use Rattle.pfc_types.specs.rules.Declarations.{entries_state, may_export, export_state, export_list, exports_state, process_named}
use Rattle.pfc_types.specs.rules.Bodies.{passed, passed_names, passed_consts, passed_types, passed_vars, passed_groups, passed_entries}
use Rattle.pfc_types.proofs.Prefixes.{begins_same, begins_push}
use Rattle.pfc_types.proofs.Walking.{held, Kept, Walked, kept_same, kept_trans, kept_walked, kept_then_walked, walked_trans, note_kept, declare_walked}
use Rattle.pfc_types.proofs.Walking.{free_walked}

-- ## Types as they are written

add_form_kept : (s : State) (form : TypeForm) → Kept s (add_form s form)
add_form_kept s form = record { scopes = refl; forms = begins_push s.forms (Some form ∷ []); subs = subs_same s.blocks s.blocks refl }

added_unless_kept : (fault : Option TypeFault) (s : State) (form : TypeForm) (p : Place) → Kept s (added_unless fault s form p).state
added_unless_kept None s form p = add_form_kept s form
added_unless_kept (Some Bounds) s form p = kept_same s
added_unless_kept (Some Cells) s form p = note_kept s (unless false p 304)
added_unless_kept (Some Memory) s form p = kept_same s

added_kept : (s : State) (form : Option TypeForm) (p : Place) → Kept s (added s form p).state
added_kept s None p = kept_same s
added_kept s (Some form) p = added_unless_kept (refusal_of s.forms form) s form p

arrays_kept : (m : Made) (rs : List (Option Extent)) (p : Place) → Kept m.state (made_arrays m rs p).state
arrays_kept m [] p = kept_same m.state
arrays_kept m (r ∷ rs) p = kept_trans (arrays_kept m rs p) (added_kept (made_arrays m rs p).state (array_of r (made_arrays m rs p).t) p)

field_kept : (t : TypeId) (r : MadeFields) (x : Text × Place) → Kept r.state (made_field t r x).state
field_kept t r x = by (is_some (type_named r.list x.0))
  where
    by : (b : Bool) → Kept r.state (if b then record {
      state = note r.state (unless false x.1 302);
      list = r.list;
      whole =
          false;
    } else record r { list = r.list ++ (x.0, t) ∷ [] }).state
    by true = note_kept r.state (unless false x.1 302)
    by false = kept_same r.state

names_kept : (t : TypeId) (r : MadeFields) (xs : List (Text × Place)) → Kept r.state (made_names t r xs).state
names_kept t r [] = kept_same r.state
names_kept t r (x ∷ xs) = kept_trans (field_kept t r x) (names_kept t (made_field t r x) xs)

group_kept : (r : MadeFields) (t : Option TypeId) (xs : List (Text × Place)) → Kept r.state (made_group r t xs).state
group_kept r None xs = names_kept integer (record r { whole = false }) xs
group_kept r (Some t) xs = names_kept t r xs

mutual
  pub made_kept : (carried : Bool) (s : State) (view : List Level) (t : TypeTree) → Kept s (made carried s view t).state
  made_kept carried s view (named x p) = note_kept s (type_name_rules carried (look s.blocks.scopes view x) p)
  made_kept carried s view (channel t p) =
      kept_trans (made_kept true s view t)
      (kept_trans (note_kept (made true s view t).state (unless (not (has_object (made true s view t).state.forms (made true s view t).t)) (type_place t) 406))
      (added_kept (note (made true s view t).state (unless (not (has_object (made true s view t).state.forms (made true s view t).t)) (type_place t) 406))
      (channel_form (made true s view t).state.forms (made true s view t).t) p))
  made_kept carried s view (array rs t p) =
      kept_trans (note_kept s (broken_ranges s.blocks.scopes view rs))
      (kept_trans (made_kept false (note s (broken_ranges s.blocks.scopes view rs)) view t)
      (arrays_kept (made false (note s (broken_ranges s.blocks.scopes view rs)) view t) (range_extents s.blocks.scopes view rs) p))
  made_kept carried s view (fields vs last p) =
      kept_trans (items_kept view (fields_begun s) vs) (added_kept (made_items view (fields_begun s) vs).state
      (record_form (made_items view (fields_begun s) vs)) p)

  pub items_kept : (view : List Level) (r : MadeFields) (vs : VarTrees) → Kept r.state (made_items view r vs).state
  items_kept view r no_vars = kept_same r.state
  items_kept view r (more_vars v vs) = kept_trans (item_kept view r v) (items_kept view (made_item view r v) vs)

  pub item_kept : (view : List Level) (r : MadeFields) (v : VarTree) → Kept r.state (made_item view r v).state
  item_kept view r (var_item xs t) =
      kept_trans (made_kept false r.state view t) (group_kept (record r { state = (made false r.state view t).state }) (made false r.state view t).t xs)

-- ## What names are declared to stand for

constant_sound : (b : Blocks) (c : Option Ordinal) → IsSimpleValue c → IsSound b (Some (constant_meaning c))
constant_sound b None h = tt
constant_sound b (Some c) h = h

type_sound : (t : Option TypeId) (b : Blocks) → IsSound b (Some (type_meaning t))
type_sound None b = tt
type_sound (Some t) b = tt

variable_sound : (reference : Bool) (t : Option TypeId) (b : Blocks) → IsSound b (Some (variable_meaning reference t))
variable_sound reference None b = tt
variable_sound reference (Some t) b = tt

entry_sound : (whole : Bool) (k : ℕ) (b : Blocks) → IsSound b (Some (entry_meaning whole k))
entry_sound true k b = tt
entry_sound false k b = tt

-- ## Constants, types and variables

const_walked : (s : State) (i : ℕ) (outer : List Level) (c : ConstItem) → i < length (held s) →
    Walked i s (const_state s i outer c) 0 (λ names n. passed names n c.name)
const_walked s i outer c b =
    kept_then_walked b noted (declare_walked (note s (broken_constant s.blocks.scopes (here s.blocks.scopes i outer) c.value)) i (c.name, c.place)
    (constant_meaning (constant_value s.blocks.scopes (here s.blocks.scopes i outer) c.value)) (omega (arith, b, ap length noted.scopes)) good)
  where
    noted : Kept s (note s (broken_constant s.blocks.scopes (here s.blocks.scopes i outer) c.value))
    noted = note_kept s (broken_constant s.blocks.scopes (here s.blocks.scopes i outer) c.value)

    good : AreSound (note s (broken_constant s.blocks.scopes (here s.blocks.scopes i outer) c.value)).blocks →
        IsSound (note s (broken_constant s.blocks.scopes (here s.blocks.scopes i outer) c.value)).blocks
        (Some (constant_meaning (constant_value s.blocks.scopes (here s.blocks.scopes i outer) c.value)))
    good r = constant_sound (note s (broken_constant s.blocks.scopes (here s.blocks.scopes i outer) c.value)).blocks
        (constant_value s.blocks.scopes (here s.blocks.scopes i outer) c.value)
        (constant_simple s.blocks.scopes
        (subst HoldSimpleConstants noted.scopes (sound_simple (note s (broken_constant s.blocks.scopes (here s.blocks.scopes i outer) c.value)).blocks r))
        (here s.blocks.scopes i outer) c.value)

pub consts_walked : (s : State) (i : ℕ) (outer : List Level) (cs : List ConstItem) → i < length (held s) →
    Walked i s (consts_state s i outer cs) 0 (λ names n. passed_consts names n cs)
consts_walked s i outer [] b = kept_walked b (kept_same s)
consts_walked s i outer (c ∷ cs) b = walked_trans one (consts_walked (const_state s i outer c) i outer cs (omega (arith, b, one.count)))
  where
    one : Walked i s (const_state s i outer c) 0 (λ names n. passed names n c.name)
    one = const_walked s i outer c b

type_walked : (s : State) (i : ℕ) (outer : List Level) (d : TypeItemTree) → i < length (held s) →
    Walked i s (type_state s i outer d) 0 (λ names n. passed names n d.name)
type_walked s i outer d b =
    kept_then_walked b written (free_walked (made false s (here s.blocks.scopes i outer) d.form).state i (d.name, d.place)
    (type_meaning (made false s (here s.blocks.scopes i outer) d.form).t) (omega (arith, b, ap length written.scopes))
    (type_sound (made false s (here s.blocks.scopes i outer) d.form).t))
  where
    written : Kept s (made false s (here s.blocks.scopes i outer) d.form).state
    written = made_kept false s (here s.blocks.scopes i outer) d.form

pub types_walked : (s : State) (i : ℕ) (outer : List Level) (ds : List TypeItemTree) → i < length (held s) →
    Walked i s (types_state s i outer ds) 0 (λ names n. passed_types names n ds)
types_walked s i outer [] b = kept_walked b (kept_same s)
types_walked s i outer (d ∷ ds) b = walked_trans one (types_walked (type_state s i outer d) i outer ds (omega (arith, b, one.count)))
  where
    one : Walked i s (type_state s i outer d) 0 (λ names n. passed names n d.name)
    one = type_walked s i outer d b

population_kept : (s : State) (n : ℕ) → Kept s (set_population s n)
population_kept s n = record { scopes = refl; forms = begins_same s.forms; subs = subs_same s.blocks (set_population s n).blocks refl }

pub populated_walked : (s : State) (i more : ℕ) (x : Text × Place) (m : Meaning) → i < length (held s) → ((c : Blocks) → IsSound c (Some m)) →
    Walked i s (populated s i more x m) 0 (λ names n. passed names n x.0)
populated_walked s i more x m b good = by (passes_most s.blocks.population more)
  where
    counted : State
    counted = set_population s (most_processes (s.blocks.population + more))

    refused : Kept s (note (set_population s (most_processes (s.blocks.population + more))) (unless false x.1 424))
    refused = kept_trans (population_kept s (most_processes (s.blocks.population + more)))
        (note_kept (set_population s (most_processes (s.blocks.population + more))) (unless false x.1 424))

    by : (t : Bool) → Walked i s
        (if t then declare (note (set_population s (most_processes (s.blocks.population + more))) (unless false x.1 424)) i x Faulty else declare
        (set_population s (most_processes (s.blocks.population + more))) i x m) 0 (λ names n. passed names n x.0)
    by true = kept_then_walked b refused (declare_walked (note (set_population s (most_processes (s.blocks.population + more)))
        (unless false x.1 424)) i x Faulty b (λ r. tt))
    by false = kept_then_walked b (population_kept s (most_processes (s.blocks.population + more)))
        (free_walked (set_population s (most_processes (s.blocks.population + more))) i x m b good)

var_name_walked : (s : State) (i : ℕ) (t : Option TypeId) (x : Text × Place) → i < length (held s) →
    Walked i s (var_name_state s i t x) 0 (λ names n. passed names n x.0)
var_name_walked s i t x b = by (is_some (meaning_in (scope_at s.blocks.scopes i) x.0))
  where
    by : (r : Bool) → Walked i s (if r then
        declare s i x Faulty else populated s i (brought s.forms t) x (variable_meaning false t)) 0 (λ names n. passed names n x.0)
    by true = declare_walked s i x Faulty b (λ r. tt)
    by false = populated_walked s i (brought s.forms t) x (variable_meaning false t) b (variable_sound false t)

var_names_walked : (s : State) (i : ℕ) (t : Option TypeId) (xs : List (Text × Place)) → i < length (held s) →
    Walked i s (var_names_state s i t xs) 0 (λ names n. passed_names names n xs)
var_names_walked s i t [] b = kept_walked b (kept_same s)
var_names_walked s i t (x ∷ xs) b = walked_trans one (var_names_walked (var_name_state s i t x) i t xs (omega (arith, b, one.count)))
  where
    one : Walked i s (var_name_state s i t x) 0 (λ names n. passed names n x.0)
    one = var_name_walked s i t x b

pub vars_walked : (owner : Owner) (s : State) (i : ℕ) (outer : List Level) (vs : VarTrees) → i < length (held s) →
    Walked i s (vars_state owner s i outer vs) 0 (λ names n. passed_vars names n vs)
vars_walked owner s i outer no_vars b = kept_walked b (kept_same s)
vars_walked owner s i outer (more_vars (var_item xs t) vs) b =
    walked_trans one (vars_walked owner (var_state owner s i outer (var_item xs t)) i outer vs (omega (arith, b, one.count)))
  where
    m : Made
    m = made false s (here s.blocks.scopes i outer) t

    written : Kept s (note (made false s (here s.blocks.scopes i outer) t).state (owner_rules owner (made false s (here s.blocks.scopes i outer) t).state.forms
        (made false s (here s.blocks.scopes i outer) t).t (type_place t)))
    written =
        kept_trans (made_kept false s (here s.blocks.scopes i outer) t)
        (note_kept (made false s (here s.blocks.scopes i outer) t).state (owner_rules owner (made false s (here s.blocks.scopes i outer) t).state.forms
        (made false s (here s.blocks.scopes i outer) t).t (type_place t)))

    one : Walked i s (var_state owner s i outer (var_item xs t)) 0 (λ names n. passed_names names n xs)
    one = kept_then_walked b written (var_names_walked _ i (owned_type owner (made false s (here s.blocks.scopes i outer) t).state.forms
        (made false s (here s.blocks.scopes i outer) t).t) xs (omega (arith, b, ap length written.scopes)))

-- ## Headings

formals_walked : (i : ℕ) (reference : Bool) (t : Option TypeId) (h : Heading) (xs : List (Text × Place)) → i < length (held h.state) →
    Walked i h.state (formals_heading i reference t h xs).state 0 (λ names n. passed_names names n xs)
formals_walked i reference t h [] b = kept_walked b (kept_same h.state)
formals_walked i reference t h (x ∷ xs) b = walked_trans one (formals_walked i reference t (formal_heading i reference t h x) xs (omega (arith, b, one.count)))
  where
    one : Walked i h.state (declare h.state i x (variable_meaning reference t)) 0 (λ names n. passed names n x.0)
    one = free_walked h.state i x (variable_meaning reference t) b (variable_sound reference t)

group_walked : (i : ℕ) (view : List Level) (h : Heading) (g : GroupTree) → i < length (held h.state) →
    Walked i h.state (group_viewed i view h g).state 0 (λ names n. passed_names names n g.names)
group_walked i view h g b =
    kept_then_walked b noted (formals_walked i g.reference (group_type h.state view g) _ g.names (omega (arith, b, ap length noted.scopes)))
  where
    noted : Kept h.state (note h.state (broken_group h.state view g))
    noted = note_kept h.state (broken_group h.state view g)

pub groups_walked : (i : ℕ) (outer : List Level) (h : Heading) (gs : List GroupTree) → i < length (held h.state) →
    Walked i h.state (groups_heading i outer h gs).state 0 (λ names n. passed_groups names n gs)
groups_walked i outer h [] b = kept_walked b (kept_same h.state)
groups_walked i outer h (g ∷ gs) b = walked_trans one (groups_walked i outer (group_heading i outer h g) gs (omega (arith, b, one.count)))
  where
    one : Walked i h.state (group_heading i outer h g).state 0 (λ names n. passed_names names n g.names)
    one = group_walked i (here h.state.blocks.scopes i outer) h g b

pub accept_groups_walked : (i : ℕ) (view : List Level) (h : Heading) (gs : List GroupTree) → i < length (held h.state) →
    Walked i h.state (accept_groups i view h gs).state 0 (λ names n. passed_groups names n gs)
accept_groups_walked i view h [] b = kept_walked b (kept_same h.state)
accept_groups_walked i view h (g ∷ gs) b = walked_trans one (accept_groups_walked i view (group_viewed i view h g) gs (omega (arith, b, one.count)))
  where
    one : Walked i h.state (group_viewed i view h g).state 0 (λ names n. passed_names names n g.names)
    one = group_walked i view h g b

-- ## Entries

entry_formals_kept : (reference : Bool) (t : Option TypeId) (h : EntryHeading) (xs : List (Text × Place)) → Kept h.state (entry_formals reference t h xs).state
entry_formals_kept reference t h [] = kept_same h.state
entry_formals_kept reference t h (x ∷ xs) = kept_trans (note_kept h.state (unless (not (is_some (meaning_in h.own x.0))) x.1 302))
    (entry_formals_kept reference t (entry_formal reference t h x) xs)

entry_groups_kept : (view : List Level) (h : EntryHeading) (gs : List GroupTree) → Kept h.state (entry_groups view h gs).state
entry_groups_kept view h [] = kept_same h.state
entry_groups_kept view h (g ∷ gs) =
    kept_trans (note_kept h.state (broken_group h.state view g))
    (kept_trans (entry_formals_kept g.reference (group_type h.state view g) _ g.names) (entry_groups_kept view (entry_group view h g) gs))

entry_walked : (s : State) (i : ℕ) (outer : List Level) (k : ℕ) (e : EntryTree) → i < length (held s) →
    Walked i s (entry_state s i outer k e) 0 (λ names n. passed names n e.name)
entry_walked s i outer k e b =
    kept_then_walked b added_entry (free_walked _ i (e.name, e.place) (entry_meaning h.whole k)
    (omega (arith, b, ap length added_entry.scopes)) (entry_sound h.whole k))
  where
    h : EntryHeading
    h = entry_groups (here s.blocks.scopes i outer) (record { state = s; own = []; formals = []; whole = true }) e.formals

    added_entry : Kept s (add_entry (entry_groups (here s.blocks.scopes i outer) (record { state = s; own = []; formals = []; whole = true }) e.formals).state
        (entry_groups (here s.blocks.scopes i outer) (record { state = s; own = []; formals = []; whole = true }) e.formals).formals)
    added_entry =
        kept_trans (entry_groups_kept (here s.blocks.scopes i outer) (record { state = s; own = []; formals = []; whole = true }) e.formals)
        (record { scopes = refl; forms = begins_same _; subs = subs_same _ _ refl })

pub entries_walked : (s : State) (i : ℕ) (outer : List Level) (k : ℕ) (es : List EntryTree) → i < length (held s) →
    Walked i s (entries_state s i outer k es) 0 (λ names n. passed_entries names n es)
entries_walked s i outer k [] b = kept_walked b (kept_same s)
entries_walked s i outer k (e ∷ es) b = walked_trans one (entries_walked (entry_state s i outer k e) i outer (k + 1) es (omega (arith, b, one.count)))
  where
    one : Walked i s (entry_state s i outer k e) 0 (λ names n. passed names n e.name)
    one = entry_walked s i outer k e b

-- ## Exports and processes

export_kept : (s : State) (m : Option Meaning) (p : Place) → Kept s (export_state s m p)
export_kept s None p = note_kept s (unless false p 409)
export_kept s (Some (AConstant t v)) p = note_kept s (unless false p 409)
export_kept s (Some (Named t)) p = note_kept s (unless false p 409)
export_kept s (Some (Variable t r)) p = note_kept s (unless false p 409)
export_kept s (Some (Sub n)) p = by (may_export (sub_at s.blocks n))
  where
    by : (b : Bool) → Kept s (if b then export_sub s n else note s (unless false p 409))
    by true = record { scopes = refl; forms = begins_same s.forms; subs = subs_export s.blocks n }
    by false = note_kept s (unless false p 409)
export_kept s (Some (Module n)) p = note_kept s (unless false p 409)
export_kept s (Some (Process n)) p = note_kept s (unless false p 409)
export_kept s (Some (Entry n)) p = note_kept s (unless false p 409)
export_kept s (Some (Predeclared k)) p = note_kept s (unless false p 409)
export_kept s (Some Faulty) p = kept_same s

export_list_kept : (s : State) (i : ℕ) (xs : List (Text × Place)) → Kept s (export_list s i xs)
export_list_kept s i [] = kept_same s
export_list_kept s i (x ∷ xs) = kept_trans (export_kept s (meaning_in (scope_at s.blocks.scopes i) x.0) x.1)
    (export_list_kept (export_state s (meaning_in (scope_at s.blocks.scopes i) x.0) x.1) i xs)

pub exports_kept : (s : State) (i : ℕ) (lists : List (List (Text × Place))) → Kept s (exports_state s i lists)
exports_kept s i [] = kept_same s
exports_kept s i (xs ∷ lists) = kept_trans (export_list_kept s i xs) (exports_kept (export_list s i xs) i lists)

pub process_named_walked : (s : State) (i : ℕ) (many whole : Bool) (x : Text × Place) (n : ℕ) → i < length (held s) →
    Walked i s (process_named s i many whole x n) 0 (λ names m. passed names m x.0)
process_named_walked s i many false x n b = declare_walked s i x Faulty b (λ r. tt)
process_named_walked s i true true x n b =
    kept_then_walked b (add_form_kept s (AProcess n)) (declare_walked (add_form s (AProcess n)) i x (Named (record { place = length s.forms })) b (λ r. tt))
process_named_walked s i false true x n b = by (is_some (meaning_in (scope_at s.blocks.scopes i) x.0))
  where
    by : (r : Bool) → Walked i s (if r then declare s i x Faulty else populated s i 1 x (Process n)) 0 (λ names m. passed names m x.0)
    by true = declare_walked s i x Faulty b (λ r. tt)
    by false = populated_walked s i 1 x (Process n) b (λ c. tt)
