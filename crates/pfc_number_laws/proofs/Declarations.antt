-- What declarations make has constants of 32 bits alone.
use Rattle.std.proofs.Common.{ℕ, ◌+◌, Bool, true, false, if◌then◌else◌, is_some, List, [], ◌∷◌, ◌++◌, length, Option, Some, None}
use Rattle.std.specs.Prelude.{not, ◌&&◌}
use Rattle.std.specs.List.{AllByRecursion, list_any}
use Rattle.pfc_base.specs.declared.places.Place.{Place}
use Rattle.pfc_tree.specs.Symbols.{Text}
use Rattle.pfc_tree.specs.declared.tree.Constant.{Constant}
use Rattle.pfc_tree.specs.declared.tree.ConstItem.{ConstItem}
use Rattle.pfc_tree.specs.trees.Types.{TypeTree, VarTree, VarTrees, TypeItemTree, GroupTree, named, channel, array, fields, var_item, no_vars, more_vars}
use Rattle.pfc_tree.specs.trees.Stmts.{StmtTree, StmtTrees, BodyTree, ArmTree, ArmTrees, AcceptTree, AltTree, AltTrees, CommTree, empty, null, block, if_then}
use Rattle.pfc_tree.specs.trees.Stmts.{if_then_else, case_of, while_do, repeat_until, repeat_forever, for_do, cobegin, accepting, requeue, select, select_else}
use Rattle.pfc_tree.specs.trees.Stmts.{assign, send, receive, call, no_stmts, more_stmts, body, arm, no_arms, more_arms, accept, accept_do, alt, no_alts}
use Rattle.pfc_tree.specs.trees.Stmts.{more_alts, comm_accept, comm_send, comm_receive, timeout, terminate}
use Rattle.pfc_tree.specs.trees.Parts.{EntryTree}
use Rattle.pfc_types.specs.Faults.{Faults, none, one, ◌⨾◌, unless}
use Rattle.pfc_types.specs.Fields.{type_named}
use Rattle.pfc_types.specs.Types.{integer, refusal_of, most_processes}
use Rattle.pfc_types.specs.Scopes.{Level, meaning_in, scope_at, here, look}
use Rattle.pfc_types.specs.Blocks.{State, note, declare, open_scope, add_name, add_entry, set_population}
use Rattle.pfc_types.specs.declared.types.TypeId.{TypeId}
use Rattle.pfc_types.specs.declared.types.TypeForm.{TypeForm}
use Rattle.pfc_types.specs.declared.table.TypeFault.{TypeFault}
use Rattle.pfc_types.specs.declared.table.TypeFault.TheVariants.{Bounds, Cells, Memory}
use Rattle.pfc_types.specs.declared.scope.Meaning.{Meaning}
use Rattle.pfc_types.specs.declared.scope.Meaning.TheVariants.{Faulty}
use Rattle.pfc_types.specs.rules.Kinds.{has_object, type_name_rules, type_meaning, variable_meaning}
use Rattle.pfc_types.specs.rules.Constants.{Ordinal, Extent, same_ordinal, constant_value, constant_place, broken_constant, broken_ranges, range_extents, Made}
use Rattle.pfc_types.specs.rules.Constants.{added_unless, added, channel_form, array_of, made_arrays, MadeFields, made_field, made_names, made_group}
use Rattle.pfc_types.specs.rules.Constants.{record_form, fields_begun, made, made_items, made_item, type_place}
use Rattle.pfc_types.specs.rules.Declarations.{constant_meaning, const_state, consts_state, type_state, types_state, Owner, owner_rules, owned_type}
use Rattle.pfc_types.specs.rules.Declarations.{passes_most, populated, brought, var_name_state, var_names_state, var_state, vars_state, broken_group}
use Rattle.pfc_types.specs.rules.Declarations.{group_type, Heading, formal_heading, formals_heading, group_viewed, group_heading, groups_heading, heading}
use Rattle.pfc_types.specs.rules.Declarations.{EntryHeading, entry_formal, entry_formals, entry_group, entry_groups, entry_meaning, entry_state, entries_state}
use Rattle.pfc_types.specs.rules.Declarations.{accept_rule, accept_groups, accept_heading, accepted, Labels, label_noted, labels_noted, stmt_state, stmts_state}
use Rattle.pfc_types.specs.rules.Declarations.{body_state, arms_state, arm_state, accept_state, alts_state, alt_state, comm_state, sub_meaning}
use Rattle.pfc_run_invariants.specs.Fitting.{FitsMeaning}
use Rattle.pfc_number_laws.specs.Written.{FitsItem}
use Rattle.pfc_run_invariants.proofs.Lists.{all_push, all_set, all_get}
use Rattle.pfc_run_invariants.proofs.Alternatives.{FitsOrdinal, constant_fits}
use Rattle.pfc_number_laws.proofs.Names.{FitsName, FitsScope, names_fit}

abbrev pub FitsState : State → Type 0
FitsState s = AllByRecursion FitsScope s.blocks.scopes

-- ## One step

pub noted : (s : State) (fs : Faults) → FitsState s → FitsState (note s fs)
noted s none fits = fits
noted s (one f) fits = fits
noted s (fs ⨾ gs) fits = noted (note s fs) gs (noted s fs fits)

pub opened : (s : State) → FitsState s → FitsState (open_scope s)
opened s fits = all_push FitsScope s.blocks.scopes [] fits tt

pub declared : (s : State) (i : ℕ) (x : Text × Place) (m : Meaning) → FitsState s → FitsMeaning (Some m) → FitsState (declare s i x m)
declared s i x m fits new = by (is_some (meaning_in (scope_at s.blocks.scopes i) x.0))
  where
    by : (b : Bool) → FitsState (if b then note s (unless false x.1 302) else add_name s i x.0 m)
    by true = noted s (unless false x.1 302) fits
    by false =
        all_set FitsScope s.blocks.scopes i (scope_at s.blocks.scopes i ++ (x.0, m) ∷ []) fits
        (all_push FitsName (scope_at s.blocks.scopes i) (x.0, m) (all_get FitsScope s.blocks.scopes i [] fits tt) new)

pub either_state : (b : Bool) (s t : State) → FitsState s → FitsState t → FitsState (if b then s else t)
either_state true s t first second = first
either_state false s t first second = second

-- what no constant is
variable_fits : (reference : Bool) (t : Option TypeId) → FitsMeaning (Some (variable_meaning reference t))
variable_fits reference None = tt
variable_fits reference (Some t) = tt

type_fits : (t : Option TypeId) → FitsMeaning (Some (type_meaning t))
type_fits None = tt
type_fits (Some t) = tt

entry_fits : (whole : Bool) (k : ℕ) → FitsMeaning (Some (entry_meaning whole k))
entry_fits true k = tt
entry_fits false k = tt

pub sub_fits : (whole : Bool) (n : ℕ) → FitsMeaning (Some (sub_meaning whole n))
sub_fits true n = tt
sub_fits false n = tt

ordinal_named : (o : Option Ordinal) → FitsOrdinal o → FitsMeaning (Some (constant_meaning o))
ordinal_named None fits = tt
ordinal_named (Some o) fits = fits

-- ## Constants and types

pub consts_fit : (s : State) (i : ℕ) (outer : List Level) (items : List ConstItem) → FitsState s → AllByRecursion FitsItem items
    → FitsState (consts_state s i outer items)
consts_fit s i outer [] fits all = fits
consts_fit s i outer (c ∷ cs) fits all =
    let scopes = s.blocks.scopes in
    let view = here scopes i outer in
    let value = constant_value scopes view c.value in
    consts_fit (const_state s i outer c) i outer cs
    (declared (note s (broken_constant scopes view c.value)) i (c.name, c.place) (constant_meaning value) (noted s (broken_constant scopes view c.value) fits)
    (ordinal_named value (constant_fits scopes (names_fit scopes fits) view c.value all.0)))
    all.1

added_or_not : (fault : Option TypeFault) (s : State) (form : TypeForm) (p : Place) → FitsState s → FitsState (added_unless fault s form p).state
added_or_not None s form p fits = fits
added_or_not (Some Bounds) s form p fits = fits
added_or_not (Some Cells) s form p fits = noted s (unless false p 304) fits
added_or_not (Some Memory) s form p fits = fits

added_fits : (s : State) (form : Option TypeForm) (p : Place) → FitsState s → FitsState (added s form p).state
added_fits s None p fits = fits
added_fits s (Some form) p fits = added_or_not (refusal_of s.forms form) s form p fits

arrays_fit : (m : Made) (rs : List (Option Extent)) (p : Place) → FitsState m.state → FitsState (made_arrays m rs p).state
arrays_fit m [] p fits = fits
arrays_fit m (r ∷ rs) p fits =
    let inner = made_arrays m rs p in added_fits inner.state (array_of r inner.t) p (arrays_fit m rs p fits)

field_fits : (t : TypeId) (r : MadeFields) (x : Text × Place) → FitsState r.state → FitsState (made_field t r x).state
field_fits t r x fits = by (is_some (type_named r.list x.0))
  where
    by : (b : Bool)
        → FitsState (if b then record { state = note r.state (unless false x.1 302); list = r.list; whole = false }
        else record r { list = r.list ++ (x.0, t) ∷ [] }).state
    by true = noted r.state (unless false x.1 302) fits
    by false = fits

names_fits : (t : TypeId) (r : MadeFields) (xs : List (Text × Place)) → FitsState r.state → FitsState (made_names t r xs).state
names_fits t r [] fits = fits
names_fits t r (x ∷ xs) fits = names_fits t (made_field t r x) xs (field_fits t r x fits)

group_fits : (r : MadeFields) (t : Option TypeId) (xs : List (Text × Place)) → FitsState r.state → FitsState (made_group r t xs).state
group_fits r None xs fits = names_fits integer (record r { whole = false }) xs fits
group_fits r (Some t) xs fits = names_fits t r xs fits

mutual
  made_fits : (carried : Bool) (s : State) (view : List Level) (t : TypeTree) → FitsState s → FitsState (made carried s view t).state
  made_fits carried s view (named x p) fits = noted s (type_name_rules carried (look s.blocks.scopes view x) p) fits
  made_fits carried s view (channel t p) fits =
      let m = made true s view t in
      let ruled = note m.state (unless (not (has_object m.state.forms m.t)) (type_place t) 406) in
      added_fits ruled (channel_form m.state.forms m.t) p
      (noted m.state (unless (not (has_object m.state.forms m.t)) (type_place t) 406) (made_fits true s view t fits))
  made_fits carried s view (array rs t p) fits =
      let begin = note s (broken_ranges s.blocks.scopes view rs) in
      arrays_fit (made false begin view t) (range_extents s.blocks.scopes view rs) p
      (made_fits false begin view t (noted s (broken_ranges s.blocks.scopes view rs) fits))
  made_fits carried s view (fields vs last p) fits =
      let r = made_items view (fields_begun s) vs in added_fits r.state (record_form r) p (items_fit view (fields_begun s) vs fits)

  items_fit : (view : List Level) (r : MadeFields) (vs : VarTrees) → FitsState r.state → FitsState (made_items view r vs).state
  items_fit view r no_vars fits = fits
  items_fit view r (more_vars v vs) fits = items_fit view (made_item view r v) vs (item_fits view r v fits)

  item_fits : (view : List Level) (r : MadeFields) (v : VarTree) → FitsState r.state → FitsState (made_item view r v).state
  item_fits view r (var_item xs t) fits =
      let m = made false r.state view t in group_fits (record r { state = m.state }) m.t xs (made_fits false r.state view t fits)

pub types_fit : (s : State) (i : ℕ) (outer : List Level) (items : List TypeItemTree) → FitsState s → FitsState (types_state s i outer items)
types_fit s i outer [] fits = fits
types_fit s i outer (d ∷ ds) fits =
    let m = made false s (here s.blocks.scopes i outer) d.form in
    types_fit (type_state s i outer d) i outer ds
    (declared m.state i (d.name, d.place) (type_meaning m.t) (made_fits false s (here s.blocks.scopes i outer) d.form fits) (type_fits m.t))

-- ## Variables

pub populated_fits :
    (s : State) (i more : ℕ) (x : Text × Place) (m : Meaning) → FitsState s → FitsMeaning (Some m) → FitsState (populated s i more x m)
populated_fits s i more x m fits new =
    let counted = set_population s (most_processes (s.blocks.population + more)) in
    let ruled = note counted (unless false x.1 424) in
    either_state (passes_most s.blocks.population more) (declare ruled i x Faulty) (declare counted i x m)
    (declared ruled i x Faulty (noted counted (unless false x.1 424) fits) tt) (declared counted i x m fits new)

var_name_fits : (s : State) (i : ℕ) (t : Option TypeId) (x : Text × Place) → FitsState s → FitsState (var_name_state s i t x)
var_name_fits s i t x fits =
    either_state (is_some (meaning_in (scope_at s.blocks.scopes i) x.0)) (declare s i x Faulty) (populated s i (brought s.forms t) x (variable_meaning false t))
    (declared s i x Faulty fits tt) (populated_fits s i (brought s.forms t) x (variable_meaning false t) fits (variable_fits false t))

var_names_fit : (s : State) (i : ℕ) (t : Option TypeId) (xs : List (Text × Place)) → FitsState s → FitsState (var_names_state s i t xs)
var_names_fit s i t [] fits = fits
var_names_fit s i t (x ∷ xs) fits = var_names_fit (var_name_state s i t x) i t xs (var_name_fits s i t x fits)

var_fits : (owner : Owner) (s : State) (i : ℕ) (outer : List Level) (v : VarTree) → FitsState s → FitsState (var_state owner s i outer v)
var_fits owner s i outer (var_item xs t) fits =
    let view = here s.blocks.scopes i outer in
    let m = made false s view t in
    let rules = owner_rules owner m.state.forms m.t (type_place t) in
    var_names_fit (note m.state rules) i (owned_type owner m.state.forms m.t) xs (noted m.state rules (made_fits false s view t fits))

pub vars_fit : (owner : Owner) (s : State) (i : ℕ) (outer : List Level) (vs : VarTrees) → FitsState s → FitsState (vars_state owner s i outer vs)
vars_fit owner s i outer no_vars fits = fits
vars_fit owner s i outer (more_vars v vs) fits = vars_fit owner (var_state owner s i outer v) i outer vs (var_fits owner s i outer v fits)

-- ## Headings and entries

formals_fit : (i : ℕ) (reference : Bool) (t : Option TypeId) (h : Heading) (xs : List (Text × Place)) → FitsState h.state
    → FitsState (formals_heading i reference t h xs).state
formals_fit i reference t h [] fits = fits
formals_fit i reference t h (x ∷ xs) fits =
    formals_fit i reference t (formal_heading i reference t h x) xs (declared h.state i x (variable_meaning reference t) fits (variable_fits reference t))

viewed_fits : (i : ℕ) (view : List Level) (h : Heading) (g : GroupTree) → FitsState h.state → FitsState (group_viewed i view h g).state
viewed_fits i view h g fits =
    let t = group_type h.state view g in
    let ruled = note h.state (broken_group h.state view g) in
    formals_fit i g.reference t (record { state = ruled; formals = h.formals; whole = h.whole && is_some t }) g.names
    (noted h.state (broken_group h.state view g) fits)

groups_fit : (i : ℕ) (outer : List Level) (h : Heading) (gs : List GroupTree) → FitsState h.state → FitsState (groups_heading i outer h gs).state
groups_fit i outer h [] fits = fits
groups_fit i outer h (g ∷ gs) fits =
    groups_fit i outer (group_heading i outer h g) gs (viewed_fits i (here h.state.blocks.scopes i outer) h g fits)

pub heading_fits : (s : State) (i : ℕ) (outer : List Level) (gs : List GroupTree) → FitsState s → FitsState (heading s i outer gs).state
heading_fits s i outer gs fits = groups_fit i outer (record { state = s; formals = []; whole = true }) gs fits

entry_formals_fit : (reference : Bool) (t : Option TypeId) (h : EntryHeading) (xs : List (Text × Place)) → FitsState h.state
    → FitsState (entry_formals reference t h xs).state
entry_formals_fit reference t h [] fits = fits
entry_formals_fit reference t h (x ∷ xs) fits =
    entry_formals_fit reference t (entry_formal reference t h x) xs (noted h.state (unless (not (is_some (meaning_in h.own x.0))) x.1 302) fits)

entry_groups_fit : (view : List Level) (h : EntryHeading) (gs : List GroupTree) → FitsState h.state → FitsState (entry_groups view h gs).state
entry_groups_fit view h [] fits = fits
entry_groups_fit view h (g ∷ gs) fits =
    let t = group_type h.state view g in
    let ruled = note h.state (broken_group h.state view g) in
    entry_groups_fit view (entry_group view h g) gs
    (entry_formals_fit g.reference t (record h { state = ruled; whole = h.whole && is_some t }) g.names (noted h.state (broken_group h.state view g) fits))

pub entries_fit : (s : State) (i : ℕ) (outer : List Level) (k : ℕ) (es : List EntryTree) → FitsState s → FitsState (entries_state s i outer k es)
entries_fit s i outer k [] fits = fits
entries_fit s i outer k (e ∷ es) fits =
    let begin : EntryHeading = record { state = s; own = []; formals = []; whole = true } in
    let view = here s.blocks.scopes i outer in
    let h = entry_groups view begin e.formals in
    entries_fit (entry_state s i outer k e) i outer (k + 1) es
    (declared (add_entry h.state h.formals) i (e.name, e.place) (entry_meaning h.whole k) (entry_groups_fit view begin e.formals fits) (entry_fits h.whole k))

-- ## Accepts and labels

accept_groups_fit : (i : ℕ) (view : List Level) (h : Heading) (gs : List GroupTree) → FitsState h.state → FitsState (accept_groups i view h gs).state
accept_groups_fit i view h [] fits = fits
accept_groups_fit i view h (g ∷ gs) fits = accept_groups_fit i view (group_viewed i view h g) gs (viewed_fits i view h g fits)

accepted_fits : (s : State) (view : List Level) (x : Text) (gs : List GroupTree) (p : Place) → FitsState s → FitsState (accepted s view x gs p)
accepted_fits s view x gs p fits =
    let h = accept_heading (open_scope s) (length s.blocks.scopes) view gs in
    noted h.state (accept_rule h.state.blocks (look s.blocks.scopes view x) h.formals p)
    (accept_groups_fit (length s.blocks.scopes) view (record { state = open_scope s; formals = []; whole = true }) gs (opened s fits))

label_fits : (o : Option Ordinal) (p : Place) (r : Labels) → FitsState r.state → FitsState (label_noted o p r).state
label_fits None p r fits = fits
label_fits (Some c) p r fits = by (list_any (same_ordinal c) r.seen)
  where
    by : (b : Bool) → FitsState (if b then record r { state = note r.state (unless false p 320) } else record r { seen = r.seen ++ c ∷ [] }).state
    by true = noted r.state (unless false p 320) fits
    by false = fits

labels_fit : (view : List Level) (r : Labels) (cs : List Constant) → FitsState r.state → FitsState (labels_noted view r cs).state
labels_fit view r [] fits = fits
labels_fit view r (c ∷ cs) fits =
    let o = constant_value r.state.blocks.scopes view c in
    labels_fit view (label_noted o (constant_place c) r) cs (label_fits o (constant_place c) r fits)

mutual
  stmt_fits : (s : State) (view : List Level) (t : StmtTree) → FitsState s → FitsState (stmt_state s view t)
  stmt_fits s view empty fits = fits
  stmt_fits s view (null p) fits = fits
  stmt_fits s view (block b p) fits = body_fits s view b fits
  stmt_fits s view (if_then e t p) fits = stmt_fits s view t fits
  stmt_fits s view (if_then_else e t u p) fits = stmt_fits (stmt_state s view t) view u (stmt_fits s view t fits)
  stmt_fits s view (case_of e arms last p) fits = arms_fit view (record { state = s; seen = [] }) arms fits
  stmt_fits s view (while_do e t p) fits = stmt_fits s view t fits
  stmt_fits s view (repeat_until ts e p) fits = stmts_fit s view ts fits
  stmt_fits s view (repeat_forever ts p) fits = stmts_fit s view ts fits
  stmt_fits s view (for_do x a down b t p q) fits = stmt_fits s view t fits
  stmt_fits s view (cobegin ts last p) fits = stmts_fit s view ts fits
  stmt_fits s view (accepting a p) fits = accept_fits s view a fits
  stmt_fits s view (requeue x args p) fits = fits
  stmt_fits s view (select pri alts p q) fits = alts_fit s view alts fits
  stmt_fits s view (select_else pri alts ts p q r) fits = stmts_fit (alts_state s view alts) view ts (alts_fit s view alts fits)
  stmt_fits s view (assign d e p q) fits = fits
  stmt_fits s view (send d e p q) fits = fits
  stmt_fits s view (receive d v p q) fits = fits
  stmt_fits s view (call d args p) fits = fits

  stmts_fit : (s : State) (view : List Level) (ts : StmtTrees) → FitsState s → FitsState (stmts_state s view ts)
  stmts_fit s view no_stmts fits = fits
  stmts_fit s view (more_stmts t ts) fits = stmts_fit (stmt_state s view t) view ts (stmt_fits s view t fits)

  pub body_fits : (s : State) (view : List Level) (b : BodyTree) → FitsState s → FitsState (body_state s view b)
  body_fits s view (body ts first last) fits = stmts_fit s view ts fits

  arms_fit : (view : List Level) (r : Labels) (arms : ArmTrees) → FitsState r.state → FitsState (arms_state view r arms).state
  arms_fit view r no_arms fits = fits
  arms_fit view r (more_arms a arms) fits = arms_fit view (arm_state view r a) arms (arm_fits view r a fits)

  arm_fits : (view : List Level) (r : Labels) (a : ArmTree) → FitsState r.state → FitsState (arm_state view r a).state
  arm_fits view r (arm cs t) fits = stmt_fits (labels_noted view r cs).state view t (labels_fit view r cs fits)

  accept_fits : (s : State) (view : List Level) (a : AcceptTree) → FitsState s → FitsState (accept_state s view a)
  accept_fits s view (accept x gs p) fits = accepted_fits s view x gs p fits
  accept_fits s view (accept_do x gs t p) fits =
      let begin = accepted s view x gs p in
      stmt_fits begin (here begin.blocks.scopes (length s.blocks.scopes) view) t (accepted_fits s view x gs p fits)

  alts_fit : (s : State) (view : List Level) (alts : AltTrees) → FitsState s → FitsState (alts_state s view alts)
  alts_fit s view no_alts fits = fits
  alts_fit s view (more_alts a alts) fits = alts_fit (alt_state s view a) view alts (alt_fits s view a fits)

  alt_fits : (s : State) (view : List Level) (a : AltTree) → FitsState s → FitsState (alt_state s view a)
  alt_fits s view (alt spread guard c ts) fits = stmts_fit (comm_state s view c) view ts (comm_fits s view c fits)

  comm_fits : (s : State) (view : List Level) (c : CommTree) → FitsState s → FitsState (comm_state s view c)
  comm_fits s view (comm_accept a p) fits = accept_fits s view a fits
  comm_fits s view (comm_send d e p) fits = fits
  comm_fits s view (comm_receive d v p) fits = fits
  comm_fits s view (timeout e p) fits = fits
  comm_fits s view (terminate p) fits = fits
