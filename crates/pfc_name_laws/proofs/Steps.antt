-- Declarations are made of steps: those in which no heading is added, and statements.
use Rattle.std.proofs.Common.{◌≡◌, ℕ, ◌+◌, ◌<◌, ◌≤◌, Bool, true, false, not, ◌&&◌, if◌then◌else◌, is_some, List, [], ◌∷◌, ◌++◌, length, length-append}
use Rattle.std.proofs.Common.{length-set, get_or-set_same, map, Option, Some, None, refl, ap, sym, ◌∙◌, subst, ◌≢◌, ◌⊎◌, inl, inr, arith}
use Rattle.std.specs.List.{list_any}
use Rattle.std.proofs.lemmas.List.{append-nil, append_assoc, map-append}
use Rattle.std.specs.Option.{IfSome}
use Rattle.pfc_base.specs.declared.places.Place.{Place}
use Rattle.pfc_tree.specs.Symbols.{Text}
use Rattle.pfc_tree.specs.declared.tree.Constant.{Constant}
use Rattle.pfc_tree.specs.declared.tree.ConstItem.{ConstItem}
use Rattle.pfc_tree.specs.trees.Types.{TypeTree, VarTree, VarTrees, TypeItemTree, GroupTree, named, channel, array, fields, var_item, no_vars, more_vars}
use Rattle.pfc_tree.specs.trees.Stmts.{StmtTree, StmtTrees, BodyTree, ArmTree, ArmTrees, AcceptTree, AltTree, AltTrees, CommTree, empty, null, block, if_then}
use Rattle.pfc_tree.specs.trees.Stmts.{if_then_else, case_of, while_do, repeat_until, repeat_forever, for_do, cobegin, accepting, requeue, select, select_else}
use Rattle.pfc_tree.specs.trees.Stmts.{assign, send, receive, call, no_stmts, more_stmts, body, arm, no_arms, more_arms, accept, accept_do, alt, no_alts}
use Rattle.pfc_tree.specs.trees.Stmts.{more_alts, comm_accept, comm_send, comm_receive, timeout, terminate}
use Rattle.pfc_types.specs.Faults.{Faults, none, one, ◌⨾◌, unless, listed}
use Rattle.pfc_types.specs.Types.{Forms, integer, is_object, refusal_of, most_processes}
use Rattle.pfc_types.specs.Fields.{type_named}
use Rattle.pfc_types.specs.Scopes.{Names, Level, scope_at, here, meaning_in, look}
use Rattle.pfc_types.specs.Blocks.{Blocks, State, note, declare, add_form, add_name, set_population, open_scope}
use Rattle.pfc_types.specs.declared.types.TypeId.{TypeId}
use Rattle.pfc_types.specs.declared.types.TypeForm.{TypeForm}
use Rattle.pfc_types.specs.declared.types.TypeForm.TheVariants.{Channel, Record}
use Rattle.pfc_types.specs.declared.table.TypeFault.{TypeFault}
use Rattle.pfc_types.specs.declared.table.TypeFault.TheVariants.{Bounds, Cells, Memory}
use Rattle.pfc_types.specs.declared.scope.Meaning.{Meaning}
use Rattle.pfc_types.specs.declared.heads.Formal.{Formal}
use Rattle.pfc_types.specs.declared.scope.Meaning.TheVariants.{Faulty}
use Rattle.pfc_types.specs.rules.Kinds.{where_so, type_name_rules, has_object, type_meaning, variable_meaning}
use Rattle.pfc_types.specs.rules.Constants.{Ordinal, Extent, same_ordinal, constant_place, constant_value, broken_constant, broken_ranges, range_extents, Made}
use Rattle.pfc_types.specs.rules.Constants.{added_unless, added, channel_form, array_of, made_arrays, MadeFields, made_field, made_names, made_group}
use Rattle.pfc_types.specs.rules.Constants.{record_form, fields_begun, made, made_items, made_item, type_place}
use Rattle.pfc_types.specs.rules.Declarations.{shared_fits, condition_fits, constant_meaning, const_state, consts_state, type_state, types_state, Owner}
use Rattle.pfc_types.specs.rules.Declarations.{owner_rules, owned_type, passes_most, populated, brought, var_name_state, var_names_state, var_state, vars_state}
use Rattle.pfc_types.specs.rules.Declarations.{group_type, broken_group, Heading, formal_heading, formals_heading, group_viewed, group_heading, groups_heading}
use Rattle.pfc_types.specs.rules.Declarations.{accept_groups, accept_heading, accept_rule, accepted, Labels, label_noted, labels_noted, stmt_state, stmts_state}
use Rattle.pfc_types.specs.rules.Declarations.{body_state, arms_state, arm_state, accept_state, alts_state, alt_state, comm_state, init_state}
use Rattle.pfc_name_laws.specs.Reached.{IsNumbered, IsOfProcess, formal_meaning, meanings_of, Reached, noted, opened, named as a_name, a_type, counted}
use Rattle.pfc_name_laws.proofs.Numbers.{still, numbered_then, numbered, none_before, none_behind, no_faulty, simple_constants}
use Rattle.pfc_name_laws.proofs.Unused.{clash, clean_list, constant_unused, type_unused}
use Rattle.pfc_name_laws.specs.Numbers.{AreNumbered}
use Rattle.pfc_types.proofs.Clean.{clean}
use Rattle.pfc_types.proofs.FaultyConstants.{constant_exact, constant_simple, IsSimpleValue, group_exact}
use Rattle.pfc_types.proofs.FaultyTypes.{written_exactly}
use Rattle.pfc_types.specs.rules.FaultyNames.{all_typed, constant_uses_faulty, type_uses_faulty, group_uses_faulty}
use Rattle.pfc_base.specs.declared.faults.Refusal.{Refusal}

-- ## Steps without a heading

pub record Stepped (s t : State) : Type 0 where
  pub reached : Reached t
  pub subs : t.blocks.subs ≡ s.blocks.subs
  pub modules : t.blocks.modules ≡ s.blocks.modules
  pub processes : t.blocks.processes ≡ s.blocks.processes
  pub entries : t.blocks.entries ≡ s.blocks.entries
  pub count : length s.blocks.scopes ≤ length t.blocks.scopes
  pub clean : t.blocks.noted ≡ [] → s.blocks.noted ≡ []

-- from what declarations have made so far
abbrev pub Plain : State → State → Type 0
Plain s t = Reached s → Stepped s t

pub same : {s : State} → Plain s s
same r = record { reached = r; subs = refl; modules = refl; processes = refl; entries = refl; count = omega arith; clean = λ e. e }

pub stepped_then : {s t u : State} → Stepped s t → Stepped t u → Stepped s u
stepped_then p q =
    record {
      reached = q.reached;
      subs = q.subs ∙ p.subs;
      modules = q.modules ∙ p.modules;
      processes = q.processes ∙ p.processes;
      entries = q.entries ∙ p.entries;
      count = omega (arith, q.count, p.count);
      clean = λ e. p.clean (q.clean e);
    }

infixr 55 ◌⊳◌
-- the later behind the earlier
pub ◌⊳◌ : {s t u : State} → Plain t u → Plain s t → Plain s u
(q ⊳ p) r = let first = p r in stepped_then first (q first.reached)

-- what is noted, is noted behind what was before
pub note_adds : (s : State) (fs : Faults) → (note s fs).blocks.noted ≡ s.blocks.noted ++ listed fs
note_adds s none = sym (append-nil s.blocks.noted)
note_adds s (one f) = refl
note_adds s (fs ⨾ gs) =
    note_adds (note s fs) gs ∙ ap (λ (l : List Refusal). l ++ listed gs) (note_adds s fs) ∙ append_assoc s.blocks.noted (listed fs) (listed gs)

pub note_clean : (s : State) (fs : Faults) → (note s fs).blocks.noted ≡ [] → (s.blocks.noted ≡ []) × (listed fs ≡ [])
note_clean s fs e =
    let both = sym (note_adds s fs) ∙ e in (none_before s.blocks.noted (listed fs) both, none_behind s.blocks.noted (listed fs) both)

-- the scopes stay
pub note_scopes : (s : State) (fs : Faults) → (note s fs).blocks.scopes ≡ s.blocks.scopes
note_scopes s none = refl
note_scopes s (one f) = refl
note_scopes s (fs ⨾ gs) = note_scopes (note s fs) gs ∙ note_scopes s fs

pub note_plain : (s : State) (fs : Faults) → Plain s (note s fs)
note_plain s none r = same r
note_plain s (one f) r =
    record {
      reached = noted f r;
      subs = refl;
      modules = refl;
      processes = refl;
      entries = refl;
      count = omega arith;
      clean = λ e. (note_clean s (one f) e).0;
    }
note_plain s (fs ⨾ gs) r = (note_plain (note s fs) gs ⊳ note_plain s fs) r

pub open_plain : (s : State) → Plain s (open_scope s)
open_plain s r =
    record {
      reached = opened r;
      subs = refl;
      modules = refl;
      processes = refl;
      entries = refl;
      count = let e = length-append s.blocks.scopes ([] ∷ []) in omega (arith, e);
      clean = λ e. e;
    }

pub declare_plain : (s : State) (i : ℕ) (x : Text × Place) (m : Meaning) → i < length s.blocks.scopes → IsNumbered s.blocks i m → Plain s (declare s i x m)
declare_plain s i x m below is r = by (meaning_in (scope_at s.blocks.scopes i) x.0) refl
  where
    by : (o : Option Meaning) → meaning_in (scope_at s.blocks.scopes i) x.0 ≡ o
        → Stepped s (if is_some o then note s (unless false x.1 302) else add_name s i x.0 m)
    by (Some n) e = note_plain s (unless false x.1 302) r
    by None e =
        record {
          reached = a_name i x.0 m r below e is;
          subs = refl;
          modules = refl;
          processes = refl;
          entries = refl;
          count = let e = length-set s.blocks.scopes i (scope_at s.blocks.scopes i ++ (x.0, m) ∷ []) in omega (arith, e);
          clean = λ e. e;
        }

pub count_plain : (s : State) (n : ℕ) → Plain s (set_population s n)
count_plain s n r =
    record { reached = counted n r; subs = refl; modules = refl; processes = refl; entries = refl; count = omega arith; clean = λ e. e }

pub form_plain : (s : State) (form : TypeForm) → refusal_of s.forms form ≡ None → IsOfProcess s.blocks form → Plain s (add_form s form)
form_plain s form fits is r =
    record { reached = a_type form r fits is; subs = refl; modules = refl; processes = refl; entries = refl; count = omega arith; clean = λ e. e }

-- ## Types as they are written

added_unless_plain :
    (fault : Option TypeFault) (s : State) (form : TypeForm) (p : Place) → refusal_of s.forms form ≡ fault → IsOfProcess s.blocks form
    → Plain s (added_unless fault s form p).state
added_unless_plain None s form p fits is = form_plain s form fits is
added_unless_plain (Some Bounds) s form p fits is = same
added_unless_plain (Some Cells) s form p fits is = note_plain s (unless false p 304)
added_unless_plain (Some Memory) s form p fits is = same

added_plain : (s : State) (form : Option TypeForm) (p : Place) → IfSome form (IsOfProcess s.blocks) → Plain s (added s form p).state
added_plain s None p is = same
added_plain s (Some form) p is = added_unless_plain (refusal_of s.forms form) s form p refl is

channel_is : (b : Blocks) (forms : Forms) (t : Option TypeId) → IfSome (channel_form forms t) (IsOfProcess b)
channel_is b forms None = tt
channel_is b forms (Some t) = by (is_object forms t)
  where
    by : (r : Bool) → IfSome (if r then None else Some (Channel t)) (IsOfProcess b)
    by true = tt
    by false = tt

array_is : (b : Blocks) (r : Option Extent) (t : Option TypeId) → IfSome (array_of r t) (IsOfProcess b)
array_is b None t = tt
array_is b (Some r) None = tt
array_is b (Some r) (Some t) = tt

record_is : (b : Blocks) (r : MadeFields) → IfSome (record_form r) (IsOfProcess b)
record_is b r = by r.whole
  where
    by : (w : Bool) → IfSome (if w then Some (Record r.list) else None) (IsOfProcess b)
    by true = tt
    by false = tt

arrays_plain : (m : Made) (rs : List (Option Extent)) (p : Place) → Plain m.state (made_arrays m rs p).state
arrays_plain m [] p = same
arrays_plain m (r ∷ rs) p =
    let inner = made_arrays m rs p in
    added_plain inner.state (array_of r inner.t) p (array_is inner.state.blocks r inner.t) ⊳ arrays_plain m rs p

field_plain : (t : TypeId) (r : MadeFields) (x : Text × Place) → Plain r.state (made_field t r x).state
field_plain t r x = by (is_some (type_named r.list x.0))
  where
    by : (b : Bool)
        → Plain r.state
        (if b then record { state = note r.state (unless false x.1 302); list = r.list; whole = false } else record r { list = r.list ++ (x.0, t) ∷ [] }).state
    by true = note_plain r.state (unless false x.1 302)
    by false = same

names_plain : (t : TypeId) (r : MadeFields) (xs : List (Text × Place)) → Plain r.state (made_names t r xs).state
names_plain t r [] = same
names_plain t r (x ∷ xs) = names_plain t (made_field t r x) xs ⊳ field_plain t r x

group_plain : (r : MadeFields) (t : Option TypeId) (xs : List (Text × Place)) → Plain r.state (made_group r t xs).state
group_plain r None xs = names_plain integer (record r { whole = false }) xs
group_plain r (Some t) xs = names_plain t r xs

mutual
  pub made_plain : (carried : Bool) (s : State) (view : List Level) (t : TypeTree) → Plain s (made carried s view t).state
  made_plain carried s view (named x p) = note_plain s (type_name_rules carried (look s.blocks.scopes view x) p)
  made_plain carried s view (channel t p) =
      let m = made true s view t in
      let fault = unless (not (has_object m.state.forms m.t)) (type_place t) 406 in
      added_plain (note m.state fault) (channel_form m.state.forms m.t) p (channel_is (note m.state fault).blocks m.state.forms m.t)
      ⊳ note_plain m.state fault ⊳ made_plain true s view t
  made_plain carried s view (array rs t p) =
      let before = note s (broken_ranges s.blocks.scopes view rs) in
      arrays_plain (made false before view t) (range_extents s.blocks.scopes view rs) p ⊳ made_plain false before view t
      ⊳ note_plain s (broken_ranges s.blocks.scopes view rs)
  made_plain carried s view (fields vs last p) =
      let r = made_items view (fields_begun s) vs in
      added_plain r.state (record_form r) p (record_is r.state.blocks r) ⊳ items_plain view (fields_begun s) vs

  items_plain : (view : List Level) (r : MadeFields) (vs : VarTrees) → Plain r.state (made_items view r vs).state
  items_plain view r no_vars = same
  items_plain view r (more_vars v vs) = items_plain view (made_item view r v) vs ⊳ item_plain view r v

  item_plain : (view : List Level) (r : MadeFields) (v : VarTree) → Plain r.state (made_item view r v).state
  item_plain view r (var_item xs t) =
      let m = made false r.state view t in group_plain (record r { state = m.state }) m.t xs ⊳ made_plain false r.state view t

-- ## What is faulty

-- a part that has no type or value breaks a rule, where no name in view is faulty
constant_known :
    (s : State) (i : ℕ) (v : List Level) (c : Constant) → Reached s
    → (let n = note s (broken_constant s.blocks.scopes v c) in IsNumbered n.blocks i (constant_meaning (constant_value s.blocks.scopes v c)))
constant_known s i v c r = by (constant_value s.blocks.scopes v c) refl
  where
    known : AreNumbered s
    known = numbered s r

    by : (o : Option Ordinal) → constant_value s.blocks.scopes v c ≡ o
        → IsNumbered (note s (broken_constant s.blocks.scopes v c)).blocks i (constant_meaning o)
    by (Some o) e =
        subst (λ q. IsSimpleValue q) e (constant_simple s.blocks.scopes (simple_constants s known) v c)
    by None e = λ q.
        let two = note_clean s (broken_constant s.blocks.scopes v c) q in
        let is = constant_exact s.blocks.scopes v c in
        clash (is_some (constant_value s.blocks.scopes v c)) (clean (broken_constant s.blocks.scopes v c)) (constant_uses_faulty s.blocks.scopes v c) is
        (ap (λ (o : Option Ordinal). is_some o) e) (clean_list (broken_constant s.blocks.scopes v c) two.1)
        (constant_unused s.blocks.scopes v c (no_faulty s known two.0 v))

pub group_known :
    (s : State) (v : List Level) (g : GroupTree) → Reached s → (note s (broken_group s v g)).blocks.noted ≡ [] → group_type s v g ≡ None → ⊥
group_known s v g r q e =
    let two = note_clean s (broken_group s v g) q in
    clash (is_some (group_type s v g)) (clean (broken_group s v g)) (group_uses_faulty s.blocks.scopes v g) (group_exact s v g)
    (ap (λ (o : Option TypeId). is_some o) e) (clean_list (broken_group s v g) two.1) (no_faulty s (numbered s r) two.0 v g.form.0)

type_known :
    (carried : Bool) (s : State) (v : List Level) (t : TypeTree) → Reached s → (made carried s v t).state.blocks.noted ≡ []
    → (made carried s v t).t ≡ None → ⊥
type_known carried s v t r q e =
    let known = numbered s r in
    let before = (made_plain carried s v t r).clean q in
    by ((written_exactly s v (simple_constants s known)).types carried t).0 e before
  where
    by : ((made carried s v t).t ≡ None → ((made carried s v t).state.blocks.noted ≢ s.blocks.noted) ⊎ (type_uses_faulty s.blocks.scopes v t ≡ true))
        → (made carried s v t).t ≡ None → s.blocks.noted ≡ [] → ⊥
    by f e before = way (f e)
      where
        way : ((made carried s v t).state.blocks.noted ≢ s.blocks.noted) ⊎ (type_uses_faulty s.blocks.scopes v t ≡ true) → ⊥
        way (inl other) = other (q ∙ sym before)
        way (inr uses) =
            let unused = type_unused s.blocks.scopes v t (no_faulty s (numbered s r) before v) in
            let both : true ≡ false = sym uses ∙ unused in cc

-- ## Constants, types and variables

variable_known : (b : Blocks) (i : ℕ) (reference : Bool) (t : Option TypeId) → (b.noted ≡ [] → t ≡ None → ⊥) → IsNumbered b i (variable_meaning reference t)
variable_known b i reference None h = λ q. h q refl
variable_known b i reference (Some t) h = tt

type_meaning_known : (b : Blocks) (i : ℕ) (t : Option TypeId) → (b.noted ≡ [] → t ≡ None → ⊥) → IsNumbered b i (type_meaning t)
type_meaning_known b i None h = λ q. h q refl
type_meaning_known b i (Some t) h = tt

pub consts_plain : (s : State) (i : ℕ) (outer : List Level) (cs : List ConstItem) → i < length s.blocks.scopes → Plain s (consts_state s i outer cs)
consts_plain s i outer [] below r = same r
consts_plain s i outer (c ∷ cs) below r =
    let view = here s.blocks.scopes i outer in
    let fault = broken_constant s.blocks.scopes view c.value in
    let m = constant_meaning (constant_value s.blocks.scopes view c.value) in
    let first = note_plain s fault r in
    let a = first.count in
    let step = stepped_then first
    (declare_plain (note s fault) i (c.name, c.place) m (omega (arith, below, a)) (constant_known s i view c.value r) first.reached) in
    let b = step.count in
    stepped_then step (consts_plain (const_state s i outer c) i outer cs (omega (arith, below, b)) step.reached)

pub types_plain : (s : State) (i : ℕ) (outer : List Level) (ds : List TypeItemTree) → i < length s.blocks.scopes → Plain s (types_state s i outer ds)
types_plain s i outer [] below r = same r
types_plain s i outer (d ∷ ds) below r =
    let view = here s.blocks.scopes i outer in
    let m = made false s view d.form in
    let first = made_plain false s view d.form r in
    let a = first.count in
    let step = stepped_then first
    (declare_plain m.state i (d.name, d.place) (type_meaning m.t) (omega (arith, below, a))
    (type_meaning_known m.state.blocks i m.t (λ q e. type_known false s view d.form r q e)) first.reached) in
    let b = step.count in
    stepped_then step (types_plain (type_state s i outer d) i outer ds (omega (arith, below, b)) step.reached)

pub never_noted : (s : State) (p : Place) (n : ℕ) → (note s (unless false p n)).blocks.noted ≡ [] → ⊥
never_noted s p n e = let two = note_clean s (unless false p n) e in cc

pub populated_plain :
    (s : State) (i more : ℕ) (x : Text × Place) (m : Meaning) → i < length s.blocks.scopes → IsNumbered s.blocks i m → Plain s (populated s i more x m)
populated_plain s i more x m below is r = by (passes_most s.blocks.population more)
  where
    all : ℕ
    all = most_processes (s.blocks.population + more)

    by : (t : Bool)
        → Stepped s
        (if t
        then declare (note (set_population s (most_processes (s.blocks.population + more))) (unless false x.1 424)) i x Faulty
        else declare (set_population s (most_processes (s.blocks.population + more))) i x m)
    by true =
        let first = (note_plain (set_population s all) (unless false x.1 424) ⊳ count_plain s all) r in
        let a = first.count in
        stepped_then first
        (declare_plain (note (set_population s all) (unless false x.1 424)) i x Faulty (omega (arith, below, a)) (never_noted (set_population s all) x.1 424)
        first.reached)
    by false =
        let b = (set_population s all).blocks in
        (declare_plain (set_population s all) i x m below (numbered_then s.blocks b i m (still s.blocks b refl refl refl refl (λ e. e)) is)
        ⊳ count_plain s all) r

-- a repeated name adds none
pub repeated_plain :
    (s : State) (i : ℕ) (x : Text × Place) (m : Meaning) → is_some (meaning_in (scope_at s.blocks.scopes i) x.0) ≡ true → Plain s (declare s i x m)
repeated_plain s i x m e r =
    subst (λ (q : Bool). Stepped s (if q then note s (unless false x.1 302) else add_name s i x.0 m)) (sym e) (note_plain s (unless false x.1 302) r)

var_name_plain :
    (s : State) (i : ℕ) (t : Option TypeId) (x : Text × Place) → i < length s.blocks.scopes → (s.blocks.noted ≡ [] → t ≡ None → ⊥)
    → Plain s (var_name_state s i t x)
var_name_plain s i t x below is r = by (is_some (meaning_in (scope_at s.blocks.scopes i) x.0)) refl
  where
    by : (q : Bool) → is_some (meaning_in (scope_at s.blocks.scopes i) x.0) ≡ q
        → Stepped s (if q then declare s i x Faulty else populated s i (brought s.forms t) x (variable_meaning false t))
    by true e = repeated_plain s i x Faulty e r
    by false e = populated_plain s i (brought s.forms t) x (variable_meaning false t) below (variable_known s.blocks i false t is) r

var_names_plain :
    (s : State) (i : ℕ) (t : Option TypeId) (xs : List (Text × Place)) → i < length s.blocks.scopes → (s.blocks.noted ≡ [] → t ≡ None → ⊥)
    → Plain s (var_names_state s i t xs)
var_names_plain s i t [] below is r = same r
var_names_plain s i t (x ∷ xs) below is r =
    let step = var_name_plain s i t x below is r in
    let a = step.count in
    stepped_then step
    (var_names_plain (var_name_state s i t x) i t xs (omega (arith, below, a)) (λ q e. is (step.clean q) e) step.reached)

-- a variable of a type in which no rule is broken
owned_known :
    (owner : Owner) (s : State) (t : Option TypeId) (p : Place) → (s.blocks.noted ≡ [] → t ≡ None → ⊥)
    → (note s (owner_rules owner s.forms t p)).blocks.noted ≡ [] → owned_type owner s.forms t ≡ None → ⊥
owned_known owner s None p h q e = h (note_clean s (owner_rules owner s.forms None p) q).0 refl
owned_known owner s (Some t) p h q e =
    by (shared_fits owner s.forms t) (condition_fits owner s.forms t) (note_clean s (owner_rules owner s.forms (Some t) p) q).1 e
  where
    by : (a b : Bool) → listed (unless a p 404 ⨾ unless b p 405) ≡ [] → where_so (a && b) t ≡ None → ⊥
    by true true l e = cc
    by true false l e = cc
    by false b l e = cc

pub vars_plain : (owner : Owner) (s : State) (i : ℕ) (outer : List Level) (vs : VarTrees) → i < length s.blocks.scopes → Plain s (vars_state owner s i outer vs)
vars_plain owner s i outer no_vars below r = same r
vars_plain owner s i outer (more_vars (var_item xs t) vs) below r =
    let view = here s.blocks.scopes i outer in
    let m = made false s view t in
    let rules = owner_rules owner m.state.forms m.t (type_place t) in
    let first = (note_plain m.state rules ⊳ made_plain false s view t) r in
    let a = first.count in
    let step = stepped_then first
    (var_names_plain (note m.state rules) i (owned_type owner m.state.forms m.t) xs (omega (arith, below, a))
    (owned_known owner m.state m.t (type_place t) (λ q e. type_known false s view t r q e)) first.reached) in
    let b = step.count in
    stepped_then step (vars_plain owner (var_state owner s i outer (var_item xs t)) i outer vs (omega (arith, below, b)) step.reached)

-- ## Headings

-- where a heading is not whole, a rule is noted
abbrev pub IsWhole : Heading → Type 0
IsWhole h = h.state.blocks.noted ≡ [] → h.whole ≡ true

-- the names of a scope are these parameters
abbrev pub AreFormals : Names → List Formal → Type 0
AreFormals names formals = meanings_of names ≡ map formal_meaning formals

-- a heading whose parameters are declared in the scope i, with some parameters more
pub record Headed (i : ℕ) (h k : Heading) : Type 0 where
  pub steps : Stepped h.state k.state
  pub whole : IsWhole h → IsWhole k
  pub typed : k.state.blocks.noted ≡ [] → all_typed h.formals ≡ true → all_typed k.formals ≡ true
  pub names :
      k.state.blocks.noted ≡ [] → AreFormals (scope_at h.state.blocks.scopes i) h.formals → AreFormals (scope_at k.state.blocks.scopes i) k.formals

headed_then : {i : ℕ} {h k l : Heading} → Headed i h k → Headed i k l → Headed i h l
headed_then p q =
    record {
      steps = stepped_then p.steps q.steps;
      whole = λ w. q.whole (p.whole w);
      typed = λ e w. q.typed e (p.typed (q.steps.clean e) w);
      names = λ e w. q.names e (p.names (q.steps.clean e) w);
    }

same_headed : {i : ℕ} {h : Heading} → Reached h.state → Headed i h h
same_headed r = record { steps = same r; whole = λ w. w; typed = λ e w. w; names = λ e w. w }

-- a name that is declared is the last of its scope, unless a rule is noted
declared_last :
    (s : State) (i : ℕ) (x : Text × Place) (m : Meaning) → i < length s.blocks.scopes → (declare s i x m).blocks.noted ≡ []
    → scope_at (declare s i x m).blocks.scopes i ≡ scope_at s.blocks.scopes i ++ (x.0, m) ∷ []
declared_last s i x m below e = by (is_some (meaning_in (scope_at s.blocks.scopes i) x.0)) e
  where
    by : (r : Bool) → (if r then note s (unless false x.1 302) else add_name s i x.0 m).blocks.noted ≡ []
        → scope_at (if r then note s (unless false x.1 302) else add_name s i x.0 m).blocks.scopes i ≡ scope_at s.blocks.scopes i ++ (x.0, m) ∷ []
    by true q = absurd (never_noted s x.1 302 q)
    by false q = get_or-set_same s.blocks.scopes i (scope_at s.blocks.scopes i ++ (x.0, m) ∷ []) [] below

one_formal :
    (names more : Names) (formals : List Formal) (x : Text) (f : Formal) → more ≡ names ++ (x, formal_meaning f) ∷ [] → AreFormals names formals
    → AreFormals more (formals ++ f ∷ [])
one_formal names more formals x f e h =
    ap meanings_of e ∙ map-append (λ (y : Text × Meaning). y.1) names ((x, formal_meaning f) ∷ [])
    ∙ ap (λ (l : List Meaning). l ++ formal_meaning f ∷ []) h ∙ sym (map-append formal_meaning formals (f ∷ []))

pub both_true : (a b : Bool) → a ≡ true → b ≡ true → (a && b) ≡ true
both_true true true p q = refl
both_true true false p q = absurd (cc)
both_true false b p q = absurd (cc)

pub typed_more : (fs : List Formal) (f : Formal) → all_typed fs ≡ true → is_some f.t ≡ true → all_typed (fs ++ f ∷ []) ≡ true
typed_more [] f h k = both_true (is_some f.t) true k refl
typed_more (g ∷ fs) f h k = by (is_some g.t) (all_typed fs) h (λ q. typed_more fs f q k)
  where
    by : (a b : Bool) → (a && b) ≡ true → (b ≡ true → all_typed (fs ++ f ∷ []) ≡ true) → (a && all_typed (fs ++ f ∷ [])) ≡ true
    by true true p q = q refl
    by true false p q = absurd (cc)
    by false b p q = absurd (cc)

pub some_type : (t : Option TypeId) → (t ≡ None → ⊥) → is_some t ≡ true
some_type None h = absurd (h refl)
some_type (Some t) h = refl

fresh_declared :
    (s : State) (i : ℕ) (x : Text × Place) (m : Meaning) → (declare s i x m).blocks.noted ≡ []
    → is_some (meaning_in (scope_at s.blocks.scopes i) x.0) ≡ false
fresh_declared s i x m e = by (is_some (meaning_in (scope_at s.blocks.scopes i) x.0)) refl
  where
    by : (q : Bool) → is_some (meaning_in (scope_at s.blocks.scopes i) x.0) ≡ q → q ≡ false
    by false e = refl
    by true again =
        absurd (never_noted s x.1 302
        (subst (λ (q : Bool). (if q then note s (unless false x.1 302) else add_name s i x.0 m).blocks.noted ≡ []) again e))

formals_plain :
    (i : ℕ) (reference : Bool) (t : Option TypeId) (h : Heading) (xs : List (Text × Place)) → i < length h.state.blocks.scopes
    → (h.state.blocks.noted ≡ [] → t ≡ None → ⊥) → Reached h.state → Headed i h (formals_heading i reference t h xs)
formals_plain i reference t h [] below is r = same_headed r
formals_plain i reference t h (x ∷ xs) below is r =
    let step = declare_plain h.state i x (variable_meaning reference t) below (variable_known h.state.blocks i reference t is) r in
    let a = step.count in
    let k = formal_heading i reference t h x in
    let f : Formal = record { t = t; reference = reference } in
    let one_more : Headed i h k =
    record {
      steps = step;
      whole = λ w q. whole_and h.whole (is_some (meaning_in (scope_at h.state.blocks.scopes i) x.0)) (w (step.clean q))
          (fresh_declared h.state i x (variable_meaning reference t) q);
      typed = λ q w. typed_more h.formals f w (some_type t (is (step.clean q)));
      names = λ q w. one_formal (scope_at h.state.blocks.scopes i) (scope_at k.state.blocks.scopes i) h.formals x.0 f
          (declared_last h.state i x (variable_meaning reference t) below q) w;
    } in
    headed_then one_more
    (formals_plain i reference t k xs (omega (arith, below, a)) (λ q e. is (step.clean q) e) step.reached)
  where
    whole_and : (a b : Bool) → a ≡ true → b ≡ false → (a && not b) ≡ true
    whole_and true false p q = refl
    whole_and true true p q = absurd (cc)
    whole_and false b p q = absurd (cc)

group_viewed_plain :
    (i : ℕ) (view : List Level) (h : Heading) (g : GroupTree) → i < length h.state.blocks.scopes → Reached h.state
    → Headed i h (group_viewed i view h g)
group_viewed_plain i view h g below r =
    let t = group_type h.state view g in
    let faults = broken_group h.state view g in
    let first = note_plain h.state faults r in
    let a = first.count in
    let k : Heading = record { state = note h.state faults; formals = h.formals; whole = h.whole && is_some t } in
    let one_more : Headed i h k =
    record {
      steps = first;
      whole = λ w q. both_true h.whole (is_some t) (w (first.clean q)) (some_type t (λ e. group_known h.state view g r q e));
      typed = λ q w. w;
      names = λ q w. subst (λ (l : List Names). AreFormals (scope_at l i) h.formals) (sym (note_scopes h.state faults)) w;
    } in
    headed_then one_more (formals_plain i g.reference t k g.names (omega (arith, below, a)) (λ q e. group_known h.state view g r q e) first.reached)

pub groups_plain :
    (i : ℕ) (outer : List Level) (h : Heading) (gs : List GroupTree) → i < length h.state.blocks.scopes → Reached h.state
    → Headed i h (groups_heading i outer h gs)
groups_plain i outer h [] below r = same_headed r
groups_plain i outer h (g ∷ gs) below r =
    let step = group_viewed_plain i (here h.state.blocks.scopes i outer) h g below r in
    let a = step.steps.count in
    headed_then step (groups_plain i outer (group_heading i outer h g) gs (omega (arith, below, a)) step.steps.reached)

pub accept_groups_plain :
    (i : ℕ) (view : List Level) (h : Heading) (gs : List GroupTree) → i < length h.state.blocks.scopes → Reached h.state
    → Headed i h (accept_groups i view h gs)
accept_groups_plain i view h [] below r = same_headed r
accept_groups_plain i view h (g ∷ gs) below r =
    let step = group_viewed_plain i view h g below r in
    let a = step.steps.count in
    headed_then step (accept_groups_plain i view (group_viewed i view h g) gs (omega (arith, below, a)) step.steps.reached)

-- ## Statements

pub accepted_plain : (s : State) (view : List Level) (x : Text) (gs : List GroupTree) (p : Place) → Plain s (accepted s view x gs p)
accepted_plain s view x gs p =
    let own = length s.blocks.scopes in
    let h = accept_heading (open_scope s) own view gs in
    let more = length-append s.blocks.scopes ([] ∷ []) in
    note_plain h.state (accept_rule h.state.blocks (look s.blocks.scopes view x) h.formals p)
    ⊳ (λ r. (accept_groups_plain own view (record { state = open_scope s; formals = []; whole = true }) gs (omega (arith, more)) r).steps) ⊳ open_plain s

label_plain : (c : Option Ordinal) (p : Place) (r : Labels) → Plain r.state (label_noted c p r).state
label_plain None p r = same
label_plain (Some c) p r = by (list_any (same_ordinal c) r.seen)
  where
    by : (b : Bool) → Plain r.state (if b then record r { state = note r.state (unless false p 320) } else record r { seen = r.seen ++ c ∷ [] }).state
    by true = note_plain r.state (unless false p 320)
    by false = same

pub labels_plain : (view : List Level) (r : Labels) (cs : List Constant) → Plain r.state (labels_noted view r cs).state
labels_plain view r [] = same
labels_plain view r (c ∷ cs) =
    let x = constant_value r.state.blocks.scopes view c in
    labels_plain view (label_noted x (constant_place c) r) cs ⊳ label_plain x (constant_place c) r

mutual
  pub stmt_plain : (s : State) (view : List Level) (t : StmtTree) → Plain s (stmt_state s view t)
  stmt_plain s view empty = same
  stmt_plain s view (null p) = same
  stmt_plain s view (block b p) = body_plain s view b
  stmt_plain s view (if_then e t p) = stmt_plain s view t
  stmt_plain s view (if_then_else e t u p) = stmt_plain (stmt_state s view t) view u ⊳ stmt_plain s view t
  stmt_plain s view (case_of e arms last p) = arms_plain view (record { state = s; seen = [] }) arms
  stmt_plain s view (while_do e t p) = stmt_plain s view t
  stmt_plain s view (repeat_until ts e p) = stmts_plain s view ts
  stmt_plain s view (repeat_forever ts p) = stmts_plain s view ts
  stmt_plain s view (for_do x from down to t p q) = stmt_plain s view t
  stmt_plain s view (cobegin ts last p) = stmts_plain s view ts
  stmt_plain s view (accepting a p) = accept_plain s view a
  stmt_plain s view (requeue x args p) = same
  stmt_plain s view (select pri alts p q) = alts_plain s view alts
  stmt_plain s view (select_else pri alts ts p q r) = stmts_plain (alts_state s view alts) view ts ⊳ alts_plain s view alts
  stmt_plain s view (assign d e p q) = same
  stmt_plain s view (send d e p q) = same
  stmt_plain s view (receive d v p q) = same
  stmt_plain s view (call d args p) = same

  pub stmts_plain : (s : State) (view : List Level) (ts : StmtTrees) → Plain s (stmts_state s view ts)
  stmts_plain s view no_stmts = same
  stmts_plain s view (more_stmts t ts) = stmts_plain (stmt_state s view t) view ts ⊳ stmt_plain s view t

  pub body_plain : (s : State) (view : List Level) (b : BodyTree) → Plain s (body_state s view b)
  body_plain s view (body ts from to) = stmts_plain s view ts

  pub arms_plain : (view : List Level) (r : Labels) (arms : ArmTrees) → Plain r.state (arms_state view r arms).state
  arms_plain view r no_arms = same
  arms_plain view r (more_arms a arms) = arms_plain view (arm_state view r a) arms ⊳ arm_plain view r a

  pub arm_plain : (view : List Level) (r : Labels) (a : ArmTree) → Plain r.state (arm_state view r a).state
  arm_plain view r (arm cs t) = stmt_plain (labels_noted view r cs).state view t ⊳ labels_plain view r cs

  accept_plain : (s : State) (view : List Level) (a : AcceptTree) → Plain s (accept_state s view a)
  accept_plain s view (accept x gs p) = accepted_plain s view x gs p
  accept_plain s view (accept_do x gs t p) =
      let opened = accepted s view x gs p in
      stmt_plain opened (here opened.blocks.scopes (length s.blocks.scopes) view) t ⊳ accepted_plain s view x gs p

  pub alts_plain : (s : State) (view : List Level) (alts : AltTrees) → Plain s (alts_state s view alts)
  alts_plain s view no_alts = same
  alts_plain s view (more_alts a alts) = alts_plain (alt_state s view a) view alts ⊳ alt_plain s view a

  pub alt_plain : (s : State) (view : List Level) (a : AltTree) → Plain s (alt_state s view a)
  alt_plain s view (alt spread guard c ts) = stmts_plain (comm_state s view c) view ts ⊳ comm_plain s view c

  pub comm_plain : (s : State) (view : List Level) (c : CommTree) → Plain s (comm_state s view c)
  comm_plain s view (comm_accept a p) = accept_plain s view a
  comm_plain s view (comm_send d e p) = same
  comm_plain s view (comm_receive d v p) = same
  comm_plain s view (timeout e p) = same
  comm_plain s view (terminate p) = same

pub init_plain : (s : State) (view : List Level) (b : Option BodyTree) → Plain s (init_state s view b)
init_plain s view None = same
init_plain s view (Some b) = body_plain s view b
