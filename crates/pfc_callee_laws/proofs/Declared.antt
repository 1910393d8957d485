-- Declarations of constants, types, variables, parameters and entries, by what their names stand for.
use Rattle.std.proofs.Common.{◌≡◌, ℕ, zero, suc, ◌+◌, ◌<◌, ◌≤◌, ◌==◌, ◌&&◌, ◌||◌, ◌⊎◌, inl, inr, Bool, true, false, not, if◌then◌else◌, nat_lt, is_some, List}
use Rattle.std.proofs.Common.{[], ◌∷◌, ◌++◌, length, length-append, drop, get_or, get_or-set_same, Option, Some, None, refl, sym, ap, ◌∙◌, subst, arith}
use Rattle.std.specs.List.{All}
use Rattle.std.proofs.Math.Seq.{get_or-append_seam}
use Rattle.std.proofs.lemmas.List.Elements.{All-nil}
use Rattle.pfc_base.specs.declared.places.Place.{Place}
use Rattle.pfc_tree.specs.Symbols.{Text}
use Rattle.pfc_tree.specs.declared.tree.ConstItem.{ConstItem}
use Rattle.pfc_tree.specs.trees.Types.{VarTrees, TypeItemTree, GroupTree, named, var_item, no_vars, more_vars}
use Rattle.pfc_tree.specs.trees.Parts.{EntryTree}
use Rattle.pfc_types.specs.Faults.{unless}
use Rattle.pfc_types.specs.Types.{Forms, held_of, is_object, most_processes}
use Rattle.pfc_types.specs.Scopes.{Names, Level, scope_at, here, meaning_in, look}
use Rattle.pfc_types.specs.Blocks.{State, no_sub, no_process, note, declare, add_name, add_form, add_entry, open_scope, set_population}
use Rattle.pfc_types.specs.declared.types.TypeId.{TypeId}
use Rattle.pfc_types.specs.declared.types.TypeForm.TheVariants.{Process as AProcess}
use Rattle.pfc_types.specs.declared.heads.SubHead.{SubHead}
use Rattle.pfc_types.specs.declared.heads.ProcessHead.{ProcessHead}
use Rattle.pfc_types.specs.declared.scope.Meaning.{Meaning}
use Rattle.pfc_types.specs.declared.scope.Meaning.TheVariants.{Named, Process, Faulty}
use Rattle.pfc_types.specs.rules.Kinds.{where_so, type_name_rules, named_type, type_meaning, variable_meaning}
use Rattle.pfc_types.specs.rules.Constants.{Ordinal, constant_value, broken_constant, made, type_place}
use Rattle.pfc_types.specs.rules.Declarations.{constant_meaning, const_state, consts_state, type_state, types_state, Owner, elsewhere, shared_fits}
use Rattle.pfc_types.specs.rules.Declarations.{condition_fits, owner_rules, owned_type, passes_most, populated, brought, var_name_state, var_names_state}
use Rattle.pfc_types.specs.rules.Declarations.{var_state, vars_state, passed_fits, parameter_fits, parameter_type, group_type, broken_group, Heading}
use Rattle.pfc_types.specs.rules.Declarations.{formal_heading, formals_heading, group_viewed, group_heading, groups_heading, accept_groups, heading}
use Rattle.pfc_types.specs.rules.Declarations.{accept_heading, EntryHeading, entry_formal, entry_formals, entry_group, entry_groups, entry_meaning, entry_state}
use Rattle.pfc_types.specs.rules.Declarations.{entries_state, process_named}
use Rattle.pfc_types.proofs.Clean.{and-left}
use Rattle.pfc_types.proofs.Prefixes.{begins_push}
use Rattle.pfc_types.proofs.Walking.{note_kept}
use Rattle.pfc_types.proofs.WalkDeclarations.{made_kept, consts_walked, types_walked, vars_walked, entries_walked}
use Rattle.pfc_semantics.specs.Programs.{Block}
use Rattle.pfc_type_laws.proofs.WalkTypes.{note_forms}
use Rattle.pfc_main_names.proofs.Placed.{HasPlace, made_placed}
use Rattle.pfc_main_names.proofs.Owned.{declare_forms, declare_count, populated_count, names_forms}
use Rattle.pfc_callee_laws.proofs.Heads.{Keeps, note_keeps, made_keeps}
use Rattle.pfc_callee_laws.proofs.Fine.{IsOwn, IsFine, AreOwn, AreBelow, all_below, Fine, forms_fine, moved, note_fine, open_fine, declare_fine, around}

declare_keeps : (s : State) (i : ℕ) (x : Text × Place) (m : Meaning) → Keeps s (declare s i x m)
declare_keeps s i x m = by (is_some (meaning_in (scope_at s.blocks.scopes i) x.0))
  where
    by : (r : Bool) → Keeps s (if r then note s (unless false x.1 302) else add_name s i x.0 m)
    by true = record { subs = refl; processes = refl }
    by false = record { subs = refl; processes = refl }

-- one name more in the scope, or none
declare_few : (s : State) (i : ℕ) (x : Text × Place) (m : Meaning) → i < length s.blocks.scopes
    → length (scope_at (declare s i x m).blocks.scopes i) ≤ length (scope_at s.blocks.scopes i) + 1
declare_few s i x m below = by (is_some (meaning_in (scope_at s.blocks.scopes i) x.0))
  where
    more : Names
    more = scope_at s.blocks.scopes i ++ (x.0, m) ∷ []

    by : (r : Bool) → length (scope_at (if r then note s (unless false x.1 302) else add_name s i x.0 m).blocks.scopes i)
        ≤ length (scope_at s.blocks.scopes i) + 1
    by true = omega arith
    by false =
        let one = ap length (get_or-set_same s.blocks.scopes i more [] below) in
        let size = length-append (scope_at s.blocks.scopes i) ((x.0, m) ∷ []) in
        omega (arith, one, size)

drop_all : {X : Type 0} (P : X → Type 0) (n : ℕ) (xs : List X) → length xs ≤ n → All P (drop n xs)
drop_all P zero [] few = All-nil P
drop_all P zero (x ∷ xs) few = absurd (omega (arith, few))
drop_all P (suc n) [] few = All-nil P
drop_all P (suc n) (x ∷ xs) few = drop_all P n xs (omega (arith, few))

-- what holds neither a semaphore, a channel or a process, nor a condition, is no object
no_object : (p q r : Bool) → not (p || r) ≡ true → not q ≡ true → ((p || q) || r) ≡ false
no_object false false false a b = refl
no_object true q r a b = absurd (cc)
no_object false true r a b = absurd (cc)
no_object false false true a b = absurd (cc)

not_false : (p : Bool) → not p ≡ true → p ≡ false
not_false true h = absurd (cc)
not_false false h = refl

module _ (mains : ℕ → Bool) (block : ℕ → Block) where
  abbrev pub F : State → Type 0
  F s = Fine mains block s

  -- a variable or a parameter of this type may be declared in the scope i
  abbrev pub IsPart : Forms → ℕ → Bool → Option TypeId → Type 0
  IsPart forms i reference None = Unit {0}
  IsPart forms i reference (Some t) =
      (t.place < length forms) × (mains i ≡ false → reference ≡ false → is_object forms t ≡ false)
      × (mains i ≡ false → (held_of forms t).conditions ≡ false)

  variable_fine : (forms : Forms) (subs : List SubHead) (i : ℕ) (reference : Bool) (t : Option TypeId) → IsPart forms i reference t
      → IsFine mains block forms subs i (variable_meaning reference t)
  variable_fine forms subs i reference None h = tt
  variable_fine forms subs i reference (Some t) h = h

  value_own : (t : Option TypeId) → IsOwn (variable_meaning false t)
  value_own None = tt
  value_own (Some t) = refl

  part_same : (forms later : Forms) (i : ℕ) (reference : Bool) (t : Option TypeId) → later ≡ forms → IsPart forms i reference t → IsPart later i reference t
  part_same forms later i reference t e h = subst (λ (f : Forms). IsPart f i reference t) (sym e) h

  -- ## Constants and types

  constant_fine : (forms : Forms) (subs : List SubHead) (i : ℕ) (c : Option Ordinal) → IsFine mains block forms subs i (constant_meaning c)
  constant_fine forms subs i None = tt
  constant_fine forms subs i (Some c) = tt

  constant_own : (c : Option Ordinal) → IsOwn (constant_meaning c)
  constant_own None = tt
  constant_own (Some c) = tt

  pub consts_fine : (s : State) (i : ℕ) (outer : List Level) (cs : List ConstItem) → i < length s.blocks.scopes → F s → F (consts_state s i outer cs)
  consts_fine s i outer [] below h = h
  consts_fine s i outer (c ∷ cs) below h =
      let value = constant_value s.blocks.scopes (here s.blocks.scopes i outer) c.value in
      let fault = broken_constant s.blocks.scopes (here s.blocks.scopes i outer) c.value in
      let noted = note s fault in
      let size : length noted.blocks.scopes ≡ length s.blocks.scopes = ap length (note_kept s fault).scopes in
      let count = (consts_walked s i outer (c ∷ []) below).count in
      consts_fine (const_state s i outer c) i outer cs (omega (arith, count, below))
      (declare_fine mains block noted i (c.name, c.place) (constant_meaning value) (omega (arith, below, size))
      (constant_fine noted.forms noted.blocks.subs i value) (inl (constant_own value)) (note_fine mains block s fault h))

  type_fine : (forms : Forms) (subs : List SubHead) (i : ℕ) (t : Option TypeId) → HasPlace forms t → IsFine mains block forms subs i (type_meaning t)
  type_fine forms subs i None h = tt
  type_fine forms subs i (Some t) h = h

  type_own : (t : Option TypeId) → IsOwn (type_meaning t)
  type_own None = tt
  type_own (Some t) = tt

  pub types_fine : (s : State) (i : ℕ) (outer : List Level) (ds : List TypeItemTree) → i < length s.blocks.scopes → F s → F (types_state s i outer ds)
  types_fine s i outer [] below h = h
  types_fine s i outer (d ∷ ds) below h =
      let view = here s.blocks.scopes i outer in
      let m = made false s view d.form in
      let kept = made_kept false s view d.form in
      let size : length m.state.blocks.scopes ≡ length s.blocks.scopes = ap length kept.scopes in
      let count = (types_walked s i outer (d ∷ []) below).count in
      types_fine (type_state s i outer d) i outer ds (omega (arith, count, below))
      (declare_fine mains block m.state i (d.name, d.place) (type_meaning m.t) (omega (arith, below, size))
      (type_fine m.state.forms m.state.blocks.subs i m.t (made_placed false s view d.form h.six (around mains block s h view))) (inl (type_own m.t))
      (moved mains block kept (made_keeps false s view d.form) h))

  -- ## Variables

  -- objects are declared in main's scopes alone
  abbrev pub OwnerFits : Owner → ℕ → Type 0
  OwnerFits owner i = (mains i ≡ true) ⊎ (owner ≡ elsewhere)

  owned_part : (owner : Owner) (forms : Forms) (i : ℕ) (t : Option TypeId) → OwnerFits owner i → HasPlace forms t
      → IsPart forms i false (owned_type owner forms t)
  owned_part owner forms i None fits place = tt
  owned_part owner forms i (Some t) fits place = by (shared_fits owner forms t) (condition_fits owner forms t) refl refl
    where
      free : OwnerFits owner i → shared_fits owner forms t ≡ true → condition_fits owner forms t ≡ true → mains i ≡ false → is_object forms t ≡ false
      free (inl main) p q apart = (let both : true ≡ false = sym main ∙ apart in absurd (cc))
      free (inr other) p q apart =
          no_object (held_of forms t).shared (held_of forms t).conditions (nat_lt 0 (held_of forms t).processes)
          (subst (λ (o : Owner). shared_fits o forms t ≡ true) other p) (subst (λ (o : Owner). condition_fits o forms t ≡ true) other q)

      unheld : OwnerFits owner i → condition_fits owner forms t ≡ true → mains i ≡ false → (held_of forms t).conditions ≡ false
      unheld (inl main) q apart = (let both : true ≡ false = sym main ∙ apart in absurd (cc))
      unheld (inr other) q apart = not_false (held_of forms t).conditions (subst (λ (o : Owner). condition_fits o forms t ≡ true) other q)

      by : (r q : Bool) → shared_fits owner forms t ≡ r → condition_fits owner forms t ≡ q → IsPart forms i false (where_so (r && q) t)
      by true true e f = (place, λ apart value. free fits e f apart, λ apart. unheld fits f apart)
      by true false e f = tt
      by false q e f = tt

  pub populated_fine : (s : State) (i more : ℕ) (x : Text × Place) (m : Meaning) → i < length s.blocks.scopes → IsFine mains block s.forms s.blocks.subs i m
      → IsOwn m → F s → F (populated s i more x m)
  populated_fine s i more x m below is own h = by (passes_most s.blocks.population more)
    where
      counted : State
      counted = set_population s (most_processes (s.blocks.population + more))

      by : (r : Bool) → F (if r then declare (note counted (unless false x.1 424)) i x Faulty else declare counted i x m)
      by true = declare_fine mains block (note counted (unless false x.1 424)) i x Faulty below tt (inl tt) h
      by false = declare_fine mains block counted i x m below is (inl own) h

  var_name_fine : (s : State) (i : ℕ) (t : Option TypeId) (x : Text × Place) → i < length s.blocks.scopes → IsPart s.forms i false t → F s
      → F (var_name_state s i t x)
  var_name_fine s i t x below part h = by (is_some (meaning_in (scope_at s.blocks.scopes i) x.0))
    where
      by : (r : Bool) → F (if r then declare s i x Faulty else populated s i (brought s.forms t) x (variable_meaning false t))
      by true = declare_fine mains block s i x Faulty below tt (inl tt) h
      by false =
          populated_fine s i (brought s.forms t) x (variable_meaning false t) below (variable_fine s.forms s.blocks.subs i false t part) (value_own t) h

  var_name_count : (s : State) (i : ℕ) (t : Option TypeId) (x : Text × Place) → length (var_name_state s i t x).blocks.scopes ≡ length s.blocks.scopes
  var_name_count s i t x = by (is_some (meaning_in (scope_at s.blocks.scopes i) x.0))
    where
      by : (r : Bool)
          → length (if r then declare s i x Faulty else populated s i (brought s.forms t) x (variable_meaning false t)).blocks.scopes ≡ length s.blocks.scopes
      by true = declare_count s i x Faulty
      by false = populated_count s i (brought s.forms t) x (variable_meaning false t)

  var_names_fine : (s : State) (i : ℕ) (t : Option TypeId) (xs : List (Text × Place)) → i < length s.blocks.scopes → IsPart s.forms i false t → F s
      → F (var_names_state s i t xs)
  var_names_fine s i t [] below part h = h
  var_names_fine s i t (x ∷ xs) below part h =
      let size = var_name_count s i t x in
      var_names_fine (var_name_state s i t x) i t xs (omega (arith, below, size))
      (part_same s.forms (var_name_state s i t x).forms i false t (names_forms s i t (x ∷ [])) part) (var_name_fine s i t x below part h)

  pub vars_fine : (owner : Owner) (s : State) (i : ℕ) (outer : List Level) (vs : VarTrees) → i < length s.blocks.scopes → OwnerFits owner i → F s
      → F (vars_state owner s i outer vs)
  vars_fine owner s i outer no_vars below fits h = h
  vars_fine owner s i outer (more_vars (var_item xs t) vs) below fits h =
      let view = here s.blocks.scopes i outer in
      let m = made false s view t in
      let rules = owner_rules owner m.state.forms m.t (type_place t) in
      let noted = note m.state rules in
      let kept = made_kept false s view t in
      let size : length noted.blocks.scopes ≡ length s.blocks.scopes = ap length (note_kept m.state rules).scopes ∙ ap length kept.scopes in
      let count = (vars_walked owner s i outer (more_vars (var_item xs t) no_vars) below).count in
      let part = owned_part owner m.state.forms i m.t fits (made_placed false s view t h.six (around mains block s h view)) in
      vars_fine owner (var_state owner s i outer (var_item xs t)) i outer vs (omega (arith, count, below)) fits
      (var_names_fine noted i (owned_type owner m.state.forms m.t) xs (omega (arith, below, size))
      (part_same m.state.forms noted.forms i false (owned_type owner m.state.forms m.t) (note_forms m.state rules) part)
      (note_fine mains block m.state rules (moved mains block kept (made_keeps false s view t) h)))

  -- ## Headings

  low_kept : (i : ℕ) {s t : State} → Keeps s t → AreBelow mains block i s → AreBelow mains block i t
  low_kept i {s} {t} k h =
      record {
        subs = subst (λ (l : List SubHead). (n : ℕ) → n < length l → (get_or l n no_sub).scope < i) (sym k.subs) h.subs;
        processes = subst (λ (l : List ProcessHead). (n : ℕ) → n < length l → (get_or l n no_process).scope < i) (sym k.processes) h.processes;
      }

  -- A heading whose parameters stand in the scope i, that of no heading so far. There are no more names there than parameters.
  pub record IsBegun (i : ℕ) (h : Heading) : Type 0 where
    pub there : i < length h.state.blocks.scopes
    pub fine : F h.state
    pub low : AreBelow mains block i h.state
    pub few : length (scope_at h.state.blocks.scopes i) ≤ length h.formals

  formals_begun : (i : ℕ) (reference : Bool) (t : Option TypeId) (h : Heading) (xs : List (Text × Place)) → IsPart h.state.forms i reference t → IsBegun i h
      → IsBegun i (formals_heading i reference t h xs)
  formals_begun i reference t h [] part b = b
  formals_begun i reference t h (x ∷ xs) part b =
      let m = variable_meaning reference t in
      let size = declare_count h.state i x m in
      let few = declare_few h.state i x m b.there in
      let more = length-append h.formals (record { t = t; reference = reference } ∷ []) in
      let there = b.there in
      let before = b.few in
      formals_begun i reference t (formal_heading i reference t h x) xs
      (part_same h.state.forms (declare h.state i x m).forms i reference t (declare_forms h.state i x m) part)
      (record {
        there = omega (arith, there, size);
        fine = declare_fine mains block h.state i x m b.there (variable_fine h.state.forms h.state.blocks.subs i reference t part) (inr b.low) b.fine;
        low = low_kept i (declare_keeps h.state i x m) b.low;
        few = omega (arith, few, more, before);
      })

  parameter_part : (reference : Bool) (forms : Forms) (i : ℕ) (t : Option TypeId) → HasPlace forms t
      → IsPart forms i reference (parameter_type reference forms t)
  parameter_part reference forms i None place = tt
  parameter_part reference forms i (Some t) place = by (passed_fits reference forms t) (parameter_fits forms t) refl refl
    where
      value : (r : Bool) → passed_fits r forms t ≡ true → r ≡ false → is_object forms t ≡ false
      value true h e = absurd (cc)
      value false h e = not_false (is_object forms t) h

      by : (r q : Bool) → passed_fits reference forms t ≡ r → parameter_fits forms t ≡ q → IsPart forms i reference (where_so (r && q) t)
      by true true e f = (
        place,
        λ apart plain. value reference e plain,
        λ apart. not_false (held_of forms t).conditions (and-left (not (held_of forms t).conditions) ((held_of forms t).processes == 0) f),
      )
      by true false e f = tt
      by false q e f = tt

  -- a group of parameters
  group_begun : (i : ℕ) (view : List Level) (h : Heading) (g : GroupTree) → IsBegun i h → IsBegun i (group_viewed i view h g)
  group_begun i view h g b =
      let t = group_type h.state view g in
      let found = look h.state.blocks.scopes view g.form.0 in
      let rule = type_name_rules false found g.form.1 in
      let place : HasPlace h.state.forms (named_type false found) =
      subst (λ (f : Forms). HasPlace f (named_type false found)) (note_forms h.state rule)
      (made_placed false h.state view (named g.form.0 g.form.1) b.fine.six (around mains block h.state b.fine view)) in
      let fault = broken_group h.state view g in
      let noted = note h.state fault in
      let same : noted.blocks.scopes ≡ h.state.blocks.scopes = (note_kept h.state fault).scopes in
      let size = ap length same in
      let names = ap (λ (l : List Names). length (scope_at l i)) same in
      let there = b.there in
      let few = b.few in
      formals_begun i g.reference t (record { state = noted; formals = h.formals; whole = h.whole && is_some t }) g.names
      (part_same h.state.forms noted.forms i g.reference t (note_forms h.state fault)
      (parameter_part g.reference h.state.forms i (named_type false found) place))
      (record {
        there = omega (arith, there, size);
        fine = note_fine mains block h.state fault b.fine;
        low = low_kept i (note_keeps h.state fault) b.low;
        few = omega (arith, few, names);
      })

  groups_begun : (i : ℕ) (outer : List Level) (h : Heading) (gs : List GroupTree) → IsBegun i h → IsBegun i (groups_heading i outer h gs)
  groups_begun i outer h [] b = b
  groups_begun i outer h (g ∷ gs) b = groups_begun i outer (group_heading i outer h g) gs (group_begun i (here h.state.blocks.scopes i outer) h g b)

  accept_groups_begun : (i : ℕ) (view : List Level) (h : Heading) (gs : List GroupTree) → IsBegun i h → IsBegun i (accept_groups i view h gs)
  accept_groups_begun i view h [] b = b
  accept_groups_begun i view h (g ∷ gs) b = accept_groups_begun i view (group_viewed i view h g) gs (group_begun i view h g b)

  -- in a scope that is opened for it
  opened_begun : (s : State) → F s → IsBegun (length s.blocks.scopes) (record { state = open_scope s; formals = []; whole = true })
  opened_begun s h =
      let more = length-append s.blocks.scopes ([] ∷ []) in
      let low = all_below mains block s h in
      let none = ap length (get_or-append_seam s.blocks.scopes [] [] []) in
      record {
        there = omega (arith, more);
        fine = open_fine mains block s h;
        low = record { subs = low.subs; processes = low.processes };
        few = omega (arith, none);
      }

  pub heading_begun : (s : State) (view : List Level) (gs : List GroupTree) → F s
      → IsBegun (length s.blocks.scopes) (heading (open_scope s) (length s.blocks.scopes) view gs)
  heading_begun s view gs h =
      groups_begun (length s.blocks.scopes) view (record { state = open_scope s; formals = []; whole = true }) gs (opened_begun s h)

  pub accept_begun : (s : State) (view : List Level) (gs : List GroupTree) → F s
      → IsBegun (length s.blocks.scopes) (accept_heading (open_scope s) (length s.blocks.scopes) view gs)
  accept_begun s view gs h =
      accept_groups_begun (length s.blocks.scopes) view (record { state = open_scope s; formals = []; whole = true }) gs (opened_begun s h)

  -- behind its heading a block has no name but its parameters
  pub parameters_alone : (i : ℕ) (h : Heading) (scopes : List Names) → scopes ≡ h.state.blocks.scopes → IsBegun i h
      → AreOwn mains block scopes (length h.formals) i
  parameters_alone i h scopes e b =
      drop_all (λ x. IsOwn x.1) (length h.formals) (scope_at scopes i)
      (let same = ap (λ (l : List Names). length (scope_at l i)) e in let few = b.few in omega (arith, same, few))

  -- ## Entries

  entry_formals_fine : (reference : Bool) (t : Option TypeId) (h : EntryHeading) (xs : List (Text × Place)) → F h.state
      → F (entry_formals reference t h xs).state
  entry_formals_fine reference t h [] f = f
  entry_formals_fine reference t h (x ∷ xs) f =
      entry_formals_fine reference t (entry_formal reference t h x) xs
      (note_fine mains block h.state (unless (not (is_some (meaning_in h.own x.0))) x.1 302) f)

  entry_groups_fine : (view : List Level) (h : EntryHeading) (gs : List GroupTree) → F h.state → F (entry_groups view h gs).state
  entry_groups_fine view h [] f = f
  entry_groups_fine view h (g ∷ gs) f =
      entry_groups_fine view (entry_group view h g) gs
      (entry_formals_fine g.reference (group_type h.state view g) _ g.names (note_fine mains block h.state (broken_group h.state view g) f))

  entry_groups_size : (view : List Level) (h : EntryHeading) (gs : List GroupTree) → (entry_groups view h gs).state.blocks.scopes ≡ h.state.blocks.scopes
  entry_groups_size view h [] = refl
  entry_groups_size view h (g ∷ gs) =
      entry_groups_size view (entry_group view h g) gs
      ∙ (formals_size g.reference (group_type h.state view g) _ g.names ∙ (note_kept h.state (broken_group h.state view g)).scopes)
    where
      formals_size : (reference : Bool) (t : Option TypeId) (k : EntryHeading) (xs : List (Text × Place))
          → (entry_formals reference t k xs).state.blocks.scopes ≡ k.state.blocks.scopes
      formals_size reference t k [] = refl
      formals_size reference t k (x ∷ xs) =
          formals_size reference t (entry_formal reference t k x) xs ∙ (note_kept k.state (unless (not (is_some (meaning_in k.own x.0))) x.1 302)).scopes

  entry_fine : (forms : Forms) (subs : List SubHead) (i : ℕ) (whole : Bool) (k : ℕ) → IsFine mains block forms subs i (entry_meaning whole k)
  entry_fine forms subs i true k = tt
  entry_fine forms subs i false k = tt

  entry_own : (whole : Bool) (k : ℕ) → IsOwn (entry_meaning whole k)
  entry_own true k = tt
  entry_own false k = tt

  pub entries_fine : (s : State) (i : ℕ) (outer : List Level) (k : ℕ) (es : List EntryTree) → i < length s.blocks.scopes → F s
      → F (entries_state s i outer k es)
  entries_fine s i outer k [] below f = f
  entries_fine s i outer k (e ∷ es) below f =
      let view = here s.blocks.scopes i outer in
      let begin : EntryHeading = record { state = s; own = []; formals = []; whole = true } in
      let h = entry_groups view begin e.formals in
      let size = ap length (entry_groups_size view begin e.formals) in
      let count = (entries_walked s i outer k (e ∷ []) below).count in
      entries_fine (entry_state s i outer k e) i outer (k + 1) es (omega (arith, count, below))
      (declare_fine mains block (add_entry h.state h.formals) i (e.name, e.place) (entry_meaning h.whole k) (omega (arith, size, below))
      (entry_fine h.state.forms h.state.blocks.subs i h.whole k) (inl (entry_own h.whole k)) (entry_groups_fine view begin e.formals f))

  -- ## Processes

  -- the name of a process is declared in the program
  pub process_named_fine : (s : State) (i : ℕ) (many whole : Bool) (x : Text × Place) (n : ℕ) → i < length s.blocks.scopes → mains i ≡ true → F s
      → F (process_named s i many whole x n)
  process_named_fine s i many false x n below main f = declare_fine mains block s i x Faulty below tt (inl tt) f
  process_named_fine s i true true x n below main f =
      declare_fine mains block (add_form s (AProcess n)) i x (Named (record { place = length s.forms })) below
      (let more = length-append s.forms (Some (AProcess n) ∷ []) in omega (arith, more)) (inl tt)
      (forms_fine mains block s.forms (s.forms ++ Some (AProcess n) ∷ []) s.blocks.scopes s.blocks.subs s.blocks.processes
      (begins_push s.forms (Some (AProcess n) ∷ [])) f)
  process_named_fine s i false true x n below main f = by (is_some (meaning_in (scope_at s.blocks.scopes i) x.0))
    where
      by : (r : Bool) → F (if r then declare s i x Faulty else populated s i 1 x (Process n))
      by true = declare_fine mains block s i x Faulty below tt (inl tt) f
      by false = populated_fine s i 1 x (Process n) below main tt f
