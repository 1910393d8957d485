-- Declarations that name no sub and no module: each names what may be named, and adds no heading of a sub.
use Rattle.std.proofs.Common.{◌≡◌, ℕ, ◌+◌, Bool, true, false, not, if◌then◌else◌, is_some, List, [], ◌∷◌, ◌++◌, length, Option, Some, None, refl, sym, ◌∙◌}
use Rattle.std.proofs.Common.{subst}
use Rattle.std.specs.List.{AllByRecursion, list_any}
use Rattle.pfc_base.specs.declared.places.Place.{Place}
use Rattle.pfc_tree.specs.Symbols.{Text}
use Rattle.pfc_tree.specs.declared.tree.Constant.{Constant}
use Rattle.pfc_tree.specs.declared.tree.ConstItem.{ConstItem}
use Rattle.pfc_tree.specs.trees.Types.{TypeTree, VarTrees, TypeItemTree, GroupTree, var_item, no_vars, more_vars}
use Rattle.pfc_tree.specs.trees.Stmts.{StmtTree, StmtTrees, BodyTree, ArmTree, ArmTrees, AcceptTree, AltTree, AltTrees, CommTree, empty, null, block, if_then}
use Rattle.pfc_tree.specs.trees.Stmts.{if_then_else, case_of, while_do, repeat_until, repeat_forever, for_do, cobegin, accepting, requeue, select, select_else}
use Rattle.pfc_tree.specs.trees.Stmts.{assign, send, receive, call, no_stmts, more_stmts, body, arm, no_arms, more_arms, accept, accept_do, alt, no_alts}
use Rattle.pfc_tree.specs.trees.Stmts.{more_alts, comm_accept, comm_send, comm_receive, timeout, terminate}
use Rattle.pfc_tree.specs.trees.Parts.{EntryTree}
use Rattle.pfc_types.specs.Faults.{Faults, unless}
use Rattle.pfc_types.specs.Types.{most_processes}
use Rattle.pfc_types.specs.Scopes.{Names, Level, scope_at, here, meaning_in, look}
use Rattle.pfc_types.specs.Blocks.{State, note, declare, add_form, add_name, add_entry, set_population, open_scope}
use Rattle.pfc_types.specs.declared.types.TypeId.{TypeId}
use Rattle.pfc_types.specs.declared.types.TypeForm.TheVariants.{Process as AProcess}
use Rattle.pfc_types.specs.declared.scope.Meaning.{Meaning}
use Rattle.pfc_types.specs.declared.scope.Meaning.TheVariants.{Named, Process, Faulty}
use Rattle.pfc_types.specs.rules.Kinds.{type_meaning, variable_meaning}
use Rattle.pfc_types.specs.rules.Constants.{Ordinal, same_ordinal, constant_place, constant_value, broken_constant, made, type_place}
use Rattle.pfc_types.specs.rules.Declarations.{constant_meaning, const_state, consts_state, type_state, types_state, Owner, owner_rules, owned_type}
use Rattle.pfc_types.specs.rules.Declarations.{passes_most, populated, brought, var_name_state, var_names_state, var_state, vars_state, group_type}
use Rattle.pfc_types.specs.rules.Declarations.{broken_group}
use Rattle.pfc_types.specs.rules.Declarations.{Heading, formal_heading, formals_heading, group_viewed, group_heading, groups_heading, accept_groups}
use Rattle.pfc_types.specs.rules.Declarations.{accept_heading, accept_rule, accepted, EntryHeading, entry_formal, entry_formals, entry_group, entry_groups}
use Rattle.pfc_types.specs.rules.Declarations.{entry_meaning, entry_state, entries_state, process_named, Labels, label_noted, labels_noted, stmt_state}
use Rattle.pfc_types.specs.rules.Declarations.{stmts_state, body_state, arms_state, arm_state, accept_state, alts_state, alt_state, comm_state, init_state}
use Rattle.pfc_types.proofs.Walking.{note_kept}
use Rattle.pfc_types.proofs.WalkDeclarations.{made_kept}
use Rattle.pfc_guard_laws.proofs.Lists.{all_push}
use Rattle.pfc_checked_order.proofs.Names.{is_declared}
use Rattle.pfc_ordered_programs.proofs.Lists.{set_at, push_default}
use Rattle.pfc_ordered_programs.proofs.Types.{Same, note_same, made_same}

-- ## Steps

-- what each name stands for, by the scope in which it is declared
abbrev pub AreFit : (ℕ → Meaning → Type 0) → List Names → Type 0
AreFit P scopes = (i : ℕ) → AllByRecursion (λ (x : Text × Meaning). P i x.1) (scope_at scopes i)

pub record Adds (P : ℕ → Meaning → Type 0) (s t : State) : Type 0 where
  pub names : AreFit P s.blocks.scopes → AreFit P t.blocks.scopes
  pub subs : t.blocks.subs ≡ s.blocks.subs

infixr 55 ◌⊳◌
-- the later behind the earlier
pub ◌⊳◌ : {P : ℕ → Meaning → Type 0} {s t u : State} → Adds P t u → Adds P s t → Adds P s u
(q ⊳ p) = record { names = λ h. q.names (p.names h); subs = q.subs ∙ p.subs }

pub moved : (P : ℕ → Meaning → Type 0) (s t : State) → t.blocks.scopes ≡ s.blocks.scopes → Same s t → Adds P s t
moved P s t scopes subs = record { names = λ h. subst (λ (l : List Names). AreFit P l) (sym scopes) h; subs = subs }

pub note_adds : (P : ℕ → Meaning → Type 0) (s : State) (fs : Faults) → Adds P s (note s fs)
note_adds P s fs = moved P s (note s fs) (note_kept s fs).scopes (note_same s fs)

pub open_adds : (P : ℕ → Meaning → Type 0) (s : State) → Adds P s (open_scope s)
open_adds P s =
    record {
      names = λ h i. push_default (λ (names : Names). AllByRecursion (λ (x : Text × Meaning). P i x.1) names) s.blocks.scopes i [] (h i) tt;
      subs = refl;
    }

-- one name more, which may stand for this
pub declare_adds : (P : ℕ → Meaning → Type 0) (s : State) (i : ℕ) (x : Text × Place) (m : Meaning) → P i m → Adds P s (declare s i x m)
declare_adds P s i x m is = by (is_some (meaning_in (scope_at s.blocks.scopes i) x.0))
  where
    more : Names
    more = scope_at s.blocks.scopes i ++ (x.0, m) ∷ []

    by : (r : Bool) → Adds P s (if r then note s (unless false x.1 302) else add_name s i x.0 m)
    by true = note_adds P s (unless false x.1 302)
    by false =
        record {
          names = λ h j.
              set_at (λ (k : ℕ) (names : Names). AllByRecursion (λ (y : Text × Meaning). P k y.1) names) s.blocks.scopes i j more [] (h j)
              (all_push (λ (y : Text × Meaning). P i y.1) (scope_at s.blocks.scopes i) (x.0, m) (h i) is);
          subs = refl;
        }

-- What stands for no sub and no module may be named in each scope.
module _ (P : ℕ → Meaning → Type 0) (plain : (i : ℕ) (m : Meaning) → is_declared m ≡ false → P i m) where
  abbrev A : State → State → Type 0
  A s t = Adds P s t

  same : (s : State) → A s s
  same s = record { names = λ h. h; subs = refl }

  names_plain : (s : State) (i : ℕ) (x : Text × Place) (m : Meaning) → is_declared m ≡ false → A s (declare s i x m)
  names_plain s i x m is = declare_adds P s i x m (plain i m is)

  -- ## Constants, types and variables

  constant_plain : (c : Option Ordinal) → is_declared (constant_meaning c) ≡ false
  constant_plain None = refl
  constant_plain (Some c) = refl

  type_plain : (t : Option TypeId) → is_declared (type_meaning t) ≡ false
  type_plain None = refl
  type_plain (Some t) = refl

  variable_plain : (r : Bool) (t : Option TypeId) → is_declared (variable_meaning r t) ≡ false
  variable_plain r None = refl
  variable_plain r (Some t) = refl

  made_adds : (carried : Bool) (s : State) (view : List Level) (t : TypeTree) → A s (made carried s view t).state
  made_adds carried s view t = moved P s (made carried s view t).state (made_kept carried s view t).scopes (made_same carried s view t)

  pub consts_adds : (s : State) (i : ℕ) (outer : List Level) (cs : List ConstItem) → A s (consts_state s i outer cs)
  consts_adds s i outer [] = same s
  consts_adds s i outer (c ∷ cs) =
      let view = here s.blocks.scopes i outer in
      let fault = broken_constant s.blocks.scopes view c.value in
      let value = constant_value s.blocks.scopes view c.value in
      consts_adds (const_state s i outer c) i outer cs
      ⊳ (names_plain (note s fault) i (c.name, c.place) (constant_meaning value) (constant_plain value) ⊳ note_adds P s fault)

  pub types_adds : (s : State) (i : ℕ) (outer : List Level) (ds : List TypeItemTree) → A s (types_state s i outer ds)
  types_adds s i outer [] = same s
  types_adds s i outer (d ∷ ds) =
      let m = made false s (here s.blocks.scopes i outer) d.form in
      types_adds (type_state s i outer d) i outer ds
      ⊳ (names_plain m.state i (d.name, d.place) (type_meaning m.t) (type_plain m.t) ⊳ made_adds false s (here s.blocks.scopes i outer) d.form)

  populated_adds : (s : State) (i more : ℕ) (x : Text × Place) (m : Meaning) → is_declared m ≡ false → A s (populated s i more x m)
  populated_adds s i more x m is = by (passes_most s.blocks.population more)
    where
      counted : State
      counted = set_population s (most_processes (s.blocks.population + more))

      by : (t : Bool) → A s (if t then declare (note counted (unless false x.1 424)) i x Faulty else declare counted i x m)
      by true =
          names_plain (note counted (unless false x.1 424)) i x Faulty refl ⊳ (note_adds P counted (unless false x.1 424) ⊳ moved P s counted refl refl)
      by false = names_plain counted i x m is ⊳ moved P s counted refl refl

  var_name_adds : (s : State) (i : ℕ) (t : Option TypeId) (x : Text × Place) → A s (var_name_state s i t x)
  var_name_adds s i t x = by (is_some (meaning_in (scope_at s.blocks.scopes i) x.0))
    where
      by : (r : Bool) → A s (if r then declare s i x Faulty else populated s i (brought s.forms t) x (variable_meaning false t))
      by true = names_plain s i x Faulty refl
      by false = populated_adds s i (brought s.forms t) x (variable_meaning false t) (variable_plain false t)

  var_names_adds : (s : State) (i : ℕ) (t : Option TypeId) (xs : List (Text × Place)) → A s (var_names_state s i t xs)
  var_names_adds s i t [] = same s
  var_names_adds s i t (x ∷ xs) = var_names_adds (var_name_state s i t x) i t xs ⊳ var_name_adds s i t x

  pub vars_adds : (owner : Owner) (s : State) (i : ℕ) (outer : List Level) (vs : VarTrees) → A s (vars_state owner s i outer vs)
  vars_adds owner s i outer no_vars = same s
  vars_adds owner s i outer (more_vars (var_item xs t) vs) =
      let m = made false s (here s.blocks.scopes i outer) t in
      let rules = owner_rules owner m.state.forms m.t (type_place t) in
      vars_adds owner (var_state owner s i outer (var_item xs t)) i outer vs
      ⊳ (var_names_adds (note m.state rules) i (owned_type owner m.state.forms m.t) xs ⊳ (note_adds P m.state rules
      ⊳ made_adds false s (here s.blocks.scopes i outer) t))

  -- ## Headings

  formals_add : (i : ℕ) (reference : Bool) (t : Option TypeId) (h : Heading) (xs : List (Text × Place)) → A h.state (formals_heading i reference t h xs).state
  formals_add i reference t h [] = same h.state
  formals_add i reference t h (x ∷ xs) =
      formals_add i reference t (formal_heading i reference t h x) xs
      ⊳ names_plain h.state i x (variable_meaning reference t) (variable_plain reference t)

  group_adds : (i : ℕ) (view : List Level) (h : Heading) (g : GroupTree) → A h.state (group_viewed i view h g).state
  group_adds i view h g = formals_add i g.reference (group_type h.state view g) _ g.names ⊳ note_adds P h.state (broken_group h.state view g)

  pub groups_add : (i : ℕ) (outer : List Level) (h : Heading) (gs : List GroupTree) → A h.state (groups_heading i outer h gs).state
  groups_add i outer h [] = same h.state
  groups_add i outer h (g ∷ gs) = groups_add i outer (group_heading i outer h g) gs ⊳ group_adds i (here h.state.blocks.scopes i outer) h g

  accept_groups_add : (i : ℕ) (view : List Level) (h : Heading) (gs : List GroupTree) → A h.state (accept_groups i view h gs).state
  accept_groups_add i view h [] = same h.state
  accept_groups_add i view h (g ∷ gs) = accept_groups_add i view (group_viewed i view h g) gs ⊳ group_adds i view h g

  -- ## Entries and processes

  entry_formals_add :
      (reference : Bool) (t : Option TypeId) (h : EntryHeading) (xs : List (Text × Place)) → A h.state (entry_formals reference t h xs).state
  entry_formals_add reference t h [] = same h.state
  entry_formals_add reference t h (x ∷ xs) =
      entry_formals_add reference t (entry_formal reference t h x) xs ⊳ note_adds P h.state (unless (not (is_some (meaning_in h.own x.0))) x.1 302)

  entry_groups_add : (view : List Level) (h : EntryHeading) (gs : List GroupTree) → A h.state (entry_groups view h gs).state
  entry_groups_add view h [] = same h.state
  entry_groups_add view h (g ∷ gs) =
      entry_groups_add view (entry_group view h g) gs
      ⊳ (entry_formals_add g.reference (group_type h.state view g) _ g.names ⊳ note_adds P h.state (broken_group h.state view g))

  entry_plain : (whole : Bool) (k : ℕ) → is_declared (entry_meaning whole k) ≡ false
  entry_plain true k = refl
  entry_plain false k = refl

  pub entries_add : (s : State) (i : ℕ) (outer : List Level) (k : ℕ) (es : List EntryTree) → A s (entries_state s i outer k es)
  entries_add s i outer k [] = same s
  entries_add s i outer k (e ∷ es) =
      let begin : EntryHeading = record { state = s; own = []; formals = []; whole = true } in
      let h = entry_groups (here s.blocks.scopes i outer) begin e.formals in
      let t = add_entry h.state h.formals in
      entries_add (entry_state s i outer k e) i outer (k + 1) es
      ⊳ (names_plain t i (e.name, e.place) (entry_meaning h.whole k) (entry_plain h.whole k)
      ⊳ (moved P h.state t refl refl ⊳ entry_groups_add (here s.blocks.scopes i outer) begin e.formals))

  pub process_named_adds : (s : State) (i : ℕ) (many whole : Bool) (x : Text × Place) (n : ℕ) → A s (process_named s i many whole x n)
  process_named_adds s i many false x n = names_plain s i x Faulty refl
  process_named_adds s i true true x n =
      names_plain (add_form s (AProcess n)) i x (Named (record { place = length s.forms })) refl ⊳ moved P s (add_form s (AProcess n)) refl refl
  process_named_adds s i false true x n = by (is_some (meaning_in (scope_at s.blocks.scopes i) x.0))
    where
      by : (r : Bool) → A s (if r then declare s i x Faulty else populated s i 1 x (Process n))
      by true = names_plain s i x Faulty refl
      by false = populated_adds s i 1 x (Process n) refl

  -- ## Statements

  accepted_adds : (s : State) (view : List Level) (x : Text) (gs : List GroupTree) (p : Place) → A s (accepted s view x gs p)
  accepted_adds s view x gs p =
      let h = accept_heading (open_scope s) (length s.blocks.scopes) view gs in
      note_adds P h.state (accept_rule h.state.blocks (look s.blocks.scopes view x) h.formals p)
      ⊳ (accept_groups_add (length s.blocks.scopes) view (record { state = open_scope s; formals = []; whole = true }) gs ⊳ open_adds P s)

  label_adds : (c : Option Ordinal) (p : Place) (r : Labels) → A r.state (label_noted c p r).state
  label_adds None p r = same r.state
  label_adds (Some c) p r = by (list_any (same_ordinal c) r.seen)
    where
      by : (b : Bool) → A r.state (if b then record r { state = note r.state (unless false p 320) } else record r { seen = r.seen ++ c ∷ [] }).state
      by true = note_adds P r.state (unless false p 320)
      by false = same r.state

  labels_add : (view : List Level) (r : Labels) (cs : List Constant) → A r.state (labels_noted view r cs).state
  labels_add view r [] = same r.state
  labels_add view r (c ∷ cs) =
      let x = constant_value r.state.blocks.scopes view c in
      labels_add view (label_noted x (constant_place c) r) cs ⊳ label_adds x (constant_place c) r

  mutual
    stmt_adds : (s : State) (view : List Level) (t : StmtTree) → A s (stmt_state s view t)
    stmt_adds s view empty = same s
    stmt_adds s view (null p) = same s
    stmt_adds s view (block b p) = body_adds s view b
    stmt_adds s view (if_then e t p) = stmt_adds s view t
    stmt_adds s view (if_then_else e t u p) = stmt_adds (stmt_state s view t) view u ⊳ stmt_adds s view t
    stmt_adds s view (case_of e arms last p) = arms_add view (record { state = s; seen = [] }) arms
    stmt_adds s view (while_do e t p) = stmt_adds s view t
    stmt_adds s view (repeat_until ts e p) = stmts_add s view ts
    stmt_adds s view (repeat_forever ts p) = stmts_add s view ts
    stmt_adds s view (for_do x from down to t p q) = stmt_adds s view t
    stmt_adds s view (cobegin ts last p) = stmts_add s view ts
    stmt_adds s view (accepting a p) = accept_adds s view a
    stmt_adds s view (requeue x args p) = same s
    stmt_adds s view (select pri alts p q) = alts_add s view alts
    stmt_adds s view (select_else pri alts ts p q r) = stmts_add (alts_state s view alts) view ts ⊳ alts_add s view alts
    stmt_adds s view (assign d e p q) = same s
    stmt_adds s view (send d e p q) = same s
    stmt_adds s view (receive d v p q) = same s
    stmt_adds s view (call d args p) = same s

    stmts_add : (s : State) (view : List Level) (ts : StmtTrees) → A s (stmts_state s view ts)
    stmts_add s view no_stmts = same s
    stmts_add s view (more_stmts t ts) = stmts_add (stmt_state s view t) view ts ⊳ stmt_adds s view t

    pub body_adds : (s : State) (view : List Level) (b : BodyTree) → A s (body_state s view b)
    body_adds s view (body ts from to) = stmts_add s view ts

    arms_add : (view : List Level) (r : Labels) (arms : ArmTrees) → A r.state (arms_state view r arms).state
    arms_add view r no_arms = same r.state
    arms_add view r (more_arms a arms) = arms_add view (arm_state view r a) arms ⊳ arm_adds view r a

    arm_adds : (view : List Level) (r : Labels) (a : ArmTree) → A r.state (arm_state view r a).state
    arm_adds view r (arm cs t) = stmt_adds (labels_noted view r cs).state view t ⊳ labels_add view r cs

    accept_adds : (s : State) (view : List Level) (a : AcceptTree) → A s (accept_state s view a)
    accept_adds s view (accept x gs p) = accepted_adds s view x gs p
    accept_adds s view (accept_do x gs t p) =
        let opened = accepted s view x gs p in
        stmt_adds opened (here opened.blocks.scopes (length s.blocks.scopes) view) t ⊳ accepted_adds s view x gs p

    alts_add : (s : State) (view : List Level) (alts : AltTrees) → A s (alts_state s view alts)
    alts_add s view no_alts = same s
    alts_add s view (more_alts a alts) = alts_add (alt_state s view a) view alts ⊳ alt_adds s view a

    alt_adds : (s : State) (view : List Level) (a : AltTree) → A s (alt_state s view a)
    alt_adds s view (alt spread guard c ts) = stmts_add (comm_state s view c) view ts ⊳ comm_adds s view c

    comm_adds : (s : State) (view : List Level) (c : CommTree) → A s (comm_state s view c)
    comm_adds s view (comm_accept a p) = accept_adds s view a
    comm_adds s view (comm_send d e p) = same s
    comm_adds s view (comm_receive d v p) = same s
    comm_adds s view (timeout e p) = same s
    comm_adds s view (terminate p) = same s

  pub init_adds : (s : State) (view : List Level) (b : Option BodyTree) → A s (init_state s view b)
  init_adds s view None = same s
  init_adds s view (Some b) = body_adds s view b
