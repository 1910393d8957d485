-- Calls of subs, exported procedures, processes and entries in which no rule is broken.
use Rattle.std.proofs.Common.{◌≡◌, ◌<◌, ℕ, Bool, true, false, List, length, Option, Some, None, refl, sym, ap, ◌∙◌, subst}
use Rattle.pfc_base.specs.declared.places.Place.{Place}
use Rattle.pfc_tree.specs.Symbols.{Text}
use Rattle.pfc_tree.specs.trees.Exprs.{DesigTree, SelectorTrees, ActualTrees, desig, index, field, no_selectors, more_selectors}
use Rattle.pfc_types.specs.Faults.{unless}
use Rattle.pfc_types.specs.Types.{form_of, field_form, process_form}
use Rattle.pfc_types.specs.Scopes.{Level, meaning_of, meaning_in, scope_at}
use Rattle.pfc_types.specs.Blocks.{sub_at, module_at, process_at, entry_at}
use Rattle.pfc_types.specs.declared.types.TypeId.{TypeId}
use Rattle.pfc_types.specs.declared.view.Around.{Around}
use Rattle.pfc_types.specs.declared.scope.Meaning.{Meaning}
use Rattle.pfc_types.specs.declared.scope.Meaning.TheVariants.{Constant, Named, Variable, Sub, Module, Process, Entry, Predeclared, Faulty}
use Rattle.pfc_types.specs.declared.heads.Formal.{Formal}
use Rattle.pfc_types.specs.declared.heads.SubSort.{SubSort}
use Rattle.pfc_types.specs.declared.heads.SubSort.TheVariants.{Procedure, Guarded, Function}
use Rattle.pfc_types.specs.rules.Routines.{wants_for, anywhere}
use Rattle.pfc_types.specs.rules.FaultyNames.{all_typed}
use Rattle.pfc_types.specs.rules.Expressions.{find, selected, selected_by, field_type, is_field, broken_selectors}
use Rattle.pfc_types.specs.rules.Calls.{asked_formals, call_sub, activate, activate_type, activate_variable, call_name, call_entry_named, call_entry}
use Rattle.pfc_types.specs.rules.Calls.{call_exported, call_field, call_part, last_field, before_last, only_field, call_selected, call_in_module}
use Rattle.pfc_types.specs.rules.Calls.{call_in_process, call_part_of, broken_call}
use Rattle.pfc_types.proofs.Clean.{clean, clean-unless, and-left, and-right}
use Rattle.pfc_semantics.specs.Displays.{TypedSpot}
use Rattle.pfc_semantics.specs.Programs.{Block, Program}
use Rattle.pfc_semantics.specs.Expressions.{spot_of}
use Rattle.pfc_semantics.specs.Statements.{name_in_process, process_of_type}
use Rattle.pfc_translation.specs.Sites.{Site}
use Rattle.pfc_translation.specs.Addresses.{type_behind}
use Rattle.pfc_standing_code.specs.Typed.{IsDeclared, ByName, FromOutside, IsField as IsPartField, AreArguments, AreSelectors, IsPartOf}
use Rattle.pfc_standing_code.specs.TypedStatements.{IsProcessType, IsActivation, IsEntry, IsProcess, IsField, IsCalledVariable, IsCalledProcess, IsSubCall}
use Rattle.pfc_standing_code.specs.TypedStatements.{IsExported, IsModuleCall, IsCalled, IsCall}
use Rattle.pfc_typed_phrases.specs.Names.{left_behind, IsWhole, AreKnown}
use Rattle.pfc_typed_phrases.proofs.Rules.{holds, never, field_known}
use Rattle.pfc_typed_phrases.proofs.Names.{site_in, of_named, asked_formals as ask_formals, wanted_arguments}
use Rattle.pfc_typed_phrases.proofs.Phrases.{selectors_typed}
use Rattle.pfc_typed_statements.specs.Reached.{IsStarted, AreCallable}
use Rattle.pfc_typed_statements.proofs.Routines.{asked_wanted, predeclared_typed}

-- a single field is the last one
only_last : (ss : SelectorTrees) (x : Text × Place) → only_field ss ≡ Some x → last_field ss ≡ Some x
only_last no_selectors x e = e
only_last (more_selectors (index es p) no_selectors) x e = e
only_last (more_selectors (field y p) no_selectors) x e = e
only_last (more_selectors (index es p) (more_selectors a ss)) x e = absurd (cc)
only_last (more_selectors (field y p) (more_selectors a ss)) x e = absurd (cc)

module _ (g : Program) (block : Block) (view : List Level) (around : Around) (line : ℕ) (known : AreKnown (site_in g block view around line))
    (callable : AreCallable (site_in g block view around line)) where
  abbrev pub s : Site
  s = site_in g block view around line

  arguments_of : (formals : List Formal) (p : Place) (args : ActualTrees) → all_typed formals ≡ true →
      clean (asked_formals s.env formals p args) ≡ true → AreArguments s formals args
  arguments_of formals p args typed h =
      wanted_arguments s formals args (asked_wanted g block view around line known (wants_for formals) anywhere p args (ask_formals formals typed) h)

  -- ## Subs

  sub_call : (asked : ℕ → SubSort → Type 0) (n : ℕ) (p : Place) (args : ActualTrees) (whole : IsWhole s (sub_at g.state.blocks n))
      → asked whole.block.named.within (sub_at g.state.blocks n).sort → left_behind (sub_at g.state.blocks n).sort ≡ 0
      → clean (asked_formals s.env (sub_at g.state.blocks n).formals p args) ≡ true → IsSubCall s asked n args
  sub_call asked n p args whole is nothing h = (
    record {
      headed = of_named s (sub_at g.state.blocks n) asked whole.block.named is;
      taken = whole.block.taken;
      leaves = whole.block.leaves ∙ nothing;
    },
    arguments_of (sub_at g.state.blocks n).formals p args whole.formals h,
  )

  sub_called :
      (n : ℕ) (p : Place) (args : ActualTrees) → IsWhole s (sub_at g.state.blocks n) → (sort : SubSort) → (sub_at g.state.blocks n).sort ≡ sort
      → clean (call_sub s.env sort (sub_at g.state.blocks n).formals p args) ≡ true → IsSubCall s ByName n args
  sub_called n p args whole Procedure e h = sub_call ByName n p args whole e (ap left_behind e) h
  sub_called n p args whole Guarded e h = never (and-right (clean (asked_formals s.env (sub_at g.state.blocks n).formals p args)) false h)
  sub_called n p args whole (Function t) e h = never h

  exported_called :
      (k : ℕ) (x : Text) (p : Place) (args : ActualTrees) (m : Option Meaning) → k < length g.state.blocks.modules
      → meaning_in (scope_at g.state.blocks.scopes (module_at g.state.blocks k).scope) x ≡ m → clean (call_exported s.env m p args) ≡ true
      → IsExported s k m args
  exported_called k x p args None low e h = never h
  exported_called k x p args (Some (Constant t n)) low e h = never h
  exported_called k x p args (Some (Named t)) low e h = never h
  exported_called k x p args (Some (Variable t r)) low e h = never h
  exported_called k x p args (Some (Module n)) low e h = never h
  exported_called k x p args (Some (Process n)) low e h = never h
  exported_called k x p args (Some (Entry n)) low e h = never h
  exported_called k x p args (Some (Predeclared n)) low e h = never h
  exported_called k x p args (Some Faulty) low e h = absurd (callable.faulty (module_at g.state.blocks k).scope x e)
  exported_called k x p args (Some (Sub n)) low e h =
      let test = clean (unless (sub_at g.state.blocks n).exported p 410) in
      let rest = clean (asked_formals s.env (sub_at g.state.blocks n).formals p args) in
      let is = callable.exported k n x e (holds (sub_at g.state.blocks n).exported p 410 (and-left test rest h)) in
      sub_call (FromOutside g.state.blocks k) n p args is.whole (low, is.within, is.plain) is.nothing (and-right test rest h)

  -- ## Processes and entries

  activated :
      (n : ℕ) (v : TypedSpot) (ss : SelectorTrees) (p : Place) (args : ActualTrees) (t : Option TypeId) → IsStarted s n → IsPartOf s v ss t
      → IsProcessType s n v.spot t → clean (activate s.env n p args) ≡ true → IsActivation s n v ss args
  activated n v ss p args t started part is h =
      record {
        t = t;
        called = part;
        process = is;
        among = started.among;
        arguments = arguments_of (process_at g.state.blocks n).formals p args started.formals (and-right (clean (unless around.cobegin p 402))
            (clean (asked_formals s.env (process_at g.state.blocks n).formals p args)) h);
        taken = started.taken;
      }

  -- a part of a variable that is a process
  part_activated :
      (v : TypedSpot) (ss : SelectorTrees) (p : Place) (args : ActualTrees) (u : TypeId) → selected s.env v.t ss ≡ Some u → IsPartOf s v ss (Some u)
      → clean (activate_variable s.env (Some u) p args) ≡ true → IsProcess s (process_of_type s.env (selected s.env v.t ss)) v ss args
  part_activated v ss p args u e part h =
      subst (λ (o : Option TypeId). IsProcess s (process_of_type s.env o) v ss args) (sym e) (by (process_form (form_of g.state.forms u)) refl h)
    where
      by : (o : Option ℕ) → process_form (form_of g.state.forms u) ≡ o → clean (activate_type s.env o p args) ≡ true → IsProcess s o v ss args
      by None f h = never h
      by (Some n) f h = activated n v ss p args (Some u) (callable.processes u n f) part f h

  entry_called :
      (n : ℕ) (v : TypedSpot) (ss : SelectorTrees) (x : Text × Place) (args : ActualTrees) (t : Option TypeId) → IsStarted s n → IsPartOf s v ss t
      → IsProcessType s n v.spot t → clean (call_entry s.env n x args) ≡ true
      → IsEntry s n v ss (name_in_process g.state.blocks n x.0) args
  entry_called n v ss x args t started part is h = by (name_in_process g.state.blocks n x.0) refl h
    where
      by : (m : Option Meaning) → name_in_process g.state.blocks n x.0 ≡ m → clean (call_entry_named s.env n m x.1 args) ≡ true → IsEntry s n v ss m args
      by None e h = never h
      by (Some (Constant t n)) e h = never h
      by (Some (Named t)) e h = never h
      by (Some (Variable t r)) e h = never h
      by (Some (Sub n)) e h = never h
      by (Some (Module n)) e h = never h
      by (Some (Process n)) e h = never h
      by (Some (Predeclared n)) e h = never h
      by (Some Faulty) e h = absurd (callable.faulty (process_at g.state.blocks n).scope x.0 e)
      by (Some (Entry k)) e h =
          record {
            t = t;
            called = part;
            process = is;
            among = started.among;
            arguments =
                arguments_of (entry_at g.state.blocks n k) x.1 args (callable.entries n k x.0 e) h;
          }

  -- ## The last selector

  -- a part and its field
  with_last :
      (ss : SelectorTrees) (x : Text × Place) → last_field ss ≡ Some x → (t : Option TypeId) (u w : TypeId) → AreSelectors s t (before_last ss) (Some u)
      → field_type g.state.forms (Some u) x.0 ≡ Some w → IsPartField g.state.forms (Some u) x.0 → AreSelectors s t ss (Some w)
  with_last no_selectors x e t u w is f is_one = absurd (cc)
  with_last (more_selectors (index es p) no_selectors) x e t u w is f is_one = absurd (cc)
  with_last (more_selectors (field y p) no_selectors) x e t u w is f is_one =
      let same : y ≡ x.0 = ap (λ (o : Option (Text × Place)). name_in o y) e in (
        subst (λ (z : Text). IsPartField g.state.forms t z) (sym same) (subst (λ (o : Option TypeId). IsPartField g.state.forms o x.0) (sym is) is_one),
        subst (λ (z : Text). field_type g.state.forms t z ≡ Some w) (sym same)
            (subst (λ (o : Option TypeId). field_type g.state.forms o x.0 ≡ Some w) (sym is) f),
      )
    where
      name_in : Option (Text × Place) → Text → Text
      name_in None z = z
      name_in (Some w) z = w.0
  with_last (more_selectors (index es p) (more_selectors a ss)) x e t u w is f is_one =
      (is.0, with_last (more_selectors a ss) x e (type_behind g.state.forms t es) u w is.1 f is_one)
  with_last (more_selectors (field y p) (more_selectors a ss)) x e t u w is f is_one =
      (is.0, with_last (more_selectors a ss) x e (field_type g.state.forms t y) u w is.1 f is_one)

  -- and its type
  selected_last :
      (t : Option TypeId) (ss : SelectorTrees) (x : Text × Place) → last_field ss ≡ Some x →
      selected s.env t ss ≡ field_type g.state.forms (selected s.env t (before_last ss)) x.0
  selected_last t no_selectors x e = absurd (cc)
  selected_last t (more_selectors (index es p) no_selectors) x e = absurd (cc)
  selected_last t (more_selectors (field y p) no_selectors) x e =
      let same : y ≡ x.0 = ap (λ (o : Option (Text × Place)). name_in o y) e in ap (λ (z : Text). field_type g.state.forms t z) same
    where
      name_in : Option (Text × Place) → Text → Text
      name_in None z = z
      name_in (Some w) z = w.0
  selected_last t (more_selectors (index es p) (more_selectors a ss)) x e = selected_last (selected_by s.env t (index es p)) (more_selectors a ss) x e
  selected_last t (more_selectors (field y p) (more_selectors a ss)) x e = selected_last (selected_by s.env t (field y p)) (more_selectors a ss) x e

  -- ## Variables

  field_called :
      (v : TypedSpot) (ss : SelectorTrees) (x : Text × Place) (p : Place) (args : ActualTrees) (u : TypeId) → last_field ss ≡ Some x → IsDeclared s v.spot v.t
      → selected s.env v.t (before_last ss) ≡ Some u → AreSelectors s v.t (before_last ss) (Some u) → clean (call_part s.env (Some u) x p args) ≡ true
      → IsField s v ss (process_of_type s.env (selected s.env v.t (before_last ss))) x.0 args
  field_called v ss x p args u last declared e is h =
      subst (λ (o : Option TypeId). IsField s v ss (process_of_type s.env o) x.0 args) (sym e) (by (process_form (form_of g.state.forms u)) refl h)
    where
      part : (w : TypeId) → field_type g.state.forms (Some u) x.0 ≡ Some w → (o : Option ℕ) → process_form (form_of g.state.forms w) ≡ o →
          clean (call_field s.env None (Some w) x p args) ≡ true
          → IsProcess s (process_of_type s.env (selected s.env v.t ss)) v ss args
      part w f None q h = never (rw q at h)
      part w f (Some n) q h =
          let there = field_known g.state.forms u x.0 p (clean-unless (is_field (field_form (form_of g.state.forms u) x.0)) p 315 ∙ ap is_field f) in
          let whole = selected_last v.t ss x last ∙ ap (λ (o : Option TypeId). field_type g.state.forms o x.0) e ∙ f in
          let active : clean (activate s.env n p args) ≡ true = rw q at h in
          subst (λ (o : Option TypeId). IsProcess s (process_of_type s.env o) v ss args) (sym whole)
          (subst (λ (o : Option ℕ). IsProcess s o v ss args) (sym q)
          (activated n v ss p args (Some w) (callable.processes w n q) (declared, with_last ss x last v.t u w is f there.2) q active))

      behind : (o : Option TypeId) → field_type g.state.forms (Some u) x.0 ≡ o → clean (call_field s.env None o x p args) ≡ true
          → IsProcess s (process_of_type s.env (selected s.env v.t ss)) v ss args
      behind None f h = never h
      behind (Some w) f h = part w f (process_form (form_of g.state.forms w)) refl h

      by : (o : Option ℕ) → process_form (form_of g.state.forms u) ≡ o →
          clean (call_field s.env o (field_type g.state.forms (Some u) x.0) x p args) ≡ true → IsField s v ss o x.0 args
      by None f h = behind (field_type g.state.forms (Some u) x.0) refl h
      by (Some n) f h = entry_called n v (before_last ss) x args (Some u) (callable.processes u n f) (declared, is) f h

  variable_called :
      (v : TypedSpot) (t : TypeId) (ss : SelectorTrees) (p : Place) (args : ActualTrees) → v.t ≡ Some t → IsDeclared s v.spot v.t
      → (o : Option (Text × Place)) → last_field ss ≡ o → clean (call_selected s.env t ss o p args) ≡ true → IsCalledVariable s v ss o args
  variable_called v t ss p args typed declared None last h =
      let one = clean (broken_selectors s.env (Some t) ss) in
      let rest = clean (activate_variable s.env (selected s.env (Some t) ss) p args) in
      let part = selectors_typed g block view around line known ss t (and-left one rest h) in
      part_activated v ss p args part.0 (ap (λ (o : Option TypeId). selected s.env o ss) typed ∙ part.1)
      (declared, subst (λ (o : Option TypeId). AreSelectors s o ss (Some part.0)) (sym typed) part.2)
      (subst (λ (o : Option TypeId). clean (activate_variable s.env o p args) ≡ true) part.1 (and-right one rest h))
  variable_called v t ss p args typed declared (Some x) last h =
      let one = clean (broken_selectors s.env (Some t) (before_last ss)) in
      let rest = clean (call_part s.env (selected s.env (Some t) (before_last ss)) x p args) in
      let part = selectors_typed g block view around line known (before_last ss) t (and-left one rest h) in
      field_called v ss x p args part.0 last declared (ap (λ (o : Option TypeId). selected s.env o (before_last ss)) typed ∙ part.1)
      (subst (λ (o : Option TypeId). AreSelectors s o (before_last ss) (Some part.0)) (sym typed) part.2)
      (subst (λ (o : Option TypeId). clean (call_part s.env o x p args) ≡ true) part.1 (and-right one rest h))

  -- ## The whole

  single_called : (x : Text) (n : ℕ) → meaning_of (find s.env x) ≡ Some (Process n) → IsPartOf s (spot_of s.env (find s.env x)) no_selectors None
  single_called x n e =
      let single = callable.singles x n e in
      (subst (λ (o : Option TypeId). IsDeclared s (spot_of s.env (find s.env x)).spot o) (sym single.untyped) single.declared, single.untyped)

  of_variable : (x : Text) (t : TypeId) (r : Bool) → meaning_of (find s.env x) ≡ Some (Variable t r) →
      IsDeclared s (spot_of s.env (find s.env x)).spot (spot_of s.env (find s.env x)).t
  of_variable x t r e =
      let laid = known.variables x t r e in subst (λ (o : Option TypeId). IsDeclared s (spot_of s.env (find s.env x)).spot o) (sym laid.typed) laid.declared

  name_called :
      (x : Text) (p : Place) (args : ActualTrees) (m : Option Meaning) → meaning_of (find s.env x) ≡ m → clean (call_name s.env m p args) ≡ true
      → IsCalled s m (spot_of s.env (find s.env x)) no_selectors args
  name_called x p args None e h = never h
  name_called x p args (Some (Constant t n)) e h = never h
  name_called x p args (Some (Named t)) e h = never h
  name_called x p args (Some (Module n)) e h = never h
  name_called x p args (Some (Entry n)) e h = never h
  name_called x p args (Some Faulty) e h = absurd (known.faulty x e)
  name_called x p args (Some (Predeclared k)) e h = predeclared_typed g block view around line known k p args h
  name_called x p args (Some (Sub n)) e h = sub_called n p args (known.subs x n e) (sub_at g.state.blocks n).sort refl h
  name_called x p args (Some (Process n)) e h =
      activated n (spot_of s.env (find s.env x)) no_selectors p args None (callable.singles x n e).started
      (single_called x n e) (callable.singles x n e).stands h
  name_called x p args (Some (Variable t r)) e h =
      let v = spot_of s.env (find s.env x) in
      let typed = (known.variables x t r e).typed in
      (typed, part_activated v no_selectors p args t typed (of_variable x t r e, typed) h)

  module_called :
      (n : ℕ) (ss : SelectorTrees) (p : Place) (args : ActualTrees) (o : Option (Text × Place)) → n < length g.state.blocks.modules → only_field ss ≡ o
      → clean (call_in_module s.env n o ss p args) ≡ true
      → IsModuleCall s n (last_field ss) args
  module_called n ss p args None low e h = never h
  module_called n ss p args (Some x) low e h =
      subst (λ (k : Option (Text × Place)). IsModuleCall s n k args) (sym (only_last ss x e))
      (exported_called n x.0 x.1 args (meaning_in (scope_at g.state.blocks.scopes (module_at g.state.blocks n).scope) x.0) low refl h)

  process_called :
      (y : Text) (n : ℕ) → meaning_of (find s.env y) ≡ Some (Process n) → (ss : SelectorTrees) (p : Place) (args : ActualTrees) (o : Option (Text × Place))
      → only_field ss ≡ o → clean (call_in_process s.env n o ss p args) ≡ true → IsCalledProcess s n (spot_of s.env (find s.env y)) (last_field ss) args
  process_called y n e ss p args None f h = never h
  process_called y n e ss p args (Some x) f h =
      subst (λ (k : Option (Text × Place)). IsCalledProcess s n (spot_of s.env (find s.env y)) k args) (sym (only_last ss x f))
      (entry_called n (spot_of s.env (find s.env y)) no_selectors x args None (callable.singles y n e).started
      (single_called y n e) (callable.singles y n e).stands h)

  part_called :
      (x : Text) (ss : SelectorTrees) (p : Place) (args : ActualTrees) (m : Option Meaning) → meaning_of (find s.env x) ≡ m →
      clean (call_part_of s.env m ss p args) ≡ true
      → IsCalled s m (spot_of s.env (find s.env x)) ss args
  part_called x ss p args None e h = never h
  part_called x ss p args (Some (Constant t n)) e h = never h
  part_called x ss p args (Some (Named t)) e h = never h
  part_called x ss p args (Some (Sub n)) e h = never h
  part_called x ss p args (Some (Entry n)) e h = never h
  part_called x ss p args (Some (Predeclared k)) e h = never h
  part_called x ss p args (Some Faulty) e h = absurd (known.faulty x e)
  part_called x ss p args (Some (Module n)) e h = module_called n ss p args (only_field ss) (callable.modules x n e) refl h
  part_called x ss p args (Some (Process n)) e h = process_called x n e ss p args (only_field ss) refl h
  part_called x ss p args (Some (Variable t r)) e h =
      let v = spot_of s.env (find s.env x) in
      let typed = (known.variables x t r e).typed in
      (typed, variable_called v t ss p args typed (of_variable x t r e) (last_field ss) refl h)

  pub call_typed : (d : DesigTree) (args : ActualTrees) → clean (broken_call s.env d args) ≡ true → IsCall s d args
  call_typed (desig x no_selectors p) args h = name_called x p args (meaning_of (find s.env x)) refl h
  call_typed (desig x (more_selectors a ss) p) args h = part_called x (more_selectors a ss) p args (meaning_of (find s.env x)) refl h
