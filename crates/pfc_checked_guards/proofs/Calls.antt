-- Calls in which no rule is broken call what the rules ask.
use Rattle.std.proofs.Common.{◌≡◌, ◌≢◌, ℕ, Bool, true, false, List, [], Option, Some, None, refl}
use Rattle.pfc_base.specs.declared.places.Place.{Place}
use Rattle.pfc_tree.specs.Symbols.{Text}
use Rattle.pfc_tree.specs.trees.Exprs.{ExprTree, DesigTree, SelectorTrees, ActualTree, ActualTrees, plain, sum, no_summands, product, no_multipliers, literal}
use Rattle.pfc_tree.specs.trees.Exprs.{desig, index, field, no_selectors, more_selectors, actual, actual_width, no_actuals, more_actuals}
use Rattle.pfc_types.specs.Scopes.{meaning_of, meaning_in, scope_at}
use Rattle.pfc_types.specs.Blocks.{sub_at, module_at, process_at, entry_at}
use Rattle.pfc_types.specs.Faults.{◌⨾◌, unless}
use Rattle.pfc_types.specs.Types.{form_of, process_form}
use Rattle.pfc_types.specs.declared.types.TypeId.{TypeId}
use Rattle.pfc_types.specs.declared.view.Around.{Around}
use Rattle.pfc_types.specs.declared.scope.Meaning.{Meaning}
use Rattle.pfc_types.specs.declared.scope.Meaning.TheVariants.{Constant, Named, Variable, Sub, Module, Process, Entry, Predeclared, Faulty}
use Rattle.pfc_types.specs.declared.heads.Formal.{Formal}
use Rattle.pfc_types.specs.declared.heads.SubSort.{SubSort}
use Rattle.pfc_types.specs.declared.heads.SubSort.TheVariants.{Procedure, Guarded, Function}
use Rattle.pfc_types.specs.rules.Routines.{Callee, wants_for, called_with, anywhere, in_monitor_sub, delay_wants, Routine, the_signal, a_function, a_procedure}
use Rattle.pfc_types.specs.rules.Routines.{a_delay, a_reader, a_writer, routine_of}
use Rattle.pfc_types.specs.rules.Expressions.{Env, find, as_literal, actual_count, selected, field_type}
use Rattle.pfc_types.specs.rules.Calls.{asked, asked_formals, unasked, broken_read, broken_reads, written, broken_written, broken_writes, call_routine}
use Rattle.pfc_types.specs.rules.Calls.{call_sub, activate, activate_type, activate_variable, call_name, call_entry_named, call_entry, call_exported}
use Rattle.pfc_types.specs.rules.Calls.{call_field, call_part, last_field, before_last, call_selected, unselected, only_field, call_in_module, call_in_process}
use Rattle.pfc_types.specs.rules.Calls.{call_part_of, broken_call, requeue_sub, requeue_rules}
use Rattle.pfc_semantics.specs.Objects.{module_number}
use Rattle.pfc_semantics.specs.Programs.{Program, block_at}
use Rattle.pfc_image_numbers.proofs.Rules.{IsClean}
use Rattle.pfc_guard_laws.specs.Tops.{Standing, Comes}
use Rattle.pfc_guard_laws.specs.Written.{IsUnguarded, IsInResource, IsOfModule, SuitsExport, SuitsModule, SuitsCalled, SuitsExpr, SuitSelectors, SuitsActual}
use Rattle.pfc_guard_laws.specs.Written.{SuitActuals, SuitsCall}
use Rattle.pfc_checked_guards.specs.Subs.{SubsStand}
use Rattle.pfc_checked_guards.specs.Order.{marked, InOrder}
use Rattle.pfc_checked_guards.proofs.Expressions.{under, CallsInOrder, expr_called, selectors_called, actuals_called}

procedure_unguarded : Procedure ≢ Guarded
procedure_unguarded = λ (h : Procedure ≡ Guarded). cc

function_unguarded : (t : Option TypeId) → Function t ≢ Guarded
function_unguarded t = λ (h : Function t ≡ Guarded). cc

-- an exported procedure of a resource, or of a monitor, stands as that asks
abbrev pub IsExported : Program → Bool → ℕ → ℕ → Type 0
IsExported g true r scope = IsInResource g r scope
IsExported g false m scope = IsUnguarded g scope

abbrev pub AreExported : Program → Env → Type 0
AreExported g env =
    (n p : ℕ) (x : Text) → meaning_in (scope_at env.state.blocks.scopes (module_at env.state.blocks n).scope) x ≡ Some (Sub p)
    → IsExported g (module_at g.state.blocks n).resource (module_number g.state.blocks n) (sub_at env.state.blocks p).scope

-- and where it comes in order it may be called from outside
of_module : (g : Program) (standing : Standing) (z : Bool) (m scope : ℕ) → IsExported g z m scope
    → Comes standing.tops (marked z m) (block_at g scope).scope standing.scope → IsOfModule g standing z m scope
of_module g standing true m scope is comes = (is, comes)
of_module g standing false m scope is comes = (is, comes)

module _ (g : Program) (standing : Standing) (env : Env) (a : Around) (subs : SubsStand g env.state.blocks)
    (in_order : InOrder g standing.tops standing.scope env) (exported : AreExported g env) where
  order : CallsInOrder g standing env a
  order x n none e = in_order.called x n e

  -- ## Arguments

  unasked_called : (args : ActualTrees) → IsClean (unasked (under env a) args) → SuitActuals g standing env args
  unasked_called args h = actuals_called g standing env a subs order None false [] args h

  asked_called : (c : Callee) (p : Place) (args : ActualTrees) → IsClean (asked (under env a) c p args) → SuitActuals g standing env args
  asked_called c p args h = actuals_called g standing env a subs order None c.known c.wants args h.1.0

  formals_called : (formals : List Formal) (p : Place) (args : ActualTrees) →
      IsClean (asked_formals (under env a) formals p args) → SuitActuals g standing env args
  formals_called formals p args h = asked_called (called_with (wants_for formals) anywhere) p args h

  read_called : (b : ActualTree) → IsClean (broken_read (under env a) b) → SuitsActual g standing env b
  read_called (actual e) h = expr_called g standing env a subs order e h.0
  read_called (actual_width e width) h = (expr_called g standing env a subs order e h.0, expr_called g standing env a subs order width h.1.1.1.1.0)

  reads_called : (args : ActualTrees) → IsClean (broken_reads (under env a) args) → SuitActuals g standing env args
  reads_called no_actuals h = tt
  reads_called (more_actuals b rest) h = (read_called b h.0, reads_called rest h.1)

  item_called : (e : ExprTree) → IsClean (written (under env a) (as_literal e) e) → SuitsExpr g standing env e
  item_called e h = by e h
    where
      by : (e : ExprTree) → IsClean (written (under env a) (as_literal e) e) → SuitsExpr g standing env e
      by (plain (sum None (product (literal x p) no_multipliers) no_summands) q) h = ((tt, tt), tt)
      by e h = expr_called g standing env a subs order e h.0

  written_called : (b : ActualTree) → IsClean (broken_written (under env a) b) → SuitsActual g standing env b
  written_called (actual e) h = item_called e h
  written_called (actual_width e width) h = (item_called e h.0, expr_called g standing env a subs order width h.1.0)

  writes_called : (args : ActualTrees) → IsClean (broken_writes (under env a) args) → SuitActuals g standing env args
  writes_called no_actuals h = tt
  writes_called (more_actuals b rest) h = (written_called b h.0, writes_called rest h.1)

  -- ## Calls of a name alone

  routine_called : (r : Routine) (p : Place) (args : ActualTrees) → IsClean (call_routine (under env a) r p args) → SuitActuals g standing env args
  routine_called the_signal p args h = unasked_called args h.1
  routine_called (a_function wants result site) p args h = unasked_called args h.1
  routine_called (a_procedure wants site) p args h = asked_called (called_with wants site) p args h
  routine_called a_delay p args h = asked_called (called_with (delay_wants (actual_count args)) in_monitor_sub) p args h
  routine_called (a_reader some) p args h = reads_called args h.1
  routine_called (a_writer some) p args h = writes_called args h.1

  sub_called :
      (sort : SubSort) (formals : List Formal) (p : Place) (args : ActualTrees) → IsClean (call_sub (under env a) sort formals p args)
      → (sort ≢ Guarded) × SuitActuals g standing env args
  sub_called Procedure formals p args h = (procedure_unguarded, formals_called formals p args h)
  sub_called Guarded formals p args h = absurd h.1
  sub_called (Function t) formals p args h = absurd h.0

  activated_called : (n : ℕ) (p : Place) (args : ActualTrees) → IsClean (activate (under env a) n p args) → SuitActuals g standing env args
  activated_called n p args h = formals_called (process_at env.state.blocks n).formals p args h.1

  of_type_called : (n : Option ℕ) (p : Place) (args : ActualTrees) → IsClean (activate_type (under env a) n p args) → SuitActuals g standing env args
  of_type_called None p args h = unasked_called args h.1
  of_type_called (Some n) p args h = activated_called n p args h

  variable_called : (t : Option TypeId) (p : Place) (args : ActualTrees) → IsClean (activate_variable (under env a) t p args) → SuitActuals g standing env args
  variable_called None p args h = unasked_called args h
  variable_called (Some t) p args h = of_type_called (process_form (form_of env.state.forms t)) p args h

  name_called :
      (y : Text) (m : Option Meaning) → meaning_of (find env y) ≡ m → (p : Place) (args : ActualTrees) → IsClean (call_name (under env a) m p args)
      → SuitsCalled g standing env m no_selectors × SuitActuals g standing env args
  name_called y None e p args h = (tt, unasked_called args h.1)
  name_called y (Some (Constant t v)) e p args h = (tt, unasked_called args h.1)
  name_called y (Some (Named t)) e p args h = (tt, unasked_called args h.1)
  name_called y (Some (Variable t reference)) e p args h = (tt, variable_called (Some t) p args h)
  name_called y (Some (Sub n)) e p args h =
      let is = sub_called (sub_at env.state.blocks n).sort
      (sub_at env.state.blocks n).formals p args h in ((subs.unguarded n is.0, in_order.called y n e), is.1)
  name_called y (Some (Module n)) e p args h = (tt, unasked_called args h.1)
  name_called y (Some (Process n)) e p args h = (tt, activated_called n p args h)
  name_called y (Some (Entry n)) e p args h = (tt, unasked_called args h.1)
  name_called y (Some (Predeclared k)) e p args h = (tt, routine_called (routine_of k) p args h)
  name_called y (Some Faulty) e p args h = (tt, unasked_called args h)

  -- ## Calls of a name behind `.`

  entry_named_called :
      (n : ℕ) (m : Option Meaning) (p : Place) (args : ActualTrees) → IsClean (call_entry_named (under env a) n m p args) → SuitActuals g standing env args
  entry_named_called n None p args h = unasked_called args h.1
  entry_named_called n (Some (Entry k)) p args h = formals_called (entry_at env.state.blocks n k) p args h
  entry_named_called n (Some Faulty) p args h = unasked_called args h
  entry_named_called n (Some m) p args h = unasked_called args h.1

  entry_called : (n : ℕ) (x : Text × Place) (args : ActualTrees) → IsClean (call_entry (under env a) n x args) → SuitActuals g standing env args
  entry_called n x args h = entry_named_called n (meaning_in (scope_at env.state.blocks.scopes (process_at env.state.blocks n).scope) x.0) x.1 args h

  exported_args : (m : Option Meaning) (p : Place) (args : ActualTrees) → IsClean (call_exported (under env a) m p args) → SuitActuals g standing env args
  exported_args None p args h = unasked_called args h.1
  exported_args (Some (Sub n)) p args h = formals_called (sub_at env.state.blocks n).formals p args h.1
  exported_args (Some Faulty) p args h = unasked_called args h
  exported_args (Some m) p args h = unasked_called args h.1

  part_called :
      (n : Option ℕ) (t : Option TypeId) (x : Text × Place) (p : Place) (args : ActualTrees) → IsClean (call_field (under env a) n t x p args)
      → SuitActuals g standing env args
  part_called (Some n) t x p args h = entry_called n x args h
  part_called None None x p args h = unasked_called args h.1
  part_called None (Some t) x p args h = by (process_form (form_of env.state.forms t)) refl
    where
      by : (n : Option ℕ) → process_form (form_of env.state.forms t) ≡ n → SuitActuals g standing env args
      by None q =
          let k : IsClean (unless false p 422 ⨾ unasked (under env a) args) = rw q at h in unasked_called args k.1
      by (Some n) q = let k : IsClean (activate (under env a) n p args) = rw q at h in activated_called n p args k

  field_called :
      (t : Option TypeId) (x : Text × Place) (p : Place) (args : ActualTrees) → IsClean (call_part (under env a) t x p args) → SuitActuals g standing env args
  field_called None x p args h = unasked_called args h
  field_called (Some t) x p args h =
      part_called (process_form (form_of env.state.forms t)) (field_type env.state.forms (Some t) x.0) x p args h

  -- ## Selectors

  behind_last : (ss : SelectorTrees) (x : Text × Place) → last_field ss ≡ Some x →
      SuitSelectors g standing env (before_last ss) → SuitSelectors g standing env ss
  behind_last no_selectors x e suits = tt
  behind_last (more_selectors (index es p) no_selectors) x e suits = absurd (cc)
  behind_last (more_selectors (field y p) no_selectors) x e suits = (tt, tt)
  behind_last (more_selectors s (more_selectors t ss)) x e suits = (suits.0, behind_last (more_selectors t ss) x e suits.1)

  selected_called :
      (t : TypeId) (ss : SelectorTrees) (last : Option (Text × Place)) (p : Place) (args : ActualTrees) → last_field ss ≡ last
      → IsClean (call_selected (under env a) t ss last p args) → SuitSelectors g standing env ss × SuitActuals g standing env args
  selected_called t ss None p args e h =
      (selectors_called g standing env a subs order (Some t) ss h.0, variable_called (selected (under env a) (Some t) ss) p args h.1)
  selected_called t ss (Some x) p args e h = (
    behind_last ss x e (selectors_called g standing env a subs order (Some t) (before_last ss) h.0),
    field_called (selected (under env a) (Some t) (before_last ss)) x p args h.1,
  )

  unselected_called :
      (ss : SelectorTrees) (p : Place) (args : ActualTrees) → IsClean (unselected (under env a) ss p args) →
      SuitSelectors g standing env ss × SuitActuals g standing env args
  unselected_called ss p args h = absurd h.0

  exported_called : (y : Text) (n : ℕ) (x : Text) (m : Option Meaning) → meaning_of (find env y) ≡ Some (Module n)
      → meaning_in (scope_at env.state.blocks.scopes (module_at env.state.blocks n).scope) x ≡ m → SuitsExport g standing env n m
  exported_called y n x None is e = tt
  exported_called y n x (Some (Sub p)) is e =
      of_module g standing (module_at g.state.blocks n).resource (module_number g.state.blocks n) (sub_at env.state.blocks p).scope (exported n p x e)
      (in_order.entered y x n p is e)
  exported_called y n x (Some (Constant t v)) is e = tt
  exported_called y n x (Some (Named t)) is e = tt
  exported_called y n x (Some (Variable t r)) is e = tt
  exported_called y n x (Some (Module m)) is e = tt
  exported_called y n x (Some (Process m)) is e = tt
  exported_called y n x (Some (Entry m)) is e = tt
  exported_called y n x (Some (Predeclared m)) is e = tt
  exported_called y n x (Some Faulty) is e = tt

  module_called : (y : Text) (n : ℕ) → meaning_of (find env y) ≡ Some (Module n) → (x : Option (Text × Place)) → SuitsModule g standing env n x
  module_called y n is None = tt
  module_called y n is (Some x) =
      exported_called y n x.0 (meaning_in (scope_at env.state.blocks.scopes (module_at env.state.blocks n).scope) x.0) is refl

  in_module_called :
      (n : ℕ) (ss : SelectorTrees) (p : Place) (args : ActualTrees) → IsClean (call_in_module (under env a) n (only_field ss) ss p args)
      → SuitSelectors g standing env ss × SuitActuals g standing env args
  in_module_called n no_selectors p args h = absurd h.0
  in_module_called n (more_selectors (index es q) ss) p args h = absurd h.0
  in_module_called n (more_selectors (field x q) no_selectors) p args h =
      ((tt, tt), exported_args (meaning_in (scope_at env.state.blocks.scopes (module_at env.state.blocks n).scope) x) q args h)
  in_module_called n (more_selectors (field x q) (more_selectors s ss)) p args h = absurd h.0

  in_process_called :
      (n : ℕ) (ss : SelectorTrees) (p : Place) (args : ActualTrees) → IsClean (call_in_process (under env a) n (only_field ss) ss p args)
      → SuitSelectors g standing env ss × SuitActuals g standing env args
  in_process_called n no_selectors p args h = absurd h.0
  in_process_called n (more_selectors (index es q) ss) p args h = absurd h.0
  in_process_called n (more_selectors (field x q) no_selectors) p args h = ((tt, tt), entry_called n (x, q) args h)
  in_process_called n (more_selectors (field x q) (more_selectors s ss)) p args h = absurd h.0

  of_part_called :
      (y : Text) (m : Option Meaning) → meaning_of (find env y) ≡ m → (ss : SelectorTrees) (p : Place) (args : ActualTrees) →
      IsClean (call_part_of (under env a) m ss p args)
      → SuitsCalled g standing env m ss × SuitSelectors g standing env ss × SuitActuals g standing env args
  of_part_called y None e ss p args h = absurd h.0
  of_part_called y (Some (Constant t v)) e ss p args h = absurd h.0
  of_part_called y (Some (Named t)) e ss p args h = absurd h.0
  of_part_called y (Some (Variable t reference)) e ss p args h =
      let is = selected_called t ss (last_field ss) p args refl h in (tt, is.0, is.1)
  of_part_called y (Some (Sub n)) e ss p args h = absurd h.0
  of_part_called y (Some (Module n)) e ss p args h = let is = in_module_called n ss p args h in (module_called y n e (last_field ss), is.0, is.1)
  of_part_called y (Some (Process n)) e ss p args h = let is = in_process_called n ss p args h in (tt, is.0, is.1)
  of_part_called y (Some (Entry n)) e ss p args h = absurd h.0
  of_part_called y (Some (Predeclared k)) e ss p args h = absurd h.0
  of_part_called y (Some Faulty) e ss p args h = (tt, selectors_called g standing env a subs order None ss h.0, unasked_called args h.1)

  pub call_called : (d : DesigTree) (args : ActualTrees) → IsClean (broken_call (under env a) d args) → SuitsCall g standing env d args
  call_called (desig x no_selectors p) args h = let is = name_called x (meaning_of (find env x)) refl p args h in (is.0, tt, is.1)
  call_called (desig x (more_selectors s ss) p) args h = of_part_called x (meaning_of (find env x)) refl (more_selectors s ss) p args h

  -- ## Requeues

  requeued_sub :
      (ending : ℕ) (sort : SubSort) (formals : List Formal) (p : Place) (args : ActualTrees) → IsClean (requeue_sub (under env a) ending sort formals p args)
      → (sort ≡ Guarded) × SuitActuals g standing env args
  requeued_sub ending Procedure formals p args h = absurd h.0
  requeued_sub ending Guarded formals p args h = (refl, actuals_called g standing env a subs order (Some ending) true _ args h.1)
  requeued_sub ending (Function t) formals p args h = absurd h.0

  -- what a requeue names, where it names a sub
  abbrev pub IsGuardedSub : Option Meaning → Type 0
  IsGuardedSub (Some (Sub n)) = (sub_at env.state.blocks n).sort ≡ Guarded
  IsGuardedSub m = Unit {0}

  pub requeue_called :
      (ending : ℕ) (m : Option Meaning) (p : Place) (args : ActualTrees) → IsClean (requeue_rules (under env a) ending m p args)
      → IsGuardedSub m × SuitActuals g standing env args
  requeue_called ending None p args h = absurd h.0
  requeue_called ending (Some (Sub n)) p args h =
      requeued_sub ending (sub_at env.state.blocks n).sort (sub_at env.state.blocks n).formals p args h
  requeue_called ending (Some Faulty) p args h = (tt, unasked_called args h)
  requeue_called ending (Some (Constant t v)) p args h = absurd h.0
  requeue_called ending (Some (Named t)) p args h = absurd h.0
  requeue_called ending (Some (Variable t r)) p args h = absurd h.0
  requeue_called ending (Some (Module n)) p args h = absurd h.0
  requeue_called ending (Some (Process n)) p args h = absurd h.0
  requeue_called ending (Some (Entry n)) p args h = absurd h.0
  requeue_called ending (Some (Predeclared k)) p args h = absurd h.0
