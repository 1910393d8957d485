-- The words of the rules of call statements and of requeues.
use Rattle.std.proofs.Common.{refl}
use Rattle.std.specs.Prelude.{ℕ, true, false, List, [], Option, Some, None}
use Rattle.pfc_base.specs.declared.places.Place.{Place}
use Rattle.pfc_tree.specs.Symbols.{Text}
use Rattle.pfc_tree.specs.trees.Exprs.{ExprTree, DesigTree, SelectorTrees, ActualTree, ActualTrees, desig, no_selectors, more_selectors, actual, actual_width}
use Rattle.pfc_tree.specs.trees.Exprs.{no_actuals, more_actuals}
use Rattle.pfc_types.specs.Faults.{Faults, ◌⨾◌, unless}
use Rattle.pfc_types.specs.Types.{form_of, process_form}
use Rattle.pfc_types.specs.Scopes.{meaning_in, scope_at, meaning_of}
use Rattle.pfc_types.specs.Blocks.{sub_at, module_at, process_at, entry_at}
use Rattle.pfc_types.specs.declared.types.TypeId.{TypeId}
use Rattle.pfc_types.specs.declared.scope.Meaning.{Meaning}
use Rattle.pfc_types.specs.declared.scope.Meaning.TheVariants.{Constant, Named, Variable, Sub, Module, Process, Entry, Predeclared, Faulty}
use Rattle.pfc_types.specs.declared.heads.Formal.{Formal}
use Rattle.pfc_types.specs.declared.heads.SubSort.{SubSort}
use Rattle.pfc_types.specs.declared.heads.SubSort.TheVariants.{Procedure, Guarded, Function}
use Rattle.pfc_types.specs.rules.Routines.{wants_for, called_with, anywhere, in_monitor_sub, Callee, Routine, the_signal, a_function, a_procedure, a_delay}
use Rattle.pfc_types.specs.rules.Routines.{a_reader, a_writer, routine_of, delay_wants}
use Rattle.pfc_types.specs.rules.Expressions.{Env, find, as_literal, selected, first_type, field_type, actual_count}
use Rattle.pfc_types.specs.rules.Calls.{unasked, asked, asked_formals, broken_read, broken_reads, written, broken_written, broken_writes, call_routine}
use Rattle.pfc_types.specs.rules.Calls.{call_sub, activate, activate_type, activate_variable, call_name, call_entry_named, call_entry, call_exported}
use Rattle.pfc_types.specs.rules.Calls.{call_module, call_field, call_part, last_field, before_last, call_selected, unselected, only_field, call_in_module}
use Rattle.pfc_types.specs.rules.Calls.{call_in_process, call_part_of, broken_call, requeue_asked, requeue_sub, requeue_rules}
use Rattle.pfc_refusals.proofs.Worded.{Worded, no_rule, ◌&◌, rule, broken_rule}
use Rattle.pfc_refusals.proofs.Small.{site_worded}
use Rattle.pfc_refusals.proofs.Expressions.{expr_worded, selectors_worded, actuals_worded}

unasked_worded : (env : Env) (args : ActualTrees) → Worded (unasked env args)
unasked_worded env args = actuals_worded env None false [] args

asked_worded : (env : Env) (c : Callee) (p : Place) (args : ActualTrees) → Worded (asked env c p args)
asked_worded env c p args = rule _ _ _ refl & actuals_worded env None c.known c.wants args & site_worded env.around c.site (first_type env args) p

formals_worded : (env : Env) (formals : List Formal) (p : Place) (args : ActualTrees) → Worded (asked_formals env formals p args)
formals_worded env formals p args = asked_worded env (called_with (wants_for formals) anywhere) p args

-- ## read and write

read_worded : (env : Env) (a : ActualTree) → Worded (broken_read env a)
read_worded env (actual e) = expr_worded env e & rule _ _ _ refl & rule _ _ _ refl & rule _ _ _ refl
read_worded env (actual_width e width) =
    expr_worded env e & rule _ _ _ refl & rule _ _ _ refl & rule _ _ _ refl & expr_worded env width & broken_rule _ _ refl

reads_worded : (env : Env) (args : ActualTrees) → Worded (broken_reads env args)
reads_worded env no_actuals = no_rule
reads_worded env (more_actuals a rest) = read_worded env a & reads_worded env rest

item_worded : (env : Env) (x : Option Text) (e : ExprTree) → Worded (written env x e)
item_worded env (Some x) e = no_rule
item_worded env None e = expr_worded env e & rule _ _ _ refl & rule _ _ _ refl

written_worded : (env : Env) (a : ActualTree) → Worded (broken_written env a)
written_worded env (actual e) = item_worded env (as_literal e) e
written_worded env (actual_width e width) = item_worded env (as_literal e) e & expr_worded env width & rule _ _ _ refl

writes_worded : (env : Env) (args : ActualTrees) → Worded (broken_writes env args)
writes_worded env no_actuals = no_rule
writes_worded env (more_actuals a rest) = written_worded env a & writes_worded env rest

-- ## Calls of a name alone

routine_worded : (env : Env) (r : Routine) (p : Place) (args : ActualTrees) → Worded (call_routine env r p args)
routine_worded env the_signal p args = broken_rule _ _ refl & unasked_worded env args
routine_worded env (a_function wants g site) p args = broken_rule _ _ refl & unasked_worded env args
routine_worded env (a_procedure wants site) p args = asked_worded env (called_with wants site) p args
routine_worded env a_delay p args = asked_worded env (called_with (delay_wants (actual_count args)) in_monitor_sub) p args
routine_worded env (a_reader some) p args = rule _ _ _ refl & reads_worded env args
routine_worded env (a_writer some) p args = rule _ _ _ refl & writes_worded env args

sub_worded : (env : Env) (sort : SubSort) (formals : List Formal) (p : Place) (args : ActualTrees) → Worded (call_sub env sort formals p args)
sub_worded env Procedure formals p args = formals_worded env formals p args
sub_worded env Guarded formals p args = formals_worded env formals p args & broken_rule _ _ refl
sub_worded env (Function t) formals p args = broken_rule _ _ refl & unasked_worded env args

activate_worded : (env : Env) (n : ℕ) (p : Place) (args : ActualTrees) → Worded (activate env n p args)
activate_worded env n p args = rule _ _ _ refl & formals_worded env (process_at env.state.blocks n).formals p args

type_worded : (env : Env) (n : Option ℕ) (p : Place) (args : ActualTrees) → Worded (activate_type env n p args)
type_worded env None p args = broken_rule _ _ refl & unasked_worded env args
type_worded env (Some n) p args = activate_worded env n p args

variable_worded : (env : Env) (t : Option TypeId) (p : Place) (args : ActualTrees) → Worded (activate_variable env t p args)
variable_worded env None p args = unasked_worded env args
variable_worded env (Some t) p args = type_worded env (process_form (form_of env.state.forms t)) p args

call_name_worded : (env : Env) (m : Option Meaning) (p : Place) (args : ActualTrees) → Worded (call_name env m p args)
call_name_worded env None p args = broken_rule _ _ refl & unasked_worded env args
call_name_worded env (Some (Constant t v)) p args = broken_rule _ _ refl & unasked_worded env args
call_name_worded env (Some (Named t)) p args = broken_rule _ _ refl & unasked_worded env args
call_name_worded env (Some (Variable t reference)) p args = variable_worded env (Some t) p args
call_name_worded env (Some (Sub n)) p args = sub_worded env (sub_at env.state.blocks n).sort (sub_at env.state.blocks n).formals p args
call_name_worded env (Some (Module n)) p args = broken_rule _ _ refl & unasked_worded env args
call_name_worded env (Some (Process n)) p args = activate_worded env n p args
call_name_worded env (Some (Entry n)) p args = broken_rule _ _ refl & unasked_worded env args
call_name_worded env (Some (Predeclared k)) p args = routine_worded env (routine_of k) p args
call_name_worded env (Some Faulty) p args = unasked_worded env args

-- ## Calls of a name behind `.`

entry_named_worded : (env : Env) (n : ℕ) (m : Option Meaning) (p : Place) (args : ActualTrees) → Worded (call_entry_named env n m p args)
entry_named_worded env n (Some (Entry k)) p args = formals_worded env (entry_at env.state.blocks n k) p args
entry_named_worded env n (Some Faulty) p args = unasked_worded env args
entry_named_worded env n m p args = broken_rule _ _ refl & unasked_worded env args

entry_worded : (env : Env) (n : ℕ) (x : Text × Place) (args : ActualTrees) → Worded (call_entry env n x args)
entry_worded env n x args =
    entry_named_worded env n (meaning_in (scope_at env.state.blocks.scopes (process_at env.state.blocks n).scope) x.0) x.1 args

exported_worded : (env : Env) (m : Option Meaning) (p : Place) (args : ActualTrees) → Worded (call_exported env m p args)
exported_worded env (Some (Sub n)) p args = rule _ _ _ refl & formals_worded env (sub_at env.state.blocks n).formals p args
exported_worded env (Some Faulty) p args = unasked_worded env args
exported_worded env m p args = broken_rule _ _ refl & unasked_worded env args

module_worded : (env : Env) (n : ℕ) (x : Text × Place) (args : ActualTrees) → Worded (call_module env n x args)
module_worded env n x args = exported_worded env (meaning_in (scope_at env.state.blocks.scopes (module_at env.state.blocks n).scope) x.0) x.1 args

field_worded : (env : Env) (n : Option ℕ) (t : Option TypeId) (x : Text × Place) (p : Place) (args : ActualTrees) → Worded (call_field env n t x p args)
field_worded env (Some n) t x p args = entry_worded env n x args
field_worded env None None x p args = broken_rule _ _ refl & unasked_worded env args
field_worded env None (Some t) x p args = by (process_form (form_of env.state.forms t))
  where
    by : (n : Option ℕ) →
        Worded ((elim n as (λ o. Place → ActualTrees →
        Faults) [ None ↦ λ q rest. unless false q 422 ⨾ unasked env rest | Some k ↦ λ q rest. activate env k q rest ]) p args)
    by None = broken_rule _ _ refl & unasked_worded env args
    by (Some n) = activate_worded env n p args

part_worded : (env : Env) (t : Option TypeId) (x : Text × Place) (p : Place) (args : ActualTrees) → Worded (call_part env t x p args)
part_worded env None x p args = unasked_worded env args
part_worded env (Some t) x p args =
    field_worded env (process_form (form_of env.state.forms t)) (field_type env.state.forms (Some t) x.0) x p args

-- ## The whole

selected_worded : (env : Env) (t : TypeId) (ss : SelectorTrees) (x : Option (Text × Place)) (p : Place) (args : ActualTrees) →
    Worded (call_selected env t ss x p args)
selected_worded env t ss None p args = selectors_worded env (Some t) ss & variable_worded env (selected env (Some t) ss) p args
selected_worded env t ss (Some x) p args =
    selectors_worded env (Some t) (before_last ss) & part_worded env (selected env (Some t) (before_last ss)) x p args

unselected_worded : (env : Env) (ss : SelectorTrees) (p : Place) (args : ActualTrees) → Worded (unselected env ss p args)
unselected_worded env ss p args = broken_rule _ _ refl & selectors_worded env None ss & unasked_worded env args

in_module_worded : (env : Env) (n : ℕ) (x : Option (Text × Place)) (ss : SelectorTrees) (p : Place) (args : ActualTrees) →
    Worded (call_in_module env n x ss p args)
in_module_worded env n None ss p args = unselected_worded env ss p args
in_module_worded env n (Some x) ss p args = module_worded env n x args

in_process_worded : (env : Env) (n : ℕ) (x : Option (Text × Place)) (ss : SelectorTrees) (p : Place) (args : ActualTrees) →
    Worded (call_in_process env n x ss p args)
in_process_worded env n None ss p args = unselected_worded env ss p args
in_process_worded env n (Some x) ss p args = entry_worded env n x args

part_of_worded : (env : Env) (m : Option Meaning) (ss : SelectorTrees) (p : Place) (args : ActualTrees) → Worded (call_part_of env m ss p args)
part_of_worded env None ss p args = broken_rule _ _ refl & selectors_worded env None ss & unasked_worded env args
part_of_worded env (Some (Constant t v)) ss p args = unselected_worded env ss p args
part_of_worded env (Some (Named t)) ss p args = unselected_worded env ss p args
part_of_worded env (Some (Variable t reference)) ss p args = selected_worded env t ss (last_field ss) p args
part_of_worded env (Some (Sub n)) ss p args = unselected_worded env ss p args
part_of_worded env (Some (Module n)) ss p args = in_module_worded env n (only_field ss) ss p args
part_of_worded env (Some (Process n)) ss p args = in_process_worded env n (only_field ss) ss p args
part_of_worded env (Some (Entry n)) ss p args = unselected_worded env ss p args
part_of_worded env (Some (Predeclared k)) ss p args = unselected_worded env ss p args
part_of_worded env (Some Faulty) ss p args = selectors_worded env None ss & unasked_worded env args

pub call_worded : (env : Env) (d : DesigTree) (args : ActualTrees) → Worded (broken_call env d args)
call_worded env (desig x no_selectors p) args = call_name_worded env (meaning_of (find env x)) p args
call_worded env (desig x (more_selectors s ss) p) args = part_of_worded env (meaning_of (find env x)) (more_selectors s ss) p args

-- ## Requeues

requeue_asked_worded : (env : Env) (ending : ℕ) (formals : List Formal) (p : Place) (args : ActualTrees) → Worded (requeue_asked env ending formals p args)
requeue_asked_worded env ending formals p args = rule _ _ _ refl & actuals_worded env (Some ending) true (wants_for formals) args

requeue_sub_worded : (env : Env) (ending : ℕ) (sort : SubSort) (formals : List Formal) (p : Place) (args : ActualTrees) →
    Worded (requeue_sub env ending sort formals p args)
requeue_sub_worded env ending Procedure formals p args = broken_rule _ _ refl & requeue_asked_worded env ending formals p args
requeue_sub_worded env ending Guarded formals p args = requeue_asked_worded env ending formals p args
requeue_sub_worded env ending (Function t) formals p args = broken_rule _ _ refl & unasked_worded env args

pub requeue_worded : (env : Env) (ending : ℕ) (m : Option Meaning) (p : Place) (args : ActualTrees) → Worded (requeue_rules env ending m p args)
requeue_worded env ending None p args = broken_rule _ _ refl & unasked_worded env args
requeue_worded env ending (Some (Sub n)) p args =
    requeue_sub_worded env ending (sub_at env.state.blocks n).sort (sub_at env.state.blocks n).formals p args
requeue_worded env ending (Some Faulty) p args = unasked_worded env args
requeue_worded env ending (Some m) p args = broken_rule _ _ refl & unasked_worded env args
