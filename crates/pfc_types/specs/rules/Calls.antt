-- Call statements: calls of procedures, activations of processes, and calls of entries.
use Rattle.std.specs.Prelude.{ℕ, Bool, true, false, not, ◌&&◌, ◌||◌, List, [], Option, Some, None}
use Rattle.pfc_base.specs.declared.places.Place.{Place}
use Rattle.pfc_tree.specs.Symbols.{Text}
use Rattle.pfc_tree.specs.trees.Exprs.{ExprTree, DesigTree, SelectorTrees, ActualTree, ActualTrees, desig, index, field, no_selectors, more_selectors, actual}
use Rattle.pfc_tree.specs.trees.Exprs.{actual_width, no_actuals, more_actuals}
use Rattle.pfc_types.specs.Faults.{Faults, none, ◌⨾◌, unless}
use Rattle.pfc_types.specs.Types.{integer, char, is_same, form_of, process_form}
use Rattle.pfc_types.specs.Scopes.{meaning_in, scope_at, meaning_of}
use Rattle.pfc_types.specs.Blocks.{sub_at, module_at, process_at, entry_at}
use Rattle.pfc_types.specs.declared.types.TypeId.{TypeId}
use Rattle.pfc_types.specs.declared.scope.Meaning.{Meaning}
use Rattle.pfc_types.specs.declared.scope.Meaning.TheVariants.{Constant, Named, Variable, Sub, Module, Process, Entry, Predeclared, Faulty}
use Rattle.pfc_types.specs.declared.heads.Formal.{Formal}
use Rattle.pfc_types.specs.declared.heads.SubSort.{SubSort}
use Rattle.pfc_types.specs.declared.heads.SubSort.TheVariants.{Procedure, Guarded, Function}
use Rattle.pfc_types.specs.rules.Kinds.{may_have, may_be_simple, value_rule, wrong_kind}
use Rattle.pfc_types.specs.rules.Routines.{wants_for, called_with, anywhere, in_monitor_sub, Callee, Routine, the_signal, a_function, a_procedure, a_delay}
use Rattle.pfc_types.specs.rules.Routines.{a_reader, a_writer, routine_of, delay_wants, site_rule}
use Rattle.pfc_types.specs.rules.Expressions.{Env, find, expr_place, as_literal, is_variable, expr_type, selected, first_type, field_type, no_actual}
use Rattle.pfc_types.specs.rules.Expressions.{actual_count, count_rule, broken_expr, broken_selectors, broken_actuals}

-- arguments of which nothing is asked but their own rules
abbrev pub unasked : Env → ActualTrees → Faults
unasked env args = broken_actuals env None false [] args

-- arguments of what is called, whose name stands at this place
abbrev pub asked : Env → Callee → Place → ActualTrees → Faults
asked env c p args =
    count_rule c args p ⨾ broken_actuals env None c.known c.wants args ⨾ site_rule env.around c.site (first_type env args) p

abbrev pub asked_formals : Env → List Formal → Place → ActualTrees → Faults
asked_formals env formals p args = asked env (called_with (wants_for formals) anywhere) p args

-- ## read and write

-- 316: `read` and `write` want at least one argument; at the name
abbrev pub some_rule : Bool → ActualTrees → Place → Faults
some_rule some args p = unless (not (some && no_actual args)) p 316

-- 326: what is read is an integer or a char; at the argument
abbrev pub may_be_read : Option TypeId → Bool
may_be_read None = true
may_be_read (Some t) = is_same t integer || is_same t char

-- 318: what is read is a variable; 406: and no object; 324: it has no width
abbrev pub broken_read : Env → ActualTree → Faults
broken_read env (actual e) =
    broken_expr env e
    ⨾ unless (is_variable env None e) (expr_place e) 318
    ⨾ unless (may_be_read (expr_type env e)) (expr_place e) 326
    ⨾ value_rule env.state.forms (expr_type env e) (expr_place e)
broken_read env (actual_width e width) =
    broken_expr env e
    ⨾ unless (is_variable env None e) (expr_place e) 318
    ⨾ unless (may_be_read (expr_type env e)) (expr_place e) 326
    ⨾ value_rule env.state.forms (expr_type env e) (expr_place e)
    ⨾ broken_expr env width
    ⨾ unless false (expr_place width) 324

abbrev pub broken_reads : Env → ActualTrees → Faults
broken_reads env no_actuals = none
broken_reads env (more_actuals a rest) = broken_read env a ⨾ broken_reads env rest

-- 326: what is written is a simple value or a string, which is a literal that is the whole item; 406: and no object; at the argument
abbrev pub written : Env → Option Text → ExprTree → Faults
written env (Some x) e = none
written env None e =
    broken_expr env e
    ⨾ unless (may_be_simple (expr_type env e)) (expr_place e) 326
    ⨾ value_rule env.state.forms (expr_type env e) (expr_place e)

-- 324: a width is an integer; at the width
abbrev pub broken_written : Env → ActualTree → Faults
broken_written env (actual e) = written env (as_literal e) e
broken_written env (actual_width e width) =
    written env (as_literal e) e ⨾ broken_expr env width ⨾ unless (may_have integer (expr_type env width)) (expr_place width) 324

abbrev pub broken_writes : Env → ActualTrees → Faults
broken_writes env no_actuals = none
broken_writes env (more_actuals a rest) = broken_written env a ⨾ broken_writes env rest

-- ## Calls of a name alone

-- 310: a predeclared name that is called as a statement is a procedure
abbrev pub call_routine : Env → Routine → Place → ActualTrees → Faults
call_routine env the_signal p args = wrong_kind p ⨾ unasked env args
call_routine env (a_function wants g site) p args = wrong_kind p ⨾ unasked env args
call_routine env (a_procedure wants site) p args = asked env (called_with wants site) p args
call_routine env a_delay p args = asked env (called_with (delay_wants (actual_count args)) in_monitor_sub) p args
call_routine env (a_reader some) p args = some_rule some args p ⨾ broken_reads env args
call_routine env (a_writer some) p args = some_rule some args p ⨾ broken_writes env args

-- 310: a sub that is called as a statement is a procedure
-- 423: a guarded procedure, which is called by name only inside its resource, is there named by `requeue` only; at the name
abbrev pub call_sub : Env → SubSort → List Formal → Place → ActualTrees → Faults
call_sub env Procedure formals p args = asked_formals env formals p args
call_sub env Guarded formals p args = asked_formals env formals p args ⨾ unless false p 423
call_sub env (Function t) formals p args = wrong_kind p ⨾ unasked env args

-- 402: a process is activated between `cobegin` and `coend`; at the statement. Its arguments are counted (316) at the same place.
abbrev pub activate : Env → ℕ → Place → ActualTrees → Faults
activate env n p args = unless env.around.cobegin p 402 ⨾ asked_formals env (process_at env.state.blocks n).formals p args

-- 310: a variable that is called as a statement is a process
abbrev pub activate_type : Env → Option ℕ → Place → ActualTrees → Faults
activate_type env None p args = wrong_kind p ⨾ unasked env args
activate_type env (Some n) p args = activate env n p args

abbrev pub activate_variable : Env → Option TypeId → Place → ActualTrees → Faults
activate_variable env None p args = unasked env args
activate_variable env (Some t) p args = activate_type env (process_form (form_of env.state.forms t)) p args

abbrev pub call_name : Env → Option Meaning → Place → ActualTrees → Faults
call_name env None p args = unless false p 301 ⨾ unasked env args
call_name env (Some (Constant t v)) p args = wrong_kind p ⨾ unasked env args
call_name env (Some (Named t)) p args = wrong_kind p ⨾ unasked env args
call_name env (Some (Variable t reference)) p args = activate_variable env (Some t) p args
call_name env (Some (Sub n)) p args = call_sub env (sub_at env.state.blocks n).sort (sub_at env.state.blocks n).formals p args
call_name env (Some (Module n)) p args = wrong_kind p ⨾ unasked env args
call_name env (Some (Process n)) p args = activate env n p args
call_name env (Some (Entry n)) p args = wrong_kind p ⨾ unasked env args
call_name env (Some (Predeclared k)) p args = call_routine env (routine_of k) p args
call_name env (Some Faulty) p args = unasked env args

-- ## Calls of a name behind `.`

-- 413: a call of an entry names one of the called process; at the entry's name, where its arguments are counted too
abbrev pub call_entry_named : Env → ℕ → Option Meaning → Place → ActualTrees → Faults
call_entry_named env n (Some (Entry k)) p args = asked_formals env (entry_at env.state.blocks n k) p args
call_entry_named env n (Some Faulty) p args = unasked env args
call_entry_named env n m p args = unless false p 413 ⨾ unasked env args

abbrev pub call_entry : Env → ℕ → Text × Place → ActualTrees → Faults
call_entry env n x args =
    call_entry_named env n (meaning_in (scope_at env.state.blocks.scopes (process_at env.state.blocks n).scope) x.0) x.1 args

-- 410: `m.p` names an exported procedure; at the name behind `.`. The arguments of a sub are asked whether it is exported or not: they
-- are counted (316) at the same place.
abbrev pub call_exported : Env → Option Meaning → Place → ActualTrees → Faults
call_exported env (Some (Sub n)) p args =
    unless (sub_at env.state.blocks n).exported p 410 ⨾ asked_formals env (sub_at env.state.blocks n).formals p args
call_exported env (Some Faulty) p args = unasked env args
call_exported env m p args = unless false p 410 ⨾ unasked env args

abbrev pub call_module : Env → ℕ → Text × Place → ActualTrees → Faults
call_module env n x args = call_exported env (meaning_in (scope_at env.state.blocks.scopes (module_at env.state.blocks n).scope) x.0) x.1 args

-- `d.e` with a variable d: an entry of the process d, or a process in the record d
-- 422: else the call names no process; at the first token of d
abbrev pub call_field : Env → Option ℕ → Option TypeId → Text × Place → Place → ActualTrees → Faults
call_field env (Some n) t x p args = call_entry env n x args
call_field env None None x p args = unless false p 422 ⨾ unasked env args
call_field env None (Some t) x p args = call_process env (process_form (form_of env.state.forms t)) p args
  where
    call_process : Env → Option ℕ → Place → ActualTrees → Faults
    call_process env None p args = unless false p 422 ⨾ unasked env args
    call_process env (Some n) p args = activate env n p args

abbrev pub call_part : Env → Option TypeId → Text × Place → Place → ActualTrees → Faults
call_part env None x p args = unasked env args
call_part env (Some t) x p args =
    call_field env (process_form (form_of env.state.forms t)) (field_type env.state.forms (Some t) x.0) x p args

-- ## The whole

-- the last selector, where it is a name behind `.`, and the selectors before it
abbrev pub last_field : SelectorTrees → Option (Text × Place)
last_field no_selectors = None
last_field (more_selectors (index es p) no_selectors) = None
last_field (more_selectors (field x p) no_selectors) = Some (x, p)
last_field (more_selectors s (more_selectors t ss)) = last_field (more_selectors t ss)

abbrev pub before_last : SelectorTrees → SelectorTrees
before_last no_selectors = no_selectors
before_last (more_selectors s no_selectors) = no_selectors
before_last (more_selectors s (more_selectors t ss)) = more_selectors s (before_last (more_selectors t ss))

-- a variable with selectors
abbrev pub call_selected : Env → TypeId → SelectorTrees → Option (Text × Place) → Place → ActualTrees → Faults
call_selected env t ss None p args =
    broken_selectors env (Some t) ss ⨾ activate_variable env (selected env (Some t) ss) p args
call_selected env t ss (Some x) p args =
    broken_selectors env (Some t) (before_last ss) ⨾ call_part env (selected env (Some t) (before_last ss)) x p args

-- a name that has selectors and should have none
abbrev pub unselected : Env → SelectorTrees → Place → ActualTrees → Faults
unselected env ss p args = wrong_kind p ⨾ broken_selectors env None ss ⨾ unasked env args

-- a module or a single process, before `.` and a name
abbrev pub only_field : SelectorTrees → Option (Text × Place)
only_field (more_selectors (field x p) no_selectors) = Some (x, p)
only_field ss = None

abbrev pub call_in_module : Env → ℕ → Option (Text × Place) → SelectorTrees → Place → ActualTrees → Faults
call_in_module env n None ss p args = unselected env ss p args
call_in_module env n (Some x) ss p args = call_module env n x args

abbrev pub call_in_process : Env → ℕ → Option (Text × Place) → SelectorTrees → Place → ActualTrees → Faults
call_in_process env n None ss p args = unselected env ss p args
call_in_process env n (Some x) ss p args = call_entry env n x args

-- 310: before `.` or `[` stands a variable; a module or a single process stands only before `.` and one name
abbrev pub call_part_of : Env → Option Meaning → SelectorTrees → Place → ActualTrees → Faults
call_part_of env None ss p args = unless false p 301 ⨾ broken_selectors env None ss ⨾ unasked env args
call_part_of env (Some (Constant t v)) ss p args = unselected env ss p args
call_part_of env (Some (Named t)) ss p args = unselected env ss p args
call_part_of env (Some (Variable t reference)) ss p args = call_selected env t ss (last_field ss) p args
call_part_of env (Some (Sub n)) ss p args = unselected env ss p args
call_part_of env (Some (Module n)) ss p args = call_in_module env n (only_field ss) ss p args
call_part_of env (Some (Process n)) ss p args = call_in_process env n (only_field ss) ss p args
call_part_of env (Some (Entry n)) ss p args = unselected env ss p args
call_part_of env (Some (Predeclared k)) ss p args = unselected env ss p args
call_part_of env (Some Faulty) ss p args = broken_selectors env None ss ⨾ unasked env args

-- p (1, 2), or m.p (1, 2)
abbrev pub broken_call : Env → DesigTree → ActualTrees → Faults
broken_call env (desig x no_selectors p) args = call_name env (meaning_of (find env x)) p args
broken_call env (desig x (more_selectors s ss) p) args = call_part_of env (meaning_of (find env x)) (more_selectors s ss) p args

-- ## Requeues

-- A variable or a value parameter of the activation that ends, whose scope is `ending`, is no variable for a reference (318).
abbrev pub requeue_asked : Env → ℕ → List Formal → Place → ActualTrees → Faults
requeue_asked env ending formals p args =
    count_rule (called_with (wants_for formals) anywhere) args p ⨾ broken_actuals env (Some ending) true (wants_for formals) args

-- 419: a guarded procedure of the same resource, which a name in view is; 310: anything but a procedure; at the name. The arguments of
-- a procedure are asked whether it is guarded or not: they are counted (316) at the same place.
abbrev pub requeue_sub : Env → ℕ → SubSort → List Formal → Place → ActualTrees → Faults
requeue_sub env ending Procedure formals p args = unless false p 419 ⨾ requeue_asked env ending formals p args
requeue_sub env ending Guarded formals p args = requeue_asked env ending formals p args
requeue_sub env ending (Function t) formals p args = wrong_kind p ⨾ unasked env args

abbrev pub requeue_rules : Env → ℕ → Option Meaning → Place → ActualTrees → Faults
requeue_rules env ending None p args = unless false p 301 ⨾ unasked env args
requeue_rules env ending (Some (Sub n)) p args =
    requeue_sub env ending (sub_at env.state.blocks n).sort (sub_at env.state.blocks n).formals p args
requeue_rules env ending (Some Faulty) p args = unasked env args
requeue_rules env ending (Some m) p args = wrong_kind p ⨾ unasked env args
