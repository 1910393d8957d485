-- How many instructions calls as statements have: of subs, of exported procedures, of processes and their entries, and of predeclared
-- procedures.
use Rattle.std.specs.Prelude.{ℕ, ◌+◌, Bool, if◌then◌else◌, Option, Some, None}
use Rattle.pfc_base.specs.declared.places.Place.{Place}
use Rattle.pfc_tree.specs.Symbols.{Text}
use Rattle.pfc_tree.specs.trees.Exprs.{ExprTree, DesigTree, SelectorTrees, ActualTree, ActualTrees, desig, no_selectors, actual, actual_width, no_actuals}
use Rattle.pfc_tree.specs.trees.Exprs.{more_actuals}
use Rattle.pfc_types.specs.Scopes.{meaning_in, meaning_of, scope_at}
use Rattle.pfc_types.specs.Blocks.{Blocks, sub_at, module_at, process_at, entry_at}
use Rattle.pfc_types.specs.rules.Expressions.{Env, find, as_desig, selected}
use Rattle.pfc_types.specs.rules.Calls.{last_field, before_last}
use Rattle.pfc_types.specs.declared.types.TypeId.{TypeId}
use Rattle.pfc_types.specs.declared.scope.Meaning.{Meaning}
use Rattle.pfc_types.specs.declared.scope.Meaning.TheVariants.{Variable, Sub, Module, Process, Entry, Predeclared}
use Rattle.pfc_semantics.specs.Predeclared.{Procedure, reader, writer, initial, wait, signal, delay, resume, sleep, no_procedure, procedure_of}
use Rattle.pfc_semantics.specs.Statements.{as_string, item_of, expr_of, behind_first, name_in_process, process_of_type}
use Rattle.pfc_code_size.specs.Expressions.{expr_size, desig_size, args_size, selectors_size, first_value_size, first_address_size}

-- ## Output and input

-- an item and its instruction; a string has no instructions of its own
abbrev pub plain_item_size : Blocks → Env → Option Text → ExprTree → ℕ
plain_item_size b c None e = expr_size b c e + 1
plain_item_size b c (Some x) e = 1

abbrev pub wide_item_size : Blocks → Env → Option Text → ExprTree → ExprTree → ℕ
wide_item_size b c None e w = expr_size b c e + (expr_size b c w + 1)
wide_item_size b c (Some x) e w = expr_size b c w + 1

abbrev pub item_size : Blocks → Env → ActualTree → ℕ
item_size b c (actual e) = plain_item_size b c (as_string e) e
item_size b c (actual_width e w) = wide_item_size b c (as_string e) e w

abbrev pub writes_size : Blocks → Env → ActualTrees → Bool → ℕ
writes_size b c no_actuals newline = if newline then 1 else 0
writes_size b c (more_actuals a rest) newline = item_size b c a + writes_size b c rest newline

abbrev pub input_size : Blocks → Env → Option DesigTree → ℕ
input_size b c None = 0
input_size b c (Some d) = desig_size b c d + 1

abbrev pub reads_size : Blocks → Env → ActualTrees → Bool → ℕ
reads_size b c no_actuals skip = if skip then 1 else 0
reads_size b c (more_actuals a rest) skip = input_size b c (as_desig (item_of a)) + reads_size b c rest skip

-- ## Predeclared procedures

abbrev pub given_size : Blocks → Env → Option ExprTree → ℕ
given_size b c None = 0
given_size b c (Some e) = expr_size b c e

-- `delay(c)` has the rank 0
abbrev pub rank_size : Blocks → Env → Option ExprTree → ℕ
rank_size b c None = 1
rank_size b c (Some e) = expr_size b c e

-- an argument that is an object
abbrev pub first_object_size : Blocks → Env → ActualTrees → ℕ
first_object_size b c args = first_address_size b c args + 1

abbrev pub procedure_size : Blocks → Env → Procedure → ActualTrees → ℕ
procedure_size b c (reader skip) args = reads_size b c args skip
procedure_size b c (writer newline) args = writes_size b c args newline
procedure_size b c initial args = first_object_size b c args + (given_size b c (expr_of (behind_first args)) + 1)
procedure_size b c wait args = first_object_size b c args + 1
procedure_size b c signal args = first_object_size b c args + 1
procedure_size b c delay args = first_object_size b c args + (rank_size b c (expr_of (behind_first args)) + 1)
procedure_size b c resume args = first_object_size b c args + 1
procedure_size b c sleep args = first_value_size b c args + 1
procedure_size b c no_procedure args = 0

-- ## Subs and modules: the arguments and the call

abbrev pub sub_size : Blocks → Env → ℕ → ActualTrees → ℕ
sub_size b c n args = args_size b c (sub_at b n).formals args + 1

abbrev pub exported_size : Blocks → Env → Option Meaning → ActualTrees → ℕ
exported_size b c (Some (Sub p)) args = sub_size b c p args
exported_size b c m args = 0

abbrev pub module_size : Blocks → Env → ℕ → Option (Text × Place) → ActualTrees → ℕ
module_size b c n None args = 0
module_size b c n (Some x) args = exported_size b c (meaning_in (scope_at b.scopes (module_at b n).scope) x.0) args

abbrev pub requeue_size : Blocks → Env → Option Meaning → ActualTrees → ℕ
requeue_size b c (Some (Sub n)) args = sub_size b c n args
requeue_size b c m args = 0

-- ## Processes and entries: the process as an object, the arguments and the call. The instructions of its address are given.

abbrev pub activation_size : Blocks → Env → ℕ → ℕ → ActualTrees → ℕ
activation_size b c n address args = address + (1 + (args_size b c (process_at b n).formals args + 1))

abbrev pub entry_size : Blocks → Env → ℕ → Option Meaning → ℕ → ActualTrees → ℕ
entry_size b c n (Some (Entry e)) address args = address + (1 + (args_size b c (entry_at b n e) args + 1))
entry_size b c n m address args = 0

-- a variable that is a process is activated
abbrev pub process_size : Blocks → Env → Option ℕ → ℕ → ActualTrees → ℕ
process_size b c None address args = 0
process_size b c (Some n) address args = activation_size b c n address args

-- the address of a variable with its selectors
abbrev pub part_size : Blocks → Env → SelectorTrees → ℕ
part_size b c ss = 1 + selectors_size b c ss

-- `d.e (..)` calls the entry e where d is a process; else the whole is a process that is activated
abbrev pub field_size : Blocks → Env → SelectorTrees → Option TypeId → Option ℕ → Text → ActualTrees → ℕ
field_size b c ss t None x args = process_size b c (process_of_type c (selected c t ss)) (part_size b c ss) args
field_size b c ss t (Some n) x args = entry_size b c n (name_in_process b n x) (part_size b c (before_last ss)) args

abbrev pub called_variable_size : Blocks → Env → SelectorTrees → TypeId → Option (Text × Place) → ActualTrees → ℕ
called_variable_size b c ss t None args = process_size b c (process_of_type c (selected c (Some t) ss)) (part_size b c ss) args
called_variable_size b c ss t (Some x) args = field_size b c ss (Some t) (process_of_type c (selected c (Some t) (before_last ss))) x.0 args

-- a single process is activated by its name, and its entry is called behind `.`
abbrev pub called_process_size : Blocks → Env → ℕ → Option (Text × Place) → ActualTrees → ℕ
called_process_size b c n None args = activation_size b c n (part_size b c no_selectors) args
called_process_size b c n (Some x) args = entry_size b c n (name_in_process b n x.0) (part_size b c no_selectors) args

-- ## A name that is called as a statement

abbrev pub called_size : Blocks → Env → Option Meaning → SelectorTrees → ActualTrees → ℕ
called_size b c (Some (Predeclared n)) ss args = procedure_size b c (procedure_of n) args
called_size b c (Some (Sub n)) ss args = sub_size b c n args
called_size b c (Some (Module n)) ss args = module_size b c n (last_field ss) args
called_size b c (Some (Process n)) ss args = called_process_size b c n (last_field ss) args
called_size b c (Some (Variable t reference)) ss args = called_variable_size b c ss t (last_field ss) args
called_size b c m ss args = 0

abbrev pub call_size : Blocks → Env → DesigTree → ActualTrees → ℕ
call_size b c (desig x ss p) args = called_size b c (meaning_of (find c x)) ss args
