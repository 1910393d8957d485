-- The code of calls as statements: of subs, of exported procedures, of processes and their entries, and of predeclared procedures.
use Rattle.std.specs.Prelude.{ℕ, pos, Bool, if◌then◌else◌, List, sum_by, Option, Some, None}
use Rattle.pfc_base.specs.declared.places.Place.{Place}
use Rattle.pfc_tree.specs.Symbols.{Text}
use Rattle.pfc_code.specs.declared.instructions.Instr.{Instr}
use Rattle.pfc_code.specs.declared.instructions.Instr.TheVariants.{LIT, OBJ, MCALL, RCALL, REQ, NEW, SINI, SWAIT, SSIG, ECALL, DELAY, RESUME, SLEEP, WRI, WRB}
use Rattle.pfc_code.specs.declared.instructions.Instr.TheVariants.{WRC, WRNL, RDI, RDC, RDNL}
use Rattle.pfc_tree.specs.trees.Exprs.{ExprTree, DesigTree, SelectorTrees, ActualTree, ActualTrees, desig, no_selectors, actual, actual_width, no_actuals}
use Rattle.pfc_tree.specs.trees.Exprs.{more_actuals}
use Rattle.pfc_types.specs.Types.{Forms}
use Rattle.pfc_types.specs.Scopes.{meaning_in, scope_at}
use Rattle.pfc_types.specs.Blocks.{Blocks, sub_at, module_at, process_at, entry_at}
use Rattle.pfc_types.specs.rules.Expressions.{find, as_desig, expr_type, desig_type, selected}
use Rattle.pfc_types.specs.rules.Calls.{last_field, before_last}
use Rattle.pfc_types.specs.declared.types.TypeId.{TypeId}
use Rattle.pfc_types.specs.declared.scope.Meaning.{Meaning}
use Rattle.pfc_types.specs.declared.scope.Meaning.TheVariants.{Variable, Sub, Module, Process, Entry, Predeclared}
use Rattle.pfc_types.specs.declared.heads.Formal.{Formal}
use Rattle.pfc_types.specs.declared.view.Found.{Found}
use Rattle.pfc_values.specs.declared.simple.Simple.{Simple}
use Rattle.pfc_values.specs.declared.simple.Simple.TheVariants.{Integer, Boolean, Char}
use Rattle.pfc_semantics.specs.Operators.{simple_of}
use Rattle.pfc_semantics.specs.Objects.{module_number}
use Rattle.pfc_semantics.specs.Predeclared.{Procedure, reader, writer, initial, wait, signal, delay, resume, sleep, no_procedure, procedure_of}
use Rattle.pfc_semantics.specs.Programs.{block_number}
use Rattle.pfc_semantics.specs.Statements.{as_string, item_of, expr_of, behind_first, name_in_process, process_of_type}
use Rattle.pfc_translation.specs.Sites.{Site, forms_of, blocks_of, type_cells, module_of}
use Rattle.pfc_translation.specs.Codes.{Code, nothing, ◌⨾◌, one, string}
use Rattle.pfc_translation.specs.Expressions.{expr_code, desig_code, args_code, address_code, first_value, first_address, call_instr}

-- ## Output and input

-- w is 1 where the width is the last operand, else 0
abbrev pub write_instr : Simple → ℕ → Instr
write_instr Integer w = WRI w
write_instr Boolean w = WRB w
write_instr Char w = WRC w

-- an item that is no string: e, and WRI, WRB or WRC by its type
abbrev pub plain_item : Site → Option Text → ExprTree → Code
plain_item s None e = expr_code s e ⨾ one s (write_instr (simple_of (expr_type s.env e)) 0)
plain_item s (Some x) e = string s x 0

-- with a width: e, the width, and the same with 1
abbrev pub wide_item : Site → Option Text → ExprTree → ExprTree → Code
wide_item s None e w = expr_code s e ⨾ expr_code s w ⨾ one s (write_instr (simple_of (expr_type s.env e)) 1)
wide_item s (Some x) e w = expr_code s w ⨾ string s x 1

abbrev pub item_code : Site → ActualTree → Code
item_code s (actual e) = plain_item s (as_string e) e
item_code s (actual_width e w) = wide_item s (as_string e) e w

-- `write`: its items; `writeln` adds WRNL
abbrev pub writes_code : Site → ActualTrees → Bool → Code
writes_code s no_actuals newline = if newline then one s WRNL else nothing
writes_code s (more_actuals a rest) newline = item_code s a ⨾ writes_code s rest newline

abbrev pub read_instr : Simple → Instr
read_instr Integer = RDI
read_instr Boolean = RDC
read_instr Char = RDC

abbrev pub input_code : Site → Option DesigTree → Code
input_code s None = nothing
input_code s (Some d) = desig_code s d ⨾ one s (read_instr (simple_of (desig_type s.env d)))

-- `read`: for each variable its address, RDI or RDC; `readln` adds RDNL
abbrev pub reads_code : Site → ActualTrees → Bool → Code
reads_code s no_actuals skip = if skip then one s RDNL else nothing
reads_code s (more_actuals a rest) skip = input_code s (as_desig (item_of a)) ⨾ reads_code s rest skip

-- ## Predeclared procedures

abbrev pub given_code : Site → Option ExprTree → Code
given_code s None = nothing
given_code s (Some e) = expr_code s e

-- `delay(c)` has the rank 0
abbrev pub rank_code : Site → Option ExprTree → Code
rank_code s None = one s (LIT (pos 0))
rank_code s (Some e) = expr_code s e

-- an argument that is an object
abbrev pub first_object : Site → ActualTrees → Code
first_object s args = first_address s args ⨾ one s OBJ

-- the object, the number where one is given, and the instruction
abbrev pub procedure_code : Site → Procedure → ActualTrees → Code
procedure_code s (reader skip) args = reads_code s args skip
procedure_code s (writer newline) args = writes_code s args newline
procedure_code s initial args = first_object s args ⨾ given_code s (expr_of (behind_first args)) ⨾ one s SINI
procedure_code s wait args = first_object s args ⨾ one s SWAIT
procedure_code s signal args = first_object s args ⨾ one s SSIG
procedure_code s delay args = first_object s args ⨾ rank_code s (expr_of (behind_first args)) ⨾ one s DELAY
procedure_code s resume args = first_object s args ⨾ one s RESUME
procedure_code s sleep args = first_value s args ⨾ one s SLEEP
procedure_code s no_procedure args = nothing

-- ## Subs and modules

-- `p(args)`: arguments, CALL b l
abbrev pub sub_code : Site → ℕ → ActualTrees → Code
sub_code s n args = let head = sub_at (blocks_of s) n in args_code s head.formals args ⨾ one s (call_instr s head)

-- `m.p(args)`: arguments, MCALL m b or RCALL g b
abbrev pub enter_instr : Bool → ℕ → ℕ → Instr
enter_instr resource m b = if resource then RCALL m b else MCALL m b

abbrev pub exported_code : Site → ℕ → Option Meaning → ActualTrees → Code
exported_code s n (Some (Sub p)) args =
    let head = sub_at (blocks_of s) p in
    args_code s head.formals args
    ⨾ one s (enter_instr (module_at (blocks_of s) n).resource (module_number (blocks_of s) n) (block_number s.program head.scope))
exported_code s n m args = nothing

abbrev pub module_code : Site → ℕ → Option (Text × Place) → ActualTrees → Code
module_code s n None args = nothing
module_code s n (Some x) args =
    exported_code s n (meaning_in (scope_at (blocks_of s).scopes (module_at (blocks_of s) n).scope) x.0) args

-- the number of the resource in which a block is declared
abbrev pub number_or_none : Blocks → Option ℕ → ℕ
number_or_none b None = 0
number_or_none b (Some n) = module_number b n

abbrev pub resource_of : Site → ℕ
resource_of s = number_or_none (blocks_of s) (module_of (blocks_of s) s.block.outer)

-- `requeue q(args)`: arguments, REQ g b
abbrev pub requeue_code : Site → Option Meaning → ActualTrees → Code
requeue_code s (Some (Sub n)) args =
    let head = sub_at (blocks_of s) n in
    args_code s head.formals args ⨾ one s (REQ (resource_of s) (block_number s.program head.scope))
requeue_code s m args = nothing

-- ## Processes and entries

-- an activation: the process object, arguments, NEW b
abbrev pub activation_code : Site → ℕ → Code → ActualTrees → Code
activation_code s n address args =
    let head = process_at (blocks_of s) n in
    address ⨾ one s OBJ ⨾ args_code s head.formals args ⨾ one s (NEW (block_number s.program head.scope))

-- parameters: a reference takes one cell
abbrev pub formal_cells : Forms → Formal → ℕ
formal_cells forms f = if f.reference then 1 else type_cells forms f.t

abbrev pub formals_cells : Forms → List Formal → ℕ
formals_cells forms formals = sum_by (λ f. formal_cells forms f) formals

-- `p.e(args)`: the process object, arguments, ECALL e z
abbrev pub entry_code : Site → ℕ → Option Meaning → Code → ActualTrees → Code
entry_code s n (Some (Entry e)) address args =
    let formals = entry_at (blocks_of s) n e in
    address ⨾ one s OBJ ⨾ args_code s formals args ⨾ one s (ECALL e (formals_cells (forms_of s) formals))
entry_code s n m address args = nothing

-- a variable that is a process is activated
abbrev pub process_code : Site → Option ℕ → Code → ActualTrees → Code
process_code s None address args = nothing
process_code s (Some n) address args = activation_code s n address args

-- `d.e (..)` calls the entry e where d is a process; else the whole is a process that is activated
abbrev pub field_code : Site → Found → SelectorTrees → Option TypeId → Option ℕ → Text → ActualTrees → Code
field_code s found ss t None x args = process_code s (process_of_type s.env (selected s.env t ss)) (address_code s (Some found) ss) args
field_code s found ss t (Some n) x args = entry_code s n (name_in_process (blocks_of s) n x) (address_code s (Some found) (before_last ss)) args

abbrev pub called_variable : Site → Found → SelectorTrees → TypeId → Option (Text × Place) → ActualTrees → Code
called_variable s found ss t None args =
    process_code s (process_of_type s.env (selected s.env (Some t) ss)) (address_code s (Some found) ss) args
called_variable s found ss t (Some x) args =
    field_code s found ss (Some t) (process_of_type s.env (selected s.env (Some t) (before_last ss))) x.0 args

-- a single process is activated by its name, and its entry is called behind `.`
abbrev pub called_process : Site → Found → ℕ → Option (Text × Place) → ActualTrees → Code
called_process s found n None args = activation_code s n (address_code s (Some found) no_selectors) args
called_process s found n (Some x) args = entry_code s n (name_in_process (blocks_of s) n x.0) (address_code s (Some found) no_selectors) args

-- ## A name that is called as a statement

abbrev pub called_code : Site → Found → Meaning → SelectorTrees → ActualTrees → Code
called_code s found (Predeclared n) ss args = procedure_code s (procedure_of n) args
called_code s found (Sub n) ss args = sub_code s n args
called_code s found (Module n) ss args = module_code s n (last_field ss) args
called_code s found (Process n) ss args = called_process s found n (last_field ss) args
called_code s found (Variable t reference) ss args = called_variable s found ss t (last_field ss) args
called_code s found m ss args = nothing

abbrev pub found_code : Site → Option Found → SelectorTrees → ActualTrees → Code
found_code s None ss args = nothing
found_code s (Some found) ss args = called_code s found found.meaning ss args

abbrev pub call_code : Site → DesigTree → ActualTrees → Code
call_code s (desig x ss p) args = found_code s (find s.env x) ss args
