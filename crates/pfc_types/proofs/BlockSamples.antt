-- Small programs about the names and the cells of one block.
use Rattle.std.specs.Prelude.{◌≡◌, ℕ, Bool, true, false, List, [], ◌∷◌, None, codes, refl}
use Rattle.pfc_tree.specs.Symbols.{Text}
use Rattle.pfc_tree.specs.trees.Exprs.{desig, field, no_selectors, more_selectors, no_actuals}
use Rattle.pfc_tree.specs.trees.Types.{TypeTree, GroupTree, named, array, var_item, no_vars, more_vars}
use Rattle.pfc_tree.specs.trees.Stmts.{StmtTree, assign, call, accepting, accept, empty}
use Rattle.pfc_tree.specs.trees.Parts.{EntryTree, KindTree, PartTree, PartTrees, ProgramTree, types, vars, sub_part, process_part, procedure, function}
use Rattle.pfc_tree.specs.trees.Parts.{no_parts, more_parts, sub, process}
use Rattle.pfc_types.specs.rules.Whole.{first_fault}
use Rattle.pfc_types.proofs.Samples.{at, refused, name, named_value as value, one_stmt, body_of, var_part, program as program_of, one_part, x, an_integer}
use Rattle.pfc_types.proofs.SequentialSamples.{var_x, row, bound}
use Rattle.pfc_types.proofs.ConcurrentSamples.{p, q, process_p, procedure_q, monitor_m}

abbrev program : PartTrees → ProgramTree
program ps = program_of ps (one_stmt empty)

abbrev y : Text
y = codes "y"

-- array [1..65536] of integer, as many cells as there may be
abbrev full : TypeTree
full = row (bound 1 4) (bound 65536 6)

-- x: t, or var x: t
abbrev group : Bool → Text → ℕ → Text → GroupTree
group reference f n t = record { reference = reference; names = (f, at n) ∷ []; form = (t, at 38) }

abbrev sub_q : List GroupTree → KindTree → PartTrees → PartTree
sub_q gs kind ps = sub_part (sub q gs kind ps (body_of (one_stmt empty)) (at 2))

-- process p; entries parts begin s end;
abbrev with_entries : List EntryTree → PartTrees → StmtTree → PartTree
with_entries es ps s = process_part (process false p [] es ps (body_of (one_stmt s)) (at 30))

abbrev entry_q : ℕ → List GroupTree → EntryTree
entry_q n gs = record { name = q; formals = gs; place = at n }

-- ## Cells

-- procedure q; var x: array [1..65536] of integer; begin end;
full_procedure : first_fault (program (one_part (sub_q [] procedure (var_x full)))) ≡ None
full_procedure = refl

-- function q: integer; var x: array [1..65536] of integer; begin end: the result takes a cell
full_function : first_fault (program (one_part (sub_q [] (function (codes "integer") (at 3)) (var_x full)))) ≡ refused 304 2
full_function = refl

-- procedure q (var y: integer); var x: array [1..65536] of integer; begin end: a reference takes a cell
full_reference : first_fault (program (one_part (sub_q (group true y 3 (codes "integer") ∷ []) procedure (one_part (var_part x 40 full))))) ≡ refused 304 2
full_reference = refl

-- monitor m; var x: array [1..65536] of integer; end; var y: integer: one block holds both
full_monitor : first_fault (program (more_parts (monitor_m [] (var_x full)) (one_part (var_part y 62 (an_integer 63))))) ≡ refused 304 1
full_monitor = refl

-- var x: array [1..65536] of integer; process p; begin end: a single process takes a cell
full_with_process : first_fault (program (more_parts (var_part x 2 full) (one_part (process_p false no_parts empty)))) ≡ refused 304 1
full_with_process = refl

-- var x: array [1..65536] of integer; process type p; begin end
full_with_type : first_fault (program (more_parts (var_part x 2 full) (one_part (process_p true no_parts empty)))) ≡ None
full_with_type = refl

-- var x: array [1..256, 1..257] of integer
two_ranges : first_fault (program (var_x (array (record { low = bound 1 4; high = bound 256 5 } ∷ record { low = bound 1 6; high = bound 257 7 } ∷ [])
    (an_integer 8) (at 3)))) ≡ refused 304 3
two_ranges = refl

-- type x = array [1..65536] of integer; process p; entry q (y: x); var y: integer; begin accept q (y: x) end;
abbrev accepting_full : Bool → PartTrees
accepting_full reference =
    more_parts (types (record { name = x; form = full; place = at 2 } ∷ []))
    (one_part (with_entries (entry_q 31 (group reference y 32 x ∷ []) ∷ []) (one_part (var_part y 34 (an_integer 35)))
    (accepting (accept q (group reference y 37 x ∷ []) (at 36)) (at 35))))

-- an accept's parameters lie in the block of its process
full_accept : first_fault (program (accepting_full false)) ≡ refused 304 30
full_accept = refl

-- by reference they take a cell each
reference_accept : first_fault (program (accepting_full true)) ≡ None
reference_accept = refl

-- ## Names

-- procedure q (x: integer; x: char); begin end;
parameter_twice : first_fault
    (program (one_part (sub_q (group false x 3 (codes "integer") ∷ group false x 4 (codes "char") ∷ []) procedure no_parts))) ≡ refused 302 4
parameter_twice = refl

-- process p; entry q (x: integer; x: char); begin end;
entry_parameter_twice : first_fault
    (program (one_part (with_entries (entry_q 31 (group false x 32 (codes "integer") ∷ group false x 33 (codes "char") ∷ []) ∷ []) no_parts empty))) ≡
    refused 302 33
entry_parameter_twice = refl

-- process p; entry q; entry q; begin end;
entry_twice : first_fault (program (one_part (with_entries (entry_q 31 [] ∷ entry_q 33 [] ∷ []) no_parts empty))) ≡ refused 302 33
entry_twice = refl

-- var x: integer; type x = char
type_of_one_name : first_fault
    (program (more_parts (var_part x 2 (an_integer 3)) (one_part (types (record { name = x; form = named (codes "char") (at 6); place = at 5 } ∷ []))))) ≡
    refused 302 5
type_of_one_name = refl

-- var q: integer; procedure q; begin end;
sub_of_one_name : first_fault (program (more_parts (var_part q 2 (an_integer 3)) (one_part (procedure_q no_parts empty)))) ≡ refused 302 20
sub_of_one_name = refl

-- var x: integer; procedure q; var x: char; begin end: two blocks
two_blocks : first_fault
    (program (more_parts (var_part x 2 (an_integer 3)) (one_part (procedure_q (one_part (var_part x 22 (named (codes "char") (at 23)))) empty)))) ≡ None
two_blocks = refl

-- var integer: integer: the predeclared names are around the program
predeclared_again : first_fault (program (one_part (var_part (codes "integer") 2 (an_integer 3)))) ≡ None
predeclared_again = refl

-- var integer: integer; x: integer: behind it the name is a variable's
predeclared_hidden : first_fault (program (more_parts (var_part (codes "integer") 2 (an_integer 3)) (one_part (var_part x 4 (an_integer 5))))) ≡ refused 310 5
predeclared_hidden = refl

-- procedure q (x: integer); var x: char; begin end: parameters belong to the block
variable_and_parameter : first_fault
    (program (one_part (sub_q (group false x 3 (codes "integer") ∷ []) procedure (one_part (var_part x 40 (named (codes "char") (at 41))))))) ≡ refused 302 40
variable_and_parameter = refl

-- process p; entry q; var q: integer; begin end: so do entries
variable_and_entry : first_fault (program (one_part (with_entries (entry_q 31 [] ∷ []) (one_part (var_part q 33 (an_integer 34))) empty))) ≡ refused 302 33
variable_and_entry = refl

-- var x, x: y: the repeated name stands before the unknown one
repeated_first : first_fault (program (one_part (vars (more_vars (var_item ((x, at 2) ∷ (x, at 3) ∷ []) (named y (at 4))) no_vars)))) ≡ refused 302 3
repeated_first = refl

-- function q (integer: char): integer; begin end: the parameter is in view in the result's type
result_hidden : first_fault (program (one_part (sub_q (group false (codes "integer") 3 (codes "char") ∷ []) (function (codes "integer") (at 39)) no_parts))) ≡
    refused 310 39
result_hidden = refl

-- monitor m; procedure q; begin m.q end; end: its name is not yet in view
monitor_in_itself : first_fault
    (program (one_part (monitor_m []
    (one_part (procedure_q no_parts (call (desig (codes "m") (more_selectors (field q (at 26)) no_selectors) (at 24)) no_actuals (at 24))))))) ≡ refused 301 24
monitor_in_itself = refl

-- process p; begin p end: its own name is in view, and it is no activation between `cobegin` and `coend`
process_in_itself : first_fault (program (one_part (process_p false no_parts (call (name p 10) no_actuals (at 10))))) ≡ refused 402 10
process_in_itself = refl

-- type x = integer; var p: x; q: integer; begin p := q end: a second name of one type
abbrev p_q : Text → TypeTree → ProgramTree
p_q t form =
    program_of (more_parts (types (record { name = x; form = form; place = at 2 } ∷ [])) (more_parts (var_part p 12 (named x (at 13)))
    (one_part (var_part q 14 (named t (at 15))))))
    (one_stmt (assign (name p 40) (value q 42) (at 40) (at 41)))

second_name : first_fault (p_q (codes "integer") (an_integer 3)) ≡ None
second_name = refl

-- type x = array [1..2] of integer; var p: x; q: x; begin p := q end
one_declaration : first_fault (p_q x (row (bound 1 4) (bound 2 6))) ≡ None
one_declaration = refl
