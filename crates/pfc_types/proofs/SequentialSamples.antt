-- Small programs that break one sequential rule, or nearly one.
use Rattle.std.specs.Prelude.{◌≡◌, ℕ, pos, false, [], ◌∷◌, Some, None, codes, refl}
use Rattle.pfc_tree.specs.Symbols.{Text}
use Rattle.pfc_tree.specs.declared.tree.Sign.TheVariants.{Minus}
use Rattle.pfc_tree.specs.declared.tree.Constant.{Constant}
use Rattle.pfc_tree.specs.declared.tree.Constant.TheVariants.{Number, Named, Literal}
use Rattle.pfc_tree.specs.trees.Exprs.{ExprTree, ActualTree, number, literal, desig, index, field, no_selectors, more_selectors, no_exprs, more_exprs, actual}
use Rattle.pfc_tree.specs.trees.Exprs.{actual_width, no_actuals, more_actuals}
use Rattle.pfc_tree.specs.trees.Types.{TypeTree, named, array, fields, var_item, no_vars, more_vars}
use Rattle.pfc_tree.specs.trees.Stmts.{StmtTree, if_then, while_do, repeat_until, case_of, assign, call, empty, arm, no_arms, more_arms}
use Rattle.pfc_tree.specs.trees.Parts.{PartTrees, ProgramTree, consts, types, sub_part, procedure, function, no_parts, more_parts, sub}
use Rattle.pfc_types.specs.rules.Whole.{first_fault}
use Rattle.pfc_types.proofs.Samples.{at, refused, factor, name, named_value as value, one_stmt, body_of, var_part, program as program_of, one_part, x}
use Rattle.pfc_types.proofs.Samples.{an_integer}

abbrev program : PartTrees → StmtTree → ProgramTree
program ps s = program_of ps (one_stmt s)

-- var x: t
abbrev pub var_x : TypeTree → PartTrees
var_x t = one_part (var_part x 2 t)

-- an integer and a char
abbrev pub int_at : ℕ → ℕ → ExprTree
int_at n p = factor (number (pos n) (at p)) p

abbrev pub char_at : ℕ → ExprTree
char_at p = factor (literal (codes "a") (at p)) p

-- call x (a)
abbrev pub call_with : Text → ℕ → ActualTree → StmtTree
call_with f n a = call (name f n) (more_actuals a no_actuals) (at n)

-- array [low..high] of integer
abbrev pub row : Constant → Constant → TypeTree
row low high = array (record { low = low; high = high } ∷ []) (an_integer 7) (at 3)

abbrev pub bound : ℕ → ℕ → Constant
bound n p = Number None (pos n) (at p)

abbrev negative : ℕ → ℕ → ℕ → Constant
negative n o p = Number (Some (Minus, at o)) (pos n) (at p)

-- record f: integer end
abbrev pub pair : TypeTree
pair = fields (more_vars (var_item ((codes "f", at 4) ∷ []) (an_integer 5)) no_vars) false (at 3)

-- x[e] := 1
abbrev cell_set : ExprTree → StmtTree
cell_set e = assign (desig x (more_selectors (index (more_exprs e no_exprs) (at 11)) no_selectors) (at 10)) (int_at 1 14) (at 10) (at 13)

-- x.f := 1
abbrev field_set : Text → StmtTree
field_set f = assign (desig x (more_selectors (field f (at 12)) no_selectors) (at 10)) (int_at 1 14) (at 10) (at 13)

-- ## 303 and 304

-- var x: array [2..1] of integer
low_above : first_fault (program (var_x (row (bound 2 4) (bound 1 6))) empty) ≡ refused 303 4
low_above = refl

-- var x: array [1..'b'] of integer
bounds_differ : first_fault (program (var_x (row (bound 1 4) (Literal (codes "b") (at 6)))) empty) ≡ refused 303 4
bounds_differ = refl

-- var x: array [-1..-2] of integer: the low bound begins with its sign
signed_bounds : first_fault (program (var_x (row (negative 1 4 5) (negative 2 6 7))) empty) ≡ refused 303 4
signed_bounds = refl

-- var x: array [-1..-1] of integer
one_cell : first_fault (program (var_x (row (negative 1 4 5) (negative 1 6 7))) empty) ≡ None
one_cell = refl

-- var x: array [1..65537] of integer
large_type : first_fault (program (var_x (row (bound 1 4) (bound 65537 6))) empty) ≡ refused 304 3
large_type = refl

-- var x: array [1..65536] of integer
largest_type : first_fault (program (var_x (row (bound 1 4) (bound 65536 6))) empty) ≡ None
largest_type = refl

-- program a; var x: array [1..65536] of integer; y: integer: the block has too many cells
large_block : first_fault (program (more_parts (var_part x 2 (row (bound 1 4) (bound 65536 6))) (one_part (var_part (codes "y") 8 (an_integer 9)))) empty) ≡
    refused 304 1
large_block = refl

-- ## 310

-- begin integer := 1 end
type_assigned : first_fault (program no_parts (assign (name (codes "integer") 10) (int_at 1 12) (at 10) (at 11))) ≡ refused 310 10
type_assigned = refl

-- var x: true
value_as_type : first_fault (program (var_x (named (codes "true") (at 3))) empty) ≡ refused 310 3
value_as_type = refl

-- var x: integer; begin x end
variable_called : first_fault (program (var_x (an_integer 3)) (call (name x 10) no_actuals (at 10))) ≡ refused 310 10
variable_called = refl

-- ## 313

-- var x: integer; begin if x then end
number_asked : first_fault (program (var_x (an_integer 3)) (if_then (value x 11) empty (at 10))) ≡ refused 313 11
number_asked = refl

-- begin repeat until 1 end
until_number : first_fault (program no_parts (repeat_until (one_stmt empty) (int_at 1 12) (at 10))) ≡ refused 313 12
until_number = refl

-- begin while true do end
while_true : first_fault (program no_parts (while_do (value (codes "true") 11) empty (at 10))) ≡ None
while_true = refl

-- ## 314 and 315

-- var x: integer; begin x[1] := 1 end
number_indexed : first_fault (program (var_x (an_integer 3)) (cell_set (int_at 1 12))) ≡ refused 314 11
number_indexed = refl

-- var x: array [1..2] of integer; begin x['a'] := 1 end
char_index : first_fault (program (var_x (row (bound 1 4) (bound 2 6))) (cell_set (char_at 12))) ≡ refused 314 11
char_index = refl

-- var x: array [1..2] of integer; begin x[3] := 1 end: the value of an index is no static matter
index_outside : first_fault (program (var_x (row (bound 1 4) (bound 2 6))) (cell_set (int_at 3 12))) ≡ None
index_outside = refl

-- var x: record f: integer end; begin x.g := 1 end
field_unknown : first_fault (program (var_x pair) (field_set (codes "g"))) ≡ refused 315 12
field_unknown = refl

-- var x: record f: integer end; begin x.f := 1 end
field_known : first_fault (program (var_x pair) (field_set (codes "f"))) ≡ None
field_known = refl

-- ## 317

-- begin sleep (true) end
sleep_true : first_fault (program no_parts (call_with (codes "sleep") 10 (actual (value (codes "true") 12)))) ≡ refused 317 12
sleep_true = refl

-- procedure p (n: integer); begin end; begin p ('a') end
abbrev procedure_p : PartTrees
procedure_p =
    one_part (sub_part (sub (codes "p") (record {
      reference = false;
      names = (codes "n", at 3) ∷ [];
      form =
          (codes "integer", at 4);
    } ∷ []) procedure no_parts (body_of (one_stmt empty)) (at 2)))

char_passed : first_fault (program procedure_p (call_with (codes "p") 10 (actual (char_at 12)))) ≡ refused 317 12
char_passed = refl

-- procedure p (n: integer); begin end; begin p (1) end
number_passed : first_fault (program procedure_p (call_with (codes "p") 10 (actual (int_at 1 12)))) ≡ None
number_passed = refl

-- ## 319 and 320

-- case x of a: ; b: end
abbrev case_x : Constant → Constant → StmtTree
case_x a b = case_of (value x 11) (more_arms (arm (a ∷ []) empty) (more_arms (arm (b ∷ []) empty) no_arms)) false (at 10)

-- var x: integer; begin case x of 1: ; 'a': end end
char_label : first_fault (program (var_x (an_integer 3)) (case_x (bound 1 12) (Literal (codes "a") (at 14)))) ≡ refused 319 14
char_label = refl

-- var x: integer; begin case x of 1: ; 1: end end
label_twice : first_fault (program (var_x (an_integer 3)) (case_x (bound 1 12) (bound 1 14))) ≡ refused 320 14
label_twice = refl

-- var x: integer; begin case x of 1: ; -1: end end
labels_differ : first_fault (program (var_x (an_integer 3)) (case_x (bound 1 12) (negative 1 13 14))) ≡ None
labels_differ = refl

-- ## 322 and 323

-- const c = -true
signed_true : first_fault
    (program (one_part (consts (record { name = codes "c"; value = Named (Some (Minus, at 4)) (codes "true") (at 5); place = at 2 } ∷ []))) empty) ≡
    refused 322 4
signed_true = refl

-- const c = -maxint
signed_number : first_fault
    (program (one_part (consts (record { name = codes "c"; value = Named (Some (Minus, at 4)) (codes "maxint") (at 5); place = at 2 } ∷ []))) empty) ≡ None
signed_number = refl

-- type x = record f: integer end; function f: x; begin end
abbrev function_f : Text → PartTrees
function_f t =
    more_parts (types (record { name = x; form = pair; place = at 2 } ∷ []))
    (one_part (sub_part (sub (codes "f") [] (function t (at 8)) no_parts (body_of (one_stmt empty)) (at 7))))

record_result : first_fault (program (function_f x) empty) ≡ refused 323 8
record_result = refl

-- type x = record f: integer end; function f: char; begin end
char_result : first_fault (program (function_f (codes "char")) empty) ≡ None
char_result = refl

-- ## 324 and 326

-- begin write (1: true) end
true_width : first_fault (program no_parts (call_with (codes "write") 10 (actual_width (int_at 1 12) (value (codes "true") 14)))) ≡ refused 324 14
true_width = refl

-- var x: integer; begin read (x: 1) end
read_width : first_fault (program (var_x (an_integer 3)) (call_with (codes "read") 10 (actual_width (value x 12) (int_at 1 14)))) ≡ refused 324 14
read_width = refl

-- begin write ('ab': 8) end
string_width : first_fault (program no_parts (call_with (codes "write") 10 (actual_width (factor (literal (codes "ab") (at 12)) 12) (int_at 8 14)))) ≡ None
string_width = refl

-- var x: boolean; begin read (x) end
boolean_read : first_fault (program (var_x (named (codes "boolean") (at 3))) (call_with (codes "read") 10 (actual (value x 12)))) ≡ refused 326 12
boolean_read = refl

-- var x: array [1..2] of integer; begin write (x) end
array_written : first_fault (program (var_x (row (bound 1 4) (bound 2 6))) (call_with (codes "write") 10 (actual (value x 12)))) ≡ refused 326 12
array_written = refl

-- var x: boolean; begin write (x) end
boolean_written : first_fault (program (var_x (named (codes "boolean") (at 3))) (call_with (codes "write") 10 (actual (value x 12)))) ≡ None
boolean_written = refl
