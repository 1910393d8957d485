-- Small programs that break more than one rule, or that only seem to.
use Rattle.std.specs.Prelude.{◌≡◌, ℕ, pos, true, false, [], ◌∷◌, Some, None, codes, refl}
use Rattle.pfc_tree.specs.Symbols.{Text}
use Rattle.pfc_tree.specs.declared.tree.Sign.TheVariants.{Minus}
use Rattle.pfc_tree.specs.declared.tree.AddOp.TheVariants.{Add}
use Rattle.pfc_tree.specs.declared.tree.Relation.TheVariants.{Eq}
use Rattle.pfc_tree.specs.declared.tree.Constant.TheVariants.{Named}
use Rattle.pfc_tree.specs.trees.Exprs.{ExprTree, TermTree, plain, related, sum, no_summands, more_summands, product, no_multipliers, number, literal, negation}
use Rattle.pfc_tree.specs.trees.Exprs.{paren, applied, desig, index, field, no_selectors, more_selectors, no_exprs, more_exprs, actual, no_actuals}
use Rattle.pfc_tree.specs.trees.Exprs.{more_actuals}
use Rattle.pfc_tree.specs.trees.Types.{TypeTree, named, channel, array, fields, var_item, no_vars, more_vars}
use Rattle.pfc_tree.specs.trees.Stmts.{StmtTree, if_then, case_of, cobegin, assign, send, receive, call, empty, arm, no_arms, more_arms}
use Rattle.pfc_tree.specs.trees.Parts.{PartTrees, ProgramTree, consts, types, vars, sub_part, process_part, procedure, function, no_parts, more_parts, sub}
use Rattle.pfc_tree.specs.trees.Parts.{process}
use Rattle.pfc_types.specs.rules.Whole.{first_fault}
use Rattle.pfc_types.proofs.Samples.{at, refused, factor, name, named_value as value, one_stmt, body_of, var_part, program as program_of, one_part, x}
use Rattle.pfc_types.proofs.Samples.{an_integer}
use Rattle.pfc_types.proofs.SequentialSamples.{int_at, var_x, call_with, row, bound, pair}
use Rattle.pfc_types.proofs.ConcurrentSamples.{p, q, process_p, procedure_q, monitor_m, with_c, semaphore_at, resource_r}

abbrev program : PartTrees → StmtTree → ProgramTree
program ps s = program_of ps (one_stmt s)

abbrev y : Text
y = codes "y"

abbrev any_at : ℕ → ExprTree
any_at n = value (codes "any") n

-- x := e
abbrev pub x_set : ExprTree → StmtTree
x_set e = assign (name x 40) e (at 40) (at 41)

-- var x: integer;
abbrev pub integer_x : PartTrees
integer_x = var_x (an_integer 3)

-- var x: semaphore;
abbrev pub semaphore_x : PartTrees
semaphore_x = var_x (semaphore_at 3)

-- (e)
abbrev in_parentheses : ExprTree → ℕ → ExprTree
in_parentheses e n = factor (paren e (at n)) n

-- f (e)
abbrev call_of : Text → ExprTree → StmtTree
call_of f e = call_with f 40 (actual e)

-- ## Faulty parts

-- var x: boolean; y: array [1..2] of integer; begin x := y[z] end: the value has no type
faulty_index : first_fault (program (more_parts (var_part x 2 (named (codes "boolean") (at 2))) (one_part (var_part y 2 (row (bound 1 4) (bound 2 6)))))
    (x_set (factor (applied (desig y (more_selectors (index (more_exprs (value (codes "z") 44) no_exprs) (at 43)) no_selectors)
    (at 42)) no_actuals (at 42)) 42))) ≡ refused 301 44
faulty_index = refl

-- 1 + true
abbrev faulty_sum : ExprTree
faulty_sum =
    plain (sum None (product (number (pos 1) (at 43)) no_multipliers)
    (more_summands (Add, at 44) (product (applied (name (codes "true") 45) no_actuals (at 45)) no_multipliers) no_summands)) (at 43)

-- var x: integer; begin x := odd (1 + true) end
faulty_argument : first_fault
    (program integer_x (x_set (factor (applied (name (codes "odd") 42) (more_actuals (actual faulty_sum) no_actuals) (at 42)) 42))) ≡ refused 311 44
faulty_argument = refl

-- var x: y; begin x := true end: a faulty name breaks no more rules
faulty_name : first_fault (program (var_x (named y (at 3))) (x_set (value (codes "true") 42))) ≡ refused 301 3
faulty_name = refl

-- var x: array [1..y] of integer: the bounds are not compared
faulty_bound : first_fault (program (var_x (row (bound 1 4) (Named None y (at 6)))) empty) ≡ refused 301 6
faulty_bound = refl

-- var x: record f: array [1..65536] of integer; y: integer end
abbrev wide : Text → TypeTree
wide f =
    fields (more_vars (var_item ((codes "f", at 4) ∷ []) (array (record { low = bound 1 5; high = bound 65536 6 } ∷ []) (an_integer 7) (at 5)))
    (more_vars (var_item ((f, at 8) ∷ []) (an_integer 9)) no_vars)) false (at 3)

wide_record : first_fault (program (var_x (wide y)) empty) ≡ refused 304 3
wide_record = refl

-- var x: record f: array [1..65536] of integer; f: integer end: its cells are not asked for
repeated_field : first_fault (program (var_x (wide (codes "f"))) empty) ≡ refused 302 8
repeated_field = refl

-- monitor m; export q; procedure q (x: y); begin end; end;
faulty_export : first_fault
    (program (one_part (monitor_m (((q, at 6) ∷ []) ∷ [])
    (one_part (sub_part (sub q (record { reference = false; names = (x, at 21) ∷ []; form = (y, at 22) } ∷ []) procedure no_parts
    (body_of (one_stmt empty)) (at 20)))))) empty) ≡ refused 301 22
faulty_export = refl

-- ## Objects

-- var x: integer; y: semaphore; begin x := y end: 312 at `:=` stands before 406
semaphore_value : first_fault
    (program (more_parts (var_part x 2 (an_integer 3)) (one_part (var_part y 4 (semaphore_at 5)))) (x_set (value y 42))) ≡ refused 312 41
semaphore_value = refl

abbrev x_term : ℕ → TermTree
x_term n = product (applied (name x n) no_actuals (at n)) no_multipliers

-- var x: semaphore; begin if x = x then end
semaphores_compared : first_fault (program semaphore_x (if_then (related (sum None (x_term 42) no_summands) (Eq, at 43) (sum None (x_term 44) no_summands)
    (at 42)) empty (at 40))) ≡ refused 406 42
semaphores_compared = refl

-- var x: semaphore; begin write (x) end: 326 and 406 at one place
semaphore_written : first_fault (program semaphore_x (call_of (codes "write") (value x 42))) ≡ refused 326 42
semaphore_written = refl

-- var x: channel of semaphore
semaphore_carried : first_fault (program (var_x (channel (semaphore_at 4) (at 3))) empty) ≡ refused 406 4
semaphore_carried = refl

-- var x: array [1..2] of semaphore; begin wait (x) end
semaphores_lent : first_fault (program (var_x (array (record { low = bound 1 4; high = bound 2 5 } ∷ []) (semaphore_at 6) (at 3)))
    (call_of (codes "wait") (value x 42))) ≡ refused 317 42
semaphores_lent = refl

-- var x: semaphore; begin wait ((x)) end
semaphore_in_parentheses : first_fault (program semaphore_x (call_of (codes "wait") (in_parentheses (value x 43) 42))) ≡ refused 318 42
semaphore_in_parentheses = refl

-- var x: semaphore; begin wait (x) end
semaphore_waited : first_fault (program semaphore_x (call_of (codes "wait") (value x 42))) ≡ None
semaphore_waited = refl

-- type x = array [1..2] of condition
conditions_named : first_fault
    (program (one_part (types (record {
      name = x;
      form = array (record { low = bound 1 4; high = bound 2 5 } ∷ []) (named (codes "condition") (at 6))
          (at 3);
      place = at 2;
    } ∷ []))) empty) ≡ None
conditions_named = refl

-- ## Types

-- var x: array [1..2] of integer; y: array [1..2] of integer; begin x := y end: each form is a type of its own
forms_alike : first_fault
    (program (more_parts (var_part x 2 (row (bound 1 4) (bound 2 6))) (one_part (var_part y 12 (row (bound 1 14) (bound 2 16))))) (x_set (value y 42))) ≡
    refused 312 41
forms_alike = refl

-- var x, y: array [1..2] of integer; begin x := y end
one_form : first_fault
    (program (one_part (vars (more_vars (var_item ((x, at 2) ∷ (y, at 2) ∷ []) (row (bound 1 4) (bound 2 6))) no_vars))) (x_set (value y 42))) ≡ None
one_form = refl

-- var x: array [1..2, 2..1] of integer: each range has its own low bound
second_range : first_fault (program (var_x (array (record { low = bound 1 4; high = bound 2 5 } ∷ record { low = bound 2 6; high = bound 1 7 } ∷ [])
    (an_integer 8) (at 3))) empty) ≡ refused 303 6
second_range = refl

-- process p; begin end; var x: p
single_process_type : first_fault (program (more_parts (process_p false no_parts empty) (one_part (var_part x 22 (named p (at 23))))) empty) ≡ refused 310 23
single_process_type = refl

-- var x: array [1..2] of synchronous
signals_held : first_fault
    (program (var_x (array (record { low = bound 1 4; high = bound 2 5 } ∷ []) (named (codes "synchronous") (at 6)) (at 3))) empty) ≡ refused 411 6
signals_held = refl

-- procedure q (integer: char; x: integer); begin end;
parameter_in_view : first_fault
    (program (one_part (sub_part (sub q (record {
      reference = false;
      names = (codes "integer", at 21) ∷ [];
      form =
          (codes "char", at 22);
    } ∷ record { reference = false; names = (x, at 23) ∷ []; form = (codes "integer", at 24) } ∷ []) procedure no_parts
    (body_of (one_stmt empty)) (at 20)))) empty) ≡ refused 310 24
parameter_in_view = refl

-- var x: array [1..2] of integer; begin case x of 1: end end
array_cases : first_fault (program (var_x (row (bound 1 4) (bound 2 6)))
    (case_of (value x 41) (more_arms (arm (bound 1 42 ∷ []) empty) no_arms) false (at 40))) ≡ refused 319 42
array_cases = refl

-- ## Operators

-- var x: integer; begin x := not 1 end
not_number : first_fault (program integer_x (x_set (factor (negation (number (pos 1) (at 43)) (at 42)) 42))) ≡ refused 311 42
not_number = refl

-- var x: integer; begin x := -true end
minus_true : first_fault
    (program integer_x (x_set
    (plain (sum (Some (Minus, at 42)) (product (applied (name (codes "true") 43) no_actuals (at 43)) no_multipliers) no_summands) (at 42)))) ≡ refused 311 42
minus_true = refl

-- ## `any`

-- const c = any
any_constant : first_fault
    (program (one_part (consts (record { name = codes "c"; value = Named None (codes "any") (at 4); place = at 2 } ∷ []))) empty) ≡ refused 310 4
any_constant = refl

-- begin any := 1 end
any_assigned : first_fault (program no_parts (assign (name (codes "any") 40) (int_at 1 42) (at 40) (at 41))) ≡ refused 310 40
any_assigned = refl

-- begin read (any) end: 318 is lower than 412
any_read : first_fault (program no_parts (call_of (codes "read") (any_at 42))) ≡ refused 318 42
any_read = refl

-- var c: channel of integer; x: integer; begin c ! any end
any_number : first_fault (program (with_c no_parts) (send (name (codes "c") 40) (any_at 42) (at 40) (at 41))) ≡ refused 412 42
any_number = refl

-- var x: channel of synchronous; begin x ! (any) end: in parentheses it is a factor
any_in_parentheses : first_fault (program (var_x (channel (named (codes "synchronous") (at 4)) (at 3)))
    (send (name x 40) (in_parentheses (any_at 43) 42) (at 40) (at 41))) ≡ refused 412 41
any_in_parentheses = refl

-- var x: channel of synchronous; begin x ? any end
any_received : first_fault (program (var_x (channel (named (codes "synchronous") (at 4)) (at 3)))
    (receive (name x 40) (name (codes "any") 42) (at 40) (at 41))) ≡ None
any_received = refl

-- var x: integer; begin x ! 1 end
number_as_channel : first_fault (program integer_x (send (name x 40) (int_at 1 42) (at 40) (at 41))) ≡ refused 310 40
number_as_channel = refl

-- ## Calls

-- begin read end
nothing_read : first_fault (program no_parts (call (name (codes "read") 40) no_actuals (at 40))) ≡ refused 316 40
nothing_read = refl

-- begin readln end
line_read : first_fault (program no_parts (call (name (codes "readln") 40) no_actuals (at 40))) ≡ None
line_read = refl

-- begin read (true) end
constant_read : first_fault (program no_parts (call_of (codes "read") (value (codes "true") 42))) ≡ refused 318 42
constant_read = refl

-- begin write (('ab')) end: the literal is not the whole item
string_in_parentheses : first_fault (program no_parts (call_of (codes "write") (in_parentheses (factor (literal (codes "ab") (at 43)) 43) 42))) ≡ refused 325 43
string_in_parentheses = refl

-- process p; begin end; begin p end
activated_in_main : first_fault (program (one_part (process_p false no_parts empty)) (call (name p 40) no_actuals (at 40))) ≡ refused 402 40
activated_in_main = refl

-- process p; begin end; begin cobegin if true then p coend end
activated_within : first_fault (program (one_part (process_p false no_parts empty))
    (cobegin (one_stmt (if_then (value (codes "true") 43) (call (name p 45) no_actuals (at 45)) (at 42))) (at 50) (at 40))) ≡ None
activated_within = refl

-- process p; begin end; begin p.q end
no_such_entry : first_fault (program (one_part (process_p false no_parts empty))
    (call (desig p (more_selectors (field q (at 42)) no_selectors) (at 40)) no_actuals (at 40))) ≡ refused 413 42
no_such_entry = refl

-- process type p; begin end; begin p.q end
entry_of_type : first_fault (program (one_part (process_p true no_parts empty))
    (call (desig p (more_selectors (field q (at 42)) no_selectors) (at 40)) no_actuals (at 40))) ≡ refused 310 40
entry_of_type = refl

-- var x: record f: integer end; begin x.f end, and x.g: both call what is no process
field_called : first_fault
    (program (var_x pair) (call (desig x (more_selectors (field (codes "f") (at 42)) no_selectors) (at 40)) no_actuals (at 40))) ≡ refused 422 40
field_called = refl

no_field_called : first_fault
    (program (var_x pair) (call (desig x (more_selectors (field (codes "g") (at 42)) no_selectors) (at 40)) no_actuals (at 40))) ≡ refused 422 40
no_field_called = refl

-- process p; entry q (x: integer); begin x := 1 end: an entry's parameters are in view nowhere
entry_parameter : first_fault
    (program (one_part (process_part (process false p [] (record {
      name = q;
      formals = record {
        reference = false;
        names = (x, at 5) ∷ [];
        form =
            (codes "integer", at 6);
      } ∷ [];
      place = at 4;
    } ∷ []) no_parts (body_of (one_stmt (x_set (int_at 1 42)))) (at 2)))) empty) ≡ refused 301 40
entry_parameter = refl

-- resource r; .. guarded procedure p when true; var x: integer; begin x := p end;
guarded_value : first_fault (program (resource_r (one_part (var_part x 26 (an_integer 27))) (x_set (value p 42))) empty) ≡ refused 310 42
guarded_value = refl

-- function x: integer; procedure q; begin x := 1 end; begin end;
result_in_nested : first_fault
    (program (one_part (sub_part (sub x [] (function (codes "integer") (at 11)) (one_part (procedure_q no_parts (x_set (int_at 1 42))))
    (body_of (one_stmt empty)) (at 10)))) empty) ≡ None
result_in_nested = refl
