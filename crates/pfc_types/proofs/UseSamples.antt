-- Small programs that use names where they may not stand, or nearly so.
use Rattle.std.specs.Prelude.{◌≡◌, Bool, true, false, [], ◌∷◌, Some, None, codes, refl}
use Rattle.pfc_tree.specs.Symbols.{Text}
use Rattle.pfc_tree.specs.declared.tree.Sign.TheVariants.{Minus}
use Rattle.pfc_tree.specs.declared.tree.Constant.TheVariants.{Named, Literal}
use Rattle.pfc_tree.specs.trees.Exprs.{ExprTree, DesigTree, desig, field, no_selectors, more_selectors, actual, no_actuals, more_actuals, applied}
use Rattle.pfc_tree.specs.trees.Types.{named, channel, array, fields, var_item, no_vars, more_vars}
use Rattle.pfc_tree.specs.trees.Stmts.{StmtTree, case_of, cobegin, for_do, accepting, accept, requeue, select, assign, receive, call, empty, arm, no_arms}
use Rattle.pfc_tree.specs.trees.Stmts.{more_arms, no_alts, terminate}
use Rattle.pfc_tree.specs.trees.Parts.{PartTree, PartTrees, ProgramTree, consts, types, sub_part, resource, process_part, function, guarded, no_parts}
use Rattle.pfc_tree.specs.trees.Parts.{more_parts, sub, the_module, process}
use Rattle.pfc_types.specs.rules.Whole.{first_fault}
use Rattle.pfc_types.proofs.Samples.{at, refused, factor, name, named_value as value, one_stmt, body_of, var_part, program as program_of, one_part, x}
use Rattle.pfc_types.proofs.Samples.{an_integer}
use Rattle.pfc_types.proofs.SequentialSamples.{int_at, char_at, bound}
use Rattle.pfc_types.proofs.ConcurrentSamples.{p, q, process_p, procedure_q, monitor_m, with_c, semaphore_at, resource_r, requeue_of, receive_or}
use Rattle.pfc_types.proofs.OrderSamples.{x_set, integer_x, semaphore_x}

abbrev program : PartTrees → StmtTree → ProgramTree
program ps s = program_of ps (one_stmt s)

-- function q: integer; begin end;
abbrev function_q : PartTree
function_q = sub_part (sub q [] (function (codes "integer") (at 21)) no_parts (body_of (one_stmt empty)) (at 20))

-- f (e) as a value
abbrev applied_to : Text → ExprTree → ExprTree
applied_to f e = factor (applied (name f 42) (more_actuals (actual e) no_actuals) (at 42)) 42

-- ## Statements

-- var x: integer; begin for x := 1 to 'a' do end
for_char : first_fault (program integer_x (for_do x (int_at 1 42) false (char_at 43) empty (at 40) (at 41))) ≡ refused 321 41
for_char = refl

-- var x: semaphore; begin for x := 1 to 2 do end
for_semaphore : first_fault (program semaphore_x (for_do x (int_at 1 42) false (int_at 2 43) empty (at 40) (at 41))) ≡ refused 321 41
for_semaphore = refl

-- var x: integer; begin for x := 1 to 2 do end
for_integer : first_fault (program integer_x (for_do x (int_at 1 42) false (int_at 2 43) empty (at 40) (at 41))) ≡ None
for_integer = refl

-- begin true := 1 end
constant_assigned : first_fault (program no_parts (assign (name (codes "true") 40) (int_at 1 42) (at 40) (at 41))) ≡ refused 310 40
constant_assigned = refl

-- procedure q; begin end; begin q := 1 end
procedure_assigned : first_fault (program (one_part (procedure_q no_parts empty)) (assign (name q 40) (int_at 1 42) (at 40) (at 41))) ≡ refused 310 40
procedure_assigned = refl

-- function q: integer; begin end; begin q end
function_called : first_fault (program (one_part function_q) (call (name q 40) no_actuals (at 40))) ≡ refused 310 40
function_called = refl

-- var x: integer; function q: integer; begin end; begin x := q end
function_value : first_fault (program (more_parts (var_part x 2 (an_integer 3)) (one_part function_q)) (x_set (value q 42))) ≡ None
function_value = refl

-- var x: integer; procedure q; begin end; begin x := q end
procedure_value : first_fault (program (more_parts (var_part x 2 (an_integer 3)) (one_part (procedure_q no_parts empty))) (x_set (value q 42))) ≡ refused 310 42
procedure_value = refl

-- var x: integer; begin x := odd end
nothing_passed : first_fault (program integer_x (x_set (value (codes "odd") 42))) ≡ refused 316 42
nothing_passed = refl

-- var x: integer; begin x := abs ('a') end
abs_char : first_fault (program integer_x (x_set (applied_to (codes "abs") (char_at 44)))) ≡ refused 317 44
abs_char = refl

-- var x: integer; begin x := ord ('a') end
ord_char : first_fault (program integer_x (x_set (applied_to (codes "ord") (char_at 44)))) ≡ None
ord_char = refl

-- var x: integer; begin x.q := 1 end
field_of_number : first_fault (program integer_x (assign (desig x (more_selectors (field q (at 42)) no_selectors) (at 40))
    (int_at 1 44) (at 40) (at 43))) ≡ refused 315 42
field_of_number = refl

-- ## Constants

-- const c = 'ab'
string_constant : first_fault
    (program (one_part (consts (record { name = codes "c"; value = Literal (codes "ab") (at 4); place = at 2 } ∷ []))) empty) ≡ refused 325 4
string_constant = refl

-- begin case true of -true: end end
signed_label : first_fault
    (program no_parts (case_of (value (codes "true") 41) (more_arms (arm (Named (Some (Minus, at 42)) (codes "true") (at 43) ∷ []) empty) no_arms) false
    (at 40))) ≡ refused 322 42
signed_label = refl

-- ## Objects

-- type x = record q: semaphore end; procedure q; var p: x; begin end;
shared_record : first_fault
    (program (more_parts (types (record {
      name = x;
      form = fields (more_vars (var_item ((q, at 4) ∷ []) (semaphore_at 5)) no_vars) false (at 3);
      place =
          at 2;
    } ∷ [])) (one_part (procedure_q (one_part (var_part p 22 (named x (at 23)))) empty))) empty) ≡ refused 404 23
shared_record = refl

-- process p; var x: condition; begin end;
condition_in_process : first_fault
    (program (one_part (process_p false (one_part (var_part x 4 (named (codes "condition") (at 5)))) empty)) empty) ≡ refused 405 5
condition_in_process = refl

-- process p; entry q (x: semaphore); begin end;
semaphore_to_entry : first_fault
    (program (one_part (process_part (process false p [] (record {
      name = q;
      formals = record {
        reference = false;
        names = (x, at 5) ∷ [];
        form =
            (codes "semaphore", at 6);
      } ∷ [];
      place = at 4;
    } ∷ []) no_parts (body_of (one_stmt empty)) (at 2)))) empty) ≡ refused 406 6
semaphore_to_entry = refl

-- type x = synchronous
signal_named : first_fault
    (program (one_part (types (record { name = x; form = named (codes "synchronous") (at 3); place = at 2 } ∷ []))) empty) ≡ refused 411 3
signal_named = refl

-- ## Modules

-- monitor m; export q; function q: integer; begin end; end;
function_exported : first_fault (program (one_part (monitor_m (((q, at 6) ∷ []) ∷ []) (one_part function_q))) empty) ≡ refused 409 6
function_exported = refl

-- resource r; export p; guarded procedure p when e; begin end; end;
abbrev guarded_p : ExprTree → PartTree
guarded_p e =
    resource (the_module (codes "r") (((p, at 6) ∷ []) ∷ [])
    (more_parts (var_part x 8 (an_integer 9))
    (one_part (sub_part (sub p [] (guarded e (at 23)) no_parts (body_of (one_stmt empty)) (at 22))))) None (at 60) (at 2))

abbrev in_r : Text → DesigTree
in_r f = desig (codes "r") (more_selectors (field f (at 42)) no_selectors) (at 40)

-- begin r.p end
guarded_in_main : first_fault (program (one_part (guarded_p (value (codes "true") 24))) (call (in_r p) no_actuals (at 40))) ≡ None
guarded_in_main = refl

-- begin r.q end
unknown_in_resource : first_fault (program (one_part (guarded_p (value (codes "true") 24))) (call (in_r q) no_actuals (at 40))) ≡ refused 410 42
unknown_in_resource = refl

-- begin r.p (1) end
counted_in_resource : first_fault (program (one_part (guarded_p (value (codes "true") 24)))
    (call (in_r p) (more_actuals (actual (int_at 1 44)) no_actuals) (at 40))) ≡ refused 316 42
counted_in_resource = refl

-- when x: a variable of the resource, and no boolean
number_guards : first_fault (program (one_part (guarded_p (value x 24))) empty) ≡ refused 313 24
number_guards = refl

-- when odd (x)
odd_guards : first_fault
    (program (one_part (guarded_p (factor (applied (name (codes "odd") 24) (more_actuals (actual (value x 26)) no_actuals) (at 24)) 24))) empty) ≡ None
odd_guards = refl

-- when eof
eof_guards : first_fault (program (one_part (guarded_p (value (codes "eof") 24))) empty) ≡ refused 420 24
eof_guards = refl

-- guarded procedure p when true; begin requeue p (1) end;
requeue_counted : first_fault
    (program (resource_r no_parts (requeue (p, at 31) (more_actuals (actual (int_at 1 33)) no_actuals) (at 30))) empty) ≡ refused 316 31
requeue_counted = refl

-- guarded procedure p when true; begin requeue p end;
requeue_itself : first_fault (program (resource_r no_parts (requeue_of p)) empty) ≡ None
requeue_itself = refl

-- ## Processes

-- procedure q; begin cobegin coend end;
cobegin_in_sub : first_fault (program (one_part (procedure_q no_parts (cobegin (one_stmt empty) (at 31) (at 30)))) empty) ≡ refused 401 30
cobegin_in_sub = refl

-- procedure q; begin select c ? x or terminate end end;
terminate_outside : first_fault
    (program (with_c (one_part (procedure_q no_parts (select false (receive_or (terminate (at 40)) no_alts) (at 30) (at 30))))) empty) ≡ refused 421 40
terminate_outside = refl

-- process p; entry q (var x: integer); begin accept q (x: t) end;
abbrev accepting_q : Bool → Text → PartTree
accepting_q reference t =
    process_part (process false p [] (record {
      name = q;
      formals = record {
        reference = true;
        names = (x, at 5) ∷ [];
        form =
            (codes "integer", at 6);
      } ∷ [];
      place = at 4;
    } ∷ []) no_parts
    (body_of (one_stmt (accepting (accept q (record { reference = reference; names = (codes "y", at 32) ∷ []; form = (t, at 33) } ∷ []) (at 31)) (at 30))))
    (at 2))

-- accept q (y: integer): by value
accepted_by_value : first_fault (program (one_part (accepting_q false (codes "integer"))) empty) ≡ refused 415 31
accepted_by_value = refl

-- accept q (var y: integer): the names may differ
accepted_alike : first_fault (program (one_part (accepting_q true (codes "integer"))) empty) ≡ None
accepted_alike = refl

-- accept q (var y: unknown): a faulty type is not compared
accepted_faulty : first_fault (program (one_part (accepting_q true (codes "unknown"))) empty) ≡ refused 301 33
accepted_faulty = refl

-- process type p; begin end; var x: array [1..2] of p; begin x end: what is called is no process
array_activated : first_fault
    (program (more_parts (process_p true no_parts empty)
    (one_part (var_part x 10 (array (record { low = bound 1 12; high = bound 2 13 } ∷ []) (named p (at 14)) (at 11)))))
    (cobegin (one_stmt (call (name x 41) no_actuals (at 41))) (at 50) (at 40))) ≡ refused 310 41
array_activated = refl

-- var c: channel of integer; x: boolean; begin c ? x end
boolean_received : first_fault (program (more_parts (var_part (codes "c") 12 (channel (an_integer 14) (at 13)))
    (one_part (var_part x 15 (named (codes "boolean") (at 16))))) (receive (name (codes "c") 40) (name x 42) (at 40) (at 41))) ≡ refused 312 41
boolean_received = refl
