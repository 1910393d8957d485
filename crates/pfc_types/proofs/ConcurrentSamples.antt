-- Small programs that break one rule of concurrency, or nearly one.
use Rattle.std.specs.Prelude.{◌≡◌, ℕ, Bool, true, false, List, [], ◌∷◌, None, codes, refl}
use Rattle.pfc_base.specs.declared.places.Place.{Place}
use Rattle.pfc_tree.specs.Symbols.{Text}
use Rattle.pfc_tree.specs.trees.Exprs.{desig, field, no_selectors, more_selectors, actual, no_actuals, more_actuals}
use Rattle.pfc_tree.specs.trees.Types.{TypeTree, named, channel}
use Rattle.pfc_tree.specs.trees.Stmts.{StmtTree, AltTree, AltTrees, CommTree, cobegin, accepting, accept, requeue, select, select_else, call, empty, no_stmts}
use Rattle.pfc_tree.specs.trees.Stmts.{alt, no_alts, more_alts, comm_receive, timeout, terminate}
use Rattle.pfc_tree.specs.trees.Parts.{PartTree, PartTrees, ProgramTree, sub_part, monitor, resource, process_part, procedure, guarded, no_parts, more_parts}
use Rattle.pfc_tree.specs.trees.Parts.{sub, the_module, process}
use Rattle.pfc_types.specs.rules.Whole.{first_fault}
use Rattle.pfc_types.proofs.Samples.{at, refused, name, named_value as value, one_stmt, body_of, var_part, program as program_of, one_part, x, an_integer}
use Rattle.pfc_types.proofs.SequentialSamples.{int_at, var_x}

abbrev program : PartTrees → StmtTree → ProgramTree
program ps s = program_of ps (one_stmt s)

abbrev pub p : Text
p = codes "p"

abbrev pub q : Text
q = codes "q"

abbrev pub semaphore_at : ℕ → TypeTree
semaphore_at n = named (codes "semaphore") (at n)

abbrev condition_at : ℕ → TypeTree
condition_at n = named (codes "condition") (at n)

-- procedure q; parts begin s end;
abbrev pub procedure_q : PartTrees → StmtTree → PartTree
procedure_q ps s = sub_part (sub q [] procedure ps (body_of (one_stmt s)) (at 20))

-- process p; parts begin s end;
abbrev pub process_p : Bool → PartTrees → StmtTree → PartTree
process_p many ps s = process_part (process many p [] [] ps (body_of (one_stmt s)) (at 2))

-- monitor m; exports parts end;
abbrev pub monitor_m : List (List (Text × Place)) → PartTrees → PartTree
monitor_m exports ps = monitor (the_module (codes "m") exports ps None (at 60) (at 2))

-- ## 401 and 403

-- begin cobegin cobegin coend coend end
cobegin_twice : first_fault (program no_parts (cobegin (one_stmt (cobegin (one_stmt empty) (at 13) (at 11))) (at 14) (at 10))) ≡ refused 401 11
cobegin_twice = refl

-- initial (x, 1)
abbrev initial_x : ℕ → StmtTree
initial_x n = call (name (codes "initial") n) (more_actuals (actual (value x 32)) (more_actuals (actual (int_at 1 33)) no_actuals)) (at n)

-- var x: semaphore; procedure q; begin initial (x, 1) end; begin end
initial_in_sub : first_fault (program (more_parts (var_part x 2 (semaphore_at 3)) (one_part (procedure_q no_parts (initial_x 30)))) empty) ≡ refused 403 30
initial_in_sub = refl

-- var x: semaphore; begin initial (x, 1) end
initial_in_main : first_fault (program (var_x (semaphore_at 3)) (initial_x 30)) ≡ None
initial_in_main = refl

-- ## 404 and 405

-- procedure q; var x: semaphore; begin end;
local_semaphore : first_fault (program (one_part (procedure_q (var_x (semaphore_at 3)) empty)) empty) ≡ refused 404 3
local_semaphore = refl

-- monitor m; var x: channel of integer; end;
channel_in_monitor : first_fault (program (one_part (monitor_m [] (var_x (channel (an_integer 4) (at 3))))) empty) ≡ refused 404 3
channel_in_monitor = refl

-- process type p; begin end; procedure q; var x: p; begin end;
local_process : first_fault
    (program (more_parts (process_p true no_parts empty) (one_part (procedure_q (one_part (var_part x 22 (named p (at 23)))) empty))) empty) ≡ refused 404 23
local_process = refl

-- var x: condition
program_condition : first_fault (program (var_x (condition_at 3)) empty) ≡ refused 405 3
program_condition = refl

-- monitor m; procedure q; var x: condition; begin end; end;
condition_in_sub : first_fault
    (program (one_part (monitor_m [] (one_part (procedure_q (one_part (var_part x 22 (condition_at 23))) empty)))) empty) ≡ refused 405 23
condition_in_sub = refl

-- monitor m; var x: condition; end;
condition_in_monitor : first_fault (program (one_part (monitor_m [] (var_x (condition_at 3)))) empty) ≡ None
condition_in_monitor = refl

-- ## 406 and 407

-- procedure q (var x: t); begin end;
abbrev taking : Bool → Text → PartTree
taking reference t =
    sub_part (sub q (record { reference = reference; names = (x, at 21) ∷ []; form = (t, at 22) } ∷ []) procedure no_parts (body_of (one_stmt empty)) (at 20))

-- procedure q (x: semaphore); begin end;
semaphore_by_value : first_fault (program (one_part (taking false (codes "semaphore"))) empty) ≡ refused 406 22
semaphore_by_value = refl

-- procedure q (var x: semaphore); begin end;
semaphore_lent : first_fault (program (one_part (taking true (codes "semaphore"))) empty) ≡ None
semaphore_lent = refl

-- procedure q (var x: condition); begin end;
condition_lent : first_fault (program (one_part (taking true (codes "condition"))) empty) ≡ refused 407 22
condition_lent = refl

-- process type p; begin end; procedure q (var x: p); begin end;
process_lent : first_fault (program (more_parts (process_p true no_parts empty) (one_part (taking true p))) empty) ≡ refused 407 22
process_lent = refl

-- ## 409

-- monitor m; export q; end;
export_unknown : first_fault (program (one_part (monitor_m (((q, at 6) ∷ []) ∷ []) no_parts)) empty) ≡ refused 409 6
export_unknown = refl

-- monitor m; export x; var x: integer; end;
export_variable : first_fault (program (one_part (monitor_m (((x, at 6) ∷ []) ∷ []) (one_part (var_part x 8 (an_integer 9))))) empty) ≡ refused 409 6
export_variable = refl

-- monitor m; export q; export q; procedure q; begin end; end;
export_twice : first_fault
    (program (one_part (monitor_m (((q, at 6) ∷ []) ∷ ((q, at 7) ∷ []) ∷ []) (one_part (procedure_q no_parts empty)))) empty) ≡ refused 409 7
export_twice = refl

-- ## 413 and 414

-- accept q
abbrev accept_q : ℕ → StmtTree
accept_q n = accepting (accept q [] (at 31)) (at n)

-- process p; entry q; parts begin s end;
abbrev served : PartTrees → StmtTree → PartTree
served ps s = process_part (process false p [] (record { name = q; formals = []; place = at 3 } ∷ []) ps (body_of (one_stmt s)) (at 2))

-- begin accept q end
accept_in_main : first_fault (program no_parts (accept_q 30)) ≡ refused 414 30
accept_in_main = refl

-- process p; entry q; procedure x; begin accept q end; begin end;
accept_in_sub : first_fault
    (program (one_part (served (one_part (sub_part (sub x [] procedure no_parts (body_of (one_stmt (accept_q 30))) (at 20)))) empty)) empty) ≡ refused 414 30
accept_in_sub = refl

-- process p; entry q; begin accept q end;
accept_in_process : first_fault (program (one_part (served no_parts (accept_q 30))) empty) ≡ None
accept_in_process = refl

-- ## 416, 417 and 421

abbrev pub plain_alt : CommTree → AltTree
plain_alt c = alt None None c no_stmts

-- c ? x or comm
abbrev pub receive_or : CommTree → AltTrees → AltTrees
receive_or c more = more_alts (plain_alt (comm_receive (name (codes "c") 31) (name x 33) (at 32))) (more_alts (plain_alt c) more)

-- var c: channel of integer; x: integer;
abbrev pub with_c : PartTrees → PartTrees
with_c ps = more_parts (var_part (codes "c") 12 (channel (an_integer 14) (at 13))) (more_parts (var_part x 15 (an_integer 16)) ps)

abbrev waits : ℕ → CommTree
waits n = timeout (int_at 1 41) (at n)

-- begin select timeout 1 end end
only_timeout : first_fault (program no_parts (select false (more_alts (plain_alt (timeout (int_at 1 32) (at 31))) no_alts) (at 30) (at 30))) ≡ refused 416 30
only_timeout = refl

-- begin pri select timeout 1 end end: at `select` and not at `pri`
pri_timeout : first_fault (program no_parts (select true (more_alts (plain_alt (timeout (int_at 1 32) (at 31))) no_alts) (at 29) (at 30))) ≡ refused 416 30
pri_timeout = refl

-- var c: channel of integer; x: integer; begin select c ? x or timeout 1 end end
one_way_out : first_fault (program (with_c no_parts) (select false (receive_or (waits 40) no_alts) (at 30) (at 30))) ≡ None
one_way_out = refl

-- begin select c ? x or timeout 1 or timeout 1 end end
two_timeouts : first_fault
    (program (with_c no_parts) (select false (receive_or (waits 40) (more_alts (plain_alt (waits 42)) no_alts)) (at 30) (at 30))) ≡ refused 417 42
two_timeouts = refl

-- begin select c ? x or timeout 1 else end end
timeout_and_else : first_fault (program (with_c no_parts) (select_else false (receive_or (waits 40) no_alts) (one_stmt empty)
    (at 45) (at 30) (at 30))) ≡ refused 417 45
timeout_and_else = refl

-- begin select c ? x or timeout true end end
timeout_true : first_fault
    (program (with_c no_parts) (select false (receive_or (timeout (value (codes "true") 41) (at 40)) no_alts) (at 30) (at 30))) ≡ refused 317 41
timeout_true = refl

-- begin select c ? x or terminate end end
terminate_in_main : first_fault (program (with_c no_parts) (select false (receive_or (terminate (at 40)) no_alts) (at 30) (at 30))) ≡ refused 421 40
terminate_in_main = refl

-- process p; procedure q; begin select c ? x or terminate end end; begin end;
terminate_in_sub : first_fault
    (program (with_c (one_part
    (process_p false (one_part (procedure_q no_parts (select false (receive_or (terminate (at 40)) no_alts) (at 30) (at 30)))) empty))) empty) ≡ None
terminate_in_sub = refl

-- ## 418, 419 and 423

-- requeue f
abbrev pub requeue_of : Text → StmtTree
requeue_of f = requeue (f, at 31) no_actuals (at 30)

-- resource r; procedure q; begin end; guarded procedure p when true; parts begin s end; end;
abbrev pub resource_r : PartTrees → StmtTree → PartTrees
resource_r ps s =
    one_part (resource (the_module (codes "r") []
    (more_parts (procedure_q no_parts empty)
    (one_part (sub_part (sub p [] (guarded (value (codes "true") 24) (at 23)) ps (body_of (one_stmt s)) (at 22))))) None (at 60) (at 2)))

-- procedure q; begin requeue q end;
requeue_outside : first_fault (program (one_part (procedure_q no_parts (requeue_of q))) empty) ≡ refused 418 30
requeue_outside = refl

-- guarded procedure p when true; procedure x; begin requeue p end; begin end;
requeue_in_sub : first_fault
    (program (resource_r (one_part (sub_part (sub x [] procedure no_parts (body_of (one_stmt (requeue_of p))) (at 26)))) empty) empty) ≡ refused 418 30
requeue_in_sub = refl

-- guarded procedure p when true; begin requeue q end;
requeue_plain : first_fault (program (resource_r no_parts (requeue_of q)) empty) ≡ refused 419 31
requeue_plain = refl

-- guarded procedure p when true; begin requeue true end;
requeue_constant : first_fault (program (resource_r no_parts (requeue_of (codes "true"))) empty) ≡ refused 310 31
requeue_constant = refl

-- guarded procedure p when true; begin p end;
guarded_called : first_fault (program (resource_r no_parts (call (name p 30) no_actuals (at 30))) empty) ≡ refused 423 30
guarded_called = refl

-- guarded procedure p when true; begin p (1) end: 316 is lower than 423
guarded_counted : first_fault (program (resource_r no_parts (call (name p 30) (more_actuals (actual (int_at 1 31)) no_actuals) (at 30))) empty) ≡ refused 316 30
guarded_counted = refl

-- guarded procedure p when true; begin q end;
plain_called : first_fault (program (resource_r no_parts (call (name q 30) no_actuals (at 30))) empty) ≡ None
plain_called = refl

-- ## 422

-- var x: integer; begin x.q end
entry_of_number : first_fault
    (program (var_x (an_integer 3)) (call (desig x (more_selectors (field q (at 32)) no_selectors) (at 30)) no_actuals (at 30))) ≡ refused 422 30
entry_of_number = refl

-- var c: channel of integer; begin c.q end
entry_of_channel : first_fault
    (program (with_c no_parts) (call (desig (codes "c") (more_selectors (field q (at 32)) no_selectors) (at 30)) no_actuals (at 30))) ≡ refused 422 30
entry_of_channel = refl
