-- Small programs that count arguments, alone or where another rule is broken at the same name.
use Rattle.std.specs.Prelude.{◌≡◌, ℕ, false, List, [], ◌∷◌, None, Some, codes, refl}
use Rattle.pfc_base.specs.declared.places.Place.{Place}
use Rattle.pfc_tree.specs.Symbols.{Text}
use Rattle.pfc_tree.specs.trees.Exprs.{ExprTree, ActualTrees, desig, field, no_selectors, more_selectors, actual, actual_width, no_actuals, more_actuals}
use Rattle.pfc_tree.specs.trees.Types.{GroupTree, named}
use Rattle.pfc_tree.specs.trees.Stmts.{StmtTree, accepting, accept_do, assign, requeue, call, empty}
use Rattle.pfc_tree.specs.trees.Parts.{PartTrees, ProgramTree, types, sub_part, monitor, resource, process_part, procedure, guarded, no_parts, more_parts, sub}
use Rattle.pfc_tree.specs.trees.Parts.{the_module, process}
use Rattle.pfc_types.specs.rules.Whole.{first_fault, first_concurrency_fault}
use Rattle.pfc_types.proofs.Samples.{at, refused, name, named_value as value, one_stmt, body_of, var_part, program as program_of, one_part, x}
use Rattle.pfc_types.proofs.SequentialSamples.{int_at, char_at}
use Rattle.pfc_types.proofs.ConcurrentSamples.{p, q, procedure_q, monitor_m}

abbrev program : PartTrees → ProgramTree
program ps = program_of ps (one_stmt empty)

-- no argument, one, two and three
abbrev one : ExprTree → ActualTrees
one e = more_actuals (actual e) no_actuals

abbrev two : ExprTree → ExprTree → ActualTrees
two e f = more_actuals (actual e) (one f)

abbrev three : ExprTree → ExprTree → ExprTree → ActualTrees
three e f g = more_actuals (actual e) (two f g)

-- x, y: t
abbrev group : Text → ℕ → Text → ℕ → GroupTree
group y n t m = record { reference = false; names = (y, at n) ∷ []; form = (t, at m) }

-- ## 316 and 419

-- resource r; procedure q (x: integer; y: integer); begin end; guarded procedure p when true; begin requeue q args end; end;
abbrev requeued : ActualTrees → PartTrees
requeued args =
    one_part (resource (the_module (codes "r") []
    (more_parts (sub_part (sub q (group x 5 (codes "integer") 6 ∷ group (codes "y") 7 (codes "integer") 8 ∷
    []) procedure no_parts (body_of (one_stmt empty)) (at 4)))
    (one_part (sub_part (sub p [] (guarded (value (codes "true") 24) (at 23)) no_parts (body_of (one_stmt (requeue (q, at 31) args (at 30)))) (at 22))))) None
    (at 60) (at 2)))

requeue_of_one : first_fault (program (requeued (one (int_at 1 32)))) ≡ refused 316 31
requeue_of_one = refl

requeue_of_two : first_fault (program (requeued (two (int_at 1 32) (int_at 2 33)))) ≡ refused 419 31
requeue_of_two = refl

-- 419 is no less broken
requeue_among_later : first_concurrency_fault (program (requeued (one (int_at 1 32)))) ≡ refused 419 31
requeue_among_later = refl

-- requeue z (1)
requeue_unknown : first_fault
    (program (one_part (resource
    (the_module (codes "r") []
    (one_part (sub_part (sub p [] (guarded (value (codes "true") 24) (at 23)) no_parts
    (body_of (one_stmt (requeue (codes "z", at 31) (one (int_at 1 32)) (at 30)))) (at 22)))) None (at 60) (at 2))))) ≡ refused 301 31
requeue_unknown = refl

-- ## 316 and 410

-- monitor m; exports procedure q; begin end; end; begin m.q args end.
abbrev called : List (List (Text × Place)) → ActualTrees → ProgramTree
called exports args =
    program_of (one_part (monitor_m exports (one_part (procedure_q no_parts empty))))
    (one_stmt (call (desig (codes "m") (more_selectors (field q (at 32)) no_selectors) (at 30)) args (at 30)))

hidden_of_one : first_fault (called [] (one (int_at 1 33))) ≡ refused 316 32
hidden_of_one = refl

hidden_of_none : first_fault (called [] no_actuals) ≡ refused 410 32
hidden_of_none = refl

shown_of_one : first_fault (called (((q, at 6) ∷ []) ∷ []) (one (int_at 1 33))) ≡ refused 316 32
shown_of_one = refl

shown_of_none : first_fault (called (((q, at 6) ∷ []) ∷ []) no_actuals) ≡ None
shown_of_none = refl

-- ## The types of an accept's groups

-- type t = integer; process p; entry e (x: integer; y: t); begin accept e gs s end;
abbrev accepting_of : List GroupTree → StmtTree → PartTrees
accepting_of gs s =
    more_parts (types (record { name = codes "t"; form = named (codes "integer") (at 3); place = at 2 } ∷ []))
    (one_part (process_part (process false p [] (record {
      name = codes "e";
      formals =
          group x 13 (codes "integer") 14 ∷ group (codes "y") 15 (codes "t") 16 ∷ [];
      place = at 12;
    } ∷ []) no_parts
    (body_of (one_stmt (accepting (accept_do (codes "e") gs s (at 31)) (at 30)))) (at 10))))

-- accept e (t: integer; u: t) do t := u
named_as_type : first_fault (program (accepting_of (group (codes "t") 32 (codes "integer") 33 ∷ group (codes "u") 34 (codes "t") 35 ∷ [])
    (assign (name (codes "t") 40) (value (codes "u") 42) (at 40) (at 41)))) ≡ None
named_as_type = refl

-- accept e (v: integer; u: v)
named_as_parameter : first_fault
    (program (accepting_of (group (codes "v") 32 (codes "integer") 33 ∷ group (codes "u") 34 (codes "v") 35 ∷ []) empty)) ≡ refused 301 35
named_as_parameter = refl

-- accept e (u: integer; u: t)
named_twice : first_fault (program (accepting_of (group (codes "u") 32 (codes "integer") 33 ∷ group (codes "u") 34 (codes "t") 35 ∷ []) empty)) ≡ refused 302 34
named_twice = refl

-- ## Ranked delays

-- delay args
abbrev delay_of : ActualTrees → StmtTree
delay_of args = call (name (codes "delay") 30) args (at 30)

-- monitor m; var x: condition; procedure q; begin s end; end;
abbrev in_monitor : StmtTree → ProgramTree
in_monitor s = program (one_part (monitor_m [] (more_parts (var_part x 5 (named (codes "condition") (at 6))) (one_part (procedure_q no_parts s)))))

-- monitor m; var x: condition; begin s end;
abbrev in_initial_body : StmtTree → ProgramTree
in_initial_body s = program
    (one_part (monitor (the_module (codes "m") [] (one_part (var_part x 5 (named (codes "condition") (at 6)))) (Some (body_of (one_stmt s))) (at 60) (at 2))))

delay_of_none : first_fault (in_monitor (delay_of no_actuals)) ≡ refused 316 30
delay_of_none = refl

delay_of_one : first_fault (in_monitor (delay_of (one (value x 31)))) ≡ None
delay_of_one = refl

delay_of_two : first_fault (in_monitor (delay_of (two (value x 31) (int_at 1 32)))) ≡ None
delay_of_two = refl

delay_of_three : first_fault (in_monitor (delay_of (three (value x 31) (int_at 1 32) (int_at 1 33)))) ≡ refused 316 30
delay_of_three = refl

-- delay (x, 'a')
char_rank : first_fault (in_monitor (delay_of (two (value x 31) (char_at 32)))) ≡ refused 317 32
char_rank = refl

-- delay (x, x): 317 is lower than 406
condition_rank : first_fault (in_monitor (delay_of (two (value x 31) (value x 32)))) ≡ refused 317 32
condition_rank = refl

-- delay (x, z)
unknown_rank : first_fault (in_monitor (delay_of (two (value x 31) (value (codes "z") 32)))) ≡ refused 301 32
unknown_rank = refl

-- delay (1, 'a')
rank_without_condition : first_fault (in_monitor (delay_of (two (int_at 1 31) (char_at 32)))) ≡ refused 317 31
rank_without_condition = refl

-- delay (x, 1: 2)
rank_with_width : first_fault
    (in_monitor (delay_of (more_actuals (actual (value x 31)) (more_actuals (actual_width (int_at 1 32) (int_at 2 33)) no_actuals)))) ≡ refused 324 33
rank_with_width = refl

-- resume takes no rank
resume_of_two : first_fault (in_monitor (call (name (codes "resume") 30) (two (value x 31) (int_at 1 32)) (at 30))) ≡ refused 316 30
resume_of_two = refl

-- monitor m; var x: condition; begin delay (x, 1) end;
delay_outside : first_fault (in_initial_body (delay_of (two (value x 31) (int_at 1 32)))) ≡ refused 408 30
delay_outside = refl

-- with a third argument: 316 is lower than 408
delay_outside_of_three : first_fault (in_initial_body (delay_of (three (value x 31) (int_at 1 32) (int_at 1 33)))) ≡ refused 316 30
delay_outside_of_three = refl
