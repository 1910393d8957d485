-- Small programs whose first fault the definitions compute.
use Rattle.std.specs.Prelude.{◌≡◌, ℕ, pos, false, [], ◌∷◌, Option, Some, None, codes, refl}
use Rattle.pfc_base.specs.declared.places.Place.{Place}
use Rattle.pfc_base.specs.declared.faults.Refusal.{Refusal}
use Rattle.pfc_tree.specs.Symbols.{Text}
use Rattle.pfc_tree.specs.declared.tree.AddOp.TheVariants.{Add}
use Rattle.pfc_tree.specs.trees.Exprs.{ExprTree, FactorTree, DesigTree, plain, sum, no_summands, more_summands, product, no_multipliers, number, literal}
use Rattle.pfc_tree.specs.trees.Exprs.{applied, desig, no_selectors, actual, no_actuals, more_actuals}
use Rattle.pfc_tree.specs.trees.Types.{TypeTree, named, channel, var_item, no_vars, more_vars}
use Rattle.pfc_tree.specs.trees.Stmts.{StmtTree, StmtTrees, BodyTree, for_do, cobegin, assign, send, call, empty, no_stmts, more_stmts, body}
use Rattle.pfc_tree.specs.trees.Parts.{PartTree, PartTrees, ProgramTree, vars, sub_part, process_part, procedure, function, no_parts, more_parts, sub, process}
use Rattle.pfc_types.specs.rules.Whole.{first_fault, first_concurrency_fault}

-- the place of token n, and a refusal there
abbrev pub at : ℕ → Place
at n = record { line = 1; column = n }

abbrev pub refused : ℕ → ℕ → Option Refusal
refused code n = Some (record { code = code; place = at n })

-- expressions and statements, short
abbrev pub factor : FactorTree → ℕ → ExprTree
factor f n = plain (sum None (product f no_multipliers) no_summands) (at n)

abbrev pub name : Text → ℕ → DesigTree
name x n = desig x no_selectors (at n)

abbrev pub named_value : Text → ℕ → ExprTree
named_value x n = factor (applied (name x n) no_actuals (at n)) n

abbrev plus : Text → ℕ → ℕ → Text → ℕ → ExprTree
plus x n o y m =
    plain (sum None (product (applied (name x n) no_actuals (at n)) no_multipliers)
    (more_summands (Add, at o) (product (applied (name y m) no_actuals (at m)) no_multipliers) no_summands)) (at n)

abbrev pub one_stmt : StmtTree → StmtTrees
one_stmt s = more_stmts s no_stmts

abbrev pub body_of : StmtTrees → BodyTree
body_of ss = body ss (at 0) (at 9999)

abbrev pub var_part : Text → ℕ → TypeTree → PartTree
var_part x n t = vars (more_vars (var_item ((x, at n) ∷ []) t) no_vars)

abbrev pub program : PartTrees → StmtTrees → ProgramTree
program ps ss = record { name = (codes "a", at 1); params = []; parts = ps; body = body_of ss; place = at 0 }

abbrev pub one_part : PartTree → PartTrees
one_part q = more_parts q no_parts

abbrev i : Text
i = codes "i"

abbrev s : Text
s = codes "s"

abbrev pub x : Text
x = codes "x"

abbrev pub an_integer : ℕ → TypeTree
an_integer n = named (codes "integer") (at n)

-- program a; begin end.
nothing : first_fault (program no_parts (one_stmt empty)) ≡ None
nothing = refl

-- var s: semaphore; begin s := s end.
semaphore_assigned : first_fault (program (one_part (var_part s 2 (named (codes "semaphore") (at 3))))
    (one_stmt (assign (name s 10) (named_value s 12) (at 10) (at 11)))) ≡ refused 406 10
semaphore_assigned = refl

-- process p; begin cobegin coend end; begin end.
cobegin_in_process : first_fault
    (program (one_part (process_part (process false (codes "p") [] [] no_parts (body_of (one_stmt (cobegin (one_stmt empty) (at 6) (at 5)))) (at 2))))
    (one_stmt empty)) ≡ refused 401 5
cobegin_in_process = refl

-- begin x := 1 end
unknown : first_fault (program no_parts (one_stmt (assign (name x 10) (factor (number (pos 1) (at 12)) 12) (at 10) (at 11)))) ≡ refused 301 10
unknown = refl

-- var i: integer; begin i := x end: the part is faulty, so the types are not compared
unknown_value : first_fault (program (one_part (var_part i 2 (an_integer 3)))
    (one_stmt (assign (name i 10) (named_value x 12) (at 10) (at 11)))) ≡ refused 301 12
unknown_value = refl

-- var i: integer; begin i := true + x end: `true` breaks the operator's rule, whatever x is
operand : first_fault (program (one_part (var_part i 2 (an_integer 3)))
    (one_stmt (assign (name i 10) (plus (codes "true") 12 13 x 14) (at 10) (at 11)))) ≡ refused 311 13
operand = refl

-- var i: integer; begin i := any end
any_value : first_fault (program (one_part (var_part i 2 (an_integer 3)))
    (one_stmt (assign (name i 10) (named_value (codes "any") 12) (at 10) (at 11)))) ≡ refused 412 12
any_value = refl

-- var i: integer; begin i := 'ab' end
a_string : first_fault (program (one_part (var_part i 2 (an_integer 3)))
    (one_stmt (assign (name i 10) (factor (literal (codes "ab") (at 12)) 12) (at 10) (at 11)))) ≡ refused 325 12
a_string = refl

-- var i, i: integer
repeated : first_fault (program (one_part (vars (more_vars (var_item ((i, at 2) ∷ (i, at 3) ∷ []) (an_integer 4)) no_vars))) (one_stmt empty)) ≡ refused 302 3
repeated = refl

-- var i: synchronous
not_carried : first_fault (program (one_part (var_part i 2 (named (codes "synchronous") (at 3)))) (one_stmt empty)) ≡ refused 411 3
not_carried = refl

-- var c: channel of synchronous; begin c ! any end
signal_sent : first_fault (program (one_part (var_part (codes "c") 2 (channel (named (codes "synchronous") (at 4)) (at 3))))
    (one_stmt (send (name (codes "c") 10) (named_value (codes "any") 12) (at 10) (at 11)))) ≡ None
signal_sent = refl

-- var c: channel of synchronous; begin c ! 1 end: 312 at `!` is lower than 412
number_sent : first_fault (program (one_part (var_part (codes "c") 2 (channel (named (codes "synchronous") (at 4)) (at 3))))
    (one_stmt (send (name (codes "c") 10) (factor (number (pos 1) (at 12)) 12) (at 10) (at 11)))) ≡ refused 312 11
number_sent = refl

-- var c: channel of synchronous; begin c ! x end: the message is faulty, and still no signal
faulty_sent : first_fault (program (one_part (var_part (codes "c") 2 (channel (named (codes "synchronous") (at 4)) (at 3))))
    (one_stmt (send (name (codes "c") 10) (named_value x 12) (at 10) (at 11)))) ≡ refused 412 11
faulty_sent = refl

-- procedure p(c: condition): 406 and 407 at one place
condition_passed : first_fault
    (program (one_part (sub_part (sub (codes "p") (record {
      reference = false;
      names = (codes "c", at 3) ∷ [];
      form =
          (codes "condition", at 4);
    } ∷ []) procedure no_parts (body_of (one_stmt empty)) (at 2)))) (one_stmt empty)) ≡ refused 406 4
condition_passed = refl

-- function f: synchronous
function_of_signals : first_fault
    (program (one_part (sub_part (sub (codes "f") [] (function (codes "synchronous") (at 3)) no_parts (body_of (one_stmt empty)) (at 2)))) (one_stmt empty)) ≡
    refused 411 3
function_of_signals = refl

-- procedure p(n: integer); .. begin p end: as many arguments as formals
too_few : first_fault
    (program (one_part (sub_part (sub (codes "p") (record {
      reference = false;
      names = (codes "n", at 3) ∷ [];
      form =
          (codes "integer", at 4);
    } ∷ []) procedure no_parts (body_of (one_stmt (call (name (codes "p") 5) no_actuals (at 5)))) (at 2)))) (one_stmt empty)) ≡
    refused 316 5
too_few = refl

-- process p; begin end; begin p(1) end: 316 at the statement is lower than 402
activated_wrong : first_fault (program (one_part (process_part (process false (codes "p") [] [] no_parts (body_of (one_stmt empty)) (at 2))))
    (one_stmt (call (name (codes "p") 10) (more_actuals (actual (factor (number (pos 1) (at 11)) 11)) no_actuals) (at 10)))) ≡ refused 316 10
activated_wrong = refl

activated_outside : first_concurrency_fault (program (one_part (process_part (process false (codes "p") [] [] no_parts (body_of (one_stmt empty)) (at 2))))
    (one_stmt (call (name (codes "p") 10) (more_actuals (actual (factor (number (pos 1) (at 11)) 11)) no_actuals) (at 10)))) ≡ refused 402 10
activated_outside = refl

-- var i: integer; begin for i := true to x do end
for_bounds : first_fault (program (one_part (var_part i 2 (an_integer 3)))
    (one_stmt (for_do i (named_value (codes "true") 12) false (named_value x 13) empty (at 9) (at 10)))) ≡ refused 321 10
for_bounds = refl
