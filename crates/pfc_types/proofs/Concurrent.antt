-- Small programs with subs, modules and processes whose first fault the definitions compute.
use Rattle.std.specs.Prelude.{◌≡◌, ℕ, ◌+◌, pos, Bool, true, false, [], ◌∷◌, Some, None, codes, refl}
use Rattle.pfc_tree.specs.Symbols.{Text}
use Rattle.pfc_tree.specs.declared.tree.Relation.TheVariants.{Eq}
use Rattle.pfc_tree.specs.declared.tree.Constant.TheVariants.{Number}
use Rattle.pfc_tree.specs.trees.Exprs.{ExprTree, DesigTree, ActualTrees, related, sum, no_summands, product, no_multipliers, number, applied, desig, index}
use Rattle.pfc_tree.specs.trees.Exprs.{field, no_selectors, more_selectors, no_exprs, more_exprs, actual, no_actuals, more_actuals}
use Rattle.pfc_tree.specs.trees.Types.{GroupTree, named, array}
use Rattle.pfc_tree.specs.trees.Stmts.{StmtTree, BodyTree, cobegin, accepting, accept_do, requeue, assign, call, empty}
use Rattle.pfc_tree.specs.trees.Parts.{PartTree, PartTrees, ProgramTree, types, sub_part, monitor, resource, process_part, procedure, function, guarded}
use Rattle.pfc_tree.specs.trees.Parts.{no_parts, more_parts, sub, the_module, process}
use Rattle.pfc_types.specs.rules.Whole.{first_fault}
use Rattle.pfc_types.proofs.Samples.{at, refused, factor, name, named_value as value, one_stmt as stmts_of, body_of as body_with, var_part}
use Rattle.pfc_types.proofs.Samples.{program as program_of, one_part, x, an_integer}

abbrev body_of : StmtTree → BodyTree
body_of s = body_with (stmts_of s)

abbrev program : PartTrees → StmtTree → ProgramTree
program ps s = program_of ps (stmts_of s)

abbrev one_at : ℕ → ExprTree
one_at n = factor (number (pos 1) (at n)) n

abbrev with_one : ExprTree → ActualTrees
with_one e = more_actuals (actual e) no_actuals

abbrev group : Bool → Text → ℕ → ℕ → GroupTree
group reference x n m = record { reference = reference; names = (x, at n) ∷ []; form = (codes "integer", at m) }

abbrev p : Text
p = codes "p"

abbrev e : Text
e = codes "e"

abbrev procedure_p : BodyTree → PartTree
procedure_p b = sub_part (sub p [] procedure no_parts b (at 10))

-- procedure p; begin x := 1 end; var x: integer; begin end.
later_name : first_fault (program (more_parts (procedure_p (body_of (assign (name x 20) (one_at 22) (at 20) (at 21))))
    (one_part (var_part x 30 (an_integer 31)))) empty) ≡ refused 301 20
later_name = refl

-- var x: integer; procedure p; begin x := 1 end; begin end.
earlier_name : first_fault
    (program (more_parts (var_part x 5 (an_integer 6)) (one_part (procedure_p (body_of (assign (name x 20) (one_at 22) (at 20) (at 21)))))) empty) ≡ None
earlier_name = refl

-- procedure p; begin p end; begin p end.
recursive : first_fault (program (one_part (procedure_p (body_of (call (name p 20) no_actuals (at 20))))) (call (name p 40) no_actuals (at 40))) ≡ None
recursive = refl

-- function p: integer; begin end; begin p := 1 end.
assigned_outside : first_fault (program (one_part (sub_part (sub p [] (function (codes "integer") (at 11)) no_parts (body_of empty) (at 10))))
    (assign (name p 40) (one_at 42) (at 40) (at 41))) ≡ refused 327 40
assigned_outside = refl

-- type x = x;
own_type : first_fault (program (one_part (types (record { name = x; form = named x (at 6); place = at 5 } ∷ []))) empty) ≡ refused 301 6
own_type = refl

-- process type p; entry e (x: integer); begin accept e (x: integer) do x := 1 end;
abbrev server : ℕ → Text → PartTree
server n t =
    process_part (process true p [] (record { name = e; formals = group false x 13 14 ∷ []; place = at 12 } ∷ []) no_parts
    (body_of (accepting (accept_do e (record { reference = false; names = (x, at 17) ∷ []; form = (t, at 18) } ∷ [])
    (assign (name x 20) (one_at 22) (at 20) (at 21)) (at n)) (at 15))) (at 10))

-- var x: array [1..2] of p;
abbrev servers : PartTree
servers = var_part x 30 (array (record { low = Number None (pos 1) (at 32); high = Number None (pos 2) (at 33) } ∷ []) (named p (at 34)) (at 31))

-- x[1]
abbrev first_server : ℕ → DesigTree
first_server n = desig x (more_selectors (index (more_exprs (one_at (n + 1)) no_exprs) (at n)) no_selectors) (at n)

-- x[1].e (1)
abbrev called_entry : Text → DesigTree
called_entry f = desig x (more_selectors (index (more_exprs (one_at 52) no_exprs) (at 51)) (more_selectors (field f (at 53)) no_selectors)) (at 50)

-- begin cobegin x[1].e (1) coend end.
served : first_fault (program (more_parts (server 16 (codes "integer")) (one_part servers))
    (cobegin (stmts_of (call (called_entry e) (with_one (one_at 55)) (at 50))) (at 60) (at 45))) ≡ None
served = refl

activated : first_fault (program (more_parts (server 16 (codes "integer")) (one_part servers))
    (cobegin (stmts_of (call (first_server 50) no_actuals (at 50))) (at 60) (at 45))) ≡ None
activated = refl

no_entry : first_fault (program (more_parts (server 16 (codes "integer")) (one_part servers))
    (call (called_entry p) (with_one (one_at 55)) (at 50))) ≡ refused 413 53
no_entry = refl

too_many_arguments : first_fault (program (more_parts (server 16 (codes "integer")) (one_part servers))
    (call (called_entry e) no_actuals (at 50))) ≡ refused 316 53
too_many_arguments = refl

-- accept e (x: char) of an entry that takes an integer
accept_differs : first_fault (program (one_part (server 16 (codes "char"))) empty) ≡ refused 415 16
accept_differs = refl

-- monitor m; export p; var x: condition; procedure p; begin delay (x) end; ..
abbrev monitor_m : BodyTree → PartTree
monitor_m b =
    monitor (the_module (codes "m") (((p, at 6) ∷ []) ∷ [])
    (more_parts (var_part x 7 (named (codes "condition") (at 8)))
    (one_part (procedure_p (body_of (call (name (codes "delay") 20) (with_one (value x 22)) (at 20)))))) (Some b) (at 29) (at 5))

abbrev in_m : Text → DesigTree
in_m f = desig (codes "m") (more_selectors (field f (at 41)) no_selectors) (at 40)

-- begin m.p end.
monitor_called : first_fault (program (one_part (monitor_m (body_of empty))) (call (in_m p) no_actuals (at 40))) ≡ None
monitor_called = refl

not_exported : first_fault (program (one_part (monitor_m (body_of empty))) (call (in_m x) no_actuals (at 40))) ≡ refused 410 41
not_exported = refl

delay_in_init : first_fault (program (one_part (monitor_m (body_of (call (name (codes "delay") 25) (with_one (value x 27)) (at 25))))) empty) ≡ refused 408 25
delay_in_init = refl

-- a variable as the one that is guarded: var n: integer; resource r; var x: integer; guarded procedure p (var e: integer) when .. = 1;
-- begin requeue p (..) end; end;
abbrev resource_r : Text → Bool → Text → PartTrees
resource_r guard reference lent =
    more_parts (var_part (codes "n") 2 (an_integer 3))
    (one_part (resource (the_module (codes "r") []
    (more_parts (var_part x 7 (an_integer 8))
    (one_part (sub_part (sub p (group true e 12 13 ∷ group reference (codes "f") 14 15 ∷ [])
    (guarded (related (sum None (product (applied (name guard 17) no_actuals (at 17)) no_multipliers) no_summands) (Eq, at 18)
    (sum None (product (number (pos 1) (at 19)) no_multipliers) no_summands) (at 17)) (at 16)) no_parts
    (body_of (requeue (p, at 21) (more_actuals (actual (value lent 22)) (more_actuals (actual (value e 23)) no_actuals)) (at 20))) (at 10))))) None (at 29)
    (at 5))))

requeued : first_fault (program (resource_r x false e) empty) ≡ None
requeued = refl

-- the guard names a variable of the program
bad_guard : first_fault (program (resource_r (codes "n") false e) empty) ≡ refused 420 17
bad_guard = refl

-- the guard names a parameter
guard_parameter : first_fault (program (resource_r e false e) empty) ≡ refused 420 17
guard_parameter = refl

-- the guard names its own procedure, which is not in view
guard_itself : first_fault (program (resource_r p false e) empty) ≡ refused 301 17
guard_itself = refl

-- a value parameter of the activation that ends is lent
lent_parameter : first_fault (program (resource_r x false (codes "f")) empty) ≡ refused 318 22
lent_parameter = refl

-- a reference parameter may be lent on
lent_reference : first_fault (program (resource_r x true (codes "f")) empty) ≡ None
lent_reference = refl
