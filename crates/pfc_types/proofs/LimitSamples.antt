-- Small programs that hold as many processes as a program may, or one more, and selects with as many alternatives.
use Rattle.std.specs.Prelude.{◌≡◌, ℕ, pos, true, false, [], ◌∷◌, Some, None, codes, refl}
use Rattle.pfc_tree.specs.Symbols.{Text}
use Rattle.pfc_tree.specs.declared.tree.Sign.TheVariants.{Minus}
use Rattle.pfc_tree.specs.declared.tree.Constant.{Constant}
use Rattle.pfc_tree.specs.declared.tree.Constant.TheVariants.{Number, Named as NamedConstant, Literal}
use Rattle.pfc_tree.specs.trees.Types.{TypeTree, named, array, fields, var_item, no_vars, more_vars}
use Rattle.pfc_tree.specs.trees.Stmts.{AltTree, AltTrees, empty, select, select_else, no_stmts, alt, no_alts, more_alts, comm_receive, timeout}
use Rattle.pfc_tree.specs.trees.Parts.{PartTree, PartTrees, ProgramTree, vars, process_part, no_parts, more_parts, process}
use Rattle.pfc_types.specs.rules.Whole.{first_fault, first_concurrency_fault}
use Rattle.pfc_types.proofs.Samples.{at, refused, name, named_value as value, one_stmt, body_of, var_part, program as program_of, one_part, x}
use Rattle.pfc_types.proofs.SequentialSamples.{bound}
use Rattle.pfc_types.proofs.ConcurrentSamples.{p, q, process_p, semaphore_at, plain_alt, with_c}

abbrev program : PartTrees → ProgramTree
program ps = program_of ps (one_stmt empty)

abbrev y : Text
y = codes "y"

-- array [1..n] of t
abbrev many_of : ℕ → TypeTree → TypeTree
many_of n t = array (record { low = bound 1 12; high = bound n 13 } ∷ []) t (at 11)

-- process type p; begin end; var x: array [1..n] of p;
abbrev crowd : ℕ → PartTrees → PartTrees
crowd n ps = more_parts (process_p true no_parts empty) (more_parts (var_part x 10 (many_of n (named p (at 14)))) ps)

-- process q; begin end;
abbrev process_q : PartTree
process_q = process_part (process false q [] [] no_parts (body_of (one_stmt empty)) (at 20))

-- ## 424

just_enough : first_fault (program (crowd 1023 no_parts)) ≡ None
just_enough = refl

too_many : first_fault (program (crowd 1024 no_parts)) ≡ refused 424 10
too_many = refl

far_too_many : first_fault (program (crowd 60000 no_parts)) ≡ refused 424 10
far_too_many = refl

-- process q; begin end;
single_in_time : first_fault (program (crowd 1022 (one_part process_q))) ≡ None
single_in_time = refl

single_too_late : first_fault (program (crowd 1023 (one_part process_q))) ≡ refused 424 20
single_too_late = refl

-- the first declaration past the limit, and no later one
single_behind_too_many : first_fault (program (crowd 1024 (one_part process_q))) ≡ refused 424 10
single_behind_too_many = refl

-- var y: p;
variable_too_late : first_fault (program (crowd 1023 (one_part (var_part y 20 (named p (at 21)))))) ≡ refused 424 20
variable_too_late = refl

-- process type p; begin end; var x, y: array [1..n] of p;
abbrev two_crowds : ℕ → PartTrees
two_crowds n = more_parts (process_p true no_parts empty)
    (one_part (vars (more_vars (var_item ((x, at 9) ∷ (y, at 10) ∷ []) (many_of n (named p (at 14)))) no_vars)))

second_in_time : first_fault (program (two_crowds 511)) ≡ None
second_in_time = refl

second_too_late : first_fault (program (two_crowds 512)) ≡ refused 424 10
second_too_late = refl

-- record f, g: p; s: semaphore end
abbrev pair_of_processes : TypeTree
pair_of_processes =
    fields (more_vars (var_item ((codes "f", at 15) ∷ (codes "g", at 16) ∷ []) (named p (at 17)))
    (more_vars (var_item ((codes "s", at 18) ∷ []) (semaphore_at 19)) no_vars)) false (at 14)

-- process type p; begin end; var x: array [1..n] of record f, g: p; s: semaphore end;
abbrev pairs : ℕ → PartTrees → PartTrees
pairs n ps = more_parts (process_p true no_parts empty) (more_parts (var_part x 10 (many_of n pair_of_processes)) ps)

pairs_and_one : first_fault (program (pairs 511 (one_part process_q))) ≡ None
pairs_and_one = refl

pairs_too_many : first_fault (program (pairs 512 no_parts)) ≡ refused 424 10
pairs_too_many = refl

-- array [1..32, 1..32] of p: an array of arrays, whose place is the variable's
square : first_fault (program (more_parts (process_p true no_parts empty)
    (one_part (var_part x 10 (array (record { low = bound 1 12; high = bound 32 13 } ∷ record { low = bound 1 14; high = bound 32 15 } ∷ [])
    (named p (at 16)) (at 11)))))) ≡ refused 424 10
square = refl

-- ## 321 of a spread, and 425

abbrev minus : ℕ → ℕ → Constant
minus n p = Number (Some (Minus, at p)) (pos n) (at p)

abbrev constant : Text → ℕ → Constant
constant k p = NamedConstant None k (at p)

abbrev maximum : ℕ → Constant
maximum p = constant (codes "maxint") p

abbrev less_maximum : ℕ → Constant
less_maximum p = NamedConstant (Some (Minus, at p)) (codes "maxint") (at p)

-- for k := low to high replicate c ? x
abbrev spread_over : Text → Constant → Constant → AltTree
spread_over k low high = alt (Some (record { name = k; low = low; high = high; place = at 31 })) None
    (comm_receive (name (codes "c") 35) (name x 37) (at 36)) no_stmts

abbrev one_alt : AltTree → AltTrees
one_alt a = more_alts a no_alts

-- var c: channel of integer; x: integer; begin select alts end end.
abbrev selecting : AltTrees → ProgramTree
selecting alts = program_of (with_c no_parts) (one_stmt (select false alts (at 30) (at 30)))

-- the same with var y: t
abbrev selecting_of : TypeTree → AltTrees → ProgramTree
selecting_of t alts = program_of (with_c (one_part (var_part y 18 t))) (one_stmt (select false alts (at 30) (at 30)))

abbrev boolean_at : ℕ → TypeTree
boolean_at n = named (codes "boolean") (at n)

full_spread : first_fault (selecting (one_alt (spread_over x (bound 1 32) (bound 1024 33)))) ≡ None
full_spread = refl

spread_too_wide : first_fault (selecting (one_alt (spread_over x (bound 1 32) (bound 1025 33)))) ≡ refused 425 30
spread_too_wide = refl

spread_from_zero : first_fault (selecting (one_alt (spread_over x (bound 0 32) (bound 1024 33)))) ≡ refused 425 30
spread_from_zero = refl

-- the low constant is above the high one: no alternative
empty_spread : first_fault (selecting (one_alt (spread_over x (bound 2000 32) (bound 1 33)))) ≡ None
empty_spread = refl

-- two spreads, and a spread with a plain alternative
sum_in_time : first_fault (selecting (more_alts (spread_over x (bound 1 32) (bound 1000 33)) (one_alt (spread_over x (bound 1 32) (bound 24 33))))) ≡ None
sum_in_time = refl

sum_too_large : first_fault
    (selecting (more_alts (spread_over x (bound 1 32) (bound 1000 33)) (one_alt (spread_over x (bound 1 32) (bound 25 33))))) ≡ refused 425 30
sum_too_large = refl

plain_too_late : first_fault
    (selecting (more_alts (spread_over x (bound 1 32) (bound 1024 33)) (one_alt (plain_alt (comm_receive (name (codes "c") 40) (name x 42) (at 41)))))) ≡
    refused 425 30
plain_too_late = refl

-- an empty spread takes no room
empty_behind_full : first_fault (selecting (more_alts (spread_over x (bound 1 32) (bound 1024 33)) (one_alt (spread_over x (bound 1 32) (bound 0 33))))) ≡ None
empty_behind_full = refl

-- a `timeout` counts, an `else` does not
timeout_too_late : first_fault
    (selecting (more_alts (spread_over x (bound 1 32) (bound 1024 33)) (one_alt (plain_alt (timeout (value x 42) (at 41)))))) ≡ refused 425 30
timeout_too_late = refl

else_in_time : first_fault
    (program_of (with_c no_parts) (one_stmt (select_else false (one_alt (spread_over x (bound 1 32) (bound 1024 33)))
    (one_stmt empty) (at 45) (at 30) (at 30)))) ≡ None
else_in_time = refl

-- pri select: at `select`, and beside 416 at the same place
pri_too_wide : first_fault
    (program_of (with_c no_parts) (one_stmt (select true (one_alt (spread_over x (bound 1 32) (bound 1025 33))) (at 29) (at 30)))) ≡ refused 425 30
pri_too_wide = refl

-- the ends of the integers
at_the_end : first_fault (selecting (one_alt (spread_over x (bound 2147483646 32) (maximum 33)))) ≡ None
at_the_end = refl

from_end_to_end : first_fault (selecting (one_alt (spread_over x (less_maximum 32) (maximum 33)))) ≡ refused 425 30
from_end_to_end = refl

all_of_both : first_fault
    (selecting (more_alts (spread_over x (less_maximum 32) (maximum 33)) (one_alt (spread_over x (less_maximum 32) (maximum 33))))) ≡ refused 425 30
all_of_both = refl

below_zero : first_fault (selecting (one_alt (spread_over x (minus 512 32) (bound 511 33)))) ≡ None
below_zero = refl

-- over a boolean, and over a char
boolean_spread : first_fault (selecting_of (boolean_at 19) (one_alt (spread_over y (constant (codes "false") 32) (constant (codes "true") 33)))) ≡ None
boolean_spread = refl

char_spread : first_fault (selecting_of (named (codes "char") (at 19))
    (one_alt (spread_over y (Literal (codes "a") (at 32)) (Literal (codes "z") (at 33))))) ≡ None
char_spread = refl

-- the variable: unknown, no variable, not simple, of another type
unknown_variable : first_fault (selecting (one_alt (spread_over (codes "z") (bound 1 32) (bound 2 33)))) ≡ refused 301 31
unknown_variable = refl

constant_variable : first_fault (selecting (one_alt (spread_over (codes "true") (bound 1 32) (bound 2 33)))) ≡ refused 310 31
constant_variable = refl

channel_variable : first_fault (selecting (one_alt (spread_over (codes "c") (bound 1 32) (bound 2 33)))) ≡ refused 321 31
channel_variable = refl

other_type : first_fault (selecting_of (boolean_at 19) (one_alt (spread_over y (bound 0 32) (bound 1 33)))) ≡ refused 321 31
other_type = refl

-- its constants: of two types, unknown, a variable, a signed boolean
two_types : first_fault (selecting (one_alt (spread_over x (bound 1 32) (Literal (codes "z") (at 33))))) ≡ refused 321 31
two_types = refl

unknown_constant : first_fault (selecting (one_alt (spread_over x (bound 1 32) (constant (codes "z") 33)))) ≡ refused 301 33
unknown_constant = refl

variable_constant : first_fault (selecting (one_alt (spread_over x (constant x 32) (bound 2 33)))) ≡ refused 310 32
variable_constant = refl

signed_boolean : first_fault (selecting (one_alt (spread_over x (NamedConstant (Some (Minus, at 32)) (codes "true") (at 33)) (bound 2 34)))) ≡ refused 322 32
signed_boolean = refl

-- one constant breaks 321 whatever the other is
faulty_beside_wrong : first_fault (selecting (one_alt (spread_over x (constant (codes "true") 32) (constant (codes "z") 33)))) ≡ refused 321 31
faulty_beside_wrong = refl

-- the values of a spread with a faulty constant are not counted, those of the others are
faulty_not_counted : first_fault
    (selecting (more_alts (spread_over x (bound 1 32) (bound 1024 33)) (one_alt (spread_over x (bound 1 32) (constant (codes "z") 34))))) ≡ refused 301 34
faulty_not_counted = refl

others_counted : first_fault
    (selecting (more_alts (spread_over x (bound 1 32) (bound 1025 33)) (one_alt (spread_over x (bound 1 32) (constant (codes "z") 34))))) ≡ refused 425 30
others_counted = refl

-- a wrong variable makes no constant faulty: its values are counted
counted_beside_unknown : first_fault (selecting (one_alt (spread_over (codes "z") (bound 1 32) (bound 1025 33)))) ≡ refused 425 30
counted_beside_unknown = refl

wide_among_later : first_concurrency_fault (selecting (one_alt (spread_over (codes "z") (bound 1 32) (bound 1025 33)))) ≡ refused 425 30
wide_among_later = refl
