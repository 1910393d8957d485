-- Where instructions that need no more than the address and the operands of a process lead it quietly.
use Rattle.std.proofs.Common.{ℕ, ◌+◌, ℤ, Bool, true, false, if◌then◌else◌, List, drop, set, Ok, Err, refl}
use Rattle.std.specs.Ordering.{int_eq}
use Rattle.pfc_code.specs.declared.instructions.Instr.{Instr}
use Rattle.pfc_code.specs.declared.instructions.Instr.TheVariants.{LIT, IDX, FLD, NEG, ADD, SUB, MUL, DIV, MOD, ABS, SQR, ODD, CHR, SUCC, PRED, NOT, AND, OR}
use Rattle.pfc_code.specs.declared.instructions.Instr.TheVariants.{EQ, NE, LT, LE, GT, GE, JMP, JF, FORB, FORT, CEQ}
use Rattle.pfc_values.specs.Numbers.{Outcome, negative_of, sum_of, difference_of, product_of, quotient_of, remainder_of, magnitude_of, square_of, is_true}
use Rattle.pfc_values.specs.Numbers.{char_of, next_of, before_of}
use Rattle.pfc_stacks.specs.Effects.{OwnEffect, quiet, action, fault, more, with_outcome, element_at, type_numbered, is_past, is_before, value_behind}
use Rattle.pfc_stacks.specs.Effects.{own_effect}
use Rattle.pfc_stacks.specs.Stacks.{operand}
use Rattle.pfc_step_laws.proofs.Falling.{StepsTo, next, past, jumps, branches}

-- where a process goes on quietly, P holds of the address
abbrev pub QuietTo : (ℕ → Type 0) → OwnEffect → Type 0
QuietTo P (quiet a ops) = P a
QuietTo P (action a ops) = Unit {0}
QuietTo P (fault f) = Unit {0}
QuietTo P more = Unit {0}

outcome : (P : ℕ → Type 0) (at : ℕ) (below : List ℤ) (x : Outcome) → P (at + 1) → QuietTo P (with_outcome at below x)
outcome P at below (Ok v) h = h
outcome P at below (Err f) h = tt

chosen : (P : ℕ → Type 0) (r : Bool) (a b : ℕ) → P a → P b → P (if r then a else b)
chosen P true a b h l = h
chosen P false a b h l = l

either_way : (P : ℕ → Type 0) (r : Bool) (e f : OwnEffect) → QuietTo P e → QuietTo P f → QuietTo P (if r then e else f)
either_way P true e f h l = h
either_way P false e f h l = l

pub own_leads : (scans : List ℕ) (i : Instr) (at : ℕ) (ops : List ℤ) → QuietTo (StepsTo scans i at) (own_effect i at ops)
own_leads scans (LIT n) at ops = next refl refl
own_leads scans (IDX low high z) at ops =
    outcome (StepsTo scans (IDX low high z) at) at (drop 2 ops) (element_at low high z (operand ops 0) (operand ops 1)) (next refl refl)
own_leads scans (FLD k) at ops = next refl refl
own_leads scans NEG at ops = outcome (StepsTo scans NEG at) at (drop 1 ops) (negative_of (operand ops 0)) (next refl refl)
own_leads scans ADD at ops = outcome (StepsTo scans ADD at) at (drop 2 ops) (sum_of (operand ops 1) (operand ops 0)) (next refl refl)
own_leads scans SUB at ops = outcome (StepsTo scans SUB at) at (drop 2 ops) (difference_of (operand ops 1) (operand ops 0)) (next refl refl)
own_leads scans MUL at ops = outcome (StepsTo scans MUL at) at (drop 2 ops) (product_of (operand ops 1) (operand ops 0)) (next refl refl)
own_leads scans DIV at ops = outcome (StepsTo scans DIV at) at (drop 2 ops) (quotient_of (operand ops 1) (operand ops 0)) (next refl refl)
own_leads scans MOD at ops = outcome (StepsTo scans MOD at) at (drop 2 ops) (remainder_of (operand ops 1) (operand ops 0)) (next refl refl)
own_leads scans ABS at ops = outcome (StepsTo scans ABS at) at (drop 1 ops) (magnitude_of (operand ops 0)) (next refl refl)
own_leads scans SQR at ops = outcome (StepsTo scans SQR at) at (drop 1 ops) (square_of (operand ops 0)) (next refl refl)
own_leads scans ODD at ops = next refl refl
own_leads scans CHR at ops = outcome (StepsTo scans CHR at) at (drop 1 ops) (char_of (operand ops 0)) (next refl refl)
own_leads scans (SUCC k) at ops = outcome (StepsTo scans (SUCC k) at) at (drop 1 ops) (next_of (type_numbered k) (operand ops 0)) (next refl refl)
own_leads scans (PRED k) at ops = outcome (StepsTo scans (PRED k) at) at (drop 1 ops) (before_of (type_numbered k) (operand ops 0)) (next refl refl)
own_leads scans NOT at ops = next refl refl
own_leads scans AND at ops = next refl refl
own_leads scans OR at ops = next refl refl
own_leads scans EQ at ops = next refl refl
own_leads scans NE at ops = next refl refl
own_leads scans LT at ops = next refl refl
own_leads scans LE at ops = next refl refl
own_leads scans GT at ops = next refl refl
own_leads scans GE at ops = next refl refl
own_leads scans (JMP a) at ops = jumps refl refl
own_leads scans (JF a) at ops = chosen (StepsTo scans (JF a) at) (is_true (operand ops 0)) (at + 1) a (past a refl refl) (branches refl refl)
own_leads scans (FORB d a) at ops =
    either_way (StepsTo scans (FORB d a) at) (is_past d (operand ops 1) (operand ops 0)) (quiet a (drop 3 ops)) (quiet (at + 1) ops)
    (branches refl refl) (past a refl refl)
own_leads scans (FORT d a) at ops =
    either_way (StepsTo scans (FORT d a) at) (is_before d (operand ops 1) (operand ops 0)) (action a (set ops 1 (value_behind d (operand ops 1))))
    (quiet (at + 1) (drop 3 ops)) tt (next refl refl)
own_leads scans (CEQ n a) at ops =
    either_way (StepsTo scans (CEQ n a) at) (int_eq (operand ops 0) n) (quiet a (drop 1 ops)) (quiet (at + 1) ops)
    (branches refl refl) (past a refl refl)
own_leads scans i at ops = tt
