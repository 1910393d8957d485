-- What each instruction does: one line for each.
use Rattle.std.specs.Prelude.{ℕ, zero, suc, ◌+◌, ℤ, pos, ◌+ℤ◌, ◌-ℤ◌, ◌*ℤ◌, int_le, int_lt, Bool, ◌&&◌, not, if◌then◌else◌, List, [], ◌∷◌, ◌++◌, drop, take}
use Rattle.std.specs.Prelude.{length, reverse, set, Ok, Err, Option, None, Some}
use Rattle.std.specs.List.{slice_get}
use Rattle.std.specs.Ordering.{int_eq}
use Rattle.pfc_base.specs.declared.faults.RunFault.{RunFault}
use Rattle.pfc_base.specs.declared.faults.RunFault.TheVariants.{Index, Case, Stack as Full}
use Rattle.pfc_code.specs.declared.images.Block.{Block}
use Rattle.pfc_code.specs.declared.instructions.Instr.{Instr}
use Rattle.pfc_code.specs.declared.instructions.Instr.TheVariants.{LIT, ADDR, REF, IDX, FLD, LOAD, STORE, OBJ, NEG, ADD, SUB, MUL, DIV, MOD, ABS, SQR, ODD, CHR}
use Rattle.pfc_code.specs.declared.instructions.Instr.TheVariants.{SUCC, PRED, NOT, AND, OR, EQ, NE, LT, LE, GT, GE, JMP, JF, TURN, FORB, FORW, FORT, CEQ, CERR}
use Rattle.pfc_code.specs.declared.instructions.Instr.TheVariants.{CALL, RET, RETF}
use Rattle.pfc_values.specs.declared.simple.Simple.{Simple}
use Rattle.pfc_values.specs.Simples.{simple_of}
use Rattle.pfc_values.specs.Numbers.{Outcome, negative_of, sum_of, difference_of, product_of, quotient_of, remainder_of, magnitude_of, square_of, truth}
use Rattle.pfc_values.specs.Numbers.{is_true, inverse_of, both_of, either_of, is_odd, char_of, next_of, before_of}
use Rattle.pfc_stacks.specs.declared.marks.Mark.{Mark}
use Rattle.pfc_stacks.specs.declared.marks.Mark.TheVariants.{Plain}
use Rattle.pfc_stacks.specs.Refs.{ref_of}
use Rattle.pfc_stacks.specs.Stacks.{Stack, Stacks, stack_of, operand, operands_of, cell_at, cells_at, written, cell_word, in_view, block_place, own_number}
use Rattle.pfc_stacks.specs.Activations.{has_place, called, returned, returned_with, result_in, mark_in}

-- ## What needs no more than the address and the operands of its process

pub data OwnEffect : Type 0 where
  -- the process goes on at this address with these operands, quietly
  quiet : ℕ → List ℤ → OwnEffect
  -- the same, as an action
  action : ℕ → List ℤ → OwnEffect
  -- a fault, which leaves the instruction undone
  fault : RunFault → OwnEffect
  -- none of these: the instruction needs more
  more : OwnEffect

-- on to the next instruction with a value on these, or the fault in which its evaluation ended
abbrev pub with_outcome : ℕ → List ℤ → Outcome → OwnEffect
with_outcome at below (Ok v) = quiet (at + 1) (v ∷ below)
with_outcome at below (Err f) = fault f

-- the address of an element, whose index must lie within the bounds
abbrev pub is_within : ℤ → ℤ → ℤ → Bool
is_within low high i = int_le low i && int_le i high

abbrev pub element_word : ℤ → ℕ → ℤ → ℤ → ℤ
element_word low z i array = array +ℤ (i -ℤ low) *ℤ pos z

abbrev pub element_at : ℤ → ℤ → ℕ → ℤ → ℤ → Outcome
element_at low high z i array = if is_within low high i then Ok (element_word low z i array) else Err Index

-- the type that a number names in `SUCC` and `PRED`
abbrev pub type_numbered : ℕ → Simple
type_numbered k = simple_of k

-- A `for` with d 0 counts up, and any other down: one value is past another, and the value behind one.
abbrev pub is_past : ℕ → ℤ → ℤ → Bool
is_past zero v last = int_lt last v
is_past (suc d) v last = int_lt v last

abbrev pub is_before : ℕ → ℤ → ℤ → Bool
is_before zero v last = int_lt v last
is_before (suc d) v last = int_lt last v

abbrev pub value_behind : ℕ → ℤ → ℤ
value_behind zero v = v +ℤ pos 1
value_behind (suc d) v = v -ℤ pos 1

-- operators of two operands, the right one on top
abbrev pub of_two : Instr → ℕ → List ℤ → OwnEffect
of_two ADD at ops = with_outcome at (drop 2 ops) (sum_of (operand ops 1) (operand ops 0))
of_two SUB at ops = with_outcome at (drop 2 ops) (difference_of (operand ops 1) (operand ops 0))
of_two MUL at ops = with_outcome at (drop 2 ops) (product_of (operand ops 1) (operand ops 0))
of_two DIV at ops = with_outcome at (drop 2 ops) (quotient_of (operand ops 1) (operand ops 0))
of_two MOD at ops = with_outcome at (drop 2 ops) (remainder_of (operand ops 1) (operand ops 0))
of_two AND at ops = quiet (at + 1) (both_of (operand ops 1) (operand ops 0) ∷ drop 2 ops)
of_two OR at ops = quiet (at + 1) (either_of (operand ops 1) (operand ops 0) ∷ drop 2 ops)
of_two EQ at ops = quiet (at + 1) (truth (int_eq (operand ops 1) (operand ops 0)) ∷ drop 2 ops)
of_two NE at ops = quiet (at + 1) (truth (not (int_eq (operand ops 1) (operand ops 0))) ∷ drop 2 ops)
of_two LT at ops = quiet (at + 1) (truth (int_lt (operand ops 1) (operand ops 0)) ∷ drop 2 ops)
of_two LE at ops = quiet (at + 1) (truth (int_le (operand ops 1) (operand ops 0)) ∷ drop 2 ops)
of_two GT at ops = quiet (at + 1) (truth (int_lt (operand ops 0) (operand ops 1)) ∷ drop 2 ops)
of_two GE at ops = quiet (at + 1) (truth (int_le (operand ops 0) (operand ops 1)) ∷ drop 2 ops)
of_two i at ops = more

-- operators and functions of one operand
abbrev pub of_one : Instr → ℕ → List ℤ → OwnEffect
of_one NEG at ops = with_outcome at (drop 1 ops) (negative_of (operand ops 0))
of_one ABS at ops = with_outcome at (drop 1 ops) (magnitude_of (operand ops 0))
of_one SQR at ops = with_outcome at (drop 1 ops) (square_of (operand ops 0))
of_one ODD at ops = quiet (at + 1) (is_odd (operand ops 0) ∷ drop 1 ops)
of_one CHR at ops = with_outcome at (drop 1 ops) (char_of (operand ops 0))
of_one (SUCC k) at ops = with_outcome at (drop 1 ops) (next_of (type_numbered k) (operand ops 0))
of_one (PRED k) at ops = with_outcome at (drop 1 ops) (before_of (type_numbered k) (operand ops 0))
of_one NOT at ops = quiet (at + 1) (inverse_of (operand ops 0) ∷ drop 1 ops)
of_one i at ops = of_two i at ops

-- jumps and loops; a `for` holds the address of its variable, the value that it keeps, and the last value, which is on top
abbrev pub jumping : Instr → ℕ → List ℤ → OwnEffect
jumping (JMP a) at ops = quiet a ops
jumping (JF a) at ops = quiet (if is_true (operand ops 0) then at + 1 else a) (drop 1 ops)
jumping (TURN a) at ops = action a ops
jumping (FORB d a) at ops = if is_past d (operand ops 1) (operand ops 0) then quiet a (drop 3 ops) else quiet (at + 1) ops
jumping (FORT d a) at ops =
    if is_before d (operand ops 1) (operand ops 0)
    then action a (set ops 1 (value_behind d (operand ops 1)))
    else quiet (at + 1) (drop 3 ops)
jumping (CEQ n a) at ops = if int_eq (operand ops 0) n then quiet a (drop 1 ops) else quiet (at + 1) ops
jumping CERR at ops = fault Case
jumping i at ops = of_one i at ops

-- numbers and addresses, and all of the above
abbrev pub own_effect : Instr → ℕ → List ℤ → OwnEffect
own_effect (LIT n) at ops = quiet (at + 1) (n ∷ ops)
own_effect (IDX low high z) at ops = with_outcome at (drop 2 ops) (element_at low high z (operand ops 0) (operand ops 1))
own_effect (FLD k) at ops = quiet (at + 1) ((operand ops 0 +ℤ pos k) ∷ drop 1 ops)
own_effect i at ops = jumping i at ops

-- ## What an instruction of a process does to the stacks

pub data Effect : Type 0 where
  -- it leaves these, quietly
  goes : Stacks → Effect
  -- it leaves these, as an action
  acts : Stacks → Effect
  -- it is left undone
  ends_in : RunFault → Effect
  -- it is not of the stacks alone: it is left undone, for others to do
  outward : Effect

-- the process stands at this address with these operands
abbrev pub moved : Stacks → ℕ → ℕ → List ℤ → Stacks
moved stacks p at ops = set stacks p (record (stack_of stacks p) { at = at; operands = ops })

abbrev pub within : Stacks → ℕ → OwnEffect → Effect
within stacks p (quiet at ops) = goes (moved stacks p at ops)
within stacks p (action at ops) = acts (moved stacks p at ops)
within stacks p (fault f) = ends_in f
within stacks p more = outward

-- the process goes on at the next instruction with these operands
abbrev pub passed : Stacks → ℕ → List ℤ → Stacks
passed stacks p ops = moved stacks p ((stack_of stacks p).at + 1) ops

-- a call of block number k, whose static link is l links up
abbrev pub calls : ℕ → Option Block → ℕ → ℕ → Stacks → Effect
calls k None l p stacks = outward
calls k (Some b) l p stacks =
    let s = stack_of stacks p in
    if has_place p (length s.cells) b then acts (set stacks p (called k b (in_view stacks p l) Plain s)) else ends_in Full

-- the end of an activation, where it was not entered through a monitor or a resource
abbrev pub returns_by : Mark → ℕ → Stacks → Effect
returns_by Plain p stacks = acts (set stacks p (returned (stack_of stacks p)))
returns_by mark p stacks = outward

-- the block of the last activation
abbrev pub last_block : List Block → Stack → Option Block
last_block blocks s = slice_get blocks (own_number s block_place)

-- What the instruction does where it begins and ends no activation. An operand is popped where it is read, unless the line says otherwise. All that
-- are not named here are outward; calls and returns are left out too.
abbrev pub effect_inside : Instr → ℕ → Stacks → Effect
effect_inside (ADDR l d) p stacks = goes (passed stacks p (cell_word stacks p l d ∷ operands_of stacks p))
effect_inside (REF l d) p stacks = goes (passed stacks p (cell_at stacks (ref_of (cell_word stacks p l d)) ∷ operands_of stacks p))
effect_inside OBJ p stacks =
    let ops = operands_of stacks p in
    goes (passed stacks p (cell_at stacks (ref_of (operand ops 0)) ∷ drop 1 ops))
effect_inside (LOAD z) p stacks =
    let ops = operands_of stacks p in
    acts (passed stacks p (reverse (cells_at stacks (ref_of (operand ops 0)) z) ++ drop 1 ops))
effect_inside (STORE z) p stacks =
    let ops = operands_of stacks p in
    acts (passed (written stacks (ref_of (operand ops z)) (reverse (take z ops))) p (drop (z + 1) ops))
effect_inside FORW p stacks =
    let ops = operands_of stacks p in
    acts (passed (written stacks (ref_of (operand ops 2)) (operand ops 1 ∷ [])) p ops)
effect_inside i p stacks = within stacks p (own_effect i (stack_of stacks p).at (operands_of stacks p))

-- What any instruction does, in an image with these blocks.
abbrev pub effect : List Block → Instr → ℕ → Stacks → Effect
effect blocks (CALL k l) p stacks = calls k (slice_get blocks k) l p stacks
effect blocks RET p stacks = returns_by (mark_in (stack_of stacks p)) p stacks
effect blocks RETF p stacks =
    let s = stack_of stacks p in
    acts (set stacks p (returned_with (result_in (last_block blocks s) s) s))
effect blocks i p stacks = effect_inside i p stacks
