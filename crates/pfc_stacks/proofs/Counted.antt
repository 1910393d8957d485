-- That an instruction changes operands as the table of instructions has it.
use Rattle.std.proofs.Common.{◌≡◌, ℕ, ◌+◌, ◌-◌, ◌<◌, ℤ, pos, ◌+ℤ◌, Bool, true, false, List, [], ◌∷◌, ◌++◌, length, drop, take, set, refl, sym, ◌∙◌, ap, subst}
use Rattle.std.proofs.Common.{arith, Ok, Err, Option, Some, None, if◌then◌else◌}
use Rattle.std.specs.Prelude.{reverse, not, int_lt, int_le}
use Rattle.std.specs.List.{slice_get}
use Rattle.std.specs.Ordering.{int_eq}
use Rattle.std.proofs.lemmas.List.{length-append, length-drop, length-reverse, length-set, drop_at, get_or-set_same}
use Rattle.pfc_base.specs.declared.faults.RunFault.TheVariants.{Stack as Full}
use Rattle.pfc_code.specs.declared.images.Block.{Block}
use Rattle.pfc_code.specs.declared.instructions.Instr.{Instr}
use Rattle.pfc_code.specs.declared.instructions.Instr.TheVariants.{LIT, ADDR, REF, IDX, FLD, LOAD, STORE, OBJ, NEG, ADD, SUB, MUL, DIV, MOD, ABS, SQR, ODD, CHR}
use Rattle.pfc_code.specs.declared.instructions.Instr.TheVariants.{SUCC, PRED, NOT, AND, OR, EQ, NE, LT, LE, GT, GE, JMP, JF, TURN, FORB, FORW, FORT, CEQ, CALL}
use Rattle.pfc_code.specs.declared.instructions.Instr.TheVariants.{RET, RETF}
use Rattle.pfc_code.specs.Operands as table
use Rattle.pfc_values.specs.Numbers.{Outcome, negative_of, sum_of, difference_of, product_of, quotient_of, remainder_of, magnitude_of, square_of, is_true}
use Rattle.pfc_values.specs.Numbers.{char_of, next_of, before_of, is_odd, inverse_of, both_of, either_of, truth}
use Rattle.pfc_stacks.specs.declared.refs.Ref.{Ref}
use Rattle.pfc_stacks.specs.declared.marks.Mark.{Mark}
use Rattle.pfc_stacks.specs.declared.marks.Mark.TheVariants.{Plain}
use Rattle.pfc_stacks.specs.Activations.{has_place, called, returned, returned_with, result_in, mark_in, params_of}
use Rattle.pfc_stacks.specs.Conditions.{CanPerform}
use Rattle.pfc_stacks.specs.Counts.{Leaves, AreChanged, HasTaken, IsCounted, onward, elsewhere}
use Rattle.pfc_stacks.specs.Effects.{quiet, action, with_outcome, element_at, type_numbered, is_past, is_before, value_behind, own_effect, acts, ends_in, moved}
use Rattle.pfc_stacks.specs.Effects.{within, passed, calls, returns_by, last_block, effect}
use Rattle.pfc_stacks.specs.Refs.{ref_of}
use Rattle.pfc_stacks.specs.Stacks.{Stack, Stacks, no_stack, stack_of, operand, operands_of, cell_at, cell_word, cells_at, written, in_view, with_words}
use Rattle.pfc_stacks.proofs.Loads.{length-cells_at}
use Rattle.pfc_stacks.proofs.Writes.{kept_at}

-- ## Operands

popped : (n : ℕ) (ops : List ℤ) → AreChanged n n 0 ops (drop n ops)
popped n ops =
    let size = length-drop n ops in
    let none : n - n + 0 ≡ 0 = omega arith in
    record { count = omega (arith, size); below = ap (λ (k : ℕ). drop k (drop n ops)) none }

replaced : (n : ℕ) (v : ℤ) (ops : List ℤ) → AreChanged n n 1 ops (v ∷ drop n ops)
replaced n v ops =
    let size = length-drop n ops in
    let one : n - n + 1 ≡ 1 = omega arith in
    record { count = omega (arith, size); below = ap (λ (k : ℕ). drop k (v ∷ drop n ops)) one }

kept : (n : ℕ) (ops : List ℤ) → AreChanged n 0 0 ops ops
kept n ops =
    let all : n - 0 + 0 ≡ n = omega arith in
    record { count = omega arith; below = ap (λ (k : ℕ). drop k ops) all }

below_second : (v : ℤ) (ops : List ℤ) → drop 3 (set ops 1 v) ≡ drop 3 ops
below_second v [] = refl
below_second v (a ∷ []) = refl
below_second v (a ∷ (b ∷ ops)) = refl

counted_on : (v : ℤ) (ops : List ℤ) → AreChanged 3 0 0 ops (set ops 1 v)
counted_on v ops = let size = length-set ops 1 v in record { count = omega (arith, size); below = below_second v ops }

loaded : (ws : List ℤ) (z : ℕ) (ops : List ℤ) → length ws ≡ z → AreChanged 1 1 z ops (reverse ws ++ drop 1 ops)
loaded ws z ops same =
    let turned = length-reverse ws in
    let rest = length-drop 1 ops in
    let all = length-append (reverse ws) (drop 1 ops) in
    record { count = omega (arith, same, turned, rest, all); below = drop_at (reverse ws) (drop 1 ops) (1 - 1 + z) (omega (arith, same, turned)) }

-- ## A process among all

stack_moved : (stacks : Stacks) (p at : ℕ) (ops : List ℤ) → p < length stacks
    → stack_of (moved stacks p at ops) p ≡ record (stack_of stacks p) { at = at; operands = ops }
stack_moved stacks p at ops inside = get_or-set_same stacks p (record (stack_of stacks p) { at = at; operands = ops }) no_stack inside

at_written : (stacks : Stacks) (r : Ref) (ws : List ℤ) (p : ℕ) → (stack_of (written stacks r ws) p).at ≡ (stack_of stacks p).at
at_written stacks r ws p =
    let s : Stack = stack_of stacks r.process in
    kept_at (λ (s : Stack). s.at) stacks r.process (record s { cells = with_words s.cells r.cell ws }) no_stack refl p

length_written : (stacks : Stacks) (r : Ref) (ws : List ℤ) → length (written stacks r ws) ≡ length stacks
length_written stacks r ws =
    let s : Stack = stack_of stacks r.process in
    length-set stacks r.process (record s { cells = with_words s.cells r.cell ws })

module _ (blocks : List Block) (p : ℕ) (old new : Stacks) (inside : p < length old) where
  -- on the way to the next instruction, or elsewhere
  abbrev Onward : Instr → List ℤ → Type 0
  Onward i ops = HasTaken blocks i (table.operands_of i).takes (operands_of old p) ops

  abbrev Elsewhere : Instr → List ℤ → Type 0
  Elsewhere i ops = HasTaken blocks i (table.operands_of i).takes_jumping (operands_of old p) ops

  abbrev Counted : Instr → Type 0
  Counted i = IsCounted blocks i (stack_of old p) (stack_of new p)

  -- what has moved has these operands
  there : (at : ℕ) (ops : List ℤ) → new ≡ moved old p at ops → stack_of new p ≡ record (stack_of old p) { at = at; operands = ops }
  there at ops h = ap (λ (all : Stacks). stack_of all p) h ∙ stack_moved old p at ops inside

  gone_on : (i : Instr) (ops : List ℤ) → new ≡ passed old p ops → Onward i ops → Counted i
  gone_on i ops h c =
      subst (λ (s : Stack). IsCounted blocks i (stack_of old p) s) (sym (there ((stack_of old p).at + 1) ops h)) (onward refl c)

  gone_away : (i : Instr) (at : ℕ) (ops : List ℤ) → new ≡ moved old p at ops → Elsewhere i ops → Counted i
  gone_away i at ops h c = subst (λ (s : Stack). IsCounted blocks i (stack_of old p) s) (sym (there at ops h)) (elsewhere c)

  -- an evaluation, which perhaps ends in a fault
  reckoned : (i : Instr) (n : ℕ) (o : Outcome) → ((v : ℤ) → Onward i (v ∷ drop n (operands_of old p)))
      → Leaves (within old p (with_outcome (stack_of old p).at (drop n (operands_of old p)) o)) new → Counted i
  reckoned i n (Ok v) c h = gone_on i (v ∷ drop n (operands_of old p)) h (c v)
  reckoned i n (Err f) c h = absurd h

  -- one of two ways, by a test
  first_pass : (d a : ℕ) (r : Bool)
      → Leaves (within old p (if r then quiet a (drop 3 (operands_of old p)) else quiet ((stack_of old p).at + 1) (operands_of old p))) new
      → Counted (FORB d a)
  first_pass d a true h = gone_away (FORB d a) a (drop 3 (operands_of old p)) h (popped 3 (operands_of old p))
  first_pass d a false h = gone_on (FORB d a) (operands_of old p) h (kept 3 (operands_of old p))

  next_pass : (d a : ℕ) (v : ℤ) (r : Bool)
      → Leaves (within old p (if r then action a (set (operands_of old p) 1 v) else quiet ((stack_of old p).at + 1) (drop 3 (operands_of old p)))) new
      → Counted (FORT d a)
  next_pass d a v true h = gone_away (FORT d a) a (set (operands_of old p) 1 v) h (counted_on v (operands_of old p))
  next_pass d a v false h = gone_on (FORT d a) (drop 3 (operands_of old p)) h (popped 3 (operands_of old p))

  label : (n : ℤ) (a : ℕ) (r : Bool)
      → Leaves (within old p (if r then quiet a (drop 1 (operands_of old p)) else quiet ((stack_of old p).at + 1) (operands_of old p))) new
      → Counted (CEQ n a)
  label n a true h = gone_away (CEQ n a) a (drop 1 (operands_of old p)) h (popped 1 (operands_of old p))
  label n a false h = gone_on (CEQ n a) (operands_of old p) h (kept 1 (operands_of old p))

  -- ## Instructions of operands alone

  abbrev ops_at : List ℤ
  ops_at = operands_of old p

  of_operands : (i : Instr) → Leaves (within old p (own_effect i (stack_of old p).at (operands_of old p))) new → Counted i
  of_operands (LIT n) h = gone_on (LIT n) (n ∷ ops_at) h (replaced 0 (n) ops_at)
  of_operands (IDX low high z) h = reckoned (IDX low high z) 2 (element_at low high z (operand ops_at 0) (operand ops_at 1)) (λ v. replaced 2 v ops_at) h
  of_operands (FLD k) h = gone_on (FLD k) ((operand ops_at 0 +ℤ pos k) ∷ drop 1 ops_at) h (replaced 1 (operand ops_at 0 +ℤ pos k) ops_at)
  of_operands (JMP a) h = gone_away (JMP a) a ops_at h (kept 0 ops_at)
  of_operands (JF a) h = gone_away (JF a) (if is_true (operand ops_at 0) then (stack_of old p).at + 1 else a) (drop 1 ops_at) h (popped 1 ops_at)
  of_operands (TURN a) h = gone_away (TURN a) a ops_at h (kept 0 ops_at)
  of_operands (FORB d a) h = first_pass d a (is_past d (operand ops_at 1) (operand ops_at 0)) h
  of_operands (FORT d a) h = next_pass d a (value_behind d (operand ops_at 1)) (is_before d (operand ops_at 1) (operand ops_at 0)) h
  of_operands (CEQ n a) h = label n a (int_eq (operand ops_at 0) n) h
  of_operands NEG h = reckoned NEG 1 (negative_of (operand ops_at 0)) (λ v. replaced 1 v ops_at) h
  of_operands ABS h = reckoned ABS 1 (magnitude_of (operand ops_at 0)) (λ v. replaced 1 v ops_at) h
  of_operands SQR h = reckoned SQR 1 (square_of (operand ops_at 0)) (λ v. replaced 1 v ops_at) h
  of_operands CHR h = reckoned CHR 1 (char_of (operand ops_at 0)) (λ v. replaced 1 v ops_at) h
  of_operands (SUCC k) h = reckoned (SUCC k) 1 (next_of (type_numbered k) (operand ops_at 0)) (λ v. replaced 1 v ops_at) h
  of_operands (PRED k) h = reckoned (PRED k) 1 (before_of (type_numbered k) (operand ops_at 0)) (λ v. replaced 1 v ops_at) h
  of_operands ADD h = reckoned ADD 2 (sum_of (operand ops_at 1) (operand ops_at 0)) (λ v. replaced 2 v ops_at) h
  of_operands SUB h = reckoned SUB 2 (difference_of (operand ops_at 1) (operand ops_at 0)) (λ v. replaced 2 v ops_at) h
  of_operands MUL h = reckoned MUL 2 (product_of (operand ops_at 1) (operand ops_at 0)) (λ v. replaced 2 v ops_at) h
  of_operands DIV h = reckoned DIV 2 (quotient_of (operand ops_at 1) (operand ops_at 0)) (λ v. replaced 2 v ops_at) h
  of_operands MOD h = reckoned MOD 2 (remainder_of (operand ops_at 1) (operand ops_at 0)) (λ v. replaced 2 v ops_at) h
  of_operands ODD h = let v : ℤ = is_odd (operand ops_at 0) in gone_on ODD (v ∷ drop 1 ops_at) h (replaced 1 v ops_at)
  of_operands NOT h = let v : ℤ = inverse_of (operand ops_at 0) in gone_on NOT (v ∷ drop 1 ops_at) h (replaced 1 v ops_at)
  of_operands AND h = let v : ℤ = both_of (operand ops_at 1) (operand ops_at 0) in gone_on AND (v ∷ drop 2 ops_at) h (replaced 2 v ops_at)
  of_operands OR h = let v : ℤ = either_of (operand ops_at 1) (operand ops_at 0) in gone_on OR (v ∷ drop 2 ops_at) h (replaced 2 v ops_at)
  of_operands EQ h = let v : ℤ = truth (int_eq (operand ops_at 1) (operand ops_at 0)) in gone_on EQ (v ∷ drop 2 ops_at) h (replaced 2 v ops_at)
  of_operands NE h = let v : ℤ = truth (not (int_eq (operand ops_at 1) (operand ops_at 0))) in gone_on NE (v ∷ drop 2 ops_at) h (replaced 2 v ops_at)
  of_operands LT h = let v : ℤ = truth (int_lt (operand ops_at 1) (operand ops_at 0)) in gone_on LT (v ∷ drop 2 ops_at) h (replaced 2 v ops_at)
  of_operands LE h = let v : ℤ = truth (int_le (operand ops_at 1) (operand ops_at 0)) in gone_on LE (v ∷ drop 2 ops_at) h (replaced 2 v ops_at)
  of_operands GT h = let v : ℤ = truth (int_lt (operand ops_at 0) (operand ops_at 1)) in gone_on GT (v ∷ drop 2 ops_at) h (replaced 2 v ops_at)
  of_operands GE h = let v : ℤ = truth (int_le (operand ops_at 0) (operand ops_at 1)) in gone_on GE (v ∷ drop 2 ops_at) h (replaced 2 v ops_at)
  of_operands i h = absurd h

  -- ## Calls and returns

  called_by : (k l : ℕ) (b : Block) (r : Bool)
      → Leaves (if r then acts (set old p (called k b (in_view old p l) Plain (stack_of old p))) else ends_in Full) new
      → AreChanged b.params b.params 0 (operands_of old p) (stack_of new p).operands
  called_by k l b true h =
      let s : Stack = called k b (in_view old p l) Plain (stack_of old p) in
      let e : stack_of new p ≡ s = ap (λ (all : Stacks). stack_of all p) h ∙ get_or-set_same old p s no_stack inside in
      subst (λ (t : Stack). AreChanged b.params b.params 0 (operands_of old p) t.operands) (sym e) (popped b.params (operands_of old p))
  called_by k l b false h = absurd h

  called_in : (k l : ℕ) (o : Option Block) → Leaves (calls k o l p old) new
      → AreChanged (params_of o) (params_of o) 0 (operands_of old p) (stack_of new p).operands
  called_in k l None h = absurd h
  called_in k l (Some b) h = called_by k l b (has_place p (length (stack_of old p).cells) b) h

  ended : (mark : Mark) → Leaves (returns_by mark p old) new → Counted RET
  ended Plain h =
      let s : Stack = returned (stack_of old p) in
      let e : stack_of new p ≡ s = ap (λ (all : Stacks). stack_of all p) h ∙ get_or-set_same old p s no_stack inside in
      subst (λ (t : Stack). IsCounted blocks RET (stack_of old p) t) (sym e) (elsewhere (kept 0 (operands_of old p)))
  ended mark h = absurd h

  -- ## All

  -- a write, and then operands
  after_write : (i : Instr) (r : Ref) (ws ops : List ℤ) → new ≡ passed (written old r ws) p ops → Onward i ops → Counted i
  after_write i r ws ops h c =
      let mid : Stacks = written old r ws in
      let size = length_written old r ws in
      let e : stack_of new p ≡ record (stack_of mid p) { at = (stack_of mid p).at + 1; operands = ops } =
      ap (λ (all : Stacks). stack_of all p) h ∙ stack_moved mid p ((stack_of mid p).at + 1) ops (omega (arith, size, inside)) in
      subst (λ (s : Stack). IsCounted blocks i (stack_of old p) s) (sym e) (onward (ap (λ (n : ℕ). n + 1) (at_written old r ws p)) c)

  pub counted_so : (i : Instr) → CanPerform blocks i p old → Leaves (effect blocks i p old) new → IsCounted blocks i (stack_of old p) (stack_of new p)
  counted_so (ADDR l d) can h = let v : ℤ = cell_word old p l d in gone_on (ADDR l d) (v ∷ ops_at) h (replaced 0 v ops_at)
  counted_so (REF l d) can h = let v : ℤ = cell_at old (ref_of (cell_word old p l d)) in gone_on (REF l d) (v ∷ ops_at) h (replaced 0 v ops_at)
  counted_so OBJ can h = let v : ℤ = cell_at old (ref_of (operand ops_at 0)) in gone_on OBJ (v ∷ drop 1 ops_at) h (replaced 1 v ops_at)
  counted_so (LOAD z) can h =
      let r : Ref = ref_of (operand ops_at 0) in
      let ws : List ℤ = cells_at old r z in
      gone_on (LOAD z) (reverse ws ++ drop 1 ops_at) h (loaded ws z ops_at (length-cells_at old r z can.reach))
  counted_so (STORE z) can h = after_write (STORE z) (ref_of (operand ops_at z)) (reverse (take z ops_at)) (drop (z + 1) ops_at) h (popped (z + 1) ops_at)
  counted_so FORW can h = after_write FORW (ref_of (operand ops_at 2)) (operand ops_at 1 ∷ []) ops_at h (kept 3 ops_at)
  counted_so (CALL k l) can h = elsewhere (called_in k l (slice_get blocks k) h)
  counted_so RET can h = ended (mark_in (stack_of old p)) h
  counted_so RETF can h =
      let v : ℤ = result_in (last_block blocks (stack_of old p)) (stack_of old p) in
      let s : Stack = returned_with v (stack_of old p) in
      let e : stack_of new p ≡ s = ap (λ (all : Stacks). stack_of all p) h ∙ get_or-set_same old p s no_stack inside in
      subst (λ (t : Stack). IsCounted blocks RETF (stack_of old p) t) (sym e) (elsewhere (replaced 0 v ops_at))
  counted_so i can h = of_operands i h

pub counted_law :
    (blocks : List Block) (i : Instr) (p : ℕ) (old new : Stacks) → p < length old → CanPerform blocks i p old → Leaves (effect blocks i p old) new
    → IsCounted blocks i (stack_of old p) (stack_of new p)
counted_law blocks i p old new inside can h = counted_so blocks p old new inside i can h
