-- A return behind its call.
use Rattle.std.proofs.Common.{◌≡◌, ℕ, ◌+◌, ◌<◌, ◌%◌, ◌^◌, ℤ, pos, ◌-ℤ◌, List, ◌++◌, length, take, drop, get_or, refl, ◌∙◌, ap, arith, ◌-◌, true, false}
use Rattle.std.specs.Prelude.{int_lt, unsigned_abs}
use Rattle.std.proofs.lemmas.Int.{ints}
use Rattle.std.proofs.lemmas.List.{get_or-append-add, take_at}
use Rattle.pfc_code.specs.declared.images.Block.{Block}
use Rattle.pfc_stacks.specs.declared.cells.Own.{Own}
use Rattle.pfc_stacks.specs.declared.marks.Mark.{Mark}
use Rattle.pfc_stacks.specs.declared.marks.Mark.TheVariants.{Plain, Monitor, Resource}
use Rattle.pfc_stacks.specs.Activations.{called, called_own, returned, own_words, block_cells, arguments, room_over, mark_in}
use Rattle.pfc_stacks.specs.Marks.{word_of_mark, mark_of, IsMark}
use Rattle.pfc_stacks.specs.Refs.{number_of}
use Rattle.pfc_stacks.specs.Stacks.{Stack, own_number, address_place, caller_place}

-- what stands behind the cells that were there
behind : (cells own block : List ℤ) (k : ℕ) → get_or (cells ++ (own ++ block)) (length cells + k) (pos 0) ≡ get_or (own ++ block) k (pos 0)
behind cells own block k = get_or-append-add cells (own ++ block) k (pos 0)

number_back : (n : ℕ) → n < 2 ^ 32 → n % 2 ^ 32 ≡ n
number_back n h = omega arith

pub undone : (k : ℕ) (b : Block) (link : ℤ) (mark : Mark) (s : Stack) → s.at + 1 < 2 ^ 32 → s.base < 2 ^ 32
    → returned (called k b link mark s)
    ≡ record s { at = s.at + 1; operands = drop b.params s.operands; room = room_over (length (drop b.params s.operands)) b s }
undone k b link mark s at base =
    let own : Own = called_own k b link mark s in
    let block : List ℤ = block_cells (arguments b s.operands) (b.cells - b.params) in
    let t : Stack = called k b link mark s in
    let address : own_number t address_place ≡ s.at + 1 = ap number_of (behind s.cells (own_words own) block 0) ∙ number_back (s.at + 1) at in
    let caller : own_number t caller_place ≡ s.base = ap number_of (behind s.cells (own_words own) block 4) ∙ number_back s.base base in
    let cells : take (length s.cells) t.cells ≡ s.cells = take_at s.cells (own_words own ++ block) (length s.cells) refl in
    cc

less_one : (n : ℕ) → (n + 1 - 1) % 2 ^ 32 ≡ n % 2 ^ 32
less_one n = ap (λ (m : ℕ). m % 2 ^ 32) (omega arith)

above : (n : ℕ) → int_lt (pos 0) (pos (n + 1)) ≡ true
above n = grind (arith, ints)

below : (n : ℕ) → int_lt (pos 0 -ℤ pos (n + 1)) (pos 0) ≡ true
below n = grind (arith, ints)

not_above : (n : ℕ) → int_lt (pos 0) (pos 0 -ℤ pos (n + 1)) ≡ false
not_above n = grind (arith, ints)

size_below : (n : ℕ) → unsigned_abs (pos 0 -ℤ pos (n + 1)) ≡ n + 1
size_below n = grind (arith, ints)

mark_back : (mark : Mark) → IsMark mark → mark_of (word_of_mark mark) ≡ mark
mark_back Plain h = refl
mark_back (Monitor m) h = rw (above m) (ap Monitor (less_one m ∙ number_back m h))
mark_back (Resource g) h = rw (not_above g, below g, size_below g) (ap Resource (less_one g ∙ number_back g h))

pub marks : (k : ℕ) (b : Block) (link : ℤ) (mark : Mark) (s : Stack) → IsMark mark → mark_in (called k b link mark s) ≡ mark
marks k b link mark s h =
    let own : Own = called_own k b link mark s in
    let block : List ℤ = block_cells (arguments b s.operands) (b.cells - b.params) in
    ap mark_of (behind s.cells (own_words own) block 2) ∙ mark_back mark h
