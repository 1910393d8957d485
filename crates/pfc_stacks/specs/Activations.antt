-- How activations begin and end.
use Rattle.std.specs.Prelude.{ℕ, zero, suc, ◌+◌, ◌-◌, ◌==◌, max, nat_le, nat_lt, Bool, false, ◌||◌, if◌then◌else◌, ℤ, pos, List, [], ◌∷◌, ◌++◌, length, take}
use Rattle.std.specs.Prelude.{drop, get_or, set, reverse, replicate, Option, None, Some}
use Rattle.std.specs.Ordering.{int_eq}
use Rattle.pfc_code.specs.declared.images.Block.{Block}
use Rattle.pfc_stacks.specs.declared.cells.Own.{Own}
use Rattle.pfc_stacks.specs.declared.marks.Mark.{Mark}
use Rattle.pfc_stacks.specs.declared.marks.Mark.TheVariants.{Plain, Monitor}
use Rattle.pfc_stacks.specs.Marks.{word_of_mark, mark_of}
use Rattle.pfc_stacks.specs.Refs.{number_of}
use Rattle.pfc_stacks.specs.Stacks.{Stack, Stacks, stack_of, own_cells, address_place, block_place, mark_place, caller_place, under_place, own_word, own_number}
use Rattle.pfc_stacks.specs.Stacks.{own_count}

-- ## Limits

-- The cells of one process's activations are at most 16,384, and those of main's 262,144; each activation counts 8 more.
abbrev pub most_cells : ℕ → ℕ
most_cells p = if p == 0 then 262144 else 16384

-- how many cells an activation of a block has, with its own
abbrev pub size_of : Block → ℕ
size_of b = own_cells + (b.params + (b.cells - b.params))

-- whether an activation of a block may stand over so many cells
abbrev pub has_place : ℕ → ℕ → Block → Bool
has_place p below b = nat_le (below + size_of b) (most_cells p)

-- ## The cells of an activation

abbrev pub own_words : Own → List ℤ
own_words own =
    pos own.address ∷ pos own.block ∷ word_of_mark own.mark ∷ own.link ∷ pos own.caller ∷ pos own.under ∷ pos 0 ∷ pos 0 ∷ []

-- a block's cells: its arguments, and so many others, which are 0
abbrev pub block_cells : List ℤ → ℕ → List ℤ
block_cells args others = args ++ replicate others (pos 0)

-- The arguments are the last operands, the first of them deepest.
abbrev pub arguments : Block → List ℤ → List ℤ
arguments b ops = reverse (take b.params ops)

-- room for what the block may hold over so many operands
abbrev pub room_over : ℕ → Block → Stack → ℕ
room_over under b s = max s.room (under + b.operands + s.spare)

-- ## A call and a return

-- Block b, which is number k of the image, is called with a static link and a mark. The process goes on at its entry, in a new activation over the
-- others; the caller goes on behind the instruction that calls.
abbrev pub called_own : ℕ → Block → ℤ → Mark → Stack → Own
called_own k b link mark s =
    record { address = s.at + 1; block = k; mark = mark; link = link; caller = s.base; under = length (drop b.params s.operands) }

abbrev pub called : ℕ → Block → ℤ → Mark → Stack → Stack
called k b link mark s =
    let left = drop b.params s.operands in
    record s {
      at = b.entry;
      base = length s.cells;
      cells = s.cells ++ (own_words (called_own k b link mark s) ++ block_cells (arguments b s.operands) (b.cells - b.params));
      operands = left;
      room = room_over (length left) b s;
    }

-- the last activation ends, and its caller goes on
abbrev pub returned : Stack → Stack
returned s = record s { at = own_number s address_place; base = own_number s caller_place; cells = take s.base s.cells }

abbrev pub params_of : Option Block → ℕ
params_of None = 0
params_of (Some b) = b.params

-- a function's result stands behind the parameters of its block
abbrev pub result_in : Option Block → Stack → ℤ
result_in block s = get_or s.cells (s.base + (own_cells + params_of block)) (pos 0)

-- the same of a function with this result
abbrev pub returned_with : ℤ → Stack → Stack
returned_with v s = let left = returned s in record left { operands = v ∷ left.operands }

-- ## The beginning of a process

-- The static link of what is not nested leads to main's first activation.
abbrev pub main_link : ℤ
main_link = pos 0

abbrev pub first_own : ℕ → Own
first_own k = record { address = 0; block = k; mark = Plain; link = main_link; caller = 0; under = 0 }

-- a process at the entry of block b, number k of the image, in its first activation
abbrev pub entered : ℕ → Block → List ℤ → ℕ → ℕ → Stack
entered k b args others spare = record {
  at = b.entry;
  base = 0;
  cells = own_words (first_own k) ++ block_cells args others;
  operands = [];
  room = b.operands + spare;
  spare = spare;
  looks_from = None;
}

-- Process p is created by another, which pops the arguments and the number below them, and goes on. What p had before is gone.
abbrev pub created : ℕ → Block → ℕ → ℕ → Stacks → Stacks
created k b p from stacks =
    let maker = stack_of stacks from in
    let left = set stacks from (record maker { at = maker.at + 1; operands = drop (b.params + 1) maker.operands }) in
    set left p (entered k b (arguments b maker.operands) (b.cells - b.params) (stack_of stacks p).spare)

-- ## An activation in place of another

-- Block b, number k of the image, takes the place of the last activation's: the own cells are kept but for the block, and the operands but for those
-- that the caller keeps are popped.
abbrev pub replaced : ℕ → Block → Stack → Stack
replaced k b s =
    let left = drop (length s.operands - own_count s under_place) s.operands in
    record s {
      at = b.entry;
      cells = set (take (s.base + own_cells) s.cells) (s.base + block_place) (pos k) ++ block_cells (arguments b s.operands) (b.cells - b.params);
      operands = left;
      room = room_over (length left) b s;
    }

-- ## Marks

-- the mark of the last activation
abbrev pub mark_in : Stack → Mark
mark_in s = mark_of (own_word s mark_place)

-- where the own cells of the caller begin, of an activation whose own cells begin at a base
abbrev pub caller_of : List ℤ → ℕ → ℕ
caller_of cells base = number_of (get_or cells (base + caller_place) (pos 0))

-- whether that activation has this mark
abbrev pub has_mark_at : Mark → List ℤ → ℕ → Bool
has_mark_at mark cells base = int_eq (get_or cells (base + mark_place) (pos 0)) (word_of_mark mark)

-- whether one of them has it, of the n + 1 from this one on: each caller lies below, and the first activation has none
abbrev pub is_marked : ℕ → Mark → List ℤ → ℕ → Bool
is_marked zero mark cells base = has_mark_at mark cells base
is_marked (suc n) mark cells base =
    has_mark_at mark cells base || (if nat_lt (caller_of cells base) base then is_marked n mark cells (caller_of cells base) else false)

-- whether some activation of the process has the mark of monitor m
abbrev pub has_mark : ℕ → Stack → Bool
has_mark m s = is_marked s.base (Monitor m) s.cells s.base
