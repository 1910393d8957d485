-- The stacks of processes.
use Rattle.std.specs.Prelude.{ℕ, zero, suc, ◌+◌, ℤ, pos, unsigned_abs, ◌+ℤ◌, List, [], ◌++◌, length, take, drop, get_or, set}
use Rattle.std.specs.Prelude.{Option, None}
use Rattle.std.specs.Option.{unwrap_or}
use Rattle.pfc_stacks.specs.declared.refs.Ref.{Ref}
use Rattle.pfc_stacks.specs.Refs.{word_of, ref_of, number_of}

-- what is kept of one process
pub record Stack : Type 0 where
  -- the address of the instruction that comes next
  pub at : ℕ
  -- where the own cells of its last activation begin
  pub base : ℕ
  -- the cells of its activations, the oldest first
  pub cells : List ℤ
  -- its operands, top first, and how many it may hold
  pub operands : List ℤ
  pub room : ℕ
  -- how many of them are kept for the guards of others, beyond what its blocks may hold
  pub spare : ℕ
  -- the process from whose last activation it counts static links, where that is another's
  pub looks_from : Option ℕ

-- by the number of the process
abbrev pub Stacks : Type 0
Stacks = List Stack

-- a process that has begun nothing
abbrev pub idle_stack : ℕ → Stack
idle_stack spare = record { at = 0; base = 0; cells = []; operands = []; room = 0; spare = spare; looks_from = None }

abbrev pub no_stack : Stack
no_stack = idle_stack 0

abbrev pub stack_of : Stacks → ℕ → Stack
stack_of stacks p = get_or stacks p no_stack

-- the operand at a depth, the top at 0
abbrev pub operand : List ℤ → ℕ → ℤ
operand ops k = get_or ops k (pos 0)

abbrev pub operands_of : Stacks → ℕ → List ℤ
operands_of stacks p = (stack_of stacks p).operands

-- ## Cells

abbrev pub cells_of : Stacks → ℕ → List ℤ
cells_of stacks q = (stack_of stacks q).cells

-- the cell at an address
abbrev pub cell_at : Stacks → Ref → ℤ
cell_at stacks r = get_or (cells_of stacks r.process) r.cell (pos 0)

-- the z cells from an address on
abbrev pub cells_at : Stacks → Ref → ℕ → List ℤ
cells_at stacks r z = take z (drop r.cell (cells_of stacks r.process))

-- cells with these words from a place on
abbrev pub with_words : List ℤ → ℕ → List ℤ → List ℤ
with_words cells k words = take k cells ++ words ++ drop (k + length words) cells

-- these words are written to the cells from an address on
abbrev pub written : Stacks → Ref → List ℤ → Stacks
written stacks r words =
    let stack = stack_of stacks r.process in
    set stacks r.process (record stack { cells = with_words stack.cells r.cell words })

-- ## The own cells of an activation

-- An activation has eight cells of its own, of which the last two stay 0. The cells of its block stand behind them.
abbrev pub own_cells : ℕ
own_cells = 8

-- which of them holds what
abbrev pub address_place : ℕ
address_place = 0

abbrev pub block_place : ℕ
block_place = 1

abbrev pub mark_place : ℕ
mark_place = 2

abbrev pub link_place : ℕ
link_place = 3

abbrev pub caller_place : ℕ
caller_place = 4

abbrev pub under_place : ℕ
under_place = 5

-- the word in an own cell of the last activation, and the number that it holds
abbrev pub own_word : Stack → ℕ → ℤ
own_word s k = get_or s.cells (s.base + k) (pos 0)

abbrev pub own_number : Stack → ℕ → ℕ
own_number s k = number_of (own_word s k)

-- the same of a count of operands, which may have more than 32 bits
abbrev pub own_count : Stack → ℕ → ℕ
own_count s k = unsigned_abs (own_word s k)

-- ## Static links

-- the static link of the activation whose first own cell has this word: such a word, too
abbrev pub link_at : Stacks → ℤ → ℤ
link_at stacks w = let r = ref_of w in get_or (cells_of stacks r.process) (r.cell + link_place) (pos 0)

-- the activation that lies so many static links up from there
abbrev pub links_up : Stacks → ℕ → ℤ → ℤ
links_up stacks zero w = w
links_up stacks (suc l) w = links_up stacks l (link_at stacks w)

-- the last activation of a process
abbrev pub last_activation : Stacks → ℕ → Ref
last_activation stacks q = record { process = q; cell = (stack_of stacks q).base }

-- the activation from which a process counts static links
abbrev pub first_in_view : Stacks → ℕ → Ref
first_in_view stacks p = last_activation stacks (unwrap_or (stack_of stacks p).looks_from p)

-- the activation l static links up
abbrev pub in_view : Stacks → ℕ → ℕ → ℤ
in_view stacks p l = links_up stacks l (word_of (first_in_view stacks p))

-- the word of cell d of the activation l static links up
abbrev pub cell_word : Stacks → ℕ → ℕ → ℕ → ℤ
cell_word stacks p l d = in_view stacks p l +ℤ pos (own_cells + d)
