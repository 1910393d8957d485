-- Images and stacks that tests begin with.
use Rattle.std.specs.Prelude.{ℕ, ℤ, pos, slice_index, List, [], ◌∷◌, Option, None}
use Rattle.pfc_code.specs.declared.images.Block.{Block}
use Rattle.pfc_stacks.specs.Stacks.{Stack, Stacks}

-- ## Blocks

-- by entry, body, parameters, cells, operands and level
abbrev pub block_by : List ℕ → Block
block_by numbers = record {
  label = 112 ∷ [];
  entry = slice_index numbers 0;
  body = slice_index numbers 1;
  params = slice_index numbers 2;
  cells = slice_index numbers 3;
  operands = slice_index numbers 4;
  level = slice_index numbers 5;
  line = 1;
}

-- a body without parameters
abbrev pub plain_block : ℕ → Block
plain_block cells = record { label = 112 ∷ []; entry = 0; body = 0; params = 0; cells = cells; operands = 0; level = 0; line = 1 }

abbrev pub function_block : Block
function_block = record { label = 112 ∷ []; entry = 20; body = 20; params = 1; cells = 3; operands = 4; level = 2; line = 1 }

abbrev pub procedure_block : Block
procedure_block = record { label = 112 ∷ []; entry = 10; body = 10; params = 2; cells = 3; operands = 6; level = 1; line = 1 }

abbrev pub process_block : Block
process_block = record { label = 112 ∷ []; entry = 30; body = 30; params = 1; cells = 2; operands = 3; level = 1; line = 1 }

abbrev pub guarded_block : Block
guarded_block = record { label = 112 ∷ []; entry = 40; body = 43; params = 0; cells = 1; operands = 5; level = 1; line = 1 }

abbrev pub main_block : Block
main_block = record { label = 112 ∷ []; entry = 0; body = 0; params = 0; cells = 4; operands = 8; level = 0; line = 1 }

abbrev pub sample_blocks : List Block
sample_blocks = function_block ∷ procedure_block ∷ process_block ∷ guarded_block ∷ main_block ∷ []

-- ## Cells

-- main, whose second variable is object 5
abbrev pub main_cells : List ℤ → List ℤ
main_cells above =
    pos 0 ∷ pos 4 ∷ pos 0 ∷ pos 0 ∷ pos 0 ∷ pos 0 ∷ pos 0 ∷ pos 0 ∷ pos 0 ∷ pos 5 ∷ pos 0 ∷ pos 0 ∷ above

-- the procedure, called from address 0 of main through monitor 3 with 7 and 8
abbrev pub sub_cells : List ℤ → List ℤ
sub_cells above =
    pos 1 ∷ pos 1 ∷ pos 4 ∷ pos 0 ∷ pos 0 ∷ pos 0 ∷ pos 0 ∷ pos 0 ∷ pos 7 ∷ pos 8 ∷ pos 0 ∷ above

-- the function, called from address 0 of the code over one operand, with a reference to main's third variable; its result is 99
abbrev pub function_cells : ℤ → List ℤ
function_cells value =
    pos 1 ∷ pos 0 ∷ pos 0 ∷ pos 12 ∷ pos 12 ∷ pos 1 ∷ pos 0 ∷ pos 0 ∷ pos 10 ∷ value ∷ pos 0 ∷ []

-- ## Stacks

abbrev pub idle : Stack
idle = record { at = 0; base = 0; cells = []; operands = []; room = 0; spare = 5; looks_from = None }

abbrev pub main_with : ℕ → ℕ → List ℤ → List ℤ → Option ℕ → Stack
main_with at base cells ops look =
    record { at = at; base = base; cells = main_cells cells; operands = ops; room = 13; spare = 5; looks_from = look }

abbrev pub at_start : Stacks
at_start = main_with 0 0 [] [] None ∷ idle ∷ []

abbrev pub in_procedure : Stacks
in_procedure = main_with 10 12 (sub_cells []) [] None ∷ idle ∷ []

abbrev pub in_function : Stacks
in_function = main_with 20 23 (sub_cells (function_cells (pos 0))) (pos 50 ∷ []) None ∷ idle ∷ []

abbrev pub before_creation : Stacks
before_creation = main_with 20 23 (sub_cells (function_cells (pos 99))) (pos 77 ∷ pos 1 ∷ pos 50 ∷ []) None ∷ idle ∷ []

-- another process, at its block, with 77
abbrev pub other : Stack
other = record {
  at = 30;
  base = 0;
  cells = pos 0 ∷ pos 2 ∷ pos 0 ∷ pos 0 ∷ pos 0 ∷ pos 0 ∷ pos 0 ∷ pos 0 ∷ pos 77 ∷ pos 0 ∷ [];
  operands = [];
  room = 8;
  spare = 5;
  looks_from = None;
}

abbrev pub with_other : Stacks
with_other = main_with 21 23 (sub_cells (function_cells (pos 99))) (pos 50 ∷ []) None ∷ other ∷ []

-- main at address 1 of the code, with two operands more of which b is the top
abbrev pub sample_stacks : Option ℕ → ℤ → ℤ → Stacks
sample_stacks look a b = main_with 1 23 (sub_cells (function_cells (pos 99))) (b ∷ a ∷ pos 50 ∷ []) look ∷ other ∷ []

-- ## One activation

abbrev pub lone_block : Block
lone_block = record { label = 112 ∷ []; entry = 0; body = 0; params = 0; cells = 6; operands = 8; level = 0; line = 1 }

-- six cells behind its own: three that hold 11, 12 and 13, and three that hold 0
abbrev pub lone_cells : List ℤ
lone_cells =
    pos 0 ∷ pos 0 ∷ pos 0 ∷ pos 0 ∷ pos 0 ∷ pos 0 ∷ pos 0 ∷ pos 0 ∷ pos 11 ∷ pos 12 ∷ pos 13 ∷ pos 0 ∷ pos 0 ∷ pos 0 ∷ []

-- main alone before its first instruction, with four operands of which d is the top
abbrev pub lone_stacks : ℤ → ℤ → ℤ → ℤ → Stacks
lone_stacks a b c d =
    record { at = 0; base = 0; cells = lone_cells; operands = d ∷ c ∷ b ∷ a ∷ []; room = 8; spare = 0; looks_from = None } ∷ []
