-- How many operands code may hold.
use Rattle.std.specs.Prelude.{ℕ, ◌+◌, ◌-◌, ◌==◌, max, if◌then◌else◌, List, [], ◌∷◌, Option, Some, None, get_or, take, length}
use Rattle.pfc_code.specs.declared.instructions.Instr.{Instr}
use Rattle.pfc_code.specs.Operands.{counted, operands_of}
use Rattle.pfc_types.specs.Blocks.{Blocks}
use Rattle.pfc_types.specs.declared.heads.SubHead.{SubHead}
use Rattle.pfc_types.specs.declared.heads.SubSort.{SubSort}
use Rattle.pfc_types.specs.declared.heads.SubSort.TheVariants.{Function}
use Rattle.pfc_types.specs.declared.heads.ProcessHead.{ProcessHead}
use Rattle.pfc_semantics.specs.Layouts.{sub_with}
use Rattle.pfc_semantics.specs.Programs.{Block, Program, layout_cells}

-- ## The blocks that are called

abbrev pub process_with : List ProcessHead → ℕ → Option ProcessHead
process_with [] i = None
process_with (head ∷ heads) i = if head.scope == i then Some head else process_with heads i

abbrev pub process_formals : Option ProcessHead → ℕ
process_formals None = 0
process_formals (Some head) = length head.formals

abbrev pub formals_of : Blocks → ℕ → Option SubHead → ℕ
formals_of b i None = process_formals (process_with b.processes i)
formals_of b i (Some head) = length head.formals

-- how many cells the parameters of a block take: they stand first in its layout
abbrev pub params_of : Program → Block → ℕ
params_of g b =
    let blocks = g.state.blocks in
    layout_cells g.state.forms (take (formals_of blocks b.scope (sub_with blocks.subs b.scope)) b.layout)

abbrev pub result_of : Option SubHead → ℕ
result_of None = 0
result_of (Some head) = by_sort head.sort
  where
    by_sort : SubSort → ℕ
    by_sort (Function t) = 1
    by_sort sort = 0

abbrev pub block_numbered : Program → ℕ → Block
block_numbered g k = get_or g.blocks k g.main

abbrev pub arguments : Program → ℕ → ℕ
arguments g k = params_of g (block_numbered g k)

-- a function leaves its result
abbrev pub results : Program → ℕ → ℕ
results g k = result_of (sub_with g.state.blocks.subs (block_numbered g k).scope)

-- ## Instructions

-- How many operands an instruction reads, how many it takes where the process goes on at the next one, and how many it leaves.
abbrev pub reads : Program → Instr → ℕ
reads g i = counted (arguments g) (results g) (operands_of i).reads

abbrev pub takes : Program → Instr → ℕ
takes g i = counted (arguments g) (results g) (operands_of i).takes

abbrev pub leaves : Program → Instr → ℕ
leaves g i = counted (arguments g) (results g) (operands_of i).leaves

-- The most operands that code may hold, of which so many are held before it. Code is gone through from its first instruction to its last:
-- where a jump leads, as many are held as on the way through.
abbrev pub most_operands : Program → ℕ → List Instr → ℕ
most_operands g held [] = held
most_operands g held (i ∷ code) = max held (most_operands g (held - takes g i + leaves g i) code)
