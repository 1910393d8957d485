-- What is told once, of a program, of the blocks of its processes.
use Rattle.std.specs.Prelude.{ℕ, ◌≡◌, ◌<◌, List, length, Some}
use Rattle.std.specs.List.{slice_get}
use Rattle.pfc_code.specs.declared.images.Block.{Block as CodeBlock}
use Rattle.pfc_tree.specs.trees.Parts.{ProgramTree}
use Rattle.pfc_types.specs.Blocks.{process_at}
use Rattle.pfc_types.specs.declared.heads.Formal.{Formal}
use Rattle.pfc_semantics.specs.Programs.{Block, block_at, program_of}
use Rattle.pfc_translation.specs.Images.{image_of}
use Rattle.pfc_call_laws.specs.Blocks.{Takes}
use Rattle.pfc_call_laws.specs.Calls.{HasNoObjects}
use Rattle.pfc_representation.specs.Levels.{number_in}

-- The block of a process: its parameters stand first in its layout, and none of its variables is an object.
pub record IsCreatable (t : ProgramTree) (callee : Block) (formals : List Formal) : Type 0 where
  pub takes : (code : CodeBlock) → slice_get (image_of t).blocks (number_in (program_of t) callee) ≡ Some code → Takes (program_of t) callee formals code
  pub objects : HasNoObjects (program_of t) callee

-- The block of each declaration of a process is such a one.
abbrev pub AreCreatable : ProgramTree → Type 0
AreCreatable t =
    (n : ℕ) → n < length (program_of t).state.blocks.processes
    → (let head = process_at (program_of t).state.blocks n in IsCreatable t (block_at (program_of t) head.scope) head.formals)
