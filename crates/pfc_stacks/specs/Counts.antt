-- That an instruction changes operands as the table of instructions has it.
use Rattle.std.specs.Prelude.{ℕ, ◌+◌, ◌-◌, ◌≡◌, ℤ, List, length, drop}
use Rattle.pfc_code.specs.declared.images.Block.{Block}
use Rattle.pfc_code.specs.declared.instructions.Instr.{Instr}
use Rattle.pfc_code.specs.declared.counts.Count.{Count}
use Rattle.pfc_code.specs.Operands as table
use Rattle.pfc_stacks.specs.Conditions.{count_in, pushes}
use Rattle.pfc_stacks.specs.Effects.{Effect, goes, acts}
use Rattle.pfc_stacks.specs.Stacks.{Stack, Stacks}

-- the stacks that an effect leaves are these
abbrev pub Leaves : Effect → Stacks → Type 0
Leaves (goes stacks) new = new ≡ stacks
Leaves (acts stacks) new = new ≡ stacks
Leaves e new = ⊥

-- Of the operands that are read so many are popped, and so many are pushed. Those below are as they were.
pub record AreChanged (reads takes leaves : ℕ) (old new : List ℤ) : Type 0 where
  pub count : length new ≡ length old - takes + leaves
  pub below : drop (reads - takes + leaves) new ≡ drop reads old

-- The instruction has popped so many of those that it reads.
abbrev pub HasTaken : List Block → Instr → Count → List ℤ → List ℤ → Type 0
HasTaken blocks i takes = AreChanged (count_in blocks (table.operands_of i).reads) (count_in blocks takes) (pushes i)

-- A process has popped what its instruction takes on the way to the next one, or what it takes where the process goes on elsewhere.
pub data IsCounted (blocks : List Block) (i : Instr) (old new : Stack) : Type 0 where
  onward : new.at ≡ old.at + 1 → HasTaken blocks i (table.operands_of i).takes old.operands new.operands → IsCounted blocks i old new
  elsewhere : HasTaken blocks i (table.operands_of i).takes_jumping old.operands new.operands → IsCounted blocks i old new
