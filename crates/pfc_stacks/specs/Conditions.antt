-- When an instruction may be performed.
use Rattle.std.specs.Prelude.{ℕ, zero, suc, ◌+◌, ◌-◌, ◌≤◌, ◌<◌, ◌≡◌, true, ℤ, pos, ◌+ℤ◌, List, [], length}
use Rattle.std.specs.List.{slice_get}
use Rattle.pfc_code.specs.declared.images.Block.{Block}
use Rattle.pfc_code.specs.declared.instructions.Instr.{Instr}
use Rattle.pfc_code.specs.declared.instructions.Instr.TheVariants.{ADDR, REF, IDX, FLD, LOAD, STORE, FORW, CALL, RET, RETF}
use Rattle.pfc_code.specs.declared.counts.Count.{Count}
use Rattle.pfc_code.specs.Operands.{counted, told}
use Rattle.pfc_code.specs.Operands as table
use Rattle.pfc_stacks.specs.declared.refs.Ref.{Ref}
use Rattle.pfc_stacks.specs.Refs.{ref_of, IsAddress}
use Rattle.pfc_stacks.specs.Stacks.{Stacks, stack_of, operand, operands_of, cells_of, cell_word}
use Rattle.pfc_stacks.specs.Activations.{params_of}
use Rattle.pfc_stacks.specs.Effects.{is_within, element_word}

-- ## Operands, as the table of instructions has them

-- how many cells the parameters of a block take, by its number
abbrev pub params_in : List Block → ℕ → ℕ
params_in blocks k = params_of (slice_get blocks k)

-- the number that a count stands for, but for the result of a call
abbrev pub count_in : List Block → Count → ℕ
count_in blocks = counted (params_in blocks) (λ k. 0)

-- How many operands an instruction pushes: what a call leaves, its return pushes.
abbrev pub pushes : Instr → ℕ
pushes RETF = 1
pushes i = told (table.operands_of i).leaves

-- how many more there are behind it, where there are more
abbrev pub adds : Instr → ℕ
adds i = pushes i - told (table.operands_of i).takes

-- ## Cells

-- the z cells from an address on are there
abbrev pub AreLive : Stacks → Ref → ℕ → Type 0
AreLive stacks r z = r.cell + z ≤ length (cells_of stacks r.process)

-- what is reckoned of an address is an address
abbrev pub Reckons : Instr → List ℤ → Type 0
Reckons (IDX low high z) ops =
    IsAddress (operand ops 1) × (is_within low high (operand ops 0) ≡ true → IsAddress (element_word low z (operand ops 0) (operand ops 1)))
Reckons (FLD k) ops = IsAddress (operand ops 0 +ℤ pos k)
Reckons i ops = Unit {0}

-- static links lead to an activation
abbrev pub Leads : ℕ → ℕ → ℕ → Stacks → Type 0
Leads zero d p stacks = Unit {0}
Leads (suc l) d p stacks = IsAddress (cell_word stacks p (suc l) d)

-- the addresses that it uses are those of cells, and the block that it calls is one of the image
abbrev pub Reaches : List Block → Instr → ℕ → Stacks → Type 0
Reaches blocks (ADDR l d) p stacks = Leads l d p stacks
Reaches blocks (REF l d) p stacks = Leads l d p stacks
Reaches blocks (LOAD z) p stacks = AreLive stacks (ref_of (operand (operands_of stacks p) 0)) z
Reaches blocks (STORE z) p stacks = AreLive stacks (ref_of (operand (operands_of stacks p) z)) z
Reaches blocks FORW p stacks = AreLive stacks (ref_of (operand (operands_of stacks p) 2)) 1
Reaches blocks (CALL k l) p stacks = k < length blocks
Reaches blocks i p stacks = Reckons i (operands_of stacks p)

pub record CanPerform (blocks : List Block) (i : Instr) (p : ℕ) (stacks : Stacks) : Type 0 where
  -- it finds its operands
  pub held : count_in blocks (table.operands_of i).reads ≤ length (operands_of stacks p)
  -- there is room for what it adds
  pub room : adds i ≤ (stack_of stacks p).room - length (operands_of stacks p)
  pub reach : Reaches blocks i p stacks

-- What an instruction asks that begins and ends no activation; calls and returns, which are left undone, ask nothing.
abbrev pub CanPerformInside : Instr → ℕ → Stacks → Type 0
CanPerformInside (CALL k l) p stacks = Unit {0}
CanPerformInside RET p stacks = Unit {0}
CanPerformInside RETF p stacks = Unit {0}
CanPerformInside i p stacks = CanPerform [] i p stacks
