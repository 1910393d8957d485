-- The cell that an instruction addresses.
use Rattle.std.specs.Prelude.{ℕ}
use Rattle.pfc_code.specs.declared.instructions.Instr.{Instr}
use Rattle.pfc_code.specs.declared.instructions.Instr.TheVariants.{ADDR, REF}

abbrev pub addressed_cell : Instr → ℕ
addressed_cell (ADDR l d) = d
addressed_cell (REF l d) = d
addressed_cell i = 0
