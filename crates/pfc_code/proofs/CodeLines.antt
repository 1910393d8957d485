-- The code text, line by line.
use Rattle.std.proofs.Common.{ℕ, List, drop}
use Rattle.std.specs.List.{flat_map, enumerate_from, zip}
use Rattle.pfc_code.specs.declared.instructions.Instr.{Instr}
use Rattle.pfc_code.specs.Printing.{code_line}

-- the lines of the code text from the address i on
abbrev pub lines_from : ℕ → List Instr → List ℕ → List ℕ
lines_from i code lines =
    flat_map (λ numbered. code_line numbered.0 numbered.1.0 numbered.1.1) (enumerate_from i (zip (drop i code) (drop i lines)))
