-- The code text of an image.
use Rattle.std.specs.Prelude.{ℕ, ℤ, List, [], ◌∷◌, ◌++◌}
use Rattle.std.specs.List.{flat_map, enumerate_from, zip}
use Rattle.std.specs.Fmt.{decimal, signed_decimal}
use Rattle.pfc_code.specs.declared.instructions.Instr.{Instr}
use Rattle.pfc_code.specs.Images.{PlainImage}
use Rattle.pfc_code.specs.Pages.{at_right}
use Rattle.pfc_code.specs.Rows.{row_of}

-- a blank and an argument
abbrev pub argument_text : ℤ → List ℕ
argument_text n = 32 ∷ signed_decimal n

-- the name of an instruction, and each of its arguments after a blank
abbrev pub instr_text : Instr → List ℕ
instr_text instr = (row_of instr).0 ++ flat_map argument_text (row_of instr).1

-- the line of an instruction: its address in 6 places, a blank, its line in 5 places, a blank, the instruction
abbrev pub code_line : ℕ → Instr → ℕ → List ℕ
code_line address instr line =
    at_right 6 (decimal address) ++ 32 ∷ [] ++ at_right 5 (decimal line) ++ 32 ∷ [] ++ instr_text instr ++ 10 ∷ []

-- the code text of an image: the line of each instruction, with addresses from 0
abbrev pub code_text : PlainImage → List ℕ
code_text image =
    flat_map (λ numbered. code_line numbered.0 numbered.1.0 numbered.1.1) (enumerate_from 0 (zip image.code image.lines))
