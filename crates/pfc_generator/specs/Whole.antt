-- The code of a whole program.
use Rattle.std.specs.Prelude.{◌≡◌, ◌≤◌, max, List, [], ◌∷◌, ◌++◌, length, map}
use Rattle.pfc_semantics.specs.Programs.{Program}
use Rattle.pfc_translation.specs.Codes.{Lined}
use Rattle.pfc_translation.specs.Images.{Piece, a_body, Coded, coded, body_code, before_main, of_main, size_of, put_from, strings_in, most_arms, scans_from}
use Rattle.pfc_translation.specs.Images.{instructions}
use Rattle.pfc_program.specs.declared.program.Program.{Program as HeldProgram}
use Rattle.pfc_addresses.specs.Sites.{whole_view}
use Rattle.pfc_code.specs.declared.instructions.Instr.{Instr}
use Rattle.pfc_code.specs.declared.images.Block.{Block as CodeBlock}
use Rattle.pfc_program.specs.declared.tables.Tables.{Tables}
use Rattle.pfc_blocks.specs.declared.placed.Placed.{Placed}
use Rattle.pfc_blocks.specs.Making.{Placing, placing_view, made_block}
use Rattle.pfc_generator.specs.Making.{AreSized, placings_from}
use Rattle.pfc_generator.specs.declared.coded.Coded.{Coded as HeldCoded}

abbrev pub placings_view : Tables → List Placed → List Placing
placings_view tables placed = map (λ p. placing_view tables p) placed

-- the blocks of bodies, where they stand in this code
abbrev pub blocks_in : Program → List Instr → List Placing → List CodeBlock
blocks_in g code placed = map (λ p. made_block g code p) placed

-- the main body, behind all that stands before it in the text
abbrev pub main_coded : Program → List Coded → Coded
main_coded g parts = record { piece = a_body g.main; code = body_code g g.main; strings = length (strings_in parts) }

abbrev pub main_code : Program → List Coded → Lined
main_code g parts = put_from (size_of (before_main parts)) (of_main parts ++ main_coded g parts ∷ [])

abbrev pub whole_code : Program → List Coded → Lined
whole_code g parts = put_from 0 (before_main parts) ++ main_code g parts

-- the code of a program, of whose text these pieces stand before its main body
pub record IsMadeOf (program : HeldProgram) (parts : List Coded) (c : HeldCoded) : Type 0 where
  pub code : c.code.items ≡ instructions (whole_code (whole_view program) parts)
  pub lines : c.lines.items ≡ map (λ pair. pair.1) (whole_code (whole_view program) parts)
  pub texts : c.texts.items ≡ strings_in parts ++ (main_coded (whole_view program) parts).code.texts
  pub arms : c.arms ≡ max (most_arms parts) (main_coded (whole_view program) parts).code.arms
  pub placed : placings_view program.tables c.placed.items ≡ placings_from (whole_view program) 0 (before_main parts)
  pub sized : AreSized 0 (before_main parts)
  pub scans : c.scans.items ≡ scans_from 0 (before_main parts)
  pub main : c.main ≡ size_of (before_main parts)
  pub few : length c.code.items ≤ 200000

abbrev pub IsCoded : HeldProgram → List Piece → HeldCoded → Type 0
IsCoded program pieces c = IsMadeOf program (coded (whole_view program) 0 0 pieces) c
