-- The block that the image has for one of the program's.
use Rattle.std.proofs.Common.{◌≡◌, ℕ, false, List, [], ◌∷◌, length, map, get_or, slice_get, Some, None, refl, ap, arith}
use Rattle.std.proofs.lemmas.Option.{slice_get_within, slice_get-get_or}
use Rattle.pfc_code.specs.declared.images.Block.{Block as CodeBlock}
use Rattle.pfc_code.specs.declared.instructions.Instr.{Instr}
use Rattle.pfc_code.specs.declared.instructions.Instr.TheVariants.{END}
use Rattle.pfc_tree.specs.trees.Parts.{ProgramTree}
use Rattle.pfc_semantics.specs.Programs.{Block, program_of}
use Rattle.pfc_translation.specs.Codes.{Lined}
use Rattle.pfc_translation.specs.Operands.{params_of}
use Rattle.pfc_translation.specs.Images.{instructions, image_of}
use Rattle.pfc_image_laws.proofs.Layouts.{image_lines, image_count}
use Rattle.pfc_standing_code.specs.Settings.{Setting, of_own}
use Rattle.pfc_standing_images.specs.Images.{IsOfImage}
use Rattle.pfc_standing_images.proofs.Wholes.{block_stands}

with_lines : List Instr → List ℕ → Lined
with_lines [] lines = []
with_lines (i ∷ code) [] = []
with_lines (i ∷ code) (n ∷ lines) = (i, n) ∷ with_lines code lines

its_code : (code : List Instr) (lines : List ℕ) → length lines ≡ length code → instructions (with_lines code lines) ≡ code
unfolding with_lines
its_code [] lines e = refl
its_code (i ∷ code) [] e = absurd (omega (arith, e))
its_code (i ∷ code) (n ∷ lines) e = ap (λ (l : List Instr). i ∷ l) (its_code code lines (omega (arith, e)))

its_lines : (code : List Instr) (lines : List ℕ) → length lines ≡ length code → map (λ (c : Instr × ℕ). c.1) (with_lines code lines) ≡ lines
unfolding with_lines
its_lines [] [] e = refl
its_lines [] (n ∷ lines) e = absurd (omega (arith, e))
its_lines (i ∷ code) [] e = absurd (omega (arith, e))
its_lines (i ∷ code) (n ∷ lines) e = ap (λ (l : List ℕ). n ∷ l) (its_lines code lines (omega (arith, e)))

-- a setting of the image, whatever is seen there
abbrev a_setting : ProgramTree → Setting
a_setting t = record {
  program = program_of t;
  block = (program_of t).main;
  code = with_lines (image_of t).code (image_of t).lines;
  texts = (image_of t).texts;
  number = λ w. None;
  view = record { reaches = λ l d. false; refers = λ l d. false; first = λ l. 0; held = λ l d. 0 };
  accepts = [];
  meetings = [];
  under = [];
  last = END;
  room = 0;
  arms = (image_of t).arms;
  trial = of_own;
}

is_of_image : (t : ProgramTree) → IsOfImage t (a_setting t)
is_of_image t =
    record {
      program = refl;
      code = its_code (image_of t).code (image_of t).lines (image_lines t);
      lines = its_lines (image_of t).code (image_of t).lines (image_lines t);
      texts = refl;
      arms = omega arith;
    }

none : CodeBlock
none = record { label = []; entry = 0; body = 0; params = 0; cells = 0; operands = 0; level = 0; line = 0 }

-- the image has each block, with the cells of its parameters and all its cells
pub record IsInImage (t : ProgramTree) (k : ℕ) (b : Block) : Type 0 where
  pub code : CodeBlock
  pub is : slice_get (image_of t).blocks k ≡ Some code
  pub params : code.params ≡ params_of (program_of t) b
  pub cells : code.cells ≡ b.cells

pub block_in_image : (t : ProgramTree) (k : ℕ) (b : Block) → slice_get (program_of t).blocks k ≡ Some b → IsInImage t k b
block_in_image t k b there =
    let within = slice_get_within (program_of t).blocks k b there in
    let count = image_count t in
    let c = get_or (image_of t).blocks k none in
    let is : slice_get (image_of t).blocks k ≡ Some c = slice_get-get_or (image_of t).blocks k none (omega (arith, within, count)) in
    let has = block_stands t (a_setting t) (is_of_image t) k b c there is in
    record { code = c; is = is; params = has.params; cells = has.cells }

-- the same block of the image
pub params_there : (t : ProgramTree) (k : ℕ) (b : Block) (c : CodeBlock) → slice_get (program_of t).blocks k ≡ Some b → slice_get (image_of t).blocks k ≡ Some c
    → c.params ≡ params_of (program_of t) b
params_there t k b c there is = (block_stands t (a_setting t) (is_of_image t) k b c there is).params
