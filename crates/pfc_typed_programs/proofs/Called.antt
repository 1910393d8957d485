-- The blocks that code calls, in the image.
use Rattle.std.proofs.Common.{◌≡◌, ℕ, ◌+◌, List, [], length, get_or, slice_get, Some, ap, sym, ◌∙◌, subst, arith}
use Rattle.std.proofs.lemmas.Option.{slice_get_within, slice_get-get_or, get_or_from_slice_get}
use Rattle.pfc_code.specs.declared.images.Block.{Block as CodeBlock}
use Rattle.pfc_tree.specs.trees.Parts.{ProgramTree}
use Rattle.pfc_tree.specs.forget.Parts.{forget_program}
use Rattle.pfc_tree.specs.lawful.Parts.{IsLawful}
use Rattle.pfc_types.specs.declared.heads.Formal.{Formal}
use Rattle.pfc_types.specs.rules.Whole.{broken}
use Rattle.pfc_semantics.specs.Programs.{Block, Program, block_at, block_number, program_of}
use Rattle.pfc_translation.specs.Images.{guard_code, image_of}
use Rattle.pfc_translation.specs.Operands.{params_of, block_numbered}
use Rattle.pfc_image_laws.proofs.Layouts.{image_count}
use Rattle.pfc_standing_code.specs.Settings.{Setting}
use Rattle.pfc_standing_images.specs.Images.{IsOfImage, BlockStands}
use Rattle.pfc_standing_images.proofs.Wholes.{block_stands}
use Rattle.pfc_standing_images.proofs.Bodies.{body_performs}
use Rattle.pfc_typed_programs.specs.Bodies.{IsBody, of_block as a_block, IsCallee, CalleeStands}
use Rattle.pfc_typed_programs.proofs.Bodies.{body_ready}

pub called_stands :
    (t : ProgramTree) (g : Setting) (scope left : ℕ) (formals : List Formal) → IsLawful (forget_program t) → broken t ≡ [] → IsOfImage t g
    → IsCallee (program_of t) scope formals left → (c : CodeBlock) × CalleeStands t g scope formals c
called_stands t g scope left formals lawful whole of_image called = (
  c,
  record {
    there = there;
    stands = has;
    params = has.params ∙ sym (ap (λ (x : Block). params_of g.program x) at_number) ∙ is.takes;
    body = λ alone no_meetings no_accepts of_block seen.
        body_performs g c of_block.room b c.body (has.n + length (guard_code g.program b b.guard).texts) alone no_meetings of_block has.body
        (body_ready t lawful whole g b of_image alone no_accepts own seen);
  },
)
  where
    is : IsCallee g.program scope formals left
    is = subst (λ (z : Program). IsCallee z scope formals left) (sym of_image.program) called

    b : Block
    b = block_at g.program scope

    k : ℕ
    k = block_number g.program scope

    none : CodeBlock
    none = record { label = []; entry = 0; body = 0; params = 0; cells = 0; operands = 0; level = 0; line = 0 }

    c : CodeBlock
    c = get_or (image_of t).blocks k none

    there : slice_get (image_of t).blocks k ≡ Some c
    there =
        let within = slice_get_within g.program.blocks k b is.there in
        let same = ap (λ (z : Program). length z.blocks) of_image.program in
        let count = image_count t in
        slice_get-get_or (image_of t).blocks k none (omega (arith, within, same, count))

    has : BlockStands g b c
    has = block_stands t g of_image k b c is.there there

    at_number : block_numbered g.program k ≡ b
    at_number = get_or_from_slice_get g.program.blocks k b g.program.main is.there

    own : IsBody t b
    own = a_block k b (ap (λ (z : Program). slice_get z.blocks k) (sym of_image.program) ∙ is.there)
