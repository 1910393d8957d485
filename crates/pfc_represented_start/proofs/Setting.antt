-- Main's block in the image, and its setting.
use Rattle.std.proofs.Common.{◌≡◌, ℕ, ◌+◌, false, List, [], ◌∷◌, ◌++◌, length, map, slice_get, Option, Some, None, refl, sym, ap, ◌∙◌, arith, length-append}
use Rattle.pfc_code.specs.declared.images.Block.{Block as CodeBlock}
use Rattle.pfc_code.specs.declared.instructions.Instr.{Instr}
use Rattle.pfc_code.specs.declared.instructions.Instr.TheVariants.{END}
use Rattle.pfc_tree.specs.trees.Stmts.{BodyTree, body}
use Rattle.pfc_tree.specs.trees.Parts.{ProgramTree}
use Rattle.pfc_types.specs.rules.Expressions.{Env}
use Rattle.pfc_types.specs.rules.Whole.{finished}
use Rattle.pfc_types.specs.declared.heads.SubHead.{SubHead}
use Rattle.pfc_semantics.specs.Layouts.{Layout, sub_with}
use Rattle.pfc_semantics.specs.Programs.{Guard, block_of, program_of}
use Rattle.pfc_translation.specs.Images.{Coded, a_body, body_code, pieces, coded, strings_in, before_main, of_main, size_of, put_from, blocks_from, main_block}
use Rattle.pfc_translation.specs.Images.{end_of, instructions, image_of}
use Rattle.pfc_image_laws.proofs.Layouts.{image_lines, image_count}
use Rattle.pfc_image_cells.proofs.Subs.{program_subs}
use Rattle.pfc_image_cells.proofs.Trees.{among, sub_none, parts_out}
use Rattle.pfc_standing_images.specs.Images.{IsOfImage, IsOfBlock}
use Rattle.pfc_object_laws.proofs.Lists.{get_right_at}
use Rattle.pfc_represented_start.specs.Starts.{main_number, lined, main_setting}

-- ## Main

block_scope : (scope outer : ℕ) (env : Env) (next : ℕ) (b : BodyTree) (layout : Layout) (accepts : ℕ) (guard : Option Guard)
    → (block_of scope outer env next b layout accepts guard).scope ≡ scope
block_scope scope outer env next (body ss first last) layout accepts guard = refl

block_guard : (scope outer : ℕ) (env : Env) (next : ℕ) (b : BodyTree) (layout : Layout) (accepts : ℕ) (guard : Option Guard)
    → (block_of scope outer env next b layout accepts guard).guard ≡ guard
block_guard scope outer env next (body ss first last) layout accepts guard = refl

pub main_scope : (t : ProgramTree) → (program_of t).main.scope ≡ 0
main_scope t = block_scope 0 _ _ _ t.body _ _ _

-- it has no guard
pub main_guard : (t : ProgramTree) → (program_of t).main.guard ≡ None
main_guard t = block_guard 0 _ _ _ t.body _ _ None

-- main is no sub, so its end ends the process
no_sub : (t : ProgramTree) → sub_with (finished t).blocks.subs 0 ≡ None
no_sub t =
    sub_none (finished t).blocks.subs 0
    (ap (λ (is : List ℕ). among 0 is) (program_subs t) ∙ (parts_out (finished t) false 0 0 [] 1 t.parts 0 (λ low high. omega (arith, low))).subs)

pub main_end : (t : ProgramTree) → END ≡ end_of (sub_with (program_of t).state.blocks.subs (program_of t).main.scope)
main_end t =
    sym (ap (λ (i : ℕ). end_of (sub_with (finished t).blocks.subs i)) (main_scope t) ∙ ap (λ (o : Option SubHead). end_of o) (no_sub t))

-- ## Main's block in the image

-- main's block in the image, whose entry is that of main's code
pub record MainBlock (t : ProgramTree) : Type 0 where
  pub code : CodeBlock
  pub there : slice_get (image_of t).blocks (main_number t) ≡ Some code
  pub cells : code.cells ≡ (program_of t).main.cells
  pub body : code.body ≡ code.entry

pub the_main_block : (t : ProgramTree) → MainBlock t
the_main_block t =
    let g = program_of t in
    let parts = coded g 0 0 (pieces g.state 0 1 t.parts) in
    let main : Coded = record { piece = a_body g.main; code = body_code g g.main; strings = length (strings_in parts) } in
    let outer = before_main parts in
    let at = size_of outer in
    let c = main_block g t.name.0 at (put_from at (of_main parts ++ main ∷ [])) in
    let before = blocks_from g 0 outer in
    let count : length (before ++ c ∷ []) ≡ length g.blocks + 1 = image_count t in
    record {
      code = c;
      there = get_right_at before (c ∷ []) (length g.blocks) 0 (omega (arith, count, length-append before (c ∷ [])));
      cells = refl;
      body = refl;
    }

-- ## The code with its lines

lined_code : (code : List Instr) (lines : List ℕ) → length lines ≡ length code → instructions (lined code lines) ≡ code
lined_code [] lines e = refl
lined_code (i ∷ code) [] e = absurd (omega (arith, e))
lined_code (i ∷ code) (n ∷ lines) e = ap (λ (l : List Instr). i ∷ l) (lined_code code lines (omega (arith, e)))

lined_lines : (code : List Instr) (lines : List ℕ) → length lines ≡ length code → map (λ (c : Instr × ℕ). c.1) (lined code lines) ≡ lines
lined_lines [] [] e = refl
lined_lines [] (n ∷ lines) e = absurd (omega (arith, e))
lined_lines (i ∷ code) [] e = absurd (omega (arith, e))
lined_lines (i ∷ code) (n ∷ lines) e = ap (λ (l : List ℕ). n ∷ l) (lined_lines code lines (omega (arith, e)))

pub main_of_image : (t : ProgramTree) (c : CodeBlock) → IsOfImage t (main_setting t c)
main_of_image t c =
    record {
      program = refl;
      code = lined_code (image_of t).code (image_of t).lines (image_lines t);
      lines = lined_lines (image_of t).code (image_of t).lines (image_lines t);
      texts = refl;
      arms = omega arith;
    }

pub main_of_block : (t : ProgramTree) (c : CodeBlock) → IsOfBlock (main_setting t c) (program_of t).main c
main_of_block t c = record { last = main_end t; room = omega arith }
