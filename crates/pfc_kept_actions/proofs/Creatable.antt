-- The blocks of the processes of a checked program can be created.
use Rattle.std.proofs.Common.{◌≡◌, ℕ, ◌==◌, length, slice_get, Some, refl, sym, ap, ◌∙◌, subst, unwrap_or, position}
use Rattle.pfc_code.specs.declared.images.Block.{Block as CodeBlock}
use Rattle.pfc_tree.specs.trees.Parts.{ProgramTree}
use Rattle.pfc_types.specs.Blocks.{process_at}
use Rattle.pfc_types.specs.declared.heads.ProcessHead.{ProcessHead}
use Rattle.pfc_semantics.specs.Programs.{Block, Program, block_at, block_number, program_of}
use Rattle.pfc_translation.specs.Images.{image_of}
use Rattle.pfc_call_laws.specs.Blocks.{Takes}
use Rattle.pfc_representation.specs.Levels.{IsProgram, number_in}
use Rattle.pfc_callee_laws.specs.Callees.{IsProcessBlock}
use Rattle.pfc_callee_laws.proofs.Blocks.{process_block}
use Rattle.pfc_kept_calls.proofs.Callable.{number_is}
use Rattle.pfc_kept_lives.specs.Creatable.{AreCreatable, IsCreatable}

module _ (t : ProgramTree) (head : ProcessHead) (is : IsProcessBlock t head) where
  abbrev g : Program
  g = program_of t

  abbrev callee : Block
  callee = block_at g head.scope

  in_image : number_in g callee ≡ block_number g head.scope
  in_image =
      number_is g.blocks (block_number g head.scope) callee.scope (length g.blocks) callee is.activated.there refl
      ∙ ap (λ (j : ℕ). unwrap_or (position (λ (d : Block). d.scope == j) g.blocks) 0) is.activated.own_scope

  takes_so : (code : CodeBlock) → slice_get (image_of t).blocks (number_in g callee) ≡ Some code → Takes g callee head.formals code
  takes_so code at =
      let found : slice_get (image_of t).blocks (block_number g head.scope) ≡ Some code = ap (λ (k : ℕ). slice_get (image_of t).blocks k) (sym in_image) ∙ at in
      let one : Some is.activated.code ≡ Some code = sym is.activated.is ∙ found in
      let same : is.activated.code ≡ code = cc in subst (λ (c : CodeBlock). Takes g callee head.formals c) same is.activated.takes

  creatable : IsCreatable t callee head.formals
  creatable = record { takes = takes_so; objects = is.activated.objects }

pub are_creatable : (t : ProgramTree) → IsProgram t → AreCreatable t
are_creatable t is n low = creatable t (process_at (program_of t).state.blocks n) (process_block t is.lawful is.unbroken n low)
