-- What is known of a program is what its tree says.
use Rattle.std.proofs.Common.{◌≡◌, ℕ, List, ap, ap₂, ◌∙◌, sym}
use Rattle.pfc_tree.specs.declared.tree.Tree.{Tree}
use Rattle.pfc_tree.specs.views.Parts.{parts_view, tree_view}
use Rattle.pfc_types.specs.Blocks.{State}
use Rattle.pfc_semantics.specs.Objects.{all_first, main_objects}
use Rattle.pfc_semantics.specs.Programs.{Block, Program, program_of, program_over}
use Rattle.pfc_program.specs.Views.{tables_view, block_view, blocks_view}
use Rattle.pfc_program.specs.declared.program.Program.{Program as HeldProgram}
use Rattle.pfc_addresses.specs.Sites.{whole_view}
use Rattle.pfc_operands.specs.Callees.{program_in}
use Rattle.pfc_translation.specs.Images.{pieces}
use Rattle.pfc_blocks.specs.Making.{IsOf}
use Rattle.pfc_generator.specs.Pieces.{pieces_of}
use Rattle.pfc_generator.proofs.AllPieces.{all_pieces}

-- a program with the first values of its variables and its objects
abbrev whole : State → List Block → List Block → Block → List ℕ → Program
whole s blocks modules main ends =
    let variables = main_objects s.forms s.blocks in
    record {
      state = s;
      blocks = blocks;
      modules = modules;
      main = main;
      resource_ends = ends;
      firsts = all_first s.forms;
      variables = variables.is;
      objects = variables.objects;
    }

module _ (tree : Tree) (held : HeldProgram) (state : tables_view held.tables ≡ (program_of (tree_view tree)).state)
    (blocks : blocks_view held.tables held.blocks.items ≡ (program_of (tree_view tree)).blocks)
    (modules : blocks_view held.tables held.modules.items ≡ (program_of (tree_view tree)).modules)
    (main : block_view held.tables held.main ≡ (program_of (tree_view tree)).main)
    (ends : held.resource_ends.items ≡ (program_of (tree_view tree)).resource_ends) where
  pub whole_is : whole_view held ≡ program_of (tree_view tree)
  whole_is =
      let p : Program = program_of (tree_view tree) in
      let bs : List Block = blocks_view held.tables held.blocks.items in
      let ms : List Block = blocks_view held.tables held.modules.items in
      let m : Block = block_view held.tables held.main in
      ap (λ (x : State). whole x bs ms m held.resource_ends.items) state
      ∙ ap₂ (λ (x y : List Block). whole p.state x y m held.resource_ends.items) blocks modules
      ∙ ap₂ (λ (x : Block) (e : List ℕ). whole p.state p.blocks p.modules x e) main ends

  pub is_of : IsOf held tree
  unfolding program_in
  is_of = whole_is ∙ ap (λ (s : State). program_over s (tree_view tree)) (sym state)

-- what stands in its text is what its blocks are
module _ (tree : Tree) (held : HeldProgram) (is : IsOf held tree) where
  pub known_pieces :
      pieces_of (blocks_view held.tables held.blocks.items) (blocks_view held.tables held.modules.items) (parts_view tree.parts.items)
      ≡ pieces (tables_view held.tables) 0 1 (parts_view tree.parts.items)
  unfolding program_in
  known_pieces =
      let ps = parts_view tree.parts.items in
      ap₂ (λ (b i : List Block). pieces_of b i ps) (ap (λ (p : Program). p.blocks) is) (ap (λ (p : Program). p.modules) is)
      ∙ all_pieces (tables_view held.tables) 0 1 ps
