-- What is known of the blocks that are called, by their numbers.
use Rattle.std.proofs.Common.{◌≡◌, ℕ, zero, suc, List, [], ◌∷◌, map, get_or, refl, sym, ap, ◌∙◌, subst}
use Rattle.pfc_tree.specs.declared.tree.Tree.{Tree}
use Rattle.pfc_semantics.specs.Layouts.{sub_with}
use Rattle.pfc_semantics.specs.Programs.{Block, Program}
use Rattle.pfc_translation.specs.Operands.{params_of, result_of}
use Rattle.pfc_program.specs.Views.{block_view, blocks_view}
use Rattle.pfc_program.specs.declared.tables.Tables.{Tables}
use Rattle.pfc_program.specs.declared.blocks.Block.{Block as HeldBlock}
use Rattle.pfc_program.specs.declared.program.Program.{Program as HeldProgram}
use Rattle.pfc_operands.specs.Callees.{AreCallees, program_in}
use Rattle.pfc_addresses.specs.Sites.{whole_view}
use Rattle.pfc_blocks.specs.Making.{IsOf, params_in, results_in}

-- a number for each block, and none for main
called_at :
    (f : Block → ℕ) (tables : Tables) (blocks : List HeldBlock) (main : Block) (k : ℕ) → f main ≡ 0
    → get_or (map (λ b. f (block_view tables b)) blocks) k 0 ≡ f (get_or (blocks_view tables blocks) k main)
called_at f tables [] main k none = sym none
called_at f tables (b ∷ blocks) main zero none = refl
called_at f tables (b ∷ blocks) main (suc k) none = called_at f tables blocks main k none

pub are_callees :
    (program : HeldProgram) (tree : Tree) (params results : List ℕ) → IsOf program tree → params ≡ params_in program program.blocks.items
    → results ≡ results_in program program.blocks.items → params_of (whole_view program) (block_view program.tables program.main) ≡ 0
    → result_of (sub_with program.tables.scopes.now.subs program.main.scope) ≡ 0
    → AreCallees (program_in tree program.tables.types.now program.tables.scopes.now) params results
are_callees program tree params results is_of are_params are_results no_params no_result =
    let g : Program = whole_view program in
    let tables : Tables = program.tables in
    let main : Block = block_view tables program.main in
    let blocks : List HeldBlock = program.blocks.items in
    subst (λ (p : Program). AreCallees p params results) is_of
    (record {
      params_are = λ k. ap (λ (l : List ℕ). get_or l k 0) are_params ∙ called_at (params_of g) tables blocks main k no_params;
      values_are = λ k.
          ap (λ (l : List ℕ). get_or l k 0) are_results
          ∙ called_at (λ (b : Block). result_of (sub_with tables.scopes.now.subs b.scope)) tables blocks main k no_result;
    })
