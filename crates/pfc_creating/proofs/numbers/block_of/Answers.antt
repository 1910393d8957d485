use Rattle.std.proofs.Common.{ℕ, ap, ◌∙◌}
use Rattle.pfc_types.specs.Blocks.{process_at}
use Rattle.pfc_program.specs.Views.{block_view, blocks_view}
use Rattle.pfc_semantics.specs.Programs.{found_block}
use Rattle.pfc_creating.proofs.numbers.block_of.Goals as goal

pub returns : goal.returns
returns c =
    let g = c.args.source.now.program in
    c.block_at.ensures
    ∙ ap (λ (i : ℕ). found_block (blocks_view g.tables g.blocks.items) i (block_view g.tables g.main))
    (c.process_scope-scope.ensures ∙ ap (λ (d : ℕ). (process_at g.tables.scopes.now d).scope) c.declaration_of-declaration.ensures)
