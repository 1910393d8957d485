-- The blocks still to come decide.
use Rattle.std.proofs.Common.{◌≡◌, drop}
use Rattle.pfc_semantics.specs.Programs.{found_block}
use Rattle.pfc_program.specs.Views.{block_view, blocks_view}
use Rattle.pfc_program.proofs.program.Program.block_at.Given as goal

abbrev pub invariant-loop-b : goal.invariant-loop-b
invariant-loop-b l =
    found_block (blocks_view l.self.tables (drop l.b-index l.self.blocks.items)) l.scope (block_view l.self.tables l.self.main)
    ≡ found_block (blocks_view l.self.tables l.self.blocks.items) l.scope (block_view l.self.tables l.self.main)
