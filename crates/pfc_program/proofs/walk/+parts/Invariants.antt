-- The parts still to come complete the blocks.
use Rattle.std.proofs.Common.{◌≡◌, ◌++◌, drop}
use Rattle.pfc_tree.specs.views.Parts.{parts_view}
use Rattle.pfc_semantics.specs.Programs.{parts_blocks}
use Rattle.pfc_program.specs.Views.{tables_view, blocks_view}
use Rattle.pfc_program.proofs.walk.+parts.Given as goal

abbrev pub invariant-parts-loop-p : goal.invariant-parts-loop-p
invariant-parts-loop-p l =
    blocks_view l.home.tables l.blocks.items
    ++ parts_blocks (tables_view l.home.tables) l.home.process l.home.scope l.before l.home.outer.now l.after (parts_view (drop l.p-index l.ps))
    ≡ blocks_view l.home.tables l.fn.blocks.items
    ++ parts_blocks (tables_view l.home.tables) l.home.process l.home.scope l.fn.count l.home.outer.now l.fn.next (parts_view l.ps)
