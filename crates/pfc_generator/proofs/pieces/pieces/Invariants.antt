-- The parts still to come complete the pieces.
use Rattle.std.proofs.Common.{◌≡◌, ◌++◌, drop, length}
use Rattle.pfc_tree.specs.views.Parts.{parts_view}
use Rattle.pfc_program.specs.Views.{blocks_view}
use Rattle.pfc_generator.specs.Pieces.{pieces_of}
use Rattle.pfc_generator.specs.Views.{pieces_view}
use Rattle.pfc_generator.proofs.pieces.pieces.Given as goal

abbrev pub invariant-loop-p : goal.invariant-loop-p
invariant-loop-p l =
    let tables = l.program.tables in
    let blocks = blocks_view tables l.program.blocks.items in
    let inits = blocks_view tables l.program.modules.items in
    pieces_view tables l.all.items
    ++ pieces_of (drop (length l.names.items) blocks) (drop l.initials inits) (parts_view (drop l.p-index l.tree.parts.items))
    ≡ pieces_of blocks inits (parts_view l.tree.parts.items)
