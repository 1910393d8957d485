-- What is made, with the pieces still to come, comes to all.
use Rattle.std.proofs.Common.{drop, length}
use Rattle.pfc_translation.specs.Images.{coded}
use Rattle.pfc_addresses.specs.Sites.{whole_view}
use Rattle.pfc_generator.specs.Making.{IsComplete}
use Rattle.pfc_generator.specs.Views.{pieces_view, so_far}
use Rattle.pfc_generator.proofs.making.put_pieces.Given as goal

abbrev pub invariant-loop-piece : goal.invariant-loop-piece
invariant-loop-piece l =
    let program = l.addresses.program.now in
    let g = whole_view program in
    let now = so_far program l.making in
    IsComplete g (coded g 0 0 (pieces_view program.tables l.pieces))
    (coded g (length now.scans) (length now.made.texts) (pieces_view program.tables (drop l.piece-index l.pieces))) now
