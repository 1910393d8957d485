use Rattle.std.proofs.Common.{◌∙◌, ◌<◌, ◌+◌, ◌∷◌, List, length, drop, sym, ap, subst, arith}
use Rattle.std.proofs.lemmas.List.{drop_more}
use Rattle.pfc_translation.specs.Images.{coded}
use Rattle.pfc_addresses.specs.Sites.{whole_view}
use Rattle.pfc_addresses.specs.declared.addresses.Addresses.{Addresses}
use Rattle.pfc_generator.specs.Making.{SoFar, IsComplete, IsPut}
use Rattle.pfc_generator.specs.Views.{piece_view, pieces_view, so_far}
use Rattle.pfc_generator.specs.declared.pieces.Piece.{Piece}
use Rattle.pfc_generator.proofs.NextPieces.{none_complete, piece_next}
use Rattle.pfc_generator.proofs.making.put_pieces.Goals as goal

pub loop-piece-init : goal.loop-piece-init
loop-piece-init c =
    let program = c.args.addresses.now.program.now in
    let g = whole_view program in
    let ps = pieces_view program.tables c.args.pieces.now in
    subst (λ (x : SoFar). IsComplete g (coded g 0 0 ps) (coded g (length x.scans) (length x.made.texts) ps) x) (sym (c.new-making.ensures program))
    (none_complete g (coded g 0 0 ps))

pub loop-piece-preserved : goal.loop-piece-preserved
loop-piece-preserved c =
    let program = c.args.addresses.now.program.now in
    let g = whole_view program in
    let all = c.args.pieces.now in
    let i = c.loop-piece.piece-index in
    let x = so_far program c.loop-piece.making in
    let inside : i < length all = omega arith in
    let put : IsPut g (piece_view program.tables c.piece-item.result) x (so_far program c.piece.new.self) =
    subst (λ (a : Addresses). IsPut (whole_view a.program.now) (piece_view a.program.now.tables c.piece-item.result)
    (so_far a.program.now c.loop-piece.making) (so_far a.program.now c.piece.new.self)) c.in_ok-main.ensures.program c.in_ok-piece.ensures in
    let split = drop_more all i c.piece-item.result inside ∙ ap (λ (p : Piece). p ∷ drop (i + 1) all) (sym c.piece-item.is) in
    piece_next g (coded g 0 0 (pieces_view program.tables all)) (pieces_view program.tables (drop (i + 1) all)) x (so_far program c.piece.new.self)
    (piece_view program.tables c.piece-item.result) put
    (subst (λ (ps : List Piece). IsComplete g (coded g 0 0 (pieces_view program.tables all))
    (coded g (length x.scans) (length x.made.texts) (pieces_view program.tables ps)) x) split c.loop-piece.invariant)
