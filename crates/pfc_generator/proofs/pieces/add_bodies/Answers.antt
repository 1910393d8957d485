use Rattle.std.proofs.Common.{◌∙◌, ◌<◌, ◌+◌, ◌-◌, ◌++◌, List, length, map, take, drop, refl, ap, arith}
use Rattle.pfc_translation.specs.Images.{a_body}
use Rattle.pfc_program.specs.Views.{blocks_view}
use Rattle.pfc_generator.specs.Views.{pieces_view}
use Rattle.pfc_generator.specs.declared.pieces.Piece.{Piece}
use Rattle.pfc_generator.specs.declared.pieces.Piece.TheVariants.{Body}
use Rattle.pfc_generator.proofs.BlockPieces.{bodies_next}
use Rattle.pfc_generator.proofs.pieces.add_bodies.Goals as goal

pub loop-k-preserved : goal.loop-k-preserved
loop-k-preserved c =
    let tables = c.args.program.now.tables in
    let blocks = c.args.program.now.blocks.items in
    let n = length c.args.names.now.items in
    let k = c.loop-k.k in
    let below : k < n = omega (arith, c.loop-k-test.true, c.min-k-end.ensures, c.len.ensures) in
    let within : k < length blocks = omega (arith, c.loop-k-test.true, c.min-k-end.ensures, c.len-2.ensures) in
    ap (λ (l : List Piece). pieces_view tables l ++ map a_body (take (n - (k + 1)) (drop (k + 1) (blocks_view tables blocks)))) c.in_ok-push.ensures.items
    ∙ bodies_next tables blocks k c.index.result.now within c.index.ensures c.loop-k.all.items (Body c.index.result c.index-in-loop-k.result.now) n below refl
    ∙ c.loop-k.invariant
