-- The bodies still to come complete the pieces.
use Rattle.std.proofs.Common.{◌≡◌, ◌++◌, ◌-◌, map, take, drop, length}
use Rattle.pfc_translation.specs.Images.{a_body}
use Rattle.pfc_program.specs.Views.{blocks_view}
use Rattle.pfc_generator.specs.Views.{pieces_view}
use Rattle.pfc_generator.proofs.pieces.add_bodies.Given as goal

abbrev pub invariant-loop-k : goal.invariant-loop-k
invariant-loop-k l =
    let tables = l.program.tables in
    let blocks = blocks_view tables l.program.blocks.items in
    pieces_view tables l.all.items ++ map a_body (take (length l.names.items - l.k) (drop l.k blocks))
    ≡ pieces_view tables l.fn.all.items ++ map a_body (take (length l.names.items - l.from) (drop l.from blocks))
