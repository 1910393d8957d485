-- The blocks so far.
use Rattle.std.proofs.Common.{◌≡◌, take}
use Rattle.pfc_addresses.specs.Sites.{whole_view}
use Rattle.pfc_generator.specs.Whole.{blocks_in, placings_view}
use Rattle.pfc_generator.proofs.program.placed_blocks.Given as goal

abbrev pub invariant-loop-p : goal.invariant-loop-p
invariant-loop-p l =
    l.all.items ≡ blocks_in (whole_view l.called.program.now) l.code (placings_view l.called.program.now.tables (take l.p-index l.placed))
