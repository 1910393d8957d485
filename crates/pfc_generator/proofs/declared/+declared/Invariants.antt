-- The parts still to come complete the count.
use Rattle.std.proofs.Common.{◌≡◌, ◌+◌, drop, length}
use Rattle.pfc_tree.specs.views.Parts.{parts_view}
use Rattle.pfc_generator.specs.Pieces.{parts_bodies}
use Rattle.pfc_generator.proofs.declared.+declared.Given as goal

abbrev pub invariant-add_parts-loop-p : goal.invariant-add_parts-loop-p
invariant-add_parts-loop-p l = length l.names.items + parts_bodies (parts_view (drop l.p-index l.ps)) ≡ length l.fn.names.items + parts_bodies (parts_view l.ps)
