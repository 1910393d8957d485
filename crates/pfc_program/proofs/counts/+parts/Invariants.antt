-- The parts still to come complete the count.
use Rattle.std.proofs.Common.{◌≡◌, ◌+◌, drop}
use Rattle.pfc_tree.specs.views.Parts.{parts_view}
use Rattle.pfc_types.specs.rules.Bodies.{parts_scopes}
use Rattle.pfc_program.proofs.counts.+parts.Given as goal

abbrev pub invariant-behind_parts-loop-p : goal.invariant-behind_parts-loop-p
invariant-behind_parts-loop-p l = l.after + parts_scopes (parts_view (drop l.p-index l.ps)) ≡ l.fn.next + parts_scopes (parts_view l.ps)
