-- The parts still to come complete the count of the scopes, and what is found.
use Rattle.std.proofs.Common.{◌≡◌, ◌+◌, drop}
use Rattle.pfc_tree.specs.views.Parts.{parts_view}
use Rattle.pfc_types.specs.rules.Bodies.{parts_scopes, broken_parts}
use Rattle.pfc_phrases.specs.Found.{noted}
use Rattle.pfc_rules.specs.Homes.{finished_in, levels_around}
use Rattle.pfc_rules.proofs.bodies.+parts.Given as goal

abbrev pub invariant-parts-loop-p : goal.invariant-parts-loop-p
invariant-parts-loop-p l =
    (l.after + parts_scopes (parts_view (drop l.p-index l.ps)) ≡ l.fn.next + parts_scopes (parts_view l.ps))
    × (noted l.best (broken_parts (finished_in l.home) l.home.process l.home.scope l.before
    (levels_around l.home.outer) l.after (parts_view (drop l.p-index l.ps)))
    ≡ noted l.fn.best (broken_parts (finished_in l.home) l.home.process l.home.scope l.fn.count (levels_around l.home.outer) l.fn.next (parts_view l.ps)))
