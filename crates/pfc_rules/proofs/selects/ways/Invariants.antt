-- The alternatives still to come complete what is found.
use Rattle.std.proofs.Common.{◌≡◌, false, ◌||◌, drop}
use Rattle.pfc_tree.specs.views.Stmts.{alts_view}
use Rattle.pfc_types.specs.rules.Statements.{has_way, ways_rule}
use Rattle.pfc_phrases.specs.Found.{noted}
use Rattle.pfc_rules.proofs.selects.ways.Given as goal

abbrev pub invariant-loop-a : goal.invariant-loop-a
invariant-loop-a l =
    ((l.had || has_way (alts_view (drop l.a-index l.alts))) ≡ has_way (alts_view l.alts))
    × (noted l.best (ways_rule l.had (alts_view (drop l.a-index l.alts))) ≡ noted l.fn.best (ways_rule false (alts_view l.alts)))
