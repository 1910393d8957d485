use Rattle.std.proofs.Common.{◌≡◌}
use Rattle.pfc_hb.specs.Conflicts.{races_below}
use Rattle.pfc_hb.proofs.pairs.races.Given as goal

abbrev pub invariant-loop-first : goal.invariant-loop-first
invariant-loop-first l = l.races.items ≡ races_below l.events l.first
