-- The refusals still to come complete what is found.
use Rattle.std.proofs.Common.{◌≡◌, drop}
use Rattle.pfc_types.specs.Faults.{all_of}
use Rattle.pfc_phrases.specs.Found.{noted}
use Rattle.pfc_rules.proofs.first.add_all.Given as goal

abbrev pub invariant-loop-f : goal.invariant-loop-f
invariant-loop-f l = noted l.best (all_of (drop l.f-index l.refusals)) ≡ noted l.fn.best (all_of l.refusals)
