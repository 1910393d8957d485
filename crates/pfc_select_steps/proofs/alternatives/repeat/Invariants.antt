-- The values so far.
use Rattle.std.proofs.Common.{◌≡◌, ◌++◌, map}
use Rattle.pfc_semantics.specs.Alternatives.{replicas_from}
use Rattle.pfc_program.specs.Views.{spot_view}
use Rattle.pfc_pending.specs.Selects.{alternative_view}
use Rattle.pfc_select_steps.specs.Gone.{alternatives_view, with_replica}
use Rattle.pfc_select_steps.proofs.alternatives.repeat.Given as goal

abbrev pub invariant-loop-k : goal.invariant-loop-k
invariant-loop-k l =
    alternatives_view l.all.items
    ≡ alternatives_view l.fn.all.items ++ map (with_replica (alternative_view l.one)) (replicas_from (spot_view l.at).spot l.line l.low l.k)
