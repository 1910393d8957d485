-- The values so far are the arguments that were gone through, as they are passed.
use Rattle.std.proofs.Common.{◌≡◌, take, map}
use Rattle.pfc_pending.specs.Waiting.{given_view}
use Rattle.pfc_store.specs.Views.{values_view, store_view}
use Rattle.pfc_activating.specs.Passing.{passed_in}
use Rattle.pfc_activating.proofs.arguments.passed.Given as goal

abbrev pub invariant-loop-arg : goal.invariant-loop-arg
invariant-loop-arg l = values_view l.values.items ≡ map (passed_in (store_view l.store) l.display) (given_view (take l.arg-index l.args))
