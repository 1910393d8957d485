-- The values that are left, taken by what stands there now, are all of them, taken by what stood there.
use Rattle.std.proofs.Common.{◌≡◌, vec_len}
use Rattle.pfc_semantics.specs.Rendezvous.{taken_from}
use Rattle.pfc_store.specs.Views.{values_view}
use Rattle.pfc_store.proofs.parts.take_among.Given as goal

abbrev pub decreases-loop-arg : goal.decreases-loop-arg
decreases-loop-arg l = vec_len l.args

abbrev pub invariant-loop-arg : goal.invariant-loop-arg
invariant-loop-arg l = taken_from l.first (values_view l.args.items) (values_view l.values.items) ≡ taken_from l.first
    (values_view l.fn.args.items) (values_view l.fn.values.items)
