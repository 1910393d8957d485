use Rattle.std.proofs.Common.{◌∙◌, ◌<◌, drop, sym, subst, arith}
use Rattle.std.proofs.lemmas.List.{drop_all}
use Rattle.pfc_semantics.specs.Objects.{all_numberings}
use Rattle.pfc_store.specs.Views.{values_view}
use Rattle.pfc_store.specs.Numbered.{objects_view}
use Rattle.pfc_store.proofs.Counting.{names_next, names_done}
use Rattle.pfc_store.proofs.objects.add_names.Goals as goal

pub loop-k-preserved : goal.loop-k-preserved
loop-k-preserved c =
    names_next (all_numberings c.args.types.now) c.args.names.now c.loop-k.k c.meaning_at.result c.args.monitor (values_view c.loop-k.values.items)
    (values_view c.add_name.new.values.items)
    (objects_view c.loop-k.objects) (objects_view c.add_name.new.objects)
    (subst (λ n. c.loop-k.k < n) c.len-k-end.ensures c.loop-k-test.true) c.meaning_at.ensures c.in_ok-add_name.ensures
    ∙ c.loop-k.invariant

pub returns : goal.returns
returns c =
    sym c.loop-k.invariant
    ∙ names_done (all_numberings c.args.types.now) (drop c.loop-k.k c.args.names.now) c.args.monitor (values_view c.loop-k.values.items)
    (objects_view c.loop-k.objects) (drop_all c.loop-k.k c.args.names.now (omega arith))
