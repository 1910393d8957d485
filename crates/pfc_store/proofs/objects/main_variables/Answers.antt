use Rattle.std.proofs.Common.{◌∙◌, ◌<◌, subst}
use Rattle.pfc_semantics.specs.Objects.{all_numberings}
use Rattle.pfc_store.specs.Views.{values_view}
use Rattle.pfc_store.specs.Numbered.{objects_view}
use Rattle.pfc_store.proofs.Counting.{main_next}
use Rattle.pfc_store.proofs.objects.main_variables.Goals as goal

pub loop-k-preserved : goal.loop-k-preserved
loop-k-preserved c =
    main_next c.args.scopes.now (all_numberings c.args.types.now) c.at-names.result.now c.loop-k.k c.meaning_at.result (values_view c.loop-k.values.items)
    (values_view c.add_of_main.new.values.items)
    (objects_view c.loop-k.objects) (objects_view c.add_of_main.new.objects)
    (subst (λ n. c.loop-k.k < n) c.len-k-end.ensures c.loop-k-test.true) c.meaning_at.ensures c.in_ok-add_of_main.ensures
    ∙ c.loop-k.invariant
