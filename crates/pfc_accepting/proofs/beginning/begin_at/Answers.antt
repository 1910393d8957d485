use Rattle.std.proofs.Common.{refl, ap, ◌∙◌}
use Rattle.pfc_store.specs.Views.{store_view, values_view}
use Rattle.pfc_activities.specs.declared.activities.Activity.{Activity}
use Rattle.pfc_accepting.specs.Meetings.{met}
use Rattle.pfc_accepting.proofs.Taking.{begun_store}
use Rattle.pfc_accepting.proofs.beginning.begin_at.Goals as goal

pub returns : goal.returns
returns c =
    record {
      now = c.begin.new.activity;
      items = refl;
      shows = λ t b there. c.begin.ensures t ∙
          ap (λ (x : Activity). met t x c.args.meeting c.args.caller) (c.index_mut.ensures.value ∙ there.is c.index_mut.result.now);
      store = λ b there.
          begun_store (store_view c.args.state.now.store)
          (store_view c.take_parameters.new.self) c.index.result.now b c.args.meeting.scope c.frame_of-frame.result
          (values_view c.args.args.items) c.take_parameters.ensures c.frame_of-frame.ensures (c.index.ensures ∙ there.is c.index.result.now);
      rest = refl;
    }
