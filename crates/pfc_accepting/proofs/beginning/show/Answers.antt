use Rattle.std.proofs.Common.{set, refl, ap}
use Rattle.pfc_program.specs.declared.tables.Tables.{Tables}
use Rattle.pfc_semantics.specs.Configurations.{Hand}
use Rattle.pfc_pending.specs.declared.at_hand.At.TheVariants as at
use Rattle.pfc_activities.specs.declared.activities.Activity.{Activity}
use Rattle.pfc_activities.specs.Shown.{Shown, activity_shown}
use Rattle.pfc_activities.specs.Views.{at_work}
use Rattle.pfc_accepting.proofs.Taking.{shown_so, hand_still}
use Rattle.pfc_accepting.proofs.beginning.show.Goals as goal

pub returns : goal.returns
returns c =
    let found : Activity = c.index_mut-activity.result.now in
    let z : Activity = record (at_work found at.Rest) { hand = c.args.hand } in
    let kept = c.end_action.ensures.kept in
    shown_so c.args.state.now c.end_action.new.self c.args.p c.args.hand found z (set c.args.state.now.activities.items c.args.p z) c.line_of-line.result
    c.index_mut-activity.ensures.value
    (λ (t : Tables). ap (λ (h : Hand). (let r : Shown = record (activity_shown t (at_work found at.Rest)) { hand = h } in r))
    (hand_still t found.doing at.Rest c.args.hand))
    refl c.line_of-line.ensures c.end_action.ensures.activity
    (record {
      semaphores = kept.semaphores;
      monitors = kept.monitors;
      resources = kept.resources;
      store = kept.store;
      input = kept.input;
      draws = kept.draws;
    })
    c.end_action.ensures.world c.end_action.ensures.fresh
