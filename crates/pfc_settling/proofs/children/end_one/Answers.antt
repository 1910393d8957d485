use Rattle.std.proofs.Common.{refl}
use Rattle.pfc_settling.proofs.Ending.{ends_one}
use Rattle.pfc_settling.proofs.children.end_one.Goals as goal

pub returns : goal.returns
returns c =
    ends_one c.args.state.now _ c.args.p c.index_mut-activity.result.now c.end_activity.new.activity c.requires c.index_mut-activity.ensures.value
    c.end_activity.ensures.shown c.end_activity.ensures.line c.end_activity.ensures.store refl refl
