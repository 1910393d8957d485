use Rattle.std.proofs.Common.{refl}
use Rattle.pfc_activities.specs.declared.state.State.{State}
use Rattle.pfc_waiting.proofs.Performing.{joins_so}
use Rattle.pfc_waiting.proofs.time.joins.Goals as goal

pub returns : goal.returns
returns c =
    let old : State = c.args.state.now in
    let mid : State = record old { world = c.join_by.new.world } in
    joins_so old mid c.go_on_when_ready.new.state c.args.p c.go_on_when_ready.result refl c.join_by.ensures.acted refl refl c.join_by.ensures.rule
    c.go_on_when_ready.ensures
