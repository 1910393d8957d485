use Rattle.std.proofs.Common.{refl}
use Rattle.pfc_activities.specs.declared.state.State.{State}
use Rattle.pfc_waiting.proofs.Performing.{waits_so}
use Rattle.pfc_waiting.proofs.semaphores.waits.Goals as goal

pub returns-clause-ok : goal.returns-clause-ok
returns-clause-ok c =
    let old : State = c.args.state.now in
    let mid : State = record old { world = c.wait_by.new.world; semaphores = c.wait_by.new.sems } in
    waits_so old mid c.go_on_when_ready.new.state c.args.p c.in-Some.s c.args.spot c.go_on_when_ready.result refl c.wait_by.ensures.acted refl
    c.in-Some.ensures.number c.wait_by.ensures.rule c.go_on_when_ready.ensures
