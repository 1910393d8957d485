use Rattle.std.proofs.Common.{refl}
use Rattle.pfc_activities.specs.declared.state.State.{State}
use Rattle.pfc_guarding.proofs.Performing.{passes_so, requeues_so}
use Rattle.pfc_guarding.proofs.actions.passes.Goals as goal

pub returns-in-None-clause-ok : goal.returns-in-None-clause-ok
returns-in-None-clause-ok c =
    let old : State = c.args.state.now in
    let mid : State = record old { world = c.pass_by.new.world; resources = c.pass_by.new.res } in
    passes_so old mid c.go_on_when_ready.new.state c.args.p c.args.tried c.args.scan c.go_on_when_ready.result refl c.pass_by.ensures.acted
    c.in-None.is c.pass_by.ensures.rule c.go_on_when_ready.ensures

pub returns-in-Some-clause-ok : goal.returns-in-Some-clause-ok
returns-in-Some-clause-ok c =
    let old : State = c.args.state.now in
    let mid : State = record old { world = c.requeue_by.new.world; resources = c.requeue_by.new.res } in
    requeues_so old mid c.wait_barred.new.state c.args.p c.args.tried c.args.scan c.in-Some.bar c.wait_barred.result refl
    c.requeue_by.ensures.acted c.in-Some.is c.requeue_by.ensures.rule c.wait_barred.ensures
