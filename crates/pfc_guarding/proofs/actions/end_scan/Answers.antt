use Rattle.std.proofs.Common.{refl}
use Rattle.pfc_activities.specs.declared.state.State.{State}
use Rattle.pfc_guarding.proofs.Performing.{gives_up_so}
use Rattle.pfc_guarding.proofs.actions.end_scan.Goals as goal

pub returns-clause-ok : goal.returns-clause-ok
returns-clause-ok c =
    let old : State = c.args.state.now in
    let mid : State = record old { world = c.give_up_by.new.world; resources = c.give_up_by.new.res } in
    gives_up_so old mid c.go_on_when_ready.new.state c.args.p c.args.r c.go_on_when_ready.result refl c.give_up_by.ensures.acted
    c.give_up_by.ensures.rule c.go_on_when_ready.ensures
