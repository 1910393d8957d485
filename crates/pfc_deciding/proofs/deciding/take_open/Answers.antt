use Rattle.pfc_deciding.proofs.Calls.{accepts_ok}
use Rattle.pfc_deciding.proofs.Taking.{sends_ok, receives_ok}
use Rattle.pfc_deciding.proofs.deciding.take_open.Goals as goal

pub returns-in-Send-arm-clause-ok : goal.returns-in-Send-arm-clause-ok
returns-in-Send-arm-clause-ok c =
    sends_ok c.args.source.now c.args.state.now c.sends_to.new.state c.args.p c.args.open.now c.args.met c.behind_open-way.result c.sends_to.result _ _
    c.in-Send-arm.channel c.in-Send.is c.in-Send-arm.is c.behind_open-way.ensures c.sends_to.ensures.ok

pub returns-in-Receive-arm-clause-ok : goal.returns-in-Receive-arm-clause-ok
returns-in-Receive-arm-clause-ok c =
    receives_ok c.args.source.now c.args.state.now c.receives_from.new.state c.args.p c.args.open.now c.args.met c.behind_open-way.result
    c.receives_from.result _ _ c.in-Receive-arm.channel c.in-Receive.is c.in-Receive-arm.is c.behind_open-way.ensures c.receives_from.ensures.ok

pub returns-in-Accept-arm-clause-ok : goal.returns-in-Accept-arm-clause-ok
returns-in-Accept-arm-clause-ok c =
    accepts_ok c.args.source.now c.args.state.now c.accepts_by.new.state c.args.p c.args.open.now c.args.met c.behind_open-way.result c.accepts_by.result _
    c.in-Accept-arm.entry c.in-Accept.is c.in-Accept-arm.is c.behind_open-way.ensures c.accepts_by.ensures.ok
