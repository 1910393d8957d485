use Rattle.std.proofs.Common.{subst}
use Rattle.std.proofs.lemmas.Result.{IfOk-weaker}
use Rattle.pfc_events.specs.Choosing.{IsTaken}
use Rattle.pfc_events.proofs.Touching.{decided_by, decided_none}
use Rattle.pfc_events.proofs.accesses.select_writes.Goals as goal

pub returns-in-Some : goal.returns-in-Some
returns-in-Some c =
    IfOk-weaker c.offer_writes.result _ _
    (λ accesses written. decided_by c.args.state.now c.args.p c.args.select.now c.args.picker.now c.in-Some.open accesses.items
    (subst (λ o. IsTaken c.args.state.now c.args.p c.args.select.now c.args.picker.now o) c.in-Some.is c.in_ok-open.ensures) written)
    c.offer_writes.ensures

pub returns-in-None : goal.returns-in-None
returns-in-None c =
    decided_none c.args.state.now c.args.p c.args.select.now c.args.picker.now _
    (subst (λ o. IsTaken c.args.state.now c.args.p c.args.select.now c.args.picker.now o) c.in-None.is c.in_ok-open.ensures) c.new.ensures.items
