use Rattle.std.proofs.lemmas.Result.{IfOk-weaker}
use Rattle.pfc_events.proofs.Touching.{touched_so}
use Rattle.pfc_events.proofs.accesses.touch_for.Goals as goal

pub returns : goal.returns
returns c =
    IfOk-weaker c.touch.result _ _
    (λ accesses held. touched_so c.args.state.now c.args.p c.index.result.now c.args.spot.now c.args.write accesses.items c.index.ensures held)
    c.touch.ensures
