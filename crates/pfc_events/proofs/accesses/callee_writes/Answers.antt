use Rattle.std.proofs.lemmas.Result.{IfOk-weaker}
use Rattle.pfc_events.proofs.Touching.{entry_called}
use Rattle.pfc_events.proofs.accesses.callee_writes.Goals as goal

pub returns-in-Entry : goal.returns-in-Entry
returns-in-Entry c =
    IfOk-weaker c.call_writes.result _ _
    (λ accesses called.
    entry_called c.args.state.now c.args.p c.args.callee.now c.in-Entry.spot c.in-Entry.entry c.args.args.now accesses.items c.in-Entry.is called)
    c.call_writes.ensures
