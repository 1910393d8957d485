use Rattle.std.proofs.lemmas.Result.{IfOk-weaker}
use Rattle.pfc_events.proofs.Touching.{reads_so, writes_so, inputs_so, calls_so, meets_so, decides_so}
use Rattle.pfc_events.proofs.accesses.accesses_of.Goals as goal

pub returns-in-Reads : goal.returns-in-Reads
returns-in-Reads c =
    IfOk-weaker c.touch_for.result _ _
    (λ accesses touched. reads_so c.args.state.now c.args.p c.args.deed.now c.args.picker.now c.in-Reads.spot accesses.items c.in-Reads.is touched)
    c.touch_for.ensures

pub returns-in-Writes : goal.returns-in-Writes
returns-in-Writes c =
    IfOk-weaker c.touch_for-in-Writes.result _ _
    (λ accesses told. writes_so c.args.state.now c.args.p c.args.deed.now c.args.picker.now c.in-Writes.spot
    c.in-Writes.field-1 accesses.items c.in-Writes.is told)
    c.touch_for-in-Writes.ensures

pub returns-in-Inputs : goal.returns-in-Inputs
returns-in-Inputs c =
    IfOk-weaker c.touch_for-in-Inputs.result _ _
    (λ accesses told. inputs_so c.args.state.now c.args.p c.args.deed.now c.args.picker.now c.in-Inputs.field-0
    c.in-Inputs.spot accesses.items c.in-Inputs.is told)
    c.touch_for-in-Inputs.ensures

pub returns-in-Calls : goal.returns-in-Calls
returns-in-Calls c =
    IfOk-weaker c.callee_writes.result _ _
    (λ accesses told. calls_so c.args.state.now c.args.p c.args.deed.now c.args.picker.now c.in-Calls.callee c.in-Calls.args c.deref.result.now accesses.items
    c.in-Calls.is c.deref.ensures.value told)
    c.callee_writes.ensures

pub returns-in-Meets : goal.returns-in-Meets
returns-in-Meets c =
    IfOk-weaker c.offer_writes.result _ _
    (λ accesses told. meets_so c.args.state.now c.args.p c.args.deed.now c.args.picker.now c.in-Meets.offer accesses.items c.in-Meets.is told)
    c.offer_writes.ensures

pub returns-in-Decides : goal.returns-in-Decides
returns-in-Decides c =
    IfOk-weaker c.select_writes.result _ _
    (λ accesses told. decides_so c.args.state.now c.args.p c.args.deed.now c.args.picker.now c.in-Decides.select accesses.items c.in-Decides.is told)
    c.select_writes.ensures
