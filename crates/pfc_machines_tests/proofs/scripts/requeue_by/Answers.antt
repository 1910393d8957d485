use Rattle.std.proofs.Common.{rules, ℕ, get_or}
use Rattle.pfc_machines.specs.declared.machine.Machine.{Machine}
use Rattle.pfc_call_actions.specs.Calls.{CanCall}
use Rattle.pfc_call_actions.specs.Requeues.{requeues}
use Rattle.pfc_machines_tests.proofs.Granted.{block_there, granted_rests, requeues_rest}
use Rattle.pfc_machines_tests.proofs.scripts.requeue_by.Goals as goal

pub returns : goal.returns
returns c =
    let m : Machine = c.args.machine.now in
    let p : ℕ = c.args.r.number in
    let can : CanCall c.args.image.now.blocks.items c.args.k p m = search rules in
    let there = block_there c.args.image.now.blocks.items c.args.k can.block in
    let scan : ℕ = get_or c.args.image.now.scans.items 0 0 in
    granted_rests (requeues scan c.args.k there.0 p m) m c.requeue.new.machine c.requeue.result
    (requeues_rest c.args.k there.0 p m scan) (c.requeue.ensures there.0 there.1)
