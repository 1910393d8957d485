use Rattle.std.proofs.Common.{rules, ℕ}
use Rattle.pfc_machines.specs.declared.machine.Machine.{Machine}
use Rattle.pfc_call_actions.specs.Calls.{CanCall, calls_monitor}
use Rattle.pfc_machines_tests.proofs.Granted.{block_there, granted_rests, calls_monitor_rest}
use Rattle.pfc_machines_tests.proofs.scripts.enter_by.Goals as goal

pub returns : goal.returns
returns c =
    let m : Machine = c.args.machine.now in
    let p : ℕ = c.args.r.number in
    let can : CanCall c.args.image.now.blocks.items c.args.k p m = search rules in
    let there = block_there c.args.image.now.blocks.items c.args.k can.block in
    granted_rests (calls_monitor 0 c.args.k there.0 p m) m c.call_monitor.new.machine c.call_monitor.result
    (calls_monitor_rest c.args.k there.0 p m 0) (c.call_monitor.ensures there.0 there.1)
