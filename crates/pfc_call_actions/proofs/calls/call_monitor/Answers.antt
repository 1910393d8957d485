use Rattle.std.proofs.Common.{ℕ, Err, sym, subst}
use Rattle.pfc_stacks.specs.declared.marks.Mark.TheVariants.{Monitor}
use Rattle.pfc_stacks.specs.Activations.{main_link}
use Rattle.pfc_world.specs.Monitors.{entered as monitor_entered}
use Rattle.pfc_object_actions.specs.Conditions.{monitors_held, with_monitors}
use Rattle.pfc_machines.specs.declared.actions.ActionFault.{ActionFault}
use Rattle.pfc_machines.specs.declared.machine.Machine.{Machine}
use Rattle.pfc_call_actions.specs.Calls.{activated, calls_monitor, has_place_above, IsGranted}
use Rattle.pfc_call_actions.proofs.Refusing.{rested_last}
use Rattle.pfc_call_actions.proofs.calls.call_monitor.Goals as goal

pub returns-in-Err : goal.returns-in-Err
returns-in-Err c = λ b is.
    let m : Machine = c.args.machine.now in
    let p : ℕ = c.args.r.number in
    let j : ℕ = c.number-p.result in
    let mid : Machine = c.begin.new.machine in
    let inside : Machine = activated c.args.k b main_link (Monitor c.args.m) p m in
    subst (λ (f : ActionFault). IsGranted (calls_monitor c.args.m c.args.k b p m) m (Err f) (record mid { world = c.rest.new.self })) (sym c.fault_of.ensures)
    (rested_last (λ (i : ℕ). has_place_above b i m) p j c.number-p.ensures m (with_monitors inside (monitor_entered (monitors_held inside) p c.args.m))
    (activated c.args.k b main_link (Monitor c.args.m) j m) c.rest.new.self c.in-Err.fault mid (c.in-Err.ensures.begun b is) c.rest.ensures)
