use Rattle.std.proofs.Common.{ℕ, true, Err, get_or, sym, subst}
use Rattle.pfc_stacks.specs.Activations.{has_place}
use Rattle.pfc_stacks.specs.Stacks.{stack_of}
use Rattle.pfc_machines.specs.declared.actions.ActionFault.{ActionFault}
use Rattle.pfc_machines.specs.declared.machine.Machine.{Machine}
use Rattle.pfc_call_actions.specs.Calls.{IsGranted}
use Rattle.pfc_call_actions.specs.Requeues.{in_place, requeues}
use Rattle.pfc_call_actions.specs.Returns.{scans_from}
use Rattle.pfc_call_actions.proofs.Refusing.{rested_first}
use Rattle.pfc_call_actions.proofs.requeues.requeue.Goals as goal

pub returns-in-Err : goal.returns-in-Err
returns-in-Err c = λ b is.
    let m : Machine = c.args.machine.now in
    let p : ℕ = c.args.r.number in
    let j : ℕ = c.number-p.result in
    let scan : ℕ = get_or c.args.image.now.scans.items c.args.g 0 in
    let there : Machine = record m { world = c.rest.new.self } in
    subst (λ (f : ActionFault). IsGranted (requeues scan c.args.k b p m) m (Err f) c.replace.new.machine) (sym c.fault_of.ensures)
    (rested_first (λ (i : ℕ). has_place i (stack_of m.stacks i).base b) p j c.number-p.ensures m (scans_from scan true p (in_place c.args.k b p m))
    (in_place c.args.k b j there) c.rest.new.self c.in-Err.fault c.replace.new.machine c.rest.ensures (c.in-Err.ensures.replaced b is))
