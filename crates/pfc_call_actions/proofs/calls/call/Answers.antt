use Rattle.std.proofs.Common.{ℕ, Err, sym, subst}
use Rattle.pfc_stacks.specs.declared.marks.Mark.TheVariants.{Plain}
use Rattle.pfc_stacks.specs.Stacks.{in_view}
use Rattle.pfc_machines.specs.declared.actions.ActionFault.{ActionFault}
use Rattle.pfc_machines.specs.declared.machine.Machine.{Machine}
use Rattle.pfc_call_actions.specs.Calls.{activated, calls, has_place_above, IsGranted}
use Rattle.pfc_call_actions.proofs.Refusing.{rested_first}
use Rattle.pfc_call_actions.proofs.calls.call.Goals as goal

pub returns-in-Err : goal.returns-in-Err
returns-in-Err c = λ b is.
    let m : Machine = c.args.machine.now in
    let p : ℕ = c.args.r.number in
    let j : ℕ = c.number-p.result in
    let there : Machine = record m { world = c.rest.new.self } in
    subst (λ (f : ActionFault). IsGranted (calls c.args.k b c.args.l p m) m (Err f) c.begin.new.machine) (sym c.fault_of.ensures)
    (rested_first (λ (i : ℕ). has_place_above b i m) p j c.number-p.ensures m (activated c.args.k b (in_view m.stacks p c.args.l) Plain p m)
    (activated c.args.k b (in_view m.stacks j c.args.l) Plain j there) c.rest.new.self c.in-Err.fault c.begin.new.machine c.rest.ensures
    (c.in-Err.ensures.begun b is))
