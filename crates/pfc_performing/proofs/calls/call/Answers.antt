use Rattle.std.proofs.Common.{ap}
use Rattle.pfc_pending.specs.declared.actions.Deed.TheVariants as deed
use Rattle.pfc_pending.specs.declared.pending.Callee.{Callee}
use Rattle.pfc_performing.proofs.Performed.{tried_at}
use Rattle.pfc_performing.proofs.calls.call.Goals as goal

pub returns-in-Procedure : goal.returns-in-Procedure
returns-in-Procedure c =
    tried_at c.args.source.now c.args.state.now c.call_procedure.new.state c.args.p (deed.Calls c.args.callee c.args.args) _ c.call_procedure.result
    (ap (λ (k : Callee). deed.Calls k c.args.args) c.in-Procedure.is) c.call_procedure.ensures

pub returns-in-Function : goal.returns-in-Function
returns-in-Function c =
    tried_at c.args.source.now c.args.state.now c.call_function.new.state c.args.p (deed.Calls c.args.callee c.args.args) _ c.call_function.result
    (ap (λ (k : Callee). deed.Calls k c.args.args) c.in-Function.is) c.call_function.ensures

pub returns-in-Module : goal.returns-in-Module
returns-in-Module c =
    tried_at c.args.source.now c.args.state.now c.call_module.new.state c.args.p (deed.Calls c.args.callee c.args.args) _ c.call_module.result
    (ap (λ (k : Callee). deed.Calls k c.args.args) c.in-Module.is) c.call_module.ensures

pub returns-in-Requeue : goal.returns-in-Requeue
returns-in-Requeue c =
    tried_at c.args.source.now c.args.state.now c.requeue.new.state c.args.p (deed.Calls c.args.callee c.args.args) _ c.requeue.result
    (ap (λ (k : Callee). deed.Calls k c.args.args) c.in-Requeue.is) c.requeue.ensures

pub returns-in-Process : goal.returns-in-Process
returns-in-Process c =
    tried_at c.args.source.now c.args.state.now c.create.new.state c.args.p (deed.Calls c.args.callee c.args.args) _ c.create.result
    (ap (λ (k : Callee). deed.Calls k c.args.args) c.in-Process.is) c.create.ensures

pub returns-in-Entry : goal.returns-in-Entry
returns-in-Entry c =
    tried_at c.args.source.now c.args.state.now c.call_entry.new.state c.args.p (deed.Calls c.args.callee c.args.args) _ c.call_entry.result
    (ap (λ (k : Callee). deed.Calls k c.args.args) c.in-Entry.is) c.call_entry.ensures
