use Rattle.std.proofs.Common.{ℕ, get_or, sym, subst}
use Rattle.pfc_code.specs.declared.instructions.Instr.{Instr}
use Rattle.pfc_code.specs.Images.{PlainImage, plain_image}
use Rattle.pfc_machines.specs.declared.machine.Machine.{Machine}
use Rattle.pfc_machines.specs.Actions.{IsTaken}
use Rattle.pfc_own_actions.specs.Creating.{creates}
use Rattle.pfc_call_actions.specs.Calls.{calls, calls_monitor, calls_resource}
use Rattle.pfc_call_actions.specs.Requeues.{requeues}
use Rattle.pfc_machine_acts.specs.Conditions.{CanActivate}
use Rattle.pfc_machine_acts.specs.Performing.{calls_by, may_want_memory, WantsMemoryIf}
use Rattle.pfc_machine_acts.proofs.Blocks.{granted_with, taken_with}
use Rattle.pfc_machine_acts.proofs.Wants.{may_want, wants_none}
use Rattle.pfc_machine_acts.proofs.activating.activate.Goals as goal

pub returns-in-CALL-clause-taken : goal.returns-in-CALL-clause-taken
returns-in-CALL-clause-taken c =
    let image : PlainImage = plain_image c.args.image.now in
    let m : Machine = c.args.machine.now in
    let p : ℕ = c.args.r.number in
    let can = subst (λ (i : Instr). CanActivate image i c.args.choice p m) c.in-CALL.is c.requires.can in
    subst (λ (i : Instr). IsTaken (calls_by image i c.args.choice p m) m c.call.result c.call.new.machine) (sym c.in-CALL.is)
    (granted_with image.blocks c.in-CALL.k (λ b. calls c.in-CALL.k b c.in-CALL.l p m) m c.call.new.machine c.call.result can.block c.call.ensures)

pub returns-in-MCALL-clause-taken : goal.returns-in-MCALL-clause-taken
returns-in-MCALL-clause-taken c =
    let image : PlainImage = plain_image c.args.image.now in
    let m : Machine = c.args.machine.now in
    let p : ℕ = c.args.r.number in
    let can = subst (λ (i : Instr). CanActivate image i c.args.choice p m) c.in-MCALL.is c.requires.can in
    subst (λ (i : Instr). IsTaken (calls_by image i c.args.choice p m) m c.call_monitor.result c.call_monitor.new.machine) (sym c.in-MCALL.is)
    (granted_with image.blocks c.in-MCALL.k (λ b. calls_monitor c.in-MCALL.m c.in-MCALL.k b p m) m c.call_monitor.new.machine
    c.call_monitor.result can.can.block c.call_monitor.ensures)

pub returns-in-RCALL-clause-taken : goal.returns-in-RCALL-clause-taken
returns-in-RCALL-clause-taken c =
    let image : PlainImage = plain_image c.args.image.now in
    let m : Machine = c.args.machine.now in
    let p : ℕ = c.args.r.number in
    let can = subst (λ (i : Instr). CanActivate image i c.args.choice p m) c.in-RCALL.is c.requires.can in
    subst (λ (i : Instr). IsTaken (calls_by image i c.args.choice p m) m c.call_resource.result c.call_resource.new.machine) (sym c.in-RCALL.is)
    (granted_with image.blocks c.in-RCALL.k (λ b. calls_resource c.in-RCALL.g c.in-RCALL.k b p m) m c.call_resource.new.machine
    c.call_resource.result can.can.block c.call_resource.ensures)

pub returns-in-REQ-clause-taken : goal.returns-in-REQ-clause-taken
returns-in-REQ-clause-taken c =
    let image : PlainImage = plain_image c.args.image.now in
    let m : Machine = c.args.machine.now in
    let p : ℕ = c.args.r.number in
    let can = subst (λ (i : Instr). CanActivate image i c.args.choice p m) c.in-REQ.is c.requires.can in
    subst (λ (i : Instr). IsTaken (calls_by image i c.args.choice p m) m c.requeue.result c.requeue.new.machine) (sym c.in-REQ.is)
    (granted_with image.blocks c.in-REQ.k (λ b. requeues (get_or image.scans c.in-REQ.g 0) c.in-REQ.k b p m) m c.requeue.new.machine
    c.requeue.result can.block c.requeue.ensures)

pub returns-in-NEW-clause-taken : goal.returns-in-NEW-clause-taken
returns-in-NEW-clause-taken c =
    let image : PlainImage = plain_image c.args.image.now in
    let m : Machine = c.args.machine.now in
    let p : ℕ = c.args.r.number in
    let can = subst (λ (i : Instr). CanActivate image i c.args.choice p m) c.in-NEW.is c.requires.can in
    subst (λ (i : Instr). IsTaken (calls_by image i c.args.choice p m) m c.create.result c.create.new.machine) (sym c.in-NEW.is)
    (taken_with image.blocks c.in-NEW.k (λ b. creates c.in-NEW.k b p m) m c.create.new.machine c.create.result can.block c.create.ensures)

pub returns-in-CALL-clause-memory : goal.returns-in-CALL-clause-memory
returns-in-CALL-clause-memory c =
    subst (λ (i : Instr). WantsMemoryIf (may_want_memory i) c.call.result) (sym c.in-CALL.is) (may_want c.call.result)

pub returns-in-MCALL-clause-memory : goal.returns-in-MCALL-clause-memory
returns-in-MCALL-clause-memory c =
    subst (λ (i : Instr). WantsMemoryIf (may_want_memory i) c.call_monitor.result) (sym c.in-MCALL.is) (may_want c.call_monitor.result)

pub returns-in-RCALL-clause-memory : goal.returns-in-RCALL-clause-memory
returns-in-RCALL-clause-memory c =
    subst (λ (i : Instr). WantsMemoryIf (may_want_memory i) c.call_resource.result) (sym c.in-RCALL.is) (may_want c.call_resource.result)

pub returns-in-REQ-clause-memory : goal.returns-in-REQ-clause-memory
returns-in-REQ-clause-memory c =
    subst (λ (i : Instr). WantsMemoryIf (may_want_memory i) c.requeue.result) (sym c.in-REQ.is) (may_want c.requeue.result)

pub returns-in-NEW-clause-memory : goal.returns-in-NEW-clause-memory
returns-in-NEW-clause-memory c =
    subst (λ (i : Instr). WantsMemoryIf (may_want_memory i) c.create.result) (sym c.in-NEW.is) (may_want c.create.result)

pub returns-in_default-clause-memory : goal.returns-in_default-clause-memory
returns-in_default-clause-memory c = wants_none (may_want_memory c.args.i) c.hold.result c.hold.ensures.memory
