use Rattle.std.proofs.Common.{ap, ◌∙◌, subst}
use Rattle.pfc_code.specs.Images.{plain_image}
use Rattle.pfc_machines.specs.declared.machine.Machine.{Machine}
use Rattle.pfc_machine_acts.specs.declared.acts.ActionEnd.{ActionEnd}
use Rattle.pfc_sessions.specs.Steps.{step, IsStep}
use Rattle.pfc_sessions.proofs.Stepping.{fault_rests}
use Rattle.pfc_sessions.proofs.Turning.{pick_ready, faulted}
use Rattle.pfc_sessions.proofs.session.Session.act_out.Goals as goal

pub act-requires-clause-ready : goal.act-requires-clause-ready
act-requires-clause-ready c =
    let (picking, m, pick) = c.requires.picked in pick_ready picking c.args.picker.now m c.args.self.now.machine c.args.p pick

pub settle-requires : goal.settle-requires
settle-requires c =
    let h = subst
    (λ (end : ActionEnd). IsStep (step (plain_image c.args.image.now) c.args.p c.args.picker.now c.args.self.now.machine) c.args.p c.act.new.self.machine
    c.act.new.picker c.args.out.now c.act.new.out end)
    c.in-Faulted.is c.in-Ok.ensures.step in
    ap (λ (x : Machine). x.world.acting) h.machine
    ∙ fault_rests (plain_image c.args.image.now) c.args.p c.args.picker.now c.args.self.now.machine
    (record { process = c.args.p; line = c.in-Faulted.line; fault = c.in-Faulted.fault }) h.tells

pub returns-in-Faulted : goal.returns-in-Faulted
returns-in-Faulted c = record {
  turn = λ limit left picking m some pick.
      faulted picking c.args.picker.now m c.args.self.now.machine c.args.p pick (plain_image c.args.image.now) c.act.new.self.machine c.act.new.picker
      c.args.out.now c.act.new.out limit left c.in-Faulted.line c.in-Faulted.fault c.settle.new.machine some
      (subst
      (λ (end : ActionEnd). IsStep (step (plain_image c.args.image.now) c.args.p c.args.picker.now c.args.self.now.machine) c.args.p c.act.new.self.machine
      c.act.new.picker c.args.out.now c.act.new.out end)
      c.in-Faulted.is c.in-Ok.ensures.step)
      c.settle.ensures;
}
