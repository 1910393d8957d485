use Rattle.std.proofs.Common.{drop}
use Rattle.pfc_stacks.specs.Stacks.{operands_of}
use Rattle.pfc_machines.proofs.Placing.{leave_is}
use Rattle.pfc_machines.proofs.moving.leave.Goals as goal

pub returns : goal.returns
returns c = leave_is c.args.stacks.now c.cut.new.self c.pass.new.stacks c.args.p
    (drop c.args.n (operands_of c.args.stacks.now c.args.p)) c.requires.process c.cut.ensures.cut c.pass.ensures
