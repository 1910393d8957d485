use Rattle.std.proofs.Common.{ap, arith}
use Rattle.pfc_stacks.specs.Stacks.{Stack}
use Rattle.pfc_machines_tests.proofs.Children.{first_is, child_inside, child_is}
use Rattle.pfc_machines_tests.proofs.stage.begin_child.Goals as goal

pub fill-requires-clause-process : goal.fill-requires-clause-process
fill-requires-clause-process c =
    let is = first_is c.args.image.now.blocks.items c.index-block.result.now (omega arith) c.index-block.ensures in
    child_inside c.index-block.result.now c.args.p c.args.stacks.now c.create.new.self (omega (arith, c.processes.ensures.count))
    (c.in-Ok.ensures c.index-block.result.now is).1

pub fill-requires-clause-held : goal.fill-requires-clause-held
fill-requires-clause-held c =
    let is = first_is c.args.image.now.blocks.items c.index-block.result.now (omega arith) c.index-block.ensures in
    ap (λ (s : Stack). s.operands)
    (child_is c.index-block.result.now c.args.p c.args.stacks.now c.create.new.self (omega (arith, c.processes.ensures.count))
    (c.in-Ok.ensures c.index-block.result.now is).1)

pub fill-requires-clause-room : goal.fill-requires-clause-room
fill-requires-clause-room c =
    let is = first_is c.args.image.now.blocks.items c.index-block.result.now (omega arith) c.index-block.ensures in
    let room = ap (λ (s : Stack). s.room)
    (child_is c.index-block.result.now c.args.p c.args.stacks.now c.create.new.self (omega (arith, c.processes.ensures.count))
    (c.in-Ok.ensures c.index-block.result.now is).1) in
    omega (arith, room)
