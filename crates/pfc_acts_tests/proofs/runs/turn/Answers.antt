use Rattle.pfc_code.specs.Images.{plain_image}
use Rattle.pfc_machines.specs.declared.machine.Machine.{Machine}
use Rattle.pfc_acts_tests.proofs.Turns.{begins, may_act_so, turned, first_of, second_of}
use Rattle.pfc_acts_tests.proofs.runs.turn.Goals as goal

pub act-requires : goal.act-requires
act-requires c =
    let m : Machine = c.args.machine.now in
    let start : Machine = record c.settle.new.machine { world = c.begin-r.new.self } in
    may_act_so (plain_image c.args.image.now) c.args.picker.now c.args.p c.begin-r.result.number m start c.begin-r.ensures.number
    (begins c.args.p m c.settle.new.machine c.begin-r.new.self c.settle.ensures c.begin-r.ensures.world) c.requires

pub returns-clause-machine : goal.returns-clause-machine
returns-clause-machine c =
    let m : Machine = c.args.machine.now in
    let start : Machine = record c.settle.new.machine { world = c.begin-r.new.self } in
    first_of _ _ c.act.result
    (turned (plain_image c.args.image.now) c.args.picker.now c.act.new.picker c.args.p c.begin-r.result.number m start
    c.act.new.machine c.args.out.now c.act.new.out
    c.act.result c.begin-r.ensures.number
    (begins c.args.p m c.settle.new.machine c.begin-r.new.self c.settle.ensures c.begin-r.ensures.world) c.requires c.act.ensures)

pub returns-clause-picker : goal.returns-clause-picker
returns-clause-picker c =
    let m : Machine = c.args.machine.now in
    let start : Machine = record c.settle.new.machine { world = c.begin-r.new.self } in
    second_of _ _ c.act.result
    (turned (plain_image c.args.image.now) c.args.picker.now c.act.new.picker c.args.p c.begin-r.result.number m start
    c.act.new.machine c.args.out.now c.act.new.out
    c.act.result c.begin-r.ensures.number
    (begins c.args.p m c.settle.new.machine c.begin-r.new.self c.settle.ensures c.begin-r.ensures.world) c.requires c.act.ensures)
