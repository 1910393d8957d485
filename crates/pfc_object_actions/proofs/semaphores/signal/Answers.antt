use Rattle.std.proofs.Common.{rules, ◌∙◌, true}
use Rattle.pfc_world.specs.Semaphores.{counted}
use Rattle.pfc_object_actions.proofs.Acting.{signals_so, signalled_is}
use Rattle.pfc_object_actions.proofs.semaphores.signal.Goals as goal

pub returns-in-Ok : goal.returns-in-Ok
returns-in-Ok c =
    signalled_is c.args.r.number c.args.machine.now c.number-p.result c.object_at-s.result (counted c.sem_signal.new.world c.sem_signal.new.sems)
    c.leave.new.stacks c.rest.new.self c.number-p.ensures (search rules) c.in-Ok.ensures.table.0 c.in-Ok.ensures.table.2 c.leave.ensures c.rest.ensures

pub returns-in-Err : goal.returns-in-Err
returns-in-Err c =
    (signals_so c.args.r.number c.args.machine.now c.object_at-s.result true (search rules) c.in-Err.ensures.table.0 ∙ search rules, search rules)
