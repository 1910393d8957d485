use Rattle.std.proofs.Common.{◌≡◌, sym, subst}
use Rattle.pfc_world.specs.Semaphores.{Counted, counted, waited}
use Rattle.pfc_waiting.specs.Waiting.{HasActed}
use Rattle.pfc_waiting.proofs.Turns.{waited_once, waited_acts}
use Rattle.pfc_waiting.proofs.rules.wait_by.Goals as goal

rule : (c : goal.After-end_turn)
    → counted c.end_turn.new.world c.sem_wait-after.new.sems ≡ waited (counted c.args.world.now c.args.sems.now) c.args.p c.args.s
rule c =
    waited_once c.args.world.now c.begin-r.new.self c.sem_wait-after.new.world c.end_turn.new.world c.args.sems.now c.sem_wait-after.new.sems
    c.args.p c.begin-r.result.number c.args.s c.requires.alone c.begin-r.ensures.number c.begin-r.ensures.world c.sem_wait-after.ensures.table
    c.end_turn.ensures

pub returns-clause-rule : goal.returns-clause-rule
returns-clause-rule c = rule c

pub returns-clause-acted : goal.returns-clause-acted
returns-clause-acted c =
    subst (λ (x : Counted). HasActed c.args.world.now x.table) (sym (rule c)) (waited_acts c.args.world.now c.args.sems.now c.args.p c.args.s c.requires.alone)
