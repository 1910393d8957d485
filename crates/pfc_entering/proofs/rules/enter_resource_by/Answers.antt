use Rattle.std.proofs.Common.{◌≡◌, sym, subst}
use Rattle.pfc_world.specs.Holders.{Held, held_in}
use Rattle.pfc_world.specs.Resources.{resource_entered}
use Rattle.pfc_waiting.specs.Waiting.{HasActed}
use Rattle.pfc_entering.proofs.Turns.{resource_entered_once, resource_entered_acts}
use Rattle.pfc_entering.proofs.rules.enter_resource_by.Goals as goal

rule : (c : goal.After-end_turn)
    → held_in c.end_turn.new.world c.enter-after.new.res ≡ resource_entered (held_in c.args.world.now c.args.res.now) c.args.p c.args.r
rule c =
    resource_entered_once c.args.world.now c.begin-running.new.self c.enter-after.new.world c.end_turn.new.world c.args.res.now c.enter-after.new.res
    c.args.p c.begin-running.result.number c.args.r c.requires.alone c.begin-running.ensures.number c.begin-running.ensures.world
    c.enter-after.ensures.table c.end_turn.ensures

pub returns-clause-rule : goal.returns-clause-rule
returns-clause-rule c = rule c

pub returns-clause-acted : goal.returns-clause-acted
returns-clause-acted c =
    subst (λ (h : Held). HasActed c.args.world.now h.table) (sym (rule c))
    (resource_entered_acts c.args.world.now c.args.res.now c.args.p c.args.r c.requires.alone)
