use Rattle.std.proofs.Common.{◌≡◌, sym, subst}
use Rattle.pfc_world.specs.Holders.{Held, held_in}
use Rattle.pfc_world.specs.Monitors.{entered}
use Rattle.pfc_waiting.specs.Waiting.{HasActed}
use Rattle.pfc_waiting.proofs.Turns.{entered_once, entered_acts}
use Rattle.pfc_waiting.proofs.rules.enter_by.Goals as goal

rule : (c : goal.After-end_turn)
    → held_in c.end_turn.new.world c.enter-after.new.mons.holders ≡ entered (held_in c.args.world.now c.args.mons.now.holders) c.args.p c.args.m
rule c =
    entered_once c.args.world.now c.begin-r.new.self c.enter-after.new.world c.end_turn.new.world c.args.mons.now.holders c.enter-after.new.mons.holders
    c.args.p c.begin-r.result.number c.args.m c.requires.alone c.begin-r.ensures.number c.begin-r.ensures.world c.enter-after.ensures.table
    c.end_turn.ensures

pub returns-clause-rule : goal.returns-clause-rule
returns-clause-rule c = rule c

pub returns-clause-acted : goal.returns-clause-acted
returns-clause-acted c =
    subst (λ (h : Held). HasActed c.args.world.now h.table) (sym (rule c))
    (entered_acts c.args.world.now c.args.mons.now.holders c.args.p c.args.m c.requires.alone)
