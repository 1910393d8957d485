use Rattle.std.proofs.Common.{◌≡◌, get_or, sym, subst}
use Rattle.pfc_world.specs.Holders.{Held, held_in}
use Rattle.pfc_world.specs.Monitors.{resumed}
use Rattle.pfc_waiting.specs.Waiting.{HasActed}
use Rattle.pfc_waiting.proofs.Turns.{resumed_once, resumed_acts}
use Rattle.pfc_waiting.proofs.rules.resume_by.Goals as goal

rule : (c : goal.After-end_turn)
    → held_in c.end_turn.new.world c.resume-after.new.mons.holders
    ≡ resumed (held_in c.args.world.now c.args.mons.now.holders) c.args.p (get_or c.args.mons.now.owners c.args.c 0) c.args.c
rule c =
    resumed_once c.args.world.now c.begin-r.new.self c.resume-after.new.world c.end_turn.new.world c.args.mons.now.holders
    c.resume-after.new.mons.holders c.args.p c.begin-r.result.number (get_or c.args.mons.now.owners c.args.c 0) c.args.c c.requires.alone
    c.begin-r.ensures.number c.begin-r.ensures.world c.resume-after.ensures.table c.end_turn.ensures

pub returns-clause-rule : goal.returns-clause-rule
returns-clause-rule c = rule c

pub returns-clause-acted : goal.returns-clause-acted
returns-clause-acted c =
    subst (λ (h : Held). HasActed c.args.world.now h.table) (sym (rule c))
    (resumed_acts c.args.world.now c.args.mons.now.holders c.args.p (get_or c.args.mons.now.owners c.args.c 0) c.args.c c.requires.alone)
