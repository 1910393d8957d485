use Rattle.std.proofs.Common.{◌≡◌, [], sym, subst}
use Rattle.pfc_world.specs.Tables.{Table}
use Rattle.pfc_world.specs.Transitions.{blocked}
use Rattle.pfc_waiting.specs.Waiting.{HasActed}
use Rattle.pfc_waiting.proofs.Turns.{blocked_once, blocked_acts}
use Rattle.pfc_waiting.proofs.rules.block_by.Goals as goal

rule : (c : goal.After-block) → c.block.new.self ≡ blocked c.args.world.now c.args.p c.args.why []
rule c =
    blocked_once c.args.world.now c.begin-r.new.self c.block.new.self c.args.p c.begin-r.result.number c.args.why c.begin-r.ensures.number
    c.begin-r.ensures.world c.block.ensures

pub returns-clause-rule : goal.returns-clause-rule
returns-clause-rule c = rule c

pub returns-clause-acted : goal.returns-clause-acted
returns-clause-acted c =
    subst (λ (t : Table). HasActed c.args.world.now t) (sym (rule c)) (blocked_acts c.args.world.now c.args.p c.args.why [])
