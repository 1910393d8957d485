use Rattle.std.proofs.Common.{◌≡◌, ℕ, Option, Some, sym, ap, ◌∙◌, subst}
use Rattle.pfc_world.specs.Tables.{Table}
use Rattle.pfc_waiting.specs.Moments.{at_coend}
use Rattle.pfc_waiting.specs.Waiting.{HasActed}
use Rattle.pfc_waiting.proofs.Turns.{coend_after, coend_once, coend_acts}
use Rattle.pfc_waiting.proofs.rules.join_by.Goals as goal

pub end_turn-requires : goal.end_turn-requires
end_turn-requires c =
    coend_after c.begin-r.new.self c.coend-after.new.self c.begin-r.result.number c.coend-after.result
    (ap (λ (t : Table). t.acting) c.begin-r.ensures.world ∙ ap (λ (k : ℕ). (let o : Option ℕ = Some k in o)) (sym c.begin-r.ensures.number))
    c.coend-after.ensures

rule : (c : goal.After-end_turn) → c.end_turn.new.world ≡ at_coend c.args.world.now c.args.p
rule c =
    coend_once c.args.world.now c.begin-r.new.self c.coend-after.new.self c.end_turn.new.world c.args.p c.begin-r.result.number c.coend-after.result
    c.requires.alone c.begin-r.ensures.number c.begin-r.ensures.world c.coend-after.ensures c.end_turn.ensures

pub returns-clause-rule : goal.returns-clause-rule
returns-clause-rule c = rule c

pub returns-clause-acted : goal.returns-clause-acted
returns-clause-acted c =
    subst (λ (t : Table). HasActed c.args.world.now t) (sym (rule c)) (coend_acts c.args.world.now c.args.p c.requires.alone)
