use Rattle.std.proofs.Common.{◌≡◌, ◌+◌, List, drop, sym, ap, ◌∙◌, arith}
use Rattle.pfc_machines.specs.declared.alternatives.Alternative.{Alternative}
use Rattle.pfc_machines.specs.Offers.{made_by}
use Rattle.pfc_machines.proofs.Walking.{next_at, made_step, made_end}
use Rattle.pfc_machines.proofs.communications.Communications.made_by.Goals as goal

pub returns-then-alternative-activation-clause-made : goal.returns-then-alternative-activation-clause-made
returns-then-alternative-activation-clause-made c =
    let made : List Alternative = c.args.self.now.alternatives in
    let a : Alternative = c.alternative.result in
    let none : made_by c.args.activation (drop c.loop-j.j made) ≡ 0 =
    ap (made_by c.args.activation) (next_at made c.loop-j.j a c.alternative.ensures)
    ∙ made_end c.args.activation a (drop (c.loop-j.j + 1) made) c.if-alternative-activation.true in
    sym (c.loop-j.invariant ∙ omega arith)

pub loop-j-preserved : goal.loop-j-preserved
loop-j-preserved c =
    let made : List Alternative = c.args.self.now.alternatives in
    let a : Alternative = c.alternative.result in
    let more : made_by c.args.activation (drop c.loop-j.j made) ≡ 1 + made_by c.args.activation (drop (c.loop-j.j + 1) made) =
    ap (made_by c.args.activation) (next_at made c.loop-j.j a c.alternative.ensures)
    ∙ made_step c.args.activation a (drop (c.loop-j.j + 1) made) c.if-alternative-activation.false in
    c.loop-j.invariant ∙ omega arith
