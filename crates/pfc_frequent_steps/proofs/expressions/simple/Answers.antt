use Rattle.std.proofs.Common.{Some, None, ◌∙◌}
use Rattle.pfc_pending.specs.Waiting.{awaits_of}
use Rattle.pfc_frequent_steps.proofs.Firsts.{simple_as}
use Rattle.pfc_frequent_steps.proofs.expressions.simple.Goals as goal

pub returns-in-None : goal.returns-in-None
returns-in-None c = λ t here w.
    c.unsigned.ensures t here w ∙ simple_as here c.args.s.now None c.as_slice.result.now (awaits_of w) c.in-None.is c.as_slice.ensures.value

pub returns-in-Some : goal.returns-in-Some
returns-in-Some c = λ t here w.
    c.signed.ensures t here w
    ∙ simple_as here c.args.s.now (Some c.in-Some.sign) c.as_slice-in-Some.result.now (awaits_of w) c.in-Some.is c.as_slice-in-Some.ensures.value
