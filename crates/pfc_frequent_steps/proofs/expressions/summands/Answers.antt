use Rattle.std.proofs.Common.{◌∙◌}
use Rattle.pfc_pending.specs.Waiting.{awaits_of}
use Rattle.pfc_frequent_steps.proofs.Firsts.{summands_first, summands_same}
use Rattle.pfc_frequent_steps.proofs.expressions.summands.Goals as goal

pub returns-in-len1-up : goal.returns-in-len1-up
returns-in-len1-up c = λ t here w.
    c.add.ensures t here w
    ∙ summands_same here c.args.sum _ _ (awaits_of w) c.ranges.sum
    (summands_first c.args.rest.now c.first-item.result c.in-len1-up.len_at_least c.first-item.is)
