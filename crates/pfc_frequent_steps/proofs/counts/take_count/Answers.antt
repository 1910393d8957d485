use Rattle.std.proofs.Common.{List, ap, ◌∙◌}
use Rattle.pfc_pending.specs.Waiting.{over, waiting}
use Rattle.pfc_pending.specs.declared.pending.Pending.{Pending}
use Rattle.pfc_frequent_steps.specs.Counts.{counting_part}
use Rattle.pfc_frequent_steps.proofs.Taken.{last_over_of}
use Rattle.pfc_frequent_steps.proofs.counts.take_count.Goals as goal

pub returns-clause-taken : goal.returns-clause-taken
returns-clause-taken c = λ t.
    ap (λ (items : List Pending). over t (waiting t items) (counting_part c.args.part)) c.pop.ensures.rest
    ∙ last_over_of t c.args.pending.now.items _ (counting_part c.args.part) c.args.pending.now.ok.0 c.requires.last
