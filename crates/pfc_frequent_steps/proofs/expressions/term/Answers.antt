use Rattle.pfc_pending.specs.Waiting.{awaits_of}
use Rattle.pfc_frequent_steps.proofs.Firsts.{term_alone, term_begun}
use Rattle.pfc_frequent_steps.proofs.expressions.term.Goals as goal

pub returns-in-empty : goal.returns-in-empty
returns-in-empty c = λ t here w. term_alone here c.args.product.now c.as_slice.result.now (awaits_of w) c.as_slice.ensures.value c.in-empty.len_below

pub returns-in_default : goal.returns-in_default
returns-in_default c = λ t here w. term_begun here c.args.product.now c.as_slice.result.now (awaits_of w) c.as_slice.ensures.value c.in_default.len_at_least
