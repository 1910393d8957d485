use Rattle.std.proofs.Common.{arith, ap, ◌∙◌, take, drop}
use Rattle.std.proofs.lemmas.Bool.Decides.{nat_tests}
use Rattle.pfc_sched.proofs.Cutting.{cut_from, none_from}
use Rattle.pfc_sched.proofs.script_text.first_item.Goals as goal

pub returns-then-is_empty : goal.returns-then-is_empty
returns-then-is_empty c = none_from c.args.bytes.now c.skip_white-items.result.now c.skip_white-items.ensures (grind (arith, nat_tests))

pub returns : goal.returns
returns c =
    cut_from c.args.bytes.now c.skip_white-items.result.now c.split_at.result.0.now c.split_at.result.1.now c.skip_white-items.ensures
    (grind (arith, nat_tests))
    (c.split_at.ensures.front ∙ ap (λ n. take n c.skip_white-items.result.now) c.item_length.ensures.count)
    (c.split_at.ensures.back ∙ ap (λ n. drop n c.skip_white-items.result.now) c.item_length.ensures.count)
