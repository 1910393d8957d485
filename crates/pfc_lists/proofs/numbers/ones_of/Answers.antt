use Rattle.std.proofs.Common.{◌+◌, ◌*◌, ◌≤◌, length, take, arith, sym, ap, ◌∙◌}
use Rattle.pfc_lists.specs.Bits.{flags, numbers}
use Rattle.pfc_lists.proofs.Flags.{flags-none, numbers-more}
use Rattle.pfc_lists.proofs.numbers.ones_of.Goals as goal

pub loop-word-init : goal.loop-word-init
loop-word-init c = record { count = sym (ap (λ v. length (numbers v)) flags-none); few = omega arith }

pub overflow_add-total : goal.overflow_add-total
overflow_add-total c = let few : c.loop-word.total ≤ 64 * c.loop-word.word-index = c.loop-word.invariant.few in grind (arith, few, c.ones-total.ensures.few)

pub loop-word-preserved : goal.loop-word-preserved
loop-word-preserved c =
    let few : c.loop-word.total ≤ 64 * c.loop-word.word-index = c.loop-word.invariant.few in
    record {
      count = ap (λ n. n + c.ones-total.result) c.loop-word.invariant.count
          ∙ ap (λ n. length (numbers (flags (take c.loop-word.word-index c.args.words.now))) + n) (c.ones-total.ensures.count (64 * c.loop-word.word-index))
          ∙ sym (numbers-more c.args.words.now c.loop-word.word-index c.loop-word-test.true);
      few = omega (arith, few, c.ones-total.ensures.few);
    }
