use Rattle.std.proofs.Common.{◌<◌, ◌≤◌, ◌*◌, get_or, arith, ap, ◌∙◌, subst}
use Rattle.pfc_lists.specs.Bits.{flags, numbers}
use Rattle.pfc_lists.proofs.Flags.{here-same, behind-within, behind-same, none-behind}
use Rattle.pfc_lists.proofs.numbers.Numbers.counted_at.Goals as goal

pub number_of_bit-requires-clause-found : goal.number_of_bit-requires-clause-found
number_of_bit-requires-clause-found c =
    let lt : c.loop-k.left < c.ones-held.result = omega arith in
    subst (λ n. c.loop-k.left < n) (c.ones-held.ensures.count (64 * c.loop-k.k)) lt

pub returns-then-left-held : goal.returns-then-left-held
returns-then-left-held c =
    let lt : c.loop-k.left < c.ones-held.result = omega arith in
    c.number_of_bit.ensures
    ∙ here-same c.deref-word-items.result.now c.loop-k.k c.loop-k.left c.loop-k-test.true
    (subst (λ n. c.loop-k.left < n) (c.ones-held.ensures.count (64 * c.loop-k.k)) lt)
    ∙ c.loop-k.invariant.same
    ∙ ap (λ v. get_or (numbers (flags v)) c.args.place 0) c.deref-word-items.ensures.value
    ∙ ap (λ v. get_or (numbers v) c.args.place 0) c.self.view_is

pub loop-k-preserved : goal.loop-k-preserved
loop-k-preserved c =
    let le : c.ones-held.result ≤ c.loop-k.left = omega arith in
    record {
      found = behind-within c.deref-word-items.result.now c.loop-k.k c.loop-k.left c.ones-held.result c.loop-k-test.true
          (c.ones-held.ensures.count (64 * c.loop-k.k)) le c.loop-k.invariant.found;
      same = behind-same c.deref-word-items.result.now c.loop-k.k c.loop-k.left c.ones-held.result c.loop-k-test.true
          (c.ones-held.ensures.count (64 * c.loop-k.k)) le ∙ c.loop-k.invariant.same;
    }

pub unreachable-requires : goal.unreachable-requires
unreachable-requires c = none-behind c.deref-word-items.result.now c.loop-k.k c.loop-k.left c.loop-k-test.false c.loop-k.invariant.found
