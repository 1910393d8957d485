use Rattle.std.proofs.Common.{◌*◌, ◌∙◌, get_or, ap, sym, arith}
use Rattle.pfc_lists.specs.Bits.{flags, numbers}
use Rattle.pfc_lists.proofs.Flags.{here-same, behind-within, behind-same, none-behind}
use Rattle.pfc_lists.proofs.numbers.Numbers.first.Goals as goal

pub number_of_lowest-requires-clause-found : goal.number_of_lowest-requires-clause-found
number_of_lowest-requires-clause-found c = c.is_empty.ensures.some c.if-not-is_empty.true (64 * c.loop-k.k)

pub returns-then-not-is_empty : goal.returns-then-not-is_empty
returns-then-not-is_empty c =
    c.number_of_lowest.ensures
    ∙ here-same c.deref-word-items.result.now c.loop-k.k 0 c.loop-k-test.true (c.is_empty.ensures.some c.if-not-is_empty.true (64 * c.loop-k.k))
    ∙ c.loop-k.invariant.same
    ∙ ap (λ v. get_or (numbers (flags v)) 0 0) c.deref-word-items.ensures.value
    ∙ ap (λ v. get_or (numbers v) 0 0) c.self.view_is

pub loop-k-preserved : goal.loop-k-preserved
loop-k-preserved c =
    let none = sym (c.is_empty.ensures.none c.if-not-is_empty.false (64 * c.loop-k.k)) in
    record {
      found = behind-within c.deref-word-items.result.now c.loop-k.k 0 0 c.loop-k-test.true none (omega arith) c.loop-k.invariant.found;
      same = behind-same c.deref-word-items.result.now c.loop-k.k 0 0 c.loop-k-test.true none (omega arith) ∙ c.loop-k.invariant.same;
    }

pub unreachable-requires : goal.unreachable-requires
unreachable-requires c = none-behind c.deref-word-items.result.now c.loop-k.k 0 c.loop-k-test.false c.loop-k.invariant.found
