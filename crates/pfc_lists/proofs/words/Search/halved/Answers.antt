use Rattle.std.proofs.Common.{◌<◌, ◌≤◌, ◌+◌, ◌-◌, ◌/◌, ◌^◌, length, get_or, arith, sym, ap, ◌∙◌, subst}
use Rattle.std.specs.Prelude.{count_ones}
use Rattle.pfc_lists.specs.Bits.{bits, numbers_from}
use Rattle.pfc_lists.proofs.Bits.{in-low, same-low, in-high, same-high}
use Rattle.pfc_lists.proofs.words.Search.halved.Goals as goal

pub returns-then-self-held-clause-found : goal.returns-then-self-held-clause-found
returns-then-self-held-clause-found c =
    let lt : c.args.self.before < count_ones c.low_bits-low.result = omega arith in
    subst (λ low. c.args.self.before < length (numbers_from c.args.self.lowest (bits c.args.half low))) (sym c.low_bits-low.ensures)
    (in-low c.args.self.lowest c.args.half c.args.self.word c.args.self.before (subst (λ low. c.args.self.before < count_ones low) c.low_bits-low.ensures lt))

pub returns-then-self-held-clause-same : goal.returns-then-self-held-clause-same
returns-then-self-held-clause-same c =
    let lt : c.args.self.before < count_ones c.low_bits-low.result = omega arith in
    ap (λ low. get_or (numbers_from c.args.self.lowest (bits c.args.half low)) c.args.self.before 0) c.low_bits-low.ensures
    ∙ same-low c.args.self.lowest c.args.half c.args.self.word c.args.self.before (subst (λ low. c.args.self.before < count_ones low) c.low_bits-low.ensures lt)

pub returns-clause-found : goal.returns-clause-found
returns-clause-found c =
    let le : count_ones c.low_bits-low.result ≤ c.args.self.before = omega arith in
    subst (λ low. c.args.self.before - count_ones low < length (numbers_from (c.args.self.lowest + c.args.half)
    (bits c.args.half (c.args.self.word / 2 ^ c.args.half)))) (sym c.low_bits-low.ensures)
    (in-high c.args.self.lowest c.args.half c.args.self.word c.args.self.before
    (subst (λ low. count_ones low ≤ c.args.self.before) c.low_bits-low.ensures le) c.requires.found)

pub returns-clause-same : goal.returns-clause-same
returns-clause-same c =
    let le : count_ones c.low_bits-low.result ≤ c.args.self.before = omega arith in
    ap (λ low. get_or (numbers_from (c.args.self.lowest + c.args.half) (bits c.args.half (c.args.self.word / 2 ^ c.args.half)))
    (c.args.self.before - count_ones low) 0) c.low_bits-low.ensures
    ∙ same-high c.args.self.lowest c.args.half c.args.self.word c.args.self.before
    (subst (λ low. count_ones low ≤ c.args.self.before) c.low_bits-low.ensures le)
