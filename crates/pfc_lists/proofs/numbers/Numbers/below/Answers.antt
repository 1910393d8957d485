use Rattle.std.proofs.Common.{◌<◌, ◌≤◌, ◌+◌, ◌/◌, ◌%◌, length, take, arith, sym, ap, ◌∙◌, subst}
use Rattle.std.proofs.lemmas.List.{length-take-le, take_all}
use Rattle.pfc_lists.specs.Bits.{bits, flags, numbers, numbers_from}
use Rattle.pfc_lists.proofs.Flags.{bit-within, flags-past, numbers-below, low-numbers}
use Rattle.pfc_lists.proofs.numbers.Numbers.below.Goals as goal

pub returns-then-whole-len : goal.returns-then-whole-len
returns-then-whole-len c =
    let le : length c.self.inside.words.items ≤ c.args.bound / 64 = omega arith in
    c.self.invariant.0
    ∙ ap (λ v. length (numbers v)) (sym (take_all c.args.bound (flags c.self.inside.words.items) (flags-past c.self.inside.words.items c.args.bound le)))
    ∙ ap (λ v. length (numbers (take c.args.bound v))) c.self.view_is

pub slice_bounds-ones_of-end : goal.slice_bounds-ones_of-end
slice_bounds-ones_of-end c =
    let within : c.args.bound / 64 < length c.self.inside.words.items = omega arith in
    let here : c.args.bound / 64 ≤ length c.deref.result.now = subst (λ v. c.args.bound / 64 ≤ length v) (sym c.deref.ensures.value) (omega (arith, within)) in
    sym (length-take-le (c.args.bound / 64) c.deref.result.now here)

pub index-requires : goal.index-requires
index-requires c =
    let within : c.args.bound / 64 < length c.self.inside.words.items = omega arith in
    omega arith

pub overflow_add-result : goal.overflow_add-result
overflow_add-result c = grind (arith, c.ones_of.ensures.few, c.ones.ensures.few)

pub returns : goal.returns
returns c =
    let k = c.args.bound / 64 in
    let within : c.args.bound / 64 < length c.self.inside.words.items = omega arith in
    ap (λ n. n + c.ones.result) (c.ones_of.ensures.count ∙ ap (λ v. length (numbers (flags (take k v)))) c.deref.ensures.value)
    ∙ ap (λ n. length (numbers (flags (take k c.self.inside.words.items))) + n)
    (c.ones.ensures.count (length (flags (take k c.self.inside.words.items)))
    ∙ ap (λ v. length (numbers_from (length (flags (take k c.self.inside.words.items))) (bits 64 v))) c.low_bits.ensures
    ∙ low-numbers (length (flags (take k c.self.inside.words.items))) (c.args.bound % 64) c.index.result.now (bit-within c.args.bound))
    ∙ sym (numbers-below c.self.inside.words.items c.args.bound c.index.result.now within c.index.ensures)
    ∙ ap (λ v. length (numbers (take c.args.bound v))) c.self.view_is
