use Rattle.std.proofs.Common.{◌<◌, ◌%◌, ◌/◌, false, length, get_or, arith, sym, ap, ◌∙◌, subst}
use Rattle.pfc_lists.specs.Bits.{flags}
use Rattle.pfc_lists.proofs.Flags.{flags-at, word-within, bit-within, number-is}
use Rattle.pfc_lists.proofs.numbers.Numbers.has.Goals as goal

pub index-word-requires : goal.index-word-requires
index-word-requires c =
    let within : c.args.number / 64 < length c.self.inside.words.items =
    word-within c.self.inside.words.items c.args.number (subst (λ v. c.args.number < length v) (sym c.self.view_is) c.requires) in
    omega arith

pub returns : goal.returns
returns c =
    c.has_bit.ensures
    ∙ sym (flags-at c.self.inside.words.items _ (c.args.number % 64) c.index-word.result.now
    (word-within c.self.inside.words.items c.args.number (subst (λ v. c.args.number < length v) (sym c.self.view_is) c.requires)) c.index-word.ensures
    (bit-within c.args.number))
    ∙ ap (λ v. get_or (flags c.self.inside.words.items) v false) (number-is c.args.number)
    ∙ ap (λ v. get_or v c.args.number false) c.self.view_is
