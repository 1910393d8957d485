use Rattle.std.proofs.Common.{◌≡◌, ◌≤◌, ◌<◌, ◌*◌, ◌/◌, false, length, get_or, set, arith, sym, ap, ◌∙◌, subst}
use Rattle.pfc_lists.specs.Bits.{flags, numbers}
use Rattle.pfc_lists.proofs.Bits.{numbers-few}
use Rattle.std.proofs.lemmas.List.{length-set}
use Rattle.pfc_lists.proofs.Flags.{flags-length, put-is, put-count, word-within, byte-is}
use Rattle.pfc_lists.proofs.numbers.Numbers.put.Goals as goal

pub index_mut-word-requires : goal.index_mut-word-requires
index_mut-word-requires c =
    let within : c.args.number / 64 < length c.self.inside.words.items =
    word-within c.self.inside.words.items c.args.number (subst (λ v. c.args.number < length v) (sym c.self.view_is) c.requires) in
    omega arith

pub overflow_add-self : goal.overflow_add-self
overflow_add-self c =
    let all : length (flags c.self.inside.words.items) ≡ 64 * length c.self.inside.words.items = flags-length c.self.inside.words.items in
    let few : length (numbers (flags c.self.inside.words.items)) ≤ length (flags c.self.inside.words.items) = numbers-few 0 (flags c.self.inside.words.items) in
    grind (arith, c.self.invariant, all, few, c.from.ensures)

pub overflow_sub-self : goal.overflow_sub-self
overflow_sub-self c =
    (put-count c.self.inside.words.items c.args.number c.self.inside.count c.from.result c.from-2.result c.args.held c.has.result
    (subst (λ v. c.args.number < length v) (sym c.self.view_is) c.requires) c.self.invariant.0 (c.from.ensures ∙ byte-is c.args.held)
    (c.has.ensures ∙ ap (λ v. get_or v c.args.number false) (sym c.self.view_is)) (c.from-2.ensures ∙ byte-is c.has.result)).0

pub invariant_of-self : goal.invariant_of-self
invariant_of-self c =
    let within : c.args.number < length (flags c.self.inside.words.items) = subst (λ v. c.args.number < length v) (sym c.self.view_is) c.requires in
    let room : length (set c.self.inside.words.items (c.args.number / 64) c.with_bit.result) ≡ length c.self.inside.words.items =
    length-set c.self.inside.words.items (c.args.number / 64) c.with_bit.result in (
      (put-count c.self.inside.words.items c.args.number c.self.inside.count c.from.result c.from-2.result c.args.held c.has.result
          within c.self.invariant.0 (c.from.ensures ∙ byte-is c.args.held)
          (c.has.ensures ∙ ap (λ v. get_or v c.args.number false) (sym c.self.view_is)) (c.from-2.ensures ∙ byte-is c.has.result)).1
          ∙ ap (λ v. length (numbers v))
          (sym (put-is c.self.inside.words.items c.args.number c.index_mut-word.result.now c.with_bit.result c.args.held within
          c.index_mut-word.ensures.value c.with_bit.ensures)),
      subst (λ n. n ≤ 1024) (sym room) c.self.invariant.1,
    )

pub returns : goal.returns
returns c =
    put-is c.self.inside.words.items c.args.number c.index_mut-word.result.now c.with_bit.result c.args.held
    (subst (λ v. c.args.number < length v) (sym c.self.view_is) c.requires) c.index_mut-word.ensures.value c.with_bit.ensures
    ∙ ap (λ v. set v c.args.number c.args.held) c.self.view_is
