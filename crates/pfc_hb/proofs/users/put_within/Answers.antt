use Rattle.std.proofs.Common.{◌++◌, ℕ, List, Option, subst, sym, ◌∙◌}
use Rattle.std.specs.Option.{option_to_list}
use Rattle.pfc_hb.specs.Parts.{AreAround, lies_in, number_of}
use Rattle.pfc_hb.specs.Users.{AddsNumbers}
use Rattle.pfc_hb.proofs.PartLaws.{lies_in-number, number_of-within, outside-within}
use Rattle.pfc_hb.proofs.UserLaws.{adds-numbers, adds_numbers-both, same_sizes-trans}
use Rattle.pfc_hb.proofs.users.put_within.Goals as goal

pub put_all-requires-clause-numbers : goal.put_all-requires-clause-numbers
put_all-requires-clause-numbers c =
    let parts = c.args.parts.now.keys in
    let spot = c.args.access.now.spot in
    rw (c.deref.ensures.value, c.requires.parts)
    (outside-within parts spot c.in_ok-outside.outside.items (option_to_list (number_of parts spot)) c.in_ok-outside.ensures)

pub put_own-requires-clause-own : goal.put_own-requires-clause-own
put_own-requires-clause-own c = λ n is.
    rw (c.put_all.ensures.sizes.each, c.requires.parts) (number_of-within c.args.parts.now.keys c.args.access.now.spot n (sym c.requires.own ∙ is))

pub returns-clause-put : goal.returns-clause-put
returns-clause-put c =
    let parts = c.args.parts.now.keys in
    let access = c.args.access.now in
    let own = option_to_list c.args.own in
    let outside = c.in_ok-outside.outside.items in
    let before = c.args.within.now in
    let now = c.put_all.new.users in
    let after = c.put_own.new.users in
    let around : AreAround parts access.spot (outside ++ own) =
    subst (λ (o : Option ℕ). AreAround parts access.spot (outside ++ option_to_list o)) (sym c.requires.own) c.in_ok-outside.ensures in
    let first : AddsNumbers outside c.args.place access.write before now =
    subst (λ (l : List ℕ). AddsNumbers l c.args.place access.write before now) c.deref.ensures.value c.put_all.ensures.put in
    adds-numbers parts (outside ++ own) c.args.place access.write (lies_in access.spot) before after c.requires.parts
    (λ s n known. lies_in-number parts access.spot s n (outside ++ own) around known)
    (adds_numbers-both outside own c.args.place access.write before now after c.put_all.ensures.sizes.each first c.put_own.ensures.put)

pub returns-clause-sizes : goal.returns-clause-sizes
returns-clause-sizes c = same_sizes-trans c.args.within.now c.put_all.new.users c.put_own.new.users c.put_all.ensures.sizes c.put_own.ensures.sizes
