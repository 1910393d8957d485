use Rattle.std.proofs.Common.{◌≡◌, ◌||◌, ◌++◌, false, ℕ, Option, Some, List, get_or, ap, subst, sym, ◌∙◌}
use Rattle.std.specs.Option.{option_to_list}
use Rattle.pfc_hb.specs.declared.users.Users.{Users}
use Rattle.pfc_hb.specs.Parts.{AreAround, number_of}
use Rattle.pfc_hb.specs.Rows.{AddsOthers}
use Rattle.pfc_hb.specs.Users.{is_user, users_at}
use Rattle.pfc_hb.proofs.PartLaws.{outside-within, known-number}
use Rattle.pfc_hb.proofs.RowLaws.{row-clashes}
use Rattle.pfc_hb.proofs.rows.add_clashes.Goals as goal

pub add_others-requires-clause-numbers : goal.add_others-requires-clause-numbers
add_others-requires-clause-numbers c =
    let parts = c.args.rows.now.parts.keys in
    let spot = c.args.access.now.spot in
    rw (c.deref-in-Some.ensures.value, c.deref.ensures.value, c.requires.rows.at.sized.each)
    (outside-within parts spot c.in_ok-outside.outside.items (option_to_list (number_of parts spot)) c.in_ok-outside.ensures)

pub returns-in_ok-outside-clause-added : goal.returns-in_ok-outside-clause-added
returns-in_ok-outside-clause-added c =
    let rows = c.args.rows.now in
    let parts = rows.parts.keys in
    let access = c.args.access.now in
    let at = rows.uses.at.items in
    let within = rows.uses.within.items in
    let outside = c.in_ok-outside.outside.items in
    let own = c.in-Some.own in
    let from = c.args.from in
    let before = c.args.row.now in
    let after = c.add_others.new.row in
    let number : number_of parts access.spot ≡ Some own = sym c.number_of.ensures ∙ c.in-Some.is in
    let others : AddsOthers at outside access.write from before after =
    subst (λ (l : List ℕ). AddsOthers at l access.write from before after) c.deref-in-Some.ensures.value
    (subst (λ (u : List Users). AddsOthers u c.deref-in-Some.result.now access.write from before after) c.deref.ensures.value c.add_others.ensures.added) in
    λ j behind lt. c.add_within.ensures.added j behind
    ∙ ap (λ b. b || is_user (users_at within own) access.write j) (others j behind)
    ∙ row-clashes rows.events.now parts at within access outside own j (get_or before j false)
    lt c.requires.rows.known c.requires.rows.at c.requires.rows.within
    (subst (λ (o : Option ℕ). AreAround parts access.spot (outside ++ option_to_list o)) number c.in_ok-outside.ensures) number

pub returns-in_default-clause-added : goal.returns-in_default-clause-added
returns-in_default-clause-added c =
    let n = known-number c.args.rows.now.parts.keys c.args.access.now.spot c.requires.known in
    λ j behind lt. absurd (c.in_default.not-Some n.0 (c.number_of.ensures ∙ n.1))
