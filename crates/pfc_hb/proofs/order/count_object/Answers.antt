use Rattle.std.proofs.Common.{sym, subst, ◌∙◌}
use Rattle.std.specs.Option.{MatchOption}
use Rattle.pfc_hb.specs.Clocks.{IsLastWith, NoneWith}
use Rattle.pfc_hb.proofs.ClockLaws.{object-before, object-counted}
use Rattle.pfc_hb.proofs.order.count_object.Goals as goal

pub count_cause-requires-clause-before : goal.count_cause-requires-clause-before
count_cause-requires-clause-before c =
    let events = c.args.events.now in
    let slots = c.args.slots.now in
    let thing = c.args.thing in
    let j = c.args.place in
    let last : IsLastWith events thing j c.in-Some.earlier =
    subst (λ o. MatchOption o (NoneWith events thing 0 j) (IsLastWith events thing j)) (sym c.of.ensures ∙ c.in-Some.is) (c.requires.lasts thing) in
    object-before events slots.of_events.items slots.width thing j c.in-Some.earlier c.requires.place c.requires.had last

pub returns-in-Some-clause-counted : goal.returns-in-Some-clause-counted
returns-in-Some-clause-counted c =
    let events = c.args.events.now in
    let slots = c.args.slots.now in
    let thing = c.args.thing in
    let j = c.args.place in
    let last : IsLastWith events thing j c.in-Some.earlier =
    subst (λ o. MatchOption o (NoneWith events thing 0 j) (IsLastWith events thing j)) (sym c.of.ensures ∙ c.in-Some.is) (c.requires.lasts thing) in
    object-counted events slots.of_events.items slots.width thing j c.in-Some.earlier c.count_cause.new.clock c.requires.place last
    c.count_cause.ensures.gathered c.count_cause.ensures.counted
