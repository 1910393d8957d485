use Rattle.std.proofs.Common.{rules, ◌≡◌, ◌∙◌, ◌<◌, map, take, replicate, Some, IfOk, sym, subst, ap, arith}
use Rattle.std.specs.Option.{option_copied}
use Rattle.std.proofs.lemmas.List.{take_all}
use Rattle.pfc_types.specs.Types.{extent}
use Rattle.pfc_semantics.specs.Values.{compound, copies, values_from}
use Rattle.pfc_semantics.specs.Objects.{first_of, all_first}
use Rattle.pfc_semantics.proofs.Firsts.{initial_form, initial_none, part_before, part_past, initial_channel, initial_process}
use Rattle.pfc_store.specs.Views.{value_view, values_view}
use Rattle.pfc_store.proofs.Seen.{compound_seen}
use Rattle.pfc_store.proofs.Beginning.{copies_listed, fields_listed, field_next}
use Rattle.pfc_store.proofs.firsts.+values.Goals as goal

pub elements-returns : goal.elements-returns
elements-returns t c =
    let first = first_of (all_first (take c.args.whole.place c.args.types.now)) c.args.element in
    let all : c.loop.counter ≡ c.args.count = omega arith in
    ap values_from c.loop.invariant ∙ ap (λ n. values_from (replicate n first)) all ∙ sym (copies_listed c.args.count first)

pub first_value-returns-in_ok-elements-in-Some-Array :
    goal.first_value-returns-in_ok-elements-in-Some-Array
first_value-returns-in_ok-elements-in-Some-Array t c =
    let made = initial_form c.args.types.now c.args.t _ (sym c.form.ensures ∙ ap option_copied c.in-Some-Array.is ∙ ap Some c.in-Some-Array.field-0-is) in
    let before = all_first (take c.args.t.place c.args.types.now) in
    let count : c.element_count-count.result ≡ extent c.in-Some-Array.low c.in-Some-Array.high = search rules in
    compound_seen c.in_ok-elements-in-Some-Array.field-0
    ∙ ap compound c.in_ok-elements-in-Some-Array.ensures
    ∙ ap (λ n. compound (copies n (first_of before c.in-Some-Array.element))) count
    ∙ sym made

pub first_value-returns-in_ok-parts-in-Some-Record :
    goal.first_value-returns-in_ok-parts-in-Some-Record
first_value-returns-in_ok-parts-in-Some-Record t c =
    let made = initial_form c.args.types.now c.args.t _ (sym c.form.ensures ∙ ap option_copied c.in-Some-Record.is ∙ ap Some c.in-Some-Record.field-0-is) in
    compound_seen c.in_ok-parts-in-Some-Record.field-0 ∙ ap compound (c.in_ok-parts-in-Some-Record.ensures) ∙ sym made

pub first_value-returns-in-Some-Channel : goal.first_value-returns-in-Some-Channel
first_value-returns-in-Some-Channel t c =
    c.of.ensures ∙ sym (initial_channel c.args.types.now c.args.t _ (sym c.form.ensures ∙
    ap option_copied c.in-Some-Channel.is ∙ ap Some c.in-Some-Channel.field-0-is))

pub first_value-returns-in-Some-Process : goal.first_value-returns-in-Some-Process
first_value-returns-in-Some-Process t c =
    c.of-in-Some-Process.ensures ∙
    sym (initial_process c.args.types.now c.args.t _ (sym c.form.ensures ∙ ap option_copied c.in-Some-Process.is ∙ ap Some c.in-Some-Process.field-0-is))

pub first_value-returns-in-None : goal.first_value-returns-in-None
first_value-returns-in-None t c = c.of-in-None.ensures ∙ sym (initial_none c.args.types.now c.args.t (sym c.form.ensures ∙ ap option_copied c.in-None.is))

pub first_part-returns-then-t-whole : goal.first_part-returns-then-t-whole
first_part-returns-then-t-whole t c =
    subst (λ v. IfOk c.first_value.result (λ r. value_view r ≡ v))
    (part_before c.args.types.now c.args.whole c.args.t c.if-t-whole.true c.requires) c.first_value.ensures

pub first_part-returns-else-t-whole : goal.first_part-returns-else-t-whole
first_part-returns-else-t-whole t c = c.of.ensures ∙ sym (part_past c.args.types.now c.args.whole c.args.t (omega arith))

pub parts-loop-i-preserved : goal.parts-loop-i-preserved
parts-loop-i-preserved t c =
    let before = all_first (take c.args.whole.place c.args.types.now) in
    ap values_view c.in_ok-push.ensures.items
    ∙ field_next before c.args.fields.now c.loop-i.i c.type_at.result c.loop-i.items.items c.in_ok-first_part.field-0
    (subst (λ n. c.loop-i.i < n) c.len-i-end.ensures c.loop-i-test.true)
    c.type_at.ensures c.loop-i.invariant c.in_ok-first_part.ensures

pub parts-returns : goal.parts-returns
parts-returns t c =
    let before = all_first (take c.args.whole.place c.args.types.now) in
    ap values_from c.loop-i.invariant
    ∙ ap (λ fs. values_from (map (λ f. first_of before f.1) fs)) (take_all c.loop-i.i c.args.fields.now (omega arith))
    ∙ sym (fields_listed before c.args.fields.now)
