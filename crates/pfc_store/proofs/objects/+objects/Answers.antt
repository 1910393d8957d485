use Rattle.std.proofs.Common.{rules, ◌≡◌, ◌∙◌, ◌+◌, ◌-◌, ◌<◌, ◌∷◌, [], suc, take, drop, Some, IfOk, sym, subst, ap, arith}
use Rattle.std.specs.Option.{option_copied}
use Rattle.std.proofs.lemmas.List.{drop_all, map-append}
use Rattle.pfc_types.specs.Types.{extent}
use Rattle.pfc_semantics.specs.Objects.{Numbering, numbering_of, all_numberings, as_compound, numbered_copies, numbered_fields}
use Rattle.pfc_store.specs.Views.{value_view, values_view}
use Rattle.pfc_store.specs.Numbered.{objects_view, numbered}
use Rattle.pfc_store.proofs.Seen.{compound_seen}
use Rattle.pfc_store.proofs.Counting.{numbering_of_form, part_before, part_past, value_with, in_front, copies_next, copies_done, fields_next, fields_done}
use Rattle.pfc_store.proofs.objects.+objects.Goals as goal

pub numbered_elements-returns : goal.numbered_elements-returns
numbered_elements-returns t c =
    let f = numbering_of (all_numberings (take c.args.whole.place c.args.types.now)) c.args.element in
    sym c.loop.invariant ∙ copies_done (values_view c.loop.items.items) f c.args.monitor (c.args.count - c.loop.counter)
    (objects_view c.loop.objects) (omega arith)

pub numbered_fields-returns : goal.numbered_fields-returns
numbered_fields-returns t c =
    let before = all_numberings (take c.args.whole.place c.args.types.now) in
    sym c.loop-i.invariant ∙ fields_done (values_view c.loop-i.items.items) before (drop c.loop-i.i c.args.fields.now) c.args.monitor
    (objects_view c.loop-i.objects) (drop_all c.loop-i.i c.args.fields.now (omega arith))

pub numbered_part-returns-then-t-whole : goal.numbered_part-returns-then-t-whole
numbered_part-returns-then-t-whole t c =
    subst (λ (f : Numbering). IfOk c.numbered_value.result (λ v. f c.args.monitor (objects_view c.args.objects.now) ≡ numbered v c.numbered_value.new.objects))
    (part_before c.args.types.now c.args.whole c.args.t c.if-t-whole.true c.requires) c.numbered_value.ensures

pub numbered_part-returns-else-t-whole : goal.numbered_part-returns-else-t-whole
numbered_part-returns-else-t-whole t c =
    ap (λ f. f c.args.monitor (objects_view c.args.objects.now)) (part_past c.args.types.now c.args.whole c.args.t c.if-t-whole.false c.requires)
    ∙ ap (λ v. value_with v (objects_view c.args.objects.now)) (sym c.of.ensures)

pub numbered_value-returns-in_ok-numbered_elements-in-Some-Array :
    goal.numbered_value-returns-in_ok-numbered_elements-in-Some-Array
numbered_value-returns-in_ok-numbered_elements-in-Some-Array t c =
    let o = objects_view c.args.objects.now in
    let after = objects_view c.numbered_elements.new.objects in
    let made = numbering_of_form c.args.types.now c.args.t _ (sym c.form.ensures ∙ ap option_copied c.in-Some-Array.is ∙ ap Some c.in-Some-Array.field-0-is) in
    let f = numbering_of (all_numberings (take c.args.t.place c.args.types.now)) c.in-Some-Array.element in
    let count : c.element_count-count.result ≡ extent c.in-Some-Array.low c.in-Some-Array.high = search rules in
    ap (λ g. g c.args.monitor o) made
    ∙ ap as_compound (ap (λ n. numbered_copies n f c.args.monitor o) (sym count) ∙ c.in_ok-numbered_elements-in-Some-Array.ensures)
    ∙ ap (λ v. value_with v after) (sym (compound_seen c.in_ok-numbered_elements-in-Some-Array.field-0))

pub numbered_value-returns-in_ok-numbered_fields-in-Some-Record :
    goal.numbered_value-returns-in_ok-numbered_fields-in-Some-Record
numbered_value-returns-in_ok-numbered_fields-in-Some-Record t c =
    let o = objects_view c.args.objects.now in
    let after = objects_view c.numbered_fields.new.objects in
    let made = numbering_of_form c.args.types.now c.args.t _ (sym c.form.ensures ∙ ap option_copied c.in-Some-Record.is ∙
    ap Some c.in-Some-Record.field-0-is) in
    ap (λ g. g c.args.monitor o) made
    ∙ ap as_compound c.in_ok-numbered_fields-in-Some-Record.ensures
    ∙ ap (λ v. value_with v after) (sym (compound_seen c.in_ok-numbered_fields-in-Some-Record.field-0))

pub numbered_value-returns-in-Some-Channel : goal.numbered_value-returns-in-Some-Channel
numbered_value-returns-in-Some-Channel t c =
    let made = numbering_of_form c.args.types.now c.args.t _ (sym c.form.ensures ∙ ap option_copied c.in-Some-Channel.is ∙
    ap Some c.in-Some-Channel.field-0-is) in
    subst (λ (f : Numbering). IfOk c.channel.result (λ v. f c.args.monitor (objects_view c.args.objects.now) ≡ numbered v c.channel.new.self))
    (sym made) c.channel.ensures

pub numbered_value-returns-in-Some-Process : goal.numbered_value-returns-in-Some-Process
numbered_value-returns-in-Some-Process t c =
    let made = numbering_of_form c.args.types.now c.args.t _ (sym c.form.ensures ∙ ap option_copied c.in-Some-Process.is ∙
    ap Some c.in-Some-Process.field-0-is) in
    subst (λ (f : Numbering). IfOk c.process.result (λ v. f c.args.monitor (objects_view c.args.objects.now) ≡ numbered v c.process.new.self))
    (sym made) c.process.ensures

pub numbered_elements-loop-preserved : goal.numbered_elements-loop-preserved
numbered_elements-loop-preserved t c =
    let f = numbering_of (all_numberings (take c.args.whole.place c.args.types.now)) c.args.element in
    let left = c.args.count - (c.loop.counter + 1) in
    let after = objects_view c.numbered_part.new.objects in
    let count : c.args.count - c.loop.counter ≡ suc left = omega arith in
    let part = c.in_ok-numbered_part.field-0 in
    ap (λ vs. in_front vs (numbered_copies left f c.args.monitor after)) (ap values_view c.in_ok-push.ensures.items ∙
    map-append value_view c.loop.items.items (part ∷ []))
    ∙ copies_next (values_view c.loop.items.items) (value_view part) f c.args.monitor left (c.args.count - c.loop.counter)
    (objects_view c.loop.objects) after count c.in_ok-numbered_part.ensures
    ∙ c.loop.invariant

pub numbered_fields-loop-i-preserved : goal.numbered_fields-loop-i-preserved
numbered_fields-loop-i-preserved t c =
    let before = all_numberings (take c.args.whole.place c.args.types.now) in
    let after = objects_view c.numbered_part.new.objects in
    let part = c.in_ok-numbered_part.field-0 in
    ap (λ vs. in_front vs (numbered_fields before (drop (c.loop-i.i + 1) c.args.fields.now) c.args.monitor after)) (ap values_view c.in_ok-push.ensures.items ∙
    map-append value_view c.loop-i.items.items (part ∷ []))
    ∙ fields_next (values_view c.loop-i.items.items) (value_view part) before c.args.fields.now c.loop-i.i c.type_at.result
    c.args.monitor (objects_view c.loop-i.objects) after
    (subst (λ n. c.loop-i.i < n) c.len-i-end.ensures c.loop-i-test.true) c.type_at.ensures c.in_ok-numbered_part.ensures
    ∙ c.loop-i.invariant
