use Rattle.std.proofs.Common.{rules, ◌≡◌, ◌∙◌, ◌<◌, pos, map, take, replicate, Some, IfOk, sym, subst, ap, arith}
use Rattle.std.specs.Option.{option_copied}
use Rattle.std.proofs.lemmas.List.{take_all}
use Rattle.pfc_types.specs.Types.{extent}
use Rattle.pfc_semantics.specs.Values.{copies}
use Rattle.pfc_semantics.specs.Objects.{first_of, all_first}
use Rattle.pfc_semantics.specs.Seen.{seen, seen_parts, value_view, list, list_seen}
use Rattle.pfc_semantics.proofs.Firsts.{initial_form, initial_none, part_before, part_past, copies_seen, fields_seen, number_view, list_view, initial_channel}
use Rattle.pfc_semantics.proofs.Firsts.{initial_process, fields_next}
use Rattle.pfc_semantics.proofs.first.+values.Goals as goal

pub elements-returns : goal.elements-returns
elements-returns t c =
    let first = first_of (all_first (take c.args.whole.place c.args.types.now)) c.args.element in
    let all : c.loop.counter ≡ c.args.count = omega arith in
    ap list_seen c.loop.invariant ∙ ap (λ n. list_seen (replicate n (seen first))) all ∙ sym (copies_seen c.args.count first)

pub initial_value-returns-in_ok-elements-in-Some-Array :
    goal.initial_value-returns-in_ok-elements-in-Some-Array
initial_value-returns-in_ok-elements-in-Some-Array t c =
    let made = initial_form c.args.types.now c.args.t _ (sym c.form.ensures ∙ ap option_copied c.in-Some-Array.is ∙ ap Some c.in-Some-Array.field-0-is) in
    let before = all_first (take c.args.t.place c.args.types.now) in
    let count : c.element_count-count.result ≡ extent c.in-Some-Array.low c.in-Some-Array.high = search rules in
    list_view c.in_ok-elements-in-Some-Array.field-0
    ∙ ap list c.in_ok-elements-in-Some-Array.ensures
    ∙ ap (λ n. list (seen_parts (copies n (first_of before c.in-Some-Array.element)))) count
    ∙ ap (λ v. seen v) (sym made)

pub initial_value-returns-in_ok-parts-in-Some-Record :
    goal.initial_value-returns-in_ok-parts-in-Some-Record
initial_value-returns-in_ok-parts-in-Some-Record t c =
    let made = initial_form c.args.types.now c.args.t _ (sym c.form.ensures ∙ ap option_copied c.in-Some-Record.is ∙ ap Some c.in-Some-Record.field-0-is) in
    list_view c.in_ok-parts-in-Some-Record.field-0 ∙ ap list (c.in_ok-parts-in-Some-Record.ensures) ∙ ap (λ v. seen v) (sym made)

pub initial_value-returns-in-Some-Channel : goal.initial_value-returns-in-Some-Channel
initial_value-returns-in-Some-Channel t c =
    number_view (pos 0) ∙ ap (λ v. seen v) (sym (initial_channel c.args.types.now c.args.t _ (sym c.form.ensures ∙ ap option_copied c.in-Some-Channel.is ∙
    ap Some c.in-Some-Channel.field-0-is)))

pub initial_value-returns-in-Some-Process : goal.initial_value-returns-in-Some-Process
initial_value-returns-in-Some-Process t c =
    number_view (pos 0) ∙ ap (λ v. seen v) (sym (initial_process c.args.types.now c.args.t _ (sym c.form.ensures ∙ ap option_copied c.in-Some-Process.is ∙
    ap Some c.in-Some-Process.field-0-is)))

pub initial_value-returns-in-None : goal.initial_value-returns-in-None
initial_value-returns-in-None t c =
    number_view (pos 0) ∙ ap (λ v. seen v) (sym (initial_none c.args.types.now c.args.t (sym c.form.ensures ∙ ap option_copied c.in-None.is)))

pub part-returns-then-t-whole : goal.part-returns-then-t-whole
part-returns-then-t-whole t c =
    subst (λ v. IfOk c.initial_value.result (λ r. value_view r ≡ seen v))
    (part_before c.args.types.now c.args.whole c.args.t c.if-t-whole.true c.requires) c.initial_value.ensures

pub part-returns-else-t-whole : goal.part-returns-else-t-whole
part-returns-else-t-whole t c = number_view (pos 0) ∙ sym (ap seen (part_past c.args.types.now c.args.whole c.args.t (omega arith)))

pub parts-loop-i-preserved : goal.parts-loop-i-preserved
parts-loop-i-preserved t c =
    let before = all_first (take c.args.whole.place c.args.types.now) in
    ap (λ vs. map value_view vs) c.in_ok-push.ensures.items
    ∙ fields_next before c.args.fields.now c.loop-i.i c.type_at.result c.loop-i.items.items c.in_ok-part.field-0
    (subst (λ n. c.loop-i.i < n) c.len-i-end.ensures c.loop-i-test.true)
    c.type_at.ensures c.loop-i.invariant c.in_ok-part.ensures

pub parts-returns : goal.parts-returns
parts-returns t c =
    let before = all_first (take c.args.whole.place c.args.types.now) in
    ap list_seen c.loop-i.invariant
    ∙ ap (λ fs. list_seen (map (λ f. seen (first_of before f.1)) fs)) (take_all c.loop-i.i c.args.fields.now (omega arith))
    ∙ sym (fields_seen before c.args.fields.now)
