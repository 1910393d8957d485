use Rattle.std.proofs.Common.{rules, ◌≡◌, ◌∙◌, ◌+◌, ◌-◌, ◌<◌, ◌∷◌, ◌++◌, [], ℕ, ℤ, pos, suc, take, drop, Some, None, OnOk, sym, subst, ap, ap₂, arith}
use Rattle.std.specs.Prelude.{◌+ℤ◌}
use Rattle.std.proofs.lemmas.Int.{ints}
use Rattle.std.specs.Option.{option_copied}
use Rattle.pfc_tree.specs.Symbols.{Text}
use Rattle.std.proofs.lemmas.List.{drop_all}
use Rattle.pfc_types.specs.Types.{extent}
use Rattle.pfc_translation.specs.Objects.{Labelled, labelled_before, all_labelled, elements_labelled, process_info}
use Rattle.pfc_labels.specs.Processes.{known, infos}
use Rattle.pfc_labels.proofs.Labelled.{labelled_of_form, part_before, part_past, none_held, nothing_labelled, none_labelled, elements_next, elements_done}
use Rattle.pfc_labels.proofs.Labelled.{fields_next, fields_done}
use Rattle.pfc_labels.proofs.labels.+labels.Goals as goal

pub add_elements-loop-k-init : goal.add_elements-loop-k-init
add_elements-loop-k-init t c =
    let f = labelled_before (all_labelled (take c.args.whole.place c.args.program.now.tables.types.now)) c.args.element in
    let start : c.args.low.now +ℤ pos 0 ≡ c.args.low.now = omega (arith, ints) in
    let all : c.args.count - 0 ≡ c.args.count = omega arith in
    ap₂ (λ (n : ℕ) (i : ℤ). c.args.all.now.items ++ infos c.args.program.now (elements_labelled n i f c.args.label.now)) all start

pub add_elements-loop-k-preserved : goal.add_elements-loop-k-preserved
add_elements-loop-k-preserved t c =
    let f = labelled_before (all_labelled (take c.args.whole.place c.args.program.now.tables.types.now)) c.args.element in
    let left : c.args.count - c.loop-k.k ≡ suc (c.args.count - (c.loop-k.k + 1)) = omega arith in
    let behind : c.args.low.now +ℤ pos (c.loop-k.k + 1) ≡ c.args.low.now +ℤ pos c.loop-k.k +ℤ pos 1 = omega (arith, ints) in
    elements_next (process_info (known c.args.program.now)) c.loop-k.all.items c.add_part.new.all.items f c.args.label.now c.in_ok-own.own.items
    (c.args.low.now +ℤ pos c.loop-k.k)
    (c.args.low.now +ℤ pos (c.loop-k.k + 1)) (c.args.count - c.loop-k.k) (c.args.count - (c.loop-k.k + 1)) left c.in_ok-own.ensures behind
    (c.in_ok-add_part.ensures ∙ ap (λ (x : Text). c.loop-k.all.items ++ infos c.args.program.now (f x)) c.deref.ensures.value)
    ∙ c.loop-k.invariant

pub add_elements-returns : goal.add_elements-returns
add_elements-returns t c =
    let f = labelled_before (all_labelled (take c.args.whole.place c.args.program.now.tables.types.now)) c.args.element in
    elements_done (process_info (known c.args.program.now)) c.loop-k.all.items f c.args.label.now (c.args.low.now +ℤ pos c.loop-k.k)
    (c.args.count - c.loop-k.k) (omega arith) ∙ c.loop-k.invariant

pub add_fields-loop-i-preserved : goal.add_fields-loop-i-preserved
add_fields-loop-i-preserved t c =
    let before = all_labelled (take c.args.whole.place c.args.program.now.tables.types.now) in
    fields_next (process_info (known c.args.program.now)) c.loop-i.all.items c.add_part.new.all.items before c.args.fields.now c.loop-i.i c.in-Some.name.now
    c.args.label.now c.in_ok-own.own.items c.type_at.result
    (subst (λ (n : ℕ). c.loop-i.i < n) c.len-i-end.ensures c.loop-i-test.true) c.type_at.ensures c.in-Some.ensures c.in_ok-own.ensures
    (c.in_ok-add_part.ensures ∙
    ap (λ (x : Text). c.loop-i.all.items ++ infos c.args.program.now (labelled_before before c.type_at.result x)) c.deref.ensures.value)
    ∙ c.loop-i.invariant

pub add_fields-returns : goal.add_fields-returns
add_fields-returns t c =
    let before = all_labelled (take c.args.whole.place c.args.program.now.tables.types.now) in
    fields_done (process_info (known c.args.program.now)) c.loop-i.all.items before (drop c.loop-i.i c.args.fields.now) c.args.label.now
    (drop_all c.loop-i.i c.args.fields.now (omega arith)) ∙ c.loop-i.invariant

pub add_part-returns-then-t-whole : goal.add_part-returns-then-t-whole
add_part-returns-then-t-whole t c =
    subst (λ (f : Labelled). OnOk c.add_type.result (c.add_type.new.all.items ≡ c.args.all.now.items ++ infos c.args.program.now (f c.args.label.now)))
    (part_before c.args.program.now.tables.types.now c.args.whole c.args.t c.if-t-whole.true c.requires) c.add_type.ensures

pub add_part-returns-else-t-whole : goal.add_part-returns-else-t-whole
add_part-returns-else-t-whole t c =
    none_labelled (process_info (known c.args.program.now)) c.args.all.now.items _
    (ap (λ (f : Labelled). f c.args.label.now) (part_past c.args.program.now.tables.types.now c.args.whole c.args.t c.if-t-whole.false c.requires))

pub add_type-returns-then-held-eq0 : goal.add_type-returns-then-held-eq0
add_type-returns-then-held-eq0 t c =
    none_labelled (process_info (known c.args.program.now)) c.args.all.now.items _
    (none_held c.args.program.now.tables.types.now c.args.t c.args.label.now (search rules))

pub add_type-returns-in-Some-Array : goal.add_type-returns-in-Some-Array
add_type-returns-in-Some-Array t c =
    let made = labelled_of_form c.args.program.now.tables.types.now c.args.t _ (sym c.form.ensures ∙
    ap option_copied c.in-Some-Array.is ∙ ap Some c.in-Some-Array.field-0-is) in
    let f = labelled_before (all_labelled (take c.args.t.place c.args.program.now.tables.types.now)) c.in-Some-Array.element in
    let count : c.element_count-count.result ≡ extent c.in-Some-Array.low c.in-Some-Array.high = search rules in
    subst (λ (g : Labelled). OnOk c.add_elements.result (c.add_elements.new.all.items ≡ c.args.all.now.items ++ infos c.args.program.now (g c.args.label.now)))
    (sym made)
    (subst (λ (n : ℕ). OnOk c.add_elements.result (c.add_elements.new.all.items ≡ c.args.all.now.items ++ infos c.args.program.now
    (elements_labelled n c.in-Some-Array.low f c.args.label.now))) count
    c.add_elements.ensures)

pub add_type-returns-in-Some-Record : goal.add_type-returns-in-Some-Record
add_type-returns-in-Some-Record t c =
    subst (λ (g : Labelled). OnOk c.add_fields.result (c.add_fields.new.all.items ≡ c.args.all.now.items ++ infos c.args.program.now (g c.args.label.now)))
    (sym (labelled_of_form c.args.program.now.tables.types.now c.args.t _ (sym c.form.ensures ∙ ap option_copied c.in-Some-Record.is ∙
    ap Some c.in-Some-Record.field-0-is))) c.add_fields.ensures

pub add_type-returns-in-Some-Process : goal.add_type-returns-in-Some-Process
add_type-returns-in-Some-Process t c =
    subst (λ (g : Labelled). OnOk c.add_process.result (c.add_process.new.all.items ≡ c.args.all.now.items ++ infos c.args.program.now (g c.args.label.now)))
    (sym (labelled_of_form c.args.program.now.tables.types.now c.args.t _ (sym c.form.ensures ∙ ap option_copied c.in-Some-Process.is ∙
    ap Some c.in-Some-Process.field-0-is))) c.add_process.ensures

pub add_type-returns-in-Some-Channel : goal.add_type-returns-in-Some-Channel
add_type-returns-in-Some-Channel t c =
    none_labelled (process_info (known c.args.program.now)) c.args.all.now.items _
    (ap (λ (f : Labelled). f c.args.label.now)
    (labelled_of_form c.args.program.now.tables.types.now c.args.t _ (sym c.form.ensures ∙ ap option_copied c.in-Some-Channel.is ∙
    ap Some c.in-Some-Channel.field-0-is)))

pub add_type-returns-in-None : goal.add_type-returns-in-None
add_type-returns-in-None t c =
    none_labelled (process_info (known c.args.program.now)) c.args.all.now.items _
    (nothing_labelled c.args.program.now.tables.types.now c.args.t c.args.label.now (sym c.form.ensures ∙ ap option_copied c.in-None.is))
