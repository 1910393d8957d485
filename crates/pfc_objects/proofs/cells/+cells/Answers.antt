use Rattle.std.proofs.Common.{rules, ◌≡◌, ◌∙◌, ◌+◌, ◌-◌, ◌<◌, ◌++◌, ℕ, Bool, List, suc, take, Some, OnOk, sym, subst, ap, arith}
use Rattle.std.specs.Option.{option_copied}
use Rattle.pfc_types.specs.Types.{extent}
use Rattle.pfc_translation.specs.Objects.{cells_before, times, all_objects}
use Rattle.pfc_objects.proofs.ObjectCells.{cells_of_form, part_before, part_past, times_next, fields_next}
use Rattle.pfc_objects.proofs.cells.+cells.Goals as goal

pub add_elements-loop-preserved : goal.add_elements-loop-preserved
add_elements-loop-preserved t c =
    let element = cells_before (all_objects (take c.args.whole.place c.args.types.now)) c.args.element in
    let left : c.args.count - c.loop.counter ≡ suc (c.args.count - (c.loop.counter + 1)) = omega arith in
    times_next c.loop.cells.items c.add_part.new.cells.items element (c.args.count - c.loop.counter) (c.args.count - (c.loop.counter + 1)) left
    c.in_ok-add_part.ensures
    ∙ c.loop.invariant

pub add_fields-loop-i-preserved : goal.add_fields-loop-i-preserved
add_fields-loop-i-preserved t c =
    let before = all_objects (take c.args.whole.place c.args.types.now) in
    fields_next c.loop-i.cells.items c.add_part.new.cells.items before c.args.fields.now c.loop-i.i c.type_at.result
    (subst (λ (n : ℕ). c.loop-i.i < n) c.len-i-end.ensures c.loop-i-test.true) c.type_at.ensures c.in_ok-add_part.ensures
    ∙ c.loop-i.invariant

pub add_part-returns-then-t-whole : goal.add_part-returns-then-t-whole
add_part-returns-then-t-whole t c =
    subst (λ (cells : List Bool). OnOk c.add_type.result (c.add_type.new.cells.items ≡ c.args.cells.now.items ++ cells))
    (part_before c.args.types.now c.args.whole c.args.t c.if-t-whole.true c.requires) c.add_type.ensures

pub add_part-returns-else-t-whole : goal.add_part-returns-else-t-whole
add_part-returns-else-t-whole t c =
    subst (λ (cells : List Bool). OnOk c.add_cell.result (c.add_cell.new.cells.items ≡ c.args.cells.now.items ++ cells))
    (sym (part_past c.args.types.now c.args.whole c.args.t c.if-t-whole.false c.requires)) c.add_cell.ensures

pub add_type-returns-in-Some-Array : goal.add_type-returns-in-Some-Array
add_type-returns-in-Some-Array t c =
    let made = cells_of_form c.args.types.now c.args.t _ (sym c.form.ensures ∙ ap option_copied c.in-Some-Array.is ∙ ap Some c.in-Some-Array.field-0-is) in
    let element = cells_before (all_objects (take c.args.t.place c.args.types.now)) c.in-Some-Array.element in
    let count : c.element_count.result ≡ extent c.in-Some-Array.low c.in-Some-Array.high = search rules in
    subst (λ (cells : List Bool). OnOk c.add_elements.result (c.add_elements.new.cells.items ≡ c.args.cells.now.items ++ cells)) (sym made)
    (subst (λ (n : ℕ). OnOk c.add_elements.result (c.add_elements.new.cells.items ≡ c.args.cells.now.items ++ times n element)) count
    c.add_elements.ensures)

pub add_type-returns-in-Some-Record : goal.add_type-returns-in-Some-Record
add_type-returns-in-Some-Record t c =
    subst (λ (cells : List Bool). OnOk c.add_fields.result (c.add_fields.new.cells.items ≡ c.args.cells.now.items ++ cells))
    (sym (cells_of_form c.args.types.now c.args.t _ (sym c.form.ensures ∙ ap option_copied c.in-Some-Record.is ∙ ap Some c.in-Some-Record.field-0-is)))
    c.add_fields.ensures

pub add_type-returns-in-Some-Channel : goal.add_type-returns-in-Some-Channel
add_type-returns-in-Some-Channel t c =
    subst (λ (cells : List Bool). OnOk c.add_cell.result (c.add_cell.new.cells.items ≡ c.args.cells.now.items ++ cells))
    (sym (cells_of_form c.args.types.now c.args.t _ (sym c.form.ensures ∙ ap option_copied c.in-Some-Channel.is ∙ ap Some c.in-Some-Channel.field-0-is)))
    c.add_cell.ensures

pub add_type-returns-in-Some-Process : goal.add_type-returns-in-Some-Process
add_type-returns-in-Some-Process t c =
    subst (λ (cells : List Bool). OnOk c.add_cell-in-Some-Process.result (c.add_cell-in-Some-Process.new.cells.items ≡ c.args.cells.now.items ++ cells))
    (sym (cells_of_form c.args.types.now c.args.t _ (sym c.form.ensures ∙ ap option_copied c.in-Some-Process.is ∙ ap Some c.in-Some-Process.field-0-is)))
    c.add_cell-in-Some-Process.ensures
