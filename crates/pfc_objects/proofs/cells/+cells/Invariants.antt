-- A type stands behind its parts. What was added so far, and what is left to add, are all.
use Rattle.std.proofs.Common.{◌≡◌, ◌+◌, ◌-◌, ◌*◌, ◌++◌, take, drop}
use Rattle.pfc_translation.specs.Objects.{all_objects, cells_before, object_fields, times}
use Rattle.pfc_objects.proofs.cells.+cells.Given as goal

abbrev pub decreases-add_elements : goal.decreases-add_elements
decreases-add_elements l = 3 * l.whole.place + 1

abbrev pub decreases-add_type : goal.decreases-add_type
decreases-add_type l = 3 * l.t.place + 2

abbrev pub decreases-add_part : goal.decreases-add_part
decreases-add_part l = 3 * l.whole.place

abbrev pub decreases-add_fields : goal.decreases-add_fields
decreases-add_fields l = 3 * l.whole.place + 1

abbrev pub invariant-add_elements-loop : goal.invariant-add_elements-loop
invariant-add_elements-loop l =
    let element = cells_before (all_objects (take l.whole.place l.types)) l.element in
    l.cells.items ++ times (l.count - l.counter) element ≡ l.fn.cells.items ++ times l.count element

abbrev pub invariant-add_fields-loop-i : goal.invariant-add_fields-loop-i
invariant-add_fields-loop-i l =
    let before = all_objects (take l.whole.place l.types) in
    l.cells.items ++ object_fields before (drop l.i l.fields) ≡ l.fn.cells.items ++ object_fields before l.fields
