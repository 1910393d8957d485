-- A type stands behind its parts. What was added so far, and what is left to add, are all.
use Rattle.std.proofs.Common.{◌≡◌, ◌+◌, ◌-◌, ◌*◌, ◌++◌, take, drop, pos}
use Rattle.std.specs.Prelude.{◌+ℤ◌}
use Rattle.pfc_translation.specs.Objects.{all_labelled, labelled_before, elements_labelled, fields_labelled}
use Rattle.pfc_labels.specs.Processes.{infos}
use Rattle.pfc_labels.proofs.labels.+labels.Given as goal

abbrev pub decreases-add_elements : goal.decreases-add_elements
decreases-add_elements l = 3 * l.whole.place + 1

abbrev pub decreases-add_type : goal.decreases-add_type
decreases-add_type l = 3 * l.t.place + 2

abbrev pub decreases-add_part : goal.decreases-add_part
decreases-add_part l = 3 * l.whole.place

abbrev pub decreases-add_fields : goal.decreases-add_fields
decreases-add_fields l = 3 * l.whole.place + 1

abbrev pub invariant-add_elements-loop-k : goal.invariant-add_elements-loop-k
invariant-add_elements-loop-k l =
    let f = labelled_before (all_labelled (take l.whole.place l.program.tables.types.now)) l.element in
    l.all.items ++ infos l.program (elements_labelled (l.count - l.k) (l.low +ℤ pos l.k) f l.label) ≡ l.fn.all.items ++ infos l.program
    (elements_labelled l.count l.low f l.label)

abbrev pub invariant-add_fields-loop-i : goal.invariant-add_fields-loop-i
invariant-add_fields-loop-i l =
    let before = all_labelled (take l.whole.place l.program.tables.types.now) in
    l.all.items ++ infos l.program (fields_labelled before (drop l.i l.fields) l.label) ≡ l.fn.all.items ++ infos l.program
    (fields_labelled before l.fields l.label)
