-- A type stands behind its parts. What was pushed so far, and what is left to number, are all.
use Rattle.std.proofs.Common.{◌≡◌, ◌+◌, ◌-◌, ◌*◌, take, drop}
use Rattle.pfc_semantics.specs.Objects.{numbering_of, all_numberings, numbered_copies, numbered_fields}
use Rattle.pfc_store.specs.Views.{values_view}
use Rattle.pfc_store.specs.Numbered.{objects_view}
use Rattle.pfc_store.proofs.Counting.{in_front}
use Rattle.pfc_store.proofs.objects.+objects.Given as goal

abbrev pub decreases-numbered_elements : goal.decreases-numbered_elements
decreases-numbered_elements l = 3 * l.whole.place + 1

abbrev pub decreases-numbered_value : goal.decreases-numbered_value
decreases-numbered_value l = 3 * l.t.place + 2

abbrev pub decreases-numbered_part : goal.decreases-numbered_part
decreases-numbered_part l = 3 * l.whole.place

abbrev pub decreases-numbered_fields : goal.decreases-numbered_fields
decreases-numbered_fields l = 3 * l.whole.place + 1

abbrev pub invariant-numbered_elements-loop : goal.invariant-numbered_elements-loop
invariant-numbered_elements-loop l =
    let f = numbering_of (all_numberings (take l.whole.place l.types)) l.element in
    in_front (values_view l.items.items) (numbered_copies (l.count - l.counter) f l.monitor (objects_view l.objects)) ≡
    numbered_copies l.count f l.monitor (objects_view l.fn.objects)

abbrev pub invariant-numbered_fields-loop-i : goal.invariant-numbered_fields-loop-i
invariant-numbered_fields-loop-i l =
    let before = all_numberings (take l.whole.place l.types) in
    in_front (values_view l.items.items) (numbered_fields before (drop l.i l.fields) l.monitor (objects_view l.objects)) ≡
    numbered_fields before l.fields l.monitor (objects_view l.fn.objects)
