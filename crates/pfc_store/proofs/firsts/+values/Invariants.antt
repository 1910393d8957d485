-- A type stands behind its parts. What was pushed so far is seen as the parts that were gone through.
use Rattle.std.proofs.Common.{◌≡◌, ◌+◌, ◌*◌, map, take, replicate}
use Rattle.pfc_semantics.specs.Objects.{first_of, all_first}
use Rattle.pfc_store.specs.Views.{values_view}
use Rattle.pfc_store.proofs.firsts.+values.Given as goal

abbrev pub decreases-elements : goal.decreases-elements
decreases-elements l = 3 * l.whole.place + 1

abbrev pub decreases-first_value : goal.decreases-first_value
decreases-first_value l = 3 * l.t.place + 2

abbrev pub decreases-first_part : goal.decreases-first_part
decreases-first_part l = 3 * l.whole.place

abbrev pub decreases-parts : goal.decreases-parts
decreases-parts l = 3 * l.whole.place + 1

abbrev pub invariant-elements-loop : goal.invariant-elements-loop
invariant-elements-loop l = values_view l.items.items ≡ replicate l.counter (first_of (all_first (take l.whole.place l.types)) l.element)

abbrev pub invariant-parts-loop-i : goal.invariant-parts-loop-i
invariant-parts-loop-i l = values_view l.items.items ≡ map (λ f. first_of (all_first (take l.whole.place l.types)) f.1) (take l.i l.fields)
