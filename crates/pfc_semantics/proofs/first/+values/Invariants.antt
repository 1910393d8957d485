-- A type stands behind its parts. What was pushed so far is seen as the parts that were gone through.
use Rattle.std.proofs.Common.{◌≡◌, ◌+◌, ◌*◌, map, take, replicate}
use Rattle.pfc_semantics.specs.Objects.{first_of, all_first}
use Rattle.pfc_semantics.specs.Seen.{seen, value_view}
use Rattle.pfc_semantics.proofs.first.+values.Given as goal

abbrev pub decreases-elements : goal.decreases-elements
decreases-elements l = 3 * l.whole.place + 1

abbrev pub decreases-initial_value : goal.decreases-initial_value
decreases-initial_value l = 3 * l.t.place + 2

abbrev pub decreases-part : goal.decreases-part
decreases-part l = 3 * l.whole.place

abbrev pub decreases-parts : goal.decreases-parts
decreases-parts l = 3 * l.whole.place + 1

abbrev pub invariant-elements-loop : goal.invariant-elements-loop
invariant-elements-loop l = map value_view l.items.items ≡ replicate l.counter (seen (first_of (all_first (take l.whole.place l.types)) l.element))

abbrev pub invariant-parts-loop-i : goal.invariant-parts-loop-i
invariant-parts-loop-i l = map value_view l.items.items ≡ map (λ f. seen (first_of (all_first (take l.whole.place l.types)) f.1)) (take l.i l.fields)
