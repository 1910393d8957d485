-- The rows so far hold the places of their scopes.
use Rattle.std.proofs.Common.{◌≡◌, ℕ, ◌<◌, [], length, get_or}
use Rattle.pfc_types.specs.Scopes.{scope_at}
use Rattle.pfc_semantics.specs.Layouts.{variable_place}
use Rattle.pfc_program.proofs.places.rows.Given as goal

abbrev pub invariant-loop-i : goal.invariant-loop-i
invariant-loop-i l =
    (length l.rows.items ≡ l.i)
    × ((i k : ℕ) → i < l.i → k < length (scope_at l.lookups.scopes.now.scopes i) →
    get_or (get_or l.rows.items i []) k 0 ≡ variable_place l.lookups.scopes.now i k)
