-- A name that was found stands in its scope.
use Rattle.std.specs.Prelude.{ℕ, ◌<◌, List, length, Option, Some, None}
use Rattle.pfc_types.specs.Scopes.{Names, scope_at}
use Rattle.pfc_types.specs.declared.view.Found.{Found}

-- at the place k of the scope i; a predeclared name stands in none
abbrev pub IsHeldIn : List Names → Option ℕ → ℕ → Type 0
IsHeldIn scopes None k = Unit {0}
IsHeldIn scopes (Some i) k = (i < length scopes) × (k < length (scope_at scopes i))

abbrev pub IsHeld : List Names → Found → Type 0
IsHeld scopes f = IsHeldIn scopes f.scope f.place
