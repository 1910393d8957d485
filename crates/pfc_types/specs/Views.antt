-- The names in view at a place, as the code holds them.
use Rattle.std.specs.Prelude.{List, [], ◌∷◌, Option, Some, None}
use Rattle.std.specs.Borrow.{Bor}
use Rattle.pfc_types.specs.Scopes.{Level}
use Rattle.pfc_types.specs.declared.view.View.{View, View-F, fold-View}

abbrev pub levels_behind : Option (Bor (List Level)) → List Level
levels_behind None = []
levels_behind (Some outer) = outer.now

abbrev pub view_step : View-F (List Level) → List Level
view_step v = record { scope = v.scope; count = v.count } ∷ levels_behind v.outer

-- the levels, innermost first
abbrev pub levels : View → List Level
levels = fold-View (List Level) view_step
