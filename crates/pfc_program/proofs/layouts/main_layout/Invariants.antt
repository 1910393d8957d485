-- The names still to come complete the layout.
use Rattle.std.proofs.Common.{◌≡◌, ◌++◌, drop}
use Rattle.pfc_types.specs.Scopes.{scope_at}
use Rattle.pfc_semantics.specs.Layouts as layouts
use Rattle.pfc_program.proofs.layouts.main_layout.Given as goal

abbrev pub invariant-loop-place : goal.invariant-loop-place
invariant-loop-place l =
    l.layout.items ++ layouts.main_layout l.scopes (drop l.place (scope_at l.scopes.scopes 0)) ≡ layouts.main_layout l.scopes (scope_at l.scopes.scopes 0)
