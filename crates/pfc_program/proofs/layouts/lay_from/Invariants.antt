-- The names still to come complete the layout.
use Rattle.std.proofs.Common.{◌≡◌, ◌++◌, drop}
use Rattle.pfc_semantics.specs.Layouts.{laid_names}
use Rattle.pfc_program.proofs.layouts.lay_from.Given as goal

abbrev pub invariant-loop-place : goal.invariant-loop-place
invariant-loop-place l = l.layout.items ++ laid_names (drop l.place l.scope) ≡ l.fn.layout.items ++ laid_names (drop l.fn.k l.scope)
