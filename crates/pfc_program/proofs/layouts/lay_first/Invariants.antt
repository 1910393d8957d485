-- The names so far are laid out.
use Rattle.std.proofs.Common.{◌≡◌, ◌++◌, take}
use Rattle.pfc_semantics.specs.Layouts.{laid_names}
use Rattle.pfc_program.proofs.layouts.lay_first.Given as goal

abbrev pub invariant-loop-place : goal.invariant-loop-place
invariant-loop-place l = l.layout.items ≡ l.fn.layout.items ++ laid_names (take l.place l.scope)
