-- The subs still to come decide.
use Rattle.std.proofs.Common.{◌≡◌, drop}
use Rattle.pfc_semantics.specs.Layouts as layouts
use Rattle.pfc_program.proofs.layouts.sub_with.Given as goal

abbrev pub invariant-loop-n : goal.invariant-loop-n
invariant-loop-n l = layouts.sub_with (drop l.n l.scopes.subs) l.i ≡ layouts.sub_with l.scopes.subs l.i
