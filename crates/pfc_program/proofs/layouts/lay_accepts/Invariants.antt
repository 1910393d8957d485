-- The scopes still to come complete the layout.
use Rattle.std.proofs.Common.{◌≡◌, ◌++◌, ◌-◌, drop, take}
use Rattle.pfc_semantics.specs.Layouts.{accepts_laid}
use Rattle.pfc_program.proofs.layouts.lay_accepts.Given as goal

abbrev pub invariant-loop-i : goal.invariant-loop-i
invariant-loop-i l =
    l.layout.items ++ accepts_laid (take (l.to - l.i) (drop l.i l.scopes.scopes)) ≡ l.fn.layout.items ++ accepts_laid
    (take (l.to - l.from) (drop l.from l.scopes.scopes))
