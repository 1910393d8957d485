use Rattle.std.proofs.Common.{ℕ, Contains, ◌↔◌}
use Rattle.pfc_hb.proofs.PartLaws.{IsFront}
use Rattle.pfc_hb.proofs.parts.numbers_outside.Given as goal

abbrev pub invariant-loop-depth : goal.invariant-loop-depth
invariant-loop-depth l = (n : ℕ) → Contains l.numbers.items n ↔ IsFront l.parts.keys l.spot l.depth n
