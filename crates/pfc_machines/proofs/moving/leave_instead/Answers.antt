use Rattle.std.proofs.Common.{◌∷◌, ℤ, ap, ◌∙◌, drop, w64}
use Rattle.std.proofs.lemmas.Int.{to_z-of_z}
use Rattle.pfc_stacks.specs.Effects.{passed}
use Rattle.pfc_stacks.specs.Stacks.{operands_of}
use Rattle.pfc_machines.proofs.Placing.{instead_is}
use Rattle.pfc_machines.proofs.moving.leave_instead.Goals as goal

pub returns : goal.returns
returns c =
    instead_is c.args.stacks.now c.cut.new.self c.leave_more.new.stacks c.args.p c.args.v
    (drop 1 (operands_of c.args.stacks.now c.args.p)) c.requires.process c.cut.ensures.cut
    (c.leave_more.ensures ∙ ap (λ (x : ℤ). passed c.cut.new.self c.args.p (x ∷ operands_of c.cut.new.self c.args.p)) (to_z-of_z w64 c.args.v c.ranges.v))
