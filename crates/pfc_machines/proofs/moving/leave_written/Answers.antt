use Rattle.std.proofs.Common.{◌≡◌, ℤ, List, [], ◌∷◌, drop, ap, ◌∙◌, w64}
use Rattle.std.proofs.lemmas.Int.{to_z-of_z}
use Rattle.pfc_stacks.specs.declared.refs.Ref.{Ref}
use Rattle.pfc_stacks.specs.Effects.{passed}
use Rattle.pfc_stacks.specs.Refs.{ref_of}
use Rattle.pfc_stacks.specs.Stacks.{operand, operands_of, written}
use Rattle.pfc_machines.proofs.Placing.{with_operands, written_is}
use Rattle.pfc_machines.proofs.moving.leave_written.Goals as goal

pub returns : goal.returns
returns c =
    let ops : List ℤ = operands_of c.args.stacks.now c.args.p in
    let to : c.of-to.result ≡ ref_of (operand ops 0) =
    c.of-to.ensures.of ∙ ap ref_of (to_z-of_z w64 c.top.result (record { sfits = c.top.type_inv }) ∙ c.top.ensures) in
    written_is c.args.stacks.now c.cut.new.self c.push.new.self c.copy_out.new.self c.leave.new.stacks c.args.p c.of-to.result
    c.args.v (drop 1 ops) c.requires.process
    c.cut.ensures.cut
    (c.push.ensures ∙ ap (λ (x : ℤ). with_operands c.cut.new.self c.args.p (x ∷ operands_of c.cut.new.self c.args.p)) (to_z-of_z w64 c.args.v c.ranges.v))
    c.copy_out.ensures c.leave.ensures
    ∙ ap (λ (r : Ref). passed (written c.args.stacks.now r (c.args.v ∷ [])) c.args.p (drop 1 ops)) to
