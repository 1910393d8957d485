use Rattle.std.proofs.Common.{◌≡◌, ℕ, ◌+◌, ℤ, List, take, ap, ◌∙◌, w64}
use Rattle.std.proofs.lemmas.Int.{to_z-of_z}
use Rattle.pfc_stacks.specs.Refs.{number_of}
use Rattle.pfc_stacks.specs.Stacks.{operand, operands_of}
use Rattle.pfc_machines.specs.declared.alternatives.Offer.TheVariants as offered
use Rattle.pfc_machines.specs.Quiet.{makes}
use Rattle.pfc_machines.proofs.Making.{sending_is}
use Rattle.pfc_machines.proofs.machine.Machine.make_sending.Goals as goal

pub returns : goal.returns
returns c =
    let ops : List ℤ = operands_of c.args.self.now.stacks c.args.p in
    let channel : c.number_in-channel.result ≡ number_of (operand ops c.args.z) =
    c.number_in-channel.ensures ∙ ap number_of (to_z-of_z w64 c.top.result (record { sfits = c.top.type_inv }) ∙ c.top.ensures) in
    sending_is c.args.self.now c.args.p c.args.z c.args.branch (offered.Send c.number_in-channel.result c.args.z) c.requires.stack c.requires.descriptor
    c.cut.new.self c.keep_message.new.self c.make.new.self c.cut.ensures.cut c.keep_message.ensures c.make.ensures
    ∙ ap (λ (n : ℕ). makes c.args.self.now c.args.p (offered.Send n c.args.z) c.args.branch (c.args.z + 1) (take c.args.z ops)) channel
