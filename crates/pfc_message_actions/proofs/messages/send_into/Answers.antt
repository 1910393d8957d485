use Rattle.std.proofs.Common.{◌≡◌, ◌+◌, drop, Option, sym, ap, ◌∙◌}
use Rattle.pfc_stacks.specs.Effects.{passed}
use Rattle.pfc_stacks.specs.Stacks.{Stacks, operands_of}
use Rattle.pfc_machines.specs.declared.alternatives.KeptAlternative.{KeptAlternative}
use Rattle.pfc_machines.specs.declared.machine.Machine.{Machine}
use Rattle.pfc_message_actions.specs.Messages.{sent_into}
use Rattle.pfc_message_actions.proofs.Sending.{popped_more}
use Rattle.pfc_message_actions.proofs.messages.send_into.Goals as goal

pub returns-in-None : goal.returns-in-None
returns-in-None c =
    let m : Machine = c.args.machine.now in
    let p = c.args.p in
    let stacks : c.leave.new.stacks ≡ passed m.stacks p (drop (c.args.z + 1) (operands_of m.stacks p)) =
    c.leave.ensures ∙ ap (λ (s : Stacks). passed s p (drop 1 (operands_of s p))) c.cut.ensures.cut ∙ popped_more m.stacks p c.args.z c.requires.process in
    ap (λ (s : Stacks). (let after : Machine = record m { stacks = s } in after)) stacks
    ∙ sym (ap (λ (k : Option KeptAlternative). sent_into k c.args.z p c.args.q m) c.in-None.is)
