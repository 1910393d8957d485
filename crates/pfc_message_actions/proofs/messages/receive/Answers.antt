use Rattle.std.proofs.Common.{◌≡◌, ℕ, refl, sym, ap, ◌∙◌, subst}
use Rattle.pfc_stacks.specs.Refs.{ref_of}
use Rattle.pfc_state.specs.declared.waits.Arm.TheVariants.{Send as To}
use Rattle.pfc_world.specs.Partners.{sender}
use Rattle.pfc_machines.specs.declared.machine.Machine.{Machine}
use Rattle.pfc_message_actions.specs.Messages.{channel_for, target_for, CanGive}
use Rattle.pfc_message_actions.proofs.messages.receive.Goals as goal

-- the partner can give its message
giver : (c : goal.After-rest)
    → CanGive c.args.machine.now c.in-Met.partner (To c.channel_for-c.result) (ref_of (target_for c.args.z c.args.r.number c.args.machine.now))
giver c =
    let m : Machine = c.args.machine.now in
    let z : ℕ = c.args.z in
    let channel : c.channel_for-c.result ≡ channel_for z c.args.r.number m =
    c.channel_for-c.ensures m refl ∙ ap (λ p. channel_for z p m) c.number-p.ensures in
    subst (λ n. CanGive m c.in-Met.partner (To n) (ref_of (target_for z c.args.r.number m))) (sym channel)
    (c.requires.sender c.in-Met.partner (ap (sender m.world.rows) (sym channel) ∙ c.in-Met.ensures.answer.0))

pub open_to-k-requires-clause-process : goal.open_to-k-requires-clause-process
open_to-k-requires-clause-process c = (giver c).descriptor

pub open_to-k-requires-clause-offered : goal.open_to-k-requires-clause-offered
open_to-k-requires-clause-offered c = (giver c).offered
