use Rattle.std.proofs.Common.{◌≡◌, ℕ, refl, sym, ap, ◌∙◌, subst}
use Rattle.pfc_state.specs.declared.waits.Arm.TheVariants.{Receive as From}
use Rattle.pfc_world.specs.Partners.{receiver}
use Rattle.pfc_machines.specs.declared.machine.Machine.{Machine}
use Rattle.pfc_message_actions.specs.Messages.{channel_under, CanTake}
use Rattle.pfc_message_actions.proofs.messages.send.Goals as goal

-- the partner can take the message
taker : (c : goal.After-rest) → CanTake c.args.machine.now c.in-Met.partner (From c.channel_under-c.result) c.args.z
taker c =
    let m : Machine = c.args.machine.now in
    let z : ℕ = c.args.z in
    let channel : c.channel_under-c.result ≡ channel_under z c.args.r.number m =
    c.channel_under-c.ensures m refl ∙ ap (λ p. channel_under z p m) c.number-p.ensures in
    subst (λ n. CanTake m c.in-Met.partner (From n) z) (sym channel)
    (c.requires.receiver c.in-Met.partner (ap (receiver m.world.rows) (sym channel) ∙ c.in-Met.ensures.answer.0))

pub open_to-k-requires-clause-process : goal.open_to-k-requires-clause-process
open_to-k-requires-clause-process c = (taker c).descriptor

pub open_to-k-requires-clause-offered : goal.open_to-k-requires-clause-offered
open_to-k-requires-clause-offered c = (taker c).offered
