use Rattle.std.proofs.Common.{refl, sym, ◌∙◌}
use Rattle.pfc_messages.proofs.Exchanging.{sends_met, sends_alone_ok}
use Rattle.pfc_messages.proofs.messages.sends.Goals as goal

pub returns-in-Ok-sends_to-clause-ok : goal.returns-in-Ok-sends_to-clause-ok
returns-in-Ok-sends_to-clause-ok c =
    sends_met c.args.state.now c.sends_to.new.state c.args.p c.in-Some.partner.process c.in-Ok.number c.args.channel
    c.args.value c.index.result.now c.in-Some.partner
    c.in-Ok-sends_to.done c.index.ensures c.in-Ok.ensures (sym c.in-Some.is ∙ c.first_open_to.ensures.partner) refl c.in-Ok-sends_to.ensures.ok

pub returns-clause-ok : goal.returns-clause-ok
returns-clause-ok c =
    sends_alone_ok c.args.state.now c.waits.new.state c.args.p c.in-Ok.number c.args.channel c.args.value c.index.result.now c.waits.result c.index.ensures
    c.in-Ok.ensures (sym c.in-None.is ∙ c.first_open_to.ensures.partner) c.waits.ensures.ok

pub returns-clause-err : goal.returns-clause-err
returns-clause-err c = c.waits.ensures.err
