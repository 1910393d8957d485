use Rattle.std.proofs.Common.{refl, sym, ◌∙◌}
use Rattle.pfc_messages.proofs.Exchanging.{receives_met, receives_alone_ok}
use Rattle.pfc_messages.proofs.messages.receives.Goals as goal

pub returns-in-Ok-receives_from-clause-ok : goal.returns-in-Ok-receives_from-clause-ok
returns-in-Ok-receives_from-clause-ok c =
    receives_met c.args.state.now c.receives_from.new.state c.args.p c.in-Some.partner.process c.in-Ok.number c.args.channel
    c.args.target c.index.result.now c.in-Some.partner
    c.in-Ok-receives_from.done c.index.ensures c.in-Ok.ensures (sym c.in-Some.is ∙ c.first_open_to.ensures.partner) refl c.in-Ok-receives_from.ensures.ok

pub returns-clause-ok : goal.returns-clause-ok
returns-clause-ok c =
    receives_alone_ok c.args.state.now c.waits.new.state c.args.p c.in-Ok.number c.args.channel c.args.target c.index.result.now c.waits.result c.index.ensures
    c.in-Ok.ensures (sym c.in-None.is ∙ c.first_open_to.ensures.partner) c.waits.ensures.ok

pub returns-clause-err : goal.returns-clause-err
returns-clause-err c = c.waits.ensures.err
