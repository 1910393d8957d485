use Rattle.std.proofs.Common.{sym, ◌∙◌, arith}
use Rattle.std.proofs.lemmas.Result.{IfOk-weaker}
use Rattle.pfc_events.proofs.Communicating.{written_alone, written_with}
use Rattle.pfc_events.proofs.sides.offer_writes.Goals as goal

pub returns-in_default-partner_of : goal.returns-in_default-partner_of
returns-in_default-partner_of c =
    written_alone c.args.state.now c.args.p c.index-own.result.now c.args.offer.now c.in-Some.arm c.new-in_default-partner_of.result.items c.index-own.ensures
    (sym c.in-Some.is ∙ c.in_ok-arm.ensures) (sym c.in_default-partner_of.is ∙ c.partner_of.ensures.partner) c.new-in_default-partner_of.ensures.items

pub returns : goal.returns
returns c =
    IfOk-weaker c.writes_between.result _ _
    (λ accesses written.
    written_with c.args.state.now c.args.p c.in-Some-partner_of.q c.index-own.result.now c.index-partner.result.now
    c.args.offer.now c.in-Some.arm accesses.items
    c.index-own.ensures (omega arith) c.index-partner.ensures c.requires.ready c.in-Some-partner_of.ensures.waits (sym c.in-Some.is ∙ c.in_ok-arm.ensures)
    (sym c.in-Some-partner_of.is ∙ c.partner_of.ensures.partner) written)
    c.writes_between.ensures
