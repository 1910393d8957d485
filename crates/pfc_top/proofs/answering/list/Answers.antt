use Rattle.std.proofs.Common.{◌∙◌}
use Rattle.pfc_top.proofs.Outcomes.{second_cut, err_weaker}
use Rattle.pfc_top.proofs.answering.list.Goals as goal

pub returns-clause-front : goal.returns-clause-front
returns-clause-front g c =
    err_weaker c.say-2.result _ _
    (second_cut c.deref.result.now _ _ c.deref-2.result.now (c.deref.ensures.value ∙ c.in_ok-listing.ensures) (c.deref-2.ensures.value ∙ c.in_ok-code.ensures)
    (g.O.Sink.written c.args.sink.now) (g.O.Sink.written c.say.new.sink) (g.O.Sink.written c.say-2.new.sink) c.in_ok-say.ensures.whole)
    c.say-2.ensures.front
