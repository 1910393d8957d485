use Rattle.std.proofs.Common.{refl, ◌∙◌}
use Rattle.pfc_top.proofs.Outcomes.{both_said, first_cut, gives_unrun, second_cut, stopped_written}
use Rattle.pfc_top.proofs.answering.refuse.Goals as goal

pub returns-in_err-say-clause-written : goal.returns-in_err-say-clause-written
returns-in_err-say-clause-written g c =
    stopped_written c.from_residual-in_err-say.result _ c.from_residual-in_err-say.ensures.1 _
    (g.O.Sink.written c.args.sink.now) (g.O.Sink.written c.say.new.sink)
    (first_cut c.deref.result.now _ c.args.line.now c.args.line.now (c.deref.ensures.value ∙ c.in_ok-listing.ensures) refl
    (g.O.Sink.written c.args.sink.now) (g.O.Sink.written c.say.new.sink) c.in_err-say.ensures.front)

pub returns-in_err-say-2-clause-written : goal.returns-in_err-say-2-clause-written
returns-in_err-say-2-clause-written g c =
    stopped_written c.from_residual-in_err-say-2.result _ c.from_residual-in_err-say-2.ensures.1 _
    (g.O.Sink.written c.args.sink.now) (g.O.Sink.written c.say-2.new.sink)
    (second_cut c.deref.result.now _ c.args.line.now c.args.line.now (c.deref.ensures.value ∙ c.in_ok-listing.ensures) refl
    (g.O.Sink.written c.args.sink.now) (g.O.Sink.written c.say.new.sink)
    (g.O.Sink.written c.say-2.new.sink) c.in_ok-say.ensures.whole c.in_err-say-2.ensures.front)

pub returns-clause-written : goal.returns-clause-written
returns-clause-written g c =
    gives_unrun c.without_run.result 1 _ c.args.line.now (g.O.Sink.written c.args.sink.now) (g.O.Sink.written c.say-2.new.sink) c.without_run.ensures
    (both_said c.deref.result.now _ c.args.line.now c.args.line.now (c.deref.ensures.value ∙ c.in_ok-listing.ensures) refl
    (g.O.Sink.written c.args.sink.now) (g.O.Sink.written c.say.new.sink)
    (g.O.Sink.written c.say-2.new.sink) c.in_ok-say.ensures.whole c.in_ok-say-2.ensures.whole)
