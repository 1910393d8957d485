use Rattle.std.proofs.Common.{refl}
use Rattle.std.proofs.KnownBytes.{Appends-trans}
use Rattle.pfc_io.proofs.Written.{AppendsFront-after, AppendsFront-append}
use Rattle.pfc_outcome.specs.Outcomes.{behind, without_run}
use Rattle.pfc_walk.proofs.Outcomes.{stopped_written}
use Rattle.pfc_walk.proofs.answering.refuse.Goals as goal

pub returns-in_err-say-clause-written : goal.returns-in_err-say-clause-written
returns-in_err-say-clause-written g c =
    stopped_written c.from_residual.result _ c.from_residual.ensures.1 (behind c.args.listing.now (without_run c.args.status c.args.line.now))
    (g.O.Sink.written c.args.sink.now) (g.O.Sink.written c.say.new.sink)
    (AppendsFront-append (g.O.Sink.written c.args.sink.now) (g.O.Sink.written c.say.new.sink) c.args.listing.now c.args.line.now c.in_err-say.ensures.front)

pub returns-in_err-say-2-clause-written : goal.returns-in_err-say-2-clause-written
returns-in_err-say-2-clause-written g c =
    stopped_written c.from_residual-in_err-say-2.result _ c.from_residual-in_err-say-2.ensures.1
    (behind c.args.listing.now (without_run c.args.status c.args.line.now)) (g.O.Sink.written c.args.sink.now)
    (g.O.Sink.written c.say-2.new.sink)
    (AppendsFront-after (g.O.Sink.written c.args.sink.now) (g.O.Sink.written c.say.new.sink)
    (g.O.Sink.written c.say-2.new.sink) c.args.listing.now c.args.line.now c.in_ok-say.ensures.whole c.in_err-say-2.ensures.front)

pub returns-clause-written : goal.returns-clause-written
returns-clause-written g c = record {
  status = refl;
  written = Appends-trans (g.O.Sink.written c.args.sink.now) (g.O.Sink.written c.say.new.sink)
      (g.O.Sink.written c.say-2.new.sink) c.args.listing.now c.args.line.now c.in_ok-say.ensures.whole c.in_ok-say-2.ensures.whole;
}
