use Rattle.std.proofs.Common.{IfErr, IfOk, subst, sym}
use Rattle.std.specs.Io.KnownBytes.{Appends}
use Rattle.std.proofs.KnownBytes.{Appends-nil}
use Rattle.pfc_io.specs.Writes.{AppendsFront}
use Rattle.pfc_walker.specs.declared.telling.Told.{Told}
use Rattle.pfc_walk.specs.Running.{IsEnded}
use Rattle.pfc_walk.specs.Traces.{end_by}
use Rattle.pfc_walk.proofs.reporting.write_end.Goals as goal

pub returns-in-Output-clause-whole : goal.returns-in-Output-clause-whole
returns-in-Output-clause-whole g c = λ tree settings.
    subst
    (λ (t : Told). IsEnded t tree settings c.args.ending.now c.args.walker.now c.args.labels.items
    → IfOk c.write_report.result (λ done. Appends (g.O.Sink.written c.args.sink.now) (g.O.Sink.written c.write_report.new.sink) (end_by t tree settings)))
    (sym c.in-Output.is) (c.write_report.ensures.whole tree settings)

pub returns-in-Output-clause-front : goal.returns-in-Output-clause-front
returns-in-Output-clause-front g c = λ tree settings.
    subst
    (λ (t : Told). IsEnded t tree settings c.args.ending.now c.args.walker.now c.args.labels.items
    → IfErr c.write_report.result (λ stop. AppendsFront (g.O.Sink.written c.args.sink.now) (g.O.Sink.written c.write_report.new.sink) (end_by t tree settings)))
    (sym c.in-Output.is) (c.write_report.ensures.front tree settings)

pub returns-in-Trace-clause-whole : goal.returns-in-Trace-clause-whole
returns-in-Trace-clause-whole g c = λ tree settings ended.
    subst (λ (t : Told). Appends (g.O.Sink.written c.args.sink.now) (g.O.Sink.written c.args.sink.now) (end_by t tree settings)) (sym c.in-Trace.is)
    (Appends-nil (g.O.Sink.written c.args.sink.now))
