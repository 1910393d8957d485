use Rattle.std.proofs.Common.{ℕ, List, IfOk, IfErr, subst, ◌∙◌}
use Rattle.std.specs.Io.KnownBytes.{Appends}
use Rattle.pfc_code.specs.Images.{plain_image}
use Rattle.pfc_io.specs.Writes.{AppendsFront}
use Rattle.pfc_io.proofs.Written.{AppendsFront-none}
use Rattle.pfc_walk.specs.Running.{report_by}
use Rattle.pfc_walk.specs.Meanings.{run_of}
use Rattle.pfc_walk.proofs.Meant.{reported}
use Rattle.pfc_walk.proofs.Outcomes.{err_always}
use Rattle.pfc_walk.proofs.reporting.write_report.Goals as goal

pub returns-in_err-standings-clause-front : goal.returns-in_err-standings-clause-front
returns-in_err-standings-clause-front g c = λ tree settings ended.
    err_always c.from_residual.result (AppendsFront (g.O.Sink.written c.args.sink.now) (g.O.Sink.written c.args.sink.now) (report_by tree settings))
    (AppendsFront-none (g.O.Sink.written c.args.sink.now) (report_by tree settings))

pub returns-in_err-bytes-clause-front : goal.returns-in_err-bytes-clause-front
returns-in_err-bytes-clause-front g c = λ tree settings ended.
    err_always c.from_residual-in_err-bytes.result (AppendsFront (g.O.Sink.written c.args.sink.now)
    (g.O.Sink.written c.args.sink.now) (report_by tree settings))
    (AppendsFront-none (g.O.Sink.written c.args.sink.now) (report_by tree settings))

pub returns-clause-whole : goal.returns-clause-whole
returns-clause-whole g c = λ tree settings ended.
    subst (λ (bytes : List ℕ). IfOk c.say.result (λ done. Appends (g.O.Sink.written c.args.sink.now) (g.O.Sink.written c.say.new.sink) bytes))
    (reported tree settings c.args.ending.now c.args.walker.now c.args.labels.items ended c.deref-3.result.now c.deref-2.result.now
    (plain_image c.with_labels-image.result) c.open_line.result
    (c.deref-3.ensures.value ∙ c.in_ok-bytes.ensures) (c.deref-2.ensures.value ∙
    c.in_ok-standings.ensures (run_of tree settings).config ended.reports) c.with_labels-image.ensures c.open_line.ensures)
    c.say.ensures.whole

pub returns-clause-front : goal.returns-clause-front
returns-clause-front g c = λ tree settings ended.
    subst (λ (bytes : List ℕ). IfErr c.say.result (λ stop. AppendsFront (g.O.Sink.written c.args.sink.now) (g.O.Sink.written c.say.new.sink) bytes))
    (reported tree settings c.args.ending.now c.args.walker.now c.args.labels.items ended c.deref-3.result.now c.deref-2.result.now
    (plain_image c.with_labels-image.result) c.open_line.result
    (c.deref-3.ensures.value ∙ c.in_ok-bytes.ensures) (c.deref-2.ensures.value ∙
    c.in_ok-standings.ensures (run_of tree settings).config ended.reports) c.with_labels-image.ensures c.open_line.ensures)
    c.say.ensures.front
