use Rattle.std.proofs.Common.{ℕ, List, IfOk, IfErr, subst, ◌∙◌}
use Rattle.pfc_code.specs.Images.{plain_image}
use Rattle.std.specs.Io.KnownBytes.{Appends}
use Rattle.pfc_io.specs.Writes.{AppendsFront}
use Rattle.pfc_io.proofs.Written.{AppendsFront-none}
use Rattle.pfc_top.specs.Meanings.{run_of}
use Rattle.pfc_top.specs.Running.{report_by}
use Rattle.pfc_top.proofs.Outcomes.{err_always}
use Rattle.pfc_top.proofs.Reports.{names_processes, reported}
use Rattle.pfc_top.proofs.running.write_report.Goals as goal

pub returns-in_err-standings-clause-front : goal.returns-in_err-standings-clause-front
returns-in_err-standings-clause-front g c = λ tree settings is end ends.
    err_always c.from_residual.result (AppendsFront (g.O.Sink.written c.args.sink.now) (g.O.Sink.written c.args.sink.now) (report_by tree settings))
    (AppendsFront-none (g.O.Sink.written c.args.sink.now) (report_by tree settings))

pub report-requires-clause-standings : goal.report-requires-clause-standings
report-requires-clause-standings g c =
    let (tree, settings, is, end) = c.requires.end in
    names_processes tree (plain_image c.args.image.now) is c.args.session.now.machine (run_of tree settings).config end c.deref.result.now
    (c.deref.ensures.value ∙ c.in_ok-standings.ensures)

pub returns-in_err-bytes-clause-front : goal.returns-in_err-bytes-clause-front
returns-in_err-bytes-clause-front g c = λ tree settings is end ends.
    err_always c.from_residual-in_err-bytes.result (AppendsFront (g.O.Sink.written c.args.sink.now)
    (g.O.Sink.written c.args.sink.now) (report_by tree settings))
    (AppendsFront-none (g.O.Sink.written c.args.sink.now) (report_by tree settings))

pub returns-clause-whole : goal.returns-clause-whole
returns-clause-whole g c = λ tree settings is end ends.
    subst (λ (bytes : List ℕ). IfOk c.say.result (λ done. Appends (g.O.Sink.written c.args.sink.now) (g.O.Sink.written c.say.new.sink) bytes))
    (reported tree (plain_image c.args.image.now) is settings c.args.session.now.machine end c.args.ending.now c.deref-2.result.now c.deref.result.now
    c.open_line.result ends (c.deref-2.ensures.value ∙ c.in_ok-bytes.ensures) (c.deref.ensures.value ∙ c.in_ok-standings.ensures) c.open_line.ensures)
    c.say.ensures.whole

pub returns-clause-front : goal.returns-clause-front
returns-clause-front g c = λ tree settings is end ends.
    subst (λ (bytes : List ℕ). IfErr c.say.result (λ stop. AppendsFront (g.O.Sink.written c.args.sink.now) (g.O.Sink.written c.say.new.sink) bytes))
    (reported tree (plain_image c.args.image.now) is settings c.args.session.now.machine end c.args.ending.now c.deref-2.result.now c.deref.result.now
    c.open_line.result ends (c.deref-2.ensures.value ∙ c.in_ok-bytes.ensures) (c.deref.ensures.value ∙ c.in_ok-standings.ensures) c.open_line.ensures)
    c.say.ensures.front
