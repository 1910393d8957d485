use Rattle.std.proofs.Common.{ℕ, sym, subst}
use Rattle.pfc_code.specs.Images.{plain_image}
use Rattle.pfc_io.proofs.Counts.{Rose-earlier}
use Rattle.pfc_state.specs.declared.endings.Ending.TheVariants.{SinkFailed, Memory}
use Rattle.pfc_outcome.specs.Outcomes.{ran_with}
use Rattle.pfc_top.specs.Answers.{IsRunStatus}
use Rattle.pfc_top.specs.Meanings.{source_meaning}
use Rattle.pfc_top.proofs.Courses.{has_report, report_status, completed, stands_at_end, written_whole, written_front, broken_front, may_run, comes_to}
use Rattle.pfc_top.proofs.Outcomes.{no_stop, same_stop, stopped_sound, stopped_written}
use Rattle.pfc_top.proofs.Reports.{names_process}
use Rattle.pfc_top.proofs.running.run.Goals as goal

pub run-requires : goal.run-requires
run-requires g c =
    let (tree, settings, b) = c.requires in
    may_run tree settings (plain_image c.args.image.now) c.args.session c.args.policy c.args.limit b c.new-picker.result c.new-picker.ensures
    c.checked_programs_run.ensures.may

pub returns-in-SinkFailed-clause-written : goal.returns-in-SinkFailed-clause-written
returns-in-SinkFailed-clause-written g c = λ tree settings b.
    broken_front tree settings (g.O.Sink.written c.args.sink.now) (g.O.Sink.written c.run.new.sink)
    (comes_to tree settings (plain_image c.args.image.now) c.args.session c.args.policy c.args.limit b c.new-picker.result c.new-picker.ensures
    c.run.new.self.machine SinkFailed (g.O.Sink.written c.args.sink.now) (g.O.Sink.written c.run.new.sink) c.in-SinkFailed.ensures.run
    c.checked_programs_run.ensures.sessions c.checked_programs_run.ensures.standing).course

pub returns-in-Memory-clause-written : goal.returns-in-Memory-clause-written
returns-in-Memory-clause-written g c = λ tree settings b.
    broken_front tree settings (g.O.Sink.written c.args.sink.now) (g.O.Sink.written c.run.new.sink)
    (comes_to tree settings (plain_image c.args.image.now) c.args.session c.args.policy c.args.limit b c.new-picker.result c.new-picker.ensures
    c.run.new.self.machine Memory (g.O.Sink.written c.args.sink.now) (g.O.Sink.written c.run.new.sink) c.in-Memory.ensures.run
    c.checked_programs_run.ensures.sessions c.checked_programs_run.ensures.standing).course

pub write_report-requires : goal.write_report-requires
write_report-requires g c =
    let (tree, settings, b) = c.requires in
    let h = has_report c.run.result c.in_default.not-SinkFailed c.in_default.not-Memory in
    let there =
    stands_at_end tree settings c.run.new.self.machine c.run.result (g.O.Sink.written c.args.sink.now) (g.O.Sink.written c.run.new.sink) h
    (comes_to tree settings (plain_image c.args.image.now) c.args.session c.args.policy c.args.limit b c.new-picker.result c.new-picker.ensures
    c.run.new.self.machine c.run.result (g.O.Sink.written c.args.sink.now) (g.O.Sink.written c.run.new.sink) c.run.ensures.run
    c.checked_programs_run.ensures.sessions c.checked_programs_run.ensures.standing) in
    record {
      report = h;
      process = names_process tree (plain_image c.args.image.now) b.is c.run.result there.names;
      end = (tree, settings, b.is, there.agrees);
    }

pub status_of-requires : goal.status_of-requires
status_of-requires g c = has_report c.run.result c.in_default.not-SinkFailed c.in_default.not-Memory

pub returns-in_err-write_report-in_default : goal.returns-in_err-write_report-in_default
returns-in_err-write_report-in_default g c = record {
  written = λ tree settings b.
      let h = has_report c.run.result c.in_default.not-SinkFailed c.in_default.not-Memory in
      let p =
      comes_to tree settings (plain_image c.args.image.now) c.args.session c.args.policy c.args.limit b c.new-picker.result c.new-picker.ensures
      c.run.new.self.machine c.run.result (g.O.Sink.written c.args.sink.now) (g.O.Sink.written c.run.new.sink) c.run.ensures.run
      c.checked_programs_run.ensures.sessions c.checked_programs_run.ensures.standing in
      let whole = completed tree settings c.run.new.self.machine c.run.result (g.O.Sink.written c.args.sink.now) (g.O.Sink.written c.run.new.sink) h p in
      let there = stands_at_end tree settings c.run.new.self.machine c.run.result (g.O.Sink.written c.args.sink.now) (g.O.Sink.written c.run.new.sink) h p in
      stopped_written c.from_residual.result _ c.from_residual.ensures.1 (ran_with source_meaning tree settings) (g.O.Sink.written c.args.sink.now)
      (g.O.Sink.written c.write_report.new.sink)
      (written_front tree settings c.run.result c.run.new.self (g.O.Sink.written c.args.sink.now) (g.O.Sink.written c.run.new.sink)
      (g.O.Sink.written c.write_report.new.sink) h p
      (c.in_err-write_report-in_default.ensures.front tree settings b.is there.agrees whole.ends));
  sound = stopped_sound c.from_residual.result _ c.from_residual.ensures.1;
  cut = λ of. Rose-earlier _ _ _ c.run.ensures.faults (c.in_err-write_report-in_default.ensures.cut
      (same_stop c.from_residual.result _ c.from_residual.ensures.1 _ of));
}

pub returns-in_ok-write_report-in_default : goal.returns-in_ok-write_report-in_default
returns-in_ok-write_report-in_default g c = record {
  written = λ tree settings b.
      let h = has_report c.run.result c.in_default.not-SinkFailed c.in_default.not-Memory in
      let p =
      comes_to tree settings (plain_image c.args.image.now) c.args.session c.args.policy c.args.limit b c.new-picker.result c.new-picker.ensures
      c.run.new.self.machine c.run.result (g.O.Sink.written c.args.sink.now) (g.O.Sink.written c.run.new.sink) c.run.ensures.run
      c.checked_programs_run.ensures.sessions c.checked_programs_run.ensures.standing in
      let whole = completed tree settings c.run.new.self.machine c.run.result (g.O.Sink.written c.args.sink.now) (g.O.Sink.written c.run.new.sink) h p in
      let there = stands_at_end tree settings c.run.new.self.machine c.run.result (g.O.Sink.written c.args.sink.now) (g.O.Sink.written c.run.new.sink) h p in
      written_whole tree settings c.run.result c.run.new.self (g.O.Sink.written c.args.sink.now) (g.O.Sink.written c.run.new.sink)
      (g.O.Sink.written c.write_report.new.sink) h p
      (c.in_ok-write_report-in_default.ensures.whole tree settings b.is there.agrees whole.ends) c.status_of.result c.status_of.ensures;
  sound = subst (λ (s : ℕ). IsRunStatus s) (sym c.status_of.ensures)
      (report_status c.run.result (has_report c.run.result c.in_default.not-SinkFailed c.in_default.not-Memory));
  cut = λ of. absurd (no_stop _ _ of);
}
