use Rattle.std.proofs.Common.{ℕ, refl, sym, subst, ap, ◌∙◌, arith}
use Rattle.pfc_io.proofs.Counts.{Rose-earlier}
use Rattle.pfc_sched.specs.Picks.{first_picking}
use Rattle.pfc_semantics.specs.Programs.{program_of}
use Rattle.pfc_semantics.specs.Configurations.{start}
use Rattle.pfc_state.specs.declared.endings.Ending.TheVariants.{SinkFailed, Memory}
use Rattle.pfc_walk.specs.Answers.{IsAnswerToText}
use Rattle.pfc_walk.specs.Traces.{run_told}
use Rattle.pfc_walk.proofs.Courses.{ran, from, has_report, report_status, line_known, completed, broken_front, written_whole, written_front, output_front}
use Rattle.pfc_walk.proofs.Courses.{course_of, line_of}
use Rattle.pfc_walk.proofs.Outcomes.{no_stop, same_stop, stopped_sound, stopped_written}
use Rattle.pfc_walk.proofs.running.walk_on.Goals as goal

pub run-requires : goal.run-requires
run-requires g c =
    let (tree, settings, b) = c.requires in (program_of tree, start (program_of tree) settings.input settings.seed, b.walks)

pub returns-in-SinkFailed-clause-written : goal.returns-in-SinkFailed-clause-written
returns-in-SinkFailed-clause-written g c = λ tree settings b.
    output_front tree settings c.args.told (g.O.Sink.written c.args.sink.now) (g.O.Sink.written c.run.new.sink)
    (broken_front (program_of tree) settings.limit (ran tree settings) (from tree settings)
    (c.output_only_grows.ensures (program_of tree) settings.limit) c.args.told (g.O.Sink.written c.args.sink.now)
    (g.O.Sink.written c.run.new.sink) refl
    (course_of tree settings c.args.told c.args.limit c.new-picker.result c.run.new.self.state SinkFailed (g.O.Sink.written c.args.sink.now)
    (g.O.Sink.written c.run.new.sink) b.most
    (c.new-picker.ensures ∙ ap first_picking b.picks) (c.in-SinkFailed.ensures.run (program_of tree) (from tree settings) b.walks)))

pub returns-in-Memory-clause-written : goal.returns-in-Memory-clause-written
returns-in-Memory-clause-written g c = λ tree settings b.
    output_front tree settings c.args.told (g.O.Sink.written c.args.sink.now) (g.O.Sink.written c.run.new.sink)
    (broken_front (program_of tree) settings.limit (ran tree settings) (from tree settings)
    (c.output_only_grows.ensures (program_of tree) settings.limit) c.args.told (g.O.Sink.written c.args.sink.now)
    (g.O.Sink.written c.run.new.sink) refl
    (course_of tree settings c.args.told c.args.limit c.new-picker.result c.run.new.self.state Memory (g.O.Sink.written c.args.sink.now)
    (g.O.Sink.written c.run.new.sink) b.most
    (c.new-picker.ensures ∙ ap first_picking b.picks) (c.in-Memory.ensures.run (program_of tree) (from tree settings) b.walks)))

pub write_end-requires : goal.write_end-requires
write_end-requires g c = has_report c.run.result c.in_default.not-SinkFailed c.in_default.not-Memory

pub status_of-requires : goal.status_of-requires
status_of-requires g c = has_report c.run.result c.in_default.not-SinkFailed c.in_default.not-Memory

pub returns-in_err-write_end-in_default : goal.returns-in_err-write_end-in_default
returns-in_err-write_end-in_default g c = record {
  written = λ tree settings b.
      let h = has_report c.run.result c.in_default.not-SinkFailed c.in_default.not-Memory in
      let picks = c.new-picker.ensures ∙ ap first_picking b.picks in
      let p = completed c.args.told (program_of tree) settings.limit (ran tree settings) (from tree settings) c.run.new.self.state c.run.result
      (g.O.Sink.written c.args.sink.now) (g.O.Sink.written c.run.new.sink) h
      (course_of tree settings c.args.told c.args.limit c.new-picker.result c.run.new.self.state c.run.result (g.O.Sink.written c.args.sink.now)
      (g.O.Sink.written c.run.new.sink) b.most picks
      (c.run.ensures.run (program_of tree) (from tree settings) b.walks)) in
      let line = line_known c.args.told (ran tree settings) c.run.result c.run.new.self.in_line h
      (line_of tree settings c.args.told c.args.limit c.new-picker.result c.run.result c.run.new.self.in_line b.most picks
      (c.run.ensures.line (program_of tree) (from tree settings) b.walks)) in
      stopped_written c.from_residual.result _ c.from_residual.ensures.1 (run_told c.args.told tree settings) (g.O.Sink.written c.args.sink.now)
      (g.O.Sink.written c.write_end.new.sink)
      (written_front tree settings c.args.told c.run.result c.run.new.self.state (g.O.Sink.written c.args.sink.now) (g.O.Sink.written c.run.new.sink)
      (g.O.Sink.written c.write_end.new.sink) p
      (c.in_err-write_end-in_default.ensures.front tree settings (record { ends = p.ends; reports = p.reports; line = line; labels = b.labels })));
  sound = stopped_sound c.from_residual.result _ c.from_residual.ensures.1;
  cut = λ of. Rose-earlier _ _ _ c.run.ensures.faults (c.in_err-write_end-in_default.ensures.cut
      (same_stop c.from_residual.result _ c.from_residual.ensures.1 _ of));
  faults = omega (arith, c.run.ensures.faults, c.write_end.ensures.faults);
}

pub returns-in_ok-write_end-in_default : goal.returns-in_ok-write_end-in_default
returns-in_ok-write_end-in_default g c = record {
  written = λ tree settings b.
      let h = has_report c.run.result c.in_default.not-SinkFailed c.in_default.not-Memory in
      let picks = c.new-picker.ensures ∙ ap first_picking b.picks in
      let p = completed c.args.told (program_of tree) settings.limit (ran tree settings) (from tree settings) c.run.new.self.state c.run.result
      (g.O.Sink.written c.args.sink.now) (g.O.Sink.written c.run.new.sink) h
      (course_of tree settings c.args.told c.args.limit c.new-picker.result c.run.new.self.state c.run.result (g.O.Sink.written c.args.sink.now)
      (g.O.Sink.written c.run.new.sink) b.most picks
      (c.run.ensures.run (program_of tree) (from tree settings) b.walks)) in
      let line = line_known c.args.told (ran tree settings) c.run.result c.run.new.self.in_line h
      (line_of tree settings c.args.told c.args.limit c.new-picker.result c.run.result c.run.new.self.in_line b.most picks
      (c.run.ensures.line (program_of tree) (from tree settings) b.walks)) in
      written_whole tree settings c.args.told c.run.result c.run.new.self.state (g.O.Sink.written c.args.sink.now) (g.O.Sink.written c.run.new.sink)
      (g.O.Sink.written c.write_end.new.sink) p
      (c.in_ok-write_end-in_default.ensures.whole tree settings (record {
        ends = p.ends;
        reports = p.reports;
        line = line;
        labels =
            b.labels;
      })) c.status_of.result c.status_of.ensures;
  sound = subst (λ (s : ℕ). IsAnswerToText s) (sym c.status_of.ensures)
      (report_status c.run.result (has_report c.run.result c.in_default.not-SinkFailed c.in_default.not-Memory));
  cut = λ of. absurd (no_stop _ _ of);
  faults = omega (arith, c.run.ensures.faults, c.write_end.ensures.faults);
}
