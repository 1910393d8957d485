use Rattle.std.proofs.Common.{List, ℕ, subst, arith, ◌<◌, ◌≤◌, length}
use Rattle.std.specs.Io.KnownBytes.{Appends}
use Rattle.pfc_io.specs.Writes.{AppendsFront}
use Rattle.pfc_io.proofs.Written.{AppendsFront-none, AppendsFront-cut}
use Rattle.pfc_walker.specs.Courses.{whole, dropped, failed}
use Rattle.pfc_walker.proofs.output.hand_rest.Goals as goal

pub returns-in-Memory-clause-over : goal.returns-in-Memory-clause-over
returns-in-Memory-clause-over g c = dropped c.in-Memory.is (AppendsFront-none (g.O.Sink.written c.args.sink.now) c.args.out.now)

pub returns-in-Ok : goal.returns-in-Ok
returns-in-Ok g c = record {
  over = whole
      (subst (λ (bytes : List ℕ). Appends (g.O.Sink.written c.args.sink.now) (g.O.Sink.written c.write_all.new.sink) bytes) c.bytes.ensures
      c.in-Ok.ensures.whole);
  faults = c.write_all.ensures.faults;
  failed = λ h. absurd (c.requires h);
}

pub returns-in-Err : goal.returns-in-Err
returns-in-Err g c = record {
  over =
      failed
      (subst (λ (bytes : List ℕ). AppendsFront (g.O.Sink.written c.args.sink.now) (g.O.Sink.written c.write_all.new.sink) bytes) c.bytes.ensures
      (AppendsFront-cut (g.O.Sink.written c.args.sink.now) (g.O.Sink.written c.write_all.new.sink) c.bytes.result.now c.in-Err._cut.written
      (let low : c.in-Err._cut.written < length c.bytes.result.now = c.in-Err.ensures.bound in
      let h : c.in-Err._cut.written ≤ length c.bytes.result.now = omega (arith, low) in h)
      c.in-Err.ensures.prefix));
  faults = c.write_all.ensures.faults;
  failed = λ _. c.in-Err.ensures.failed;
}
