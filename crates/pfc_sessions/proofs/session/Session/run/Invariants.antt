use Rattle.std.proofs.Common.{◌≤◌}
use Rattle.pfc_code.specs.Images.{plain_image}
use Rattle.pfc_sessions.specs.Courses.{Gathers}
use Rattle.pfc_sessions.specs.Runs.{MayRun, run_from}
use Rattle.pfc_sessions.specs.Stages.{first_stage}
use Rattle.pfc_sessions.proofs.session.Session.run.Given as goal

-- who is picked in what is left may act, and of what was printed so far the sink has all but the bytes that are held
abbrev pub invariant-loop-ending : goal.invariant-loop-ending
invariant-loop-ending g l = record {
  may : MayRun (plain_image l.image) l.left l.picker l.self.machine;
  gathers :
      Gathers (plain_image l.image) l.limit l.left (run_from (plain_image l.image) l.limit l.limit l.fn.picker l.fn.self.machine)
      (first_stage l.fn.picker l.fn.self.machine) l.picker l.self.machine l.out (g.O.Sink.written l.fn.sink) (g.O.Sink.written l.sink);
  later : g.O.Sink.faults l.fn.sink ≤ g.O.Sink.faults l.sink;
}

abbrev pub decreases-loop-ending : goal.decreases-loop-ending
decreases-loop-ending g l = l.left
