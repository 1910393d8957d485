use Rattle.std.proofs.Common.{◌≡◌, ◌≤◌}
use Rattle.pfc_values.specs.Outputs.{is_open_line}
use Rattle.pfc_semantics.specs.Programs.{Program}
use Rattle.pfc_semantics.specs.Configurations.{Config}
use Rattle.pfc_semantics.specs.Runs.{run_from}
use Rattle.pfc_activities.specs.Programs.{IsProgram}
use Rattle.pfc_activities.specs.Relation.{Stands}
use Rattle.pfc_walker.specs.Courses.{Gathers}
use Rattle.pfc_walker.proofs.runs.run_state.Given as goal

-- some program runs, and of what each such printed so far the sink has all but the bytes that are held
abbrev pub invariant-loop-ending : goal.invariant-loop-ending
invariant-loop-ending g l = record {
  some : (p : Program) × (c : Config) × IsProgram l.source p × Stands l.source l.state c;
  all : (p : Program) (c : Config) → IsProgram l.source p → Stands l.source l.fn.state c → l.fn.in_line ≡ is_open_line c.output
      → Gathers l.told l.source p l.limit (run_from p l.limit l.limit l.fn.picker c) l.left l.picker c l.state l.out l.in_line
      (g.O.Sink.written l.fn.sink) (g.O.Sink.written l.sink);
  later : g.O.Sink.faults l.fn.sink ≤ g.O.Sink.faults l.sink;
}

abbrev pub decreases-loop-ending : goal.decreases-loop-ending
decreases-loop-ending g l = l.left
