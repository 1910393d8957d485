use Rattle.std.proofs.Common.{◌≡◌}
use Rattle.pfc_semantics.specs.Programs.{Program}
use Rattle.pfc_semantics.specs.Configurations.{Config}
use Rattle.pfc_activities.specs.Programs.{IsProgram}
use Rattle.pfc_activities.specs.Relation.{Stands}
use Rattle.pfc_walker.specs.Watching.{Watched, events_from}
use Rattle.pfc_walker.proofs.watching.events_of.Given as goal

-- some program runs, and of each such the events so far are the first ones
abbrev pub invariant-loop-events : goal.invariant-loop-events
invariant-loop-events l = record {
  some : (p : Program) × (c : Config) × IsProgram l.source p × Stands l.source l.state c;
  all : (p : Program) (c : Config) → IsProgram l.source p → Stands l.source l.fn.state c
      → Watched l.source p l.left l.picker l.waited l.state l.events.items (events_from p l.limit l.fn.picker l.fn.waited c);
}

abbrev pub decreases-loop-events : goal.decreases-loop-events
decreases-loop-events l = l.left
