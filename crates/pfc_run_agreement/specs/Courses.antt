-- What a session's run comes to, as a run of the source text.
use Rattle.std.specs.Prelude.{ℕ, ◌≡◌, List, ◌++◌, Option}
use Rattle.std.specs.Io.KnownBytes.{Appends}
use Rattle.pfc_io.specs.Writes.{AppendsFront}
use Rattle.pfc_machines.specs.declared.machine.Machine.{Machine}
use Rattle.pfc_state.specs.declared.endings.Ending.{Ending}
use Rattle.pfc_state.specs.declared.endings.Ending.TheVariants.{Finished, Fault, Deadlock, Limit, Script, SinkFailed, Memory}
use Rattle.pfc_semantics.specs.Configurations.{Config}
use Rattle.pfc_semantics.specs.Runs.{Run}
use Rattle.pfc_run_agreement.specs.Agreement.{LookAlike}

-- the run came to this ending: what is told of the machine is told of the run's last configuration, and the bytes that it printed are written
pub record Completes (h : Run) (c : Config) (new : Machine) (ending : Ending) (before after : Option (List ℕ)) : Type 0 where
  pub ends : ending ≡ h.ending
  pub look : LookAlike new h.config
  pub bytes : List ℕ
  pub output : h.config.output ≡ c.output ++ bytes
  pub written : Appends before after bytes

-- the run was broken off: a front of the bytes that it prints is written
pub record IsBrokenOff (h : Run) (c : Config) (before after : Option (List ℕ)) : Type 0 where
  pub bytes : List ℕ
  pub output : h.config.output ≡ c.output ++ bytes
  pub front : AppendsFront before after bytes

-- this is what a run from a configuration on came to: a sink that takes no more bytes and want of memory break it off
abbrev pub IsSourceCourse : Run → Config → Machine → Ending → Option (List ℕ) → Option (List ℕ) → Type 0
IsSourceCourse h c new Finished before after = Completes h c new Finished before after
IsSourceCourse h c new (Fault process line fault) before after = Completes h c new (Fault process line fault) before after
IsSourceCourse h c new Deadlock before after = Completes h c new Deadlock before after
IsSourceCourse h c new (Limit n) before after = Completes h c new (Limit n) before after
IsSourceCourse h c new (Script item why) before after = Completes h c new (Script item why) before after
IsSourceCourse h c new SinkFailed before after = IsBrokenOff h c before after
IsSourceCourse h c new Memory before after = IsBrokenOff h c before after
