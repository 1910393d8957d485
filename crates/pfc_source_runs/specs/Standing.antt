-- Where the machine of a session stands behind its run, whole or broken off, in the source text's run.
use Rattle.std.specs.Prelude.{ℕ, ◌≡◌, ◌<◌, ◌≤◌, ◌^◌, ◌⊎◌, List, ◌++◌, Option, None}
use Rattle.pfc_io.specs.Writes.{AppendsFront}
use Rattle.pfc_sched.specs.Picks.{Picking, picked}
use Rattle.pfc_sched.specs.declared.picking.Pick.TheVariants.{Process}
use Rattle.pfc_state.specs.declared.endings.Ending.{Ending}
use Rattle.pfc_state.specs.declared.endings.Ending.TheVariants.{Finished, Fault, Deadlock, Limit, Script, SinkFailed, Memory}
use Rattle.pfc_semantics.specs.Configurations.{Config}
use Rattle.pfc_semantics.specs.Programs.{Program}
use Rattle.pfc_semantics.specs.Runs.{Run, ending_at}
use Rattle.pfc_semantics.specs.Steps.{next_of}
use Rattle.pfc_semantics.specs.Time.{settled_config}
use Rattle.pfc_machines.specs.declared.machine.Machine.{Machine}
use Rattle.pfc_machines.specs.Actions.{at_rest}
use Rattle.pfc_representation.specs.Levels.{Facts, LivingLevel, program_in}
use Rattle.pfc_representation.specs.Rooms.{process_count}
use Rattle.pfc_representation.specs.Machines.{Agrees, Represents}
use Rattle.pfc_representation.specs.Acting.{IsActing, HasArrived}
use Rattle.pfc_arrivals.specs.Arrivals.{ActsAsItsSource}
use Rattle.pfc_arrivals.specs.Wants.{MayWantMemory}
use Rattle.pfc_source_runs.specs.Points.{Point, point_after, IsOnTheWay}

-- ## A machine and a point

-- The machine represents the settled configuration: who is picked there has gone through quiet instructions to its next action, which may want memory, and
-- has not acted. It may act again from there, and does then what its action does in the source text; and so does whoever else is picked first.
pub record IsUntried (facts : Facts) (m : Machine) (s : Point) : Type 0 where
  pub process : ℕ
  pub goes : ending_at (settled_config s.config) ≡ None
  pub picks : picked s.picking (settled_config s.config).table.rows ≡ Process process
  pub level : LivingLevel
  pub before : Machine
  pub acting : IsActing facts before (settled_config s.config) process level
  pub arrived : HasArrived facts before (settled_config s.config) process level (next_of (program_in facts) (settled_config s.config) process)
  pub machine : m ≡ at_rest before
  pub wants : MayWantMemory (next_of (program_in facts) (settled_config s.config) process)
  pub represents : Represents facts m (settled_config s.config)
  pub may_act_again : (picking : Picking) → (acts : ActsAsItsSource facts m (settled_config s.config) process picking) × (acts.may.before ≡ before)
  pub whoever_is_picked : (q : ℕ) (picking : Picking) → picked picking (settled_config s.config).table.rows ≡ Process q
      → ActsAsItsSource facts m (settled_config s.config) q picking

-- The machine stands for the configuration, or for the settled one; that may be before an action for which memory was refused.
pub data StandsFor (facts : Facts) (m : Machine) (s : Point) : Type 0 where
  behind_action : Agrees facts m s.config → StandsFor facts m s
  settled : Agrees facts m (settled_config s.config) → StandsFor facts m s
  before_action : IsUntried facts m s → StandsFor facts m s

-- ## Runs that were broken off

-- The run h was broken off after some of its actions, where this holds of the point to which it came: a front of what these print is written.
pub record IsBrokenOff (g : Program) (limit : ℕ) (h : Run) (first : Point) (point_is : Point → Type 0) (before after : Option (List ℕ)) : Type 0 where
  pub count : ℕ
  pub left : ℕ
  pub way : IsOnTheWay g limit count left h first
  pub stands : point_is (point_after g count first)
  pub bytes : List ℕ
  pub output : (point_after g count first).config.output ≡ first.config.output ++ bytes
  pub front : AppendsFront before after bytes

-- the run h came to its end, and a front of what it prints is written
pub record IsCutAtEnd (facts : Facts) (h : Run) (first : Point) (m : Machine) (before after : Option (List ℕ)) : Type 0 where
  pub agrees : Agrees facts m h.config
  pub bytes : List ℕ
  pub output : h.config.output ≡ first.config.output ++ bytes
  pub front : AppendsFront before after bytes

-- So many actions were done, or so much time is past, that the machine counts no more.
abbrev pub CountsNoMore : Config → Type 0
CountsNoMore c = (10 ^ 18 ≤ c.table.done) ⊎ (10 ^ 18 ≤ c.table.moment)

-- the machine agrees with the settled configuration at the point, and counts no more
abbrev pub IsWornOut : Facts → Machine → Point → Type 0
IsWornOut facts m s = Agrees facts m (settled_config s.config) × CountsNoMore (settled_config s.config)

-- The sink took no more: behind an action; at the run's end; or where the machine counts no more.
pub data IsCut (facts : Facts) (limit : ℕ) (h : Run) (first : Point) (m : Machine) (before after : Option (List ℕ)) : Type 0 where
  on_the_way : IsBrokenOff (program_in facts) limit h first (λ s. Agrees facts m s.config) before after → IsCut facts limit h first m before after
  at_the_end : IsCutAtEnd facts h first m before after → IsCut facts limit h first m before after
  uncounted : IsBrokenOff (program_in facts) limit h first (λ s. IsWornOut facts m s) before after
      → IsCut facts limit h first m before after

-- Memory was wanting: before an action that may want it; or where the machine counts no more.
pub data IsWanting (facts : Facts) (limit : ℕ) (h : Run) (first : Point) (m : Machine) (before after : Option (List ℕ)) : Type 0 where
  refused : IsBrokenOff (program_in facts) limit h first (λ s. IsUntried facts m s) before after → IsWanting facts limit h first m before after
  worn_out : IsBrokenOff (program_in facts) limit h first (λ s. IsWornOut facts m s) before after
      → IsWanting facts limit h first m before after

-- ## Runs

-- the process of a fault is one of so many
abbrev pub NamesOneOf : ℕ → Ending → Type 0
NamesOneOf n (Fault process line fault) = process < n
NamesOneOf n ending = Unit {0}

-- the machine agrees with the run's last configuration, and a fault is that of a process of the program
pub record IsAtEnd (facts : Facts) (h : Run) (m : Machine) (ending : Ending) : Type 0 where
  pub agrees : Agrees facts m h.config
  pub names : NamesOneOf (process_count facts) ending

-- where a machine stands behind a session's run from a point on, which came to this ending
abbrev pub IsStanding : Facts → ℕ → Run → Point → Machine → Ending → Option (List ℕ) → Option (List ℕ) → Type 0
IsStanding facts limit h first m SinkFailed before after = IsCut facts limit h first m before after
IsStanding facts limit h first m Memory before after = IsWanting facts limit h first m before after
IsStanding facts limit h first m Finished before after = IsAtEnd facts h m Finished
IsStanding facts limit h first m (Fault process line fault) before after = IsAtEnd facts h m (Fault process line fault)
IsStanding facts limit h first m Deadlock before after = IsAtEnd facts h m Deadlock
IsStanding facts limit h first m (Limit n) before after = IsAtEnd facts h m (Limit n)
IsStanding facts limit h first m (Script item why) before after = IsAtEnd facts h m (Script item why)

-- wherever that is: at a point that the run passes, or at its end
pub data StandsIn (facts : Facts) (limit : ℕ) (h : Run) (first : Point) (m : Machine) : Type 0 where
  passing : (count left : ℕ) → IsOnTheWay (program_in facts) limit count left h first → StandsFor facts m (point_after (program_in facts) count first)
      → StandsIn facts limit h first m
  ended : Agrees facts m h.config → StandsIn facts limit h first m
