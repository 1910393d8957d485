-- While a process acts: it goes through quiet instructions, and the source text still is where it was.
use Rattle.std.specs.Prelude.{ℕ, ◌^◌, ◌≡◌, ◌≢◌, ◌≤◌, ◌<◌, ◌⊎◌, true, length, Some}
use Rattle.pfc_state.specs.Stands.{Is_ready}
use Rattle.pfc_values.specs.declared.simple.Simple.TheVariants.{Integer}
use Rattle.pfc_values.specs.Numbers.{is_of}
use Rattle.pfc_world.specs.Tables.{at}
use Rattle.pfc_semantics.specs.Remainders.{Action, initials, delays}
use Rattle.pfc_semantics.specs.Configurations.{Config, activity_of}
use Rattle.pfc_semantics.specs.Steps.{next_of}
use Rattle.pfc_stacks.specs.Stacks.{stack_of, operands_of}
use Rattle.pfc_cells.specs.Homes.{Homes}
use Rattle.pfc_cells.specs.Memory.{Entries}
use Rattle.pfc_machines.specs.declared.machine.Machine.{Machine}
use Rattle.pfc_machines.specs.Descriptors.{descriptor_of}
use Rattle.pfc_standing_code.specs.Following.{Arrived}
use Rattle.pfc_representation.specs.Levels.{Facts, program_in, LivingLevel}
use Rattle.pfc_representation.specs.Rooms.{guards_room, own_address}
use Rattle.pfc_representation.specs.Callers.{IsWithin}
use Rattle.pfc_representation.specs.Holding.{holders_in}
use Rattle.pfc_representation.specs.Trials.{TrialIs, HasTried, IsAtTurn}
use Rattle.pfc_representation.specs.Processes.{IsAtLevel, RepresentsProcess}
use Rattle.pfc_representation.specs.Machines.{AreAlike, machine_table}

-- What is kept of the process that acts, whatever is still to do there. What it offered while it waited is gone.
pub record IsActor (facts : Facts) (homes : Homes) (entries : Entries) (m : Machine) (c : Config) (p : ℕ) (level : LivingLevel) : Type 0 where
  pub process : p < length c.activities
  pub ready : at c.table.rows p ≡ Is_ready
  pub line : (descriptor_of m.descriptors p).line ≡ (activity_of (program_in facts) c p).line
  pub spare : (stack_of m.stacks p).spare ≡ guards_room facts
  pub stands :
      IsAtLevel facts homes entries c.store m.stacks c.table (holders_in facts c) p (activity_of (program_in facts) c p)
      (descriptor_of m.descriptors p) level
  pub trial :
      TrialIs level.setting.trial facts homes entries c.store m.stacks c.table p level (activity_of (program_in facts) c p).activations
      (descriptor_of m.descriptors p)
      ⊎ HasTried level.setting.trial facts (stack_of m.stacks p) level (activity_of (program_in facts) c p).activations (descriptor_of m.descriptors p)
  pub offered : (descriptor_of m.descriptors p).offered ≡ 0

-- Process p acts on the machine, and has not yet acted in the source text.
pub record IsActing (facts : Facts) (m : Machine) (c : Config) (p : ℕ) (level : LivingLevel) : Type 0 where
  pub homes : Homes
  pub entries : Entries
  pub alike : AreAlike facts homes entries m c
  pub few : c.table.done < 10 ^ 18
  pub world : m.world ≡ record (machine_table facts c.table) { acting = Some p }
  pub others : (q : ℕ) → q < length c.activities → q ≢ p
      → RepresentsProcess facts homes entries c.store m.stacks c.table (holders_in facts c) q (activity_of (program_in facts) c q)
      (descriptor_of m.descriptors q)
  pub actor : IsActor facts homes entries m c p level

-- what an action takes as a count or as a rank has 32 bits
abbrev pub TakesNumber : Action → Type 0
TakesNumber (initials x v n k) = is_of Integer n ≡ true
TakesNumber (delays x v n k) = is_of Integer n ≡ true
TakesNumber n = Unit {0}

-- Its code has arrived at the action that comes next for it, and what is held there fits.
pub record HasArrived (facts : Facts) (m : Machine) (c : Config) (p : ℕ) (level : LivingLevel) (n : Action) : Type 0 where
  pub next : next_of (program_in facts) c p ≡ n
  pub number : TakesNumber n
  pub arrived : Arrived level.setting (stack_of m.stacks p).at (operands_of m.stacks p) level.arms n
  pub room : length (operands_of m.stacks p) ≤ level.setting.room
  pub arms : length level.arms ≤ level.setting.arms
  pub turned :
      HasTried level.setting.trial facts (stack_of m.stacks p) level (activity_of (program_in facts) c p).activations (descriptor_of m.descriptors p)
      → IsAtTurn level.setting.trial (stack_of m.stacks p).at
  pub within : IsWithin facts level (own_address level.setting.trial (stack_of m.stacks p).at) (descriptor_of m.descriptors p).communications
