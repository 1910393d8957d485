-- When a machine represents a configuration of the source text.
use Rattle.std.specs.Prelude.{ℕ, ◌+◌, ◌≡◌, ◌<◌, ◌≤◌, ◌^◌, ◌⊎◌, Bool, true, false, List, [], ◌∷◌, length, Option, Some, None, is_some}
use Rattle.pfc_types.specs.declared.types.TypeId.{TypeId}
use Rattle.pfc_values.specs.Outputs.{is_open_line}
use Rattle.pfc_state.specs.Stands.{Is_done, is_unfinished, due_of, ticket_of}
use Rattle.pfc_world.specs.Tables.{Table, at}
use Rattle.pfc_semantics.specs.Values.{Location}
use Rattle.pfc_semantics.specs.Store.{Store}
use Rattle.pfc_semantics.specs.Configurations.{Config, activity_of, modules_of}
use Rattle.pfc_translation.specs.Images.{image_of}
use Rattle.pfc_stacks.specs.declared.refs.Ref.{Ref}
use Rattle.pfc_stacks.specs.Stacks.{Stacks}
use Rattle.pfc_cells.specs.Homes.{Home, Homes, Lies}
use Rattle.pfc_cells.specs.Memory.{Entries, MemoryIs}
use Rattle.pfc_machines.specs.declared.machine.Machine.{Machine}
use Rattle.pfc_machines.specs.Descriptors.{descriptor_of}
use Rattle.pfc_standing_code.specs.Shapes.{is_object_type}
use Rattle.pfc_views.specs.Views.{AreObjects, AreFew}
use Rattle.pfc_call_laws.specs.Calls.{first_home}
use Rattle.pfc_representation.specs.Levels.{Facts, program_in, IsProgram}
use Rattle.pfc_representation.specs.Rooms.{process_count, image_rooms}
use Rattle.pfc_representation.specs.Processes.{RepresentsProcess}
use Rattle.pfc_representation.specs.Holding.{holders_in, is_quiet, waits_at_coend}
use Rattle.pfc_representation.specs.Objects.{AreOfKinds}

-- ## The same words

-- the output ends inside a line
abbrev pub ends_inside : List ℕ → Bool
ends_inside [] = false
ends_inside (b ∷ bytes) = is_open_line (b ∷ bytes)

-- What both sides have in the same words is equal: as many processes, the counts and the holders, what is left of the input, the words of `random`, and
-- where the output ends.
pub record SharesWords (facts : Facts) (m : Machine) (c : Config) : Type 0 where
  pub processes : length c.activities ≡ process_count facts
  pub stacks : length m.stacks ≡ length c.activities
  pub descriptors : length m.descriptors ≡ length c.activities
  pub rows : length c.table.rows ≡ length c.activities
  pub semaphores : m.semaphores ≡ c.counts
  pub monitors : m.monitors.holders ≡ c.monitors
  pub owners : m.monitors.owners ≡ (program_in facts).objects.conditions
  pub resources : m.resources ≡ c.resources
  pub input : m.input ≡ c.input
  pub draws : m.draws ≡ c.words
  pub in_line : m.in_line ≡ ends_inside c.output

-- the machine's table has room for the alternatives of the largest select of the program, that of the source text for any
abbrev pub machine_table : Facts → Table → Table
machine_table facts table = record table { room = (image_of facts.tree).arms }

-- ## Between two actions

-- The stacks hold the store, whose objects have their numbers and are main's variables. Main's first activation has the number 0, and each other that of an
-- action done.
pub record HoldsStore (facts : Facts) (homes : Homes) (entries : Entries) (store : Store) (stacks : Stacks) (done : ℕ) : Type 0 where
  pub memory : MemoryIs (program_in facts) homes entries store stacks
  pub few : AreFew stacks
  pub objects : AreObjects (program_in facts) homes entries store facts.number
  pub main : homes 0 ≡ Some (first_home 0 0)
  pub mains : (l : Location) (t : Option TypeId) (r : Ref) → Lies (program_in facts) homes l t r
      → is_object_type (program_in facts).state.forms t ≡ true → l.activation ≡ 0
  pub numbers : (a : ℕ) (home : Home) → homes a ≡ Some home → a ≤ done

-- Between two actions nobody acts; tickets are those of actions done, and so many ticks lie behind. No moment is too late, nor too many actions done.
pub record IsBetweenActions (table : Table) : Type 0 where
  pub acting : table.acting ≡ None
  pub tickets : (p ticket : ℕ) → ticket_of (at table.rows p) ≡ Some ticket → ticket ≤ table.done
  pub moment : table.moment ≤ 10 ^ 15 + table.done
  pub due : (p due : ℕ) → due_of (at table.rows p) ≡ Some due → due ≤ 10 ^ 15
  pub done : table.done ≤ 10 ^ 18

-- All that is so between two actions as well as within one, but for the processes and the table.
pub record AreAlike (facts : Facts) (homes : Homes) (entries : Entries) (m : Machine) (c : Config) : Type 0 where
  pub program : IsProgram facts.tree
  pub words : SharesWords facts m c
  pub holds : HoldsStore facts homes entries c.store m.stacks c.table.done
  pub kinds : AreOfKinds facts homes c
  pub children : waits_at_coend (at c.table.rows 0) ≡ false → (p : ℕ) → 0 < p → is_quiet (at c.table.rows p) ≡ true
  pub main : is_unfinished (at c.table.rows 0) ≡ true
  pub between : IsBetweenActions c.table
  pub counts : length c.counts ≡ (program_in facts).objects.semaphores
  pub monitor_count : length c.monitors ≡ modules_of (program_in facts) false
  pub resource_count : length c.resources ≡ modules_of (program_in facts) true
  pub rooms : m.rooms ≡ image_rooms facts
  pub fault : c.fault ≡ None

-- Between two actions: one clause for each process, and all that is alike.
pub record Represents (facts : Facts) (m : Machine) (c : Config) : Type 0 where
  pub homes : Homes
  pub entries : Entries
  pub alike : AreAlike facts homes entries m c
  pub world : m.world ≡ machine_table facts c.table
  pub processes : (p : ℕ) → p < length c.activities
      → RepresentsProcess facts homes entries c.store m.stacks c.table (holders_in facts c) p (activity_of (program_in facts) c p)
      (descriptor_of m.descriptors p)

-- ## At the end

-- What is told at the end of a run is equal: the standings with their lines, the table, and what both have in the same words.
pub record Reports (facts : Facts) (m : Machine) (c : Config) : Type 0 where
  pub words : SharesWords facts m c
  pub world : m.world ≡ machine_table facts c.table
  pub lines : (p : ℕ) → p < length c.activities → (descriptor_of m.descriptors p).line ≡ (activity_of (program_in facts) c p).line

-- the last action was a fault, or main has finished
abbrev pub HasEnded : Config → Type 0
HasEnded c = (is_some c.fault ≡ true) ⊎ (at c.table.rows 0 ≡ Is_done)

-- Behind an action the machine agrees with the configuration: it represents it, or at the end of the run reports it.
pub data Agrees (facts : Facts) (m : Machine) (c : Config) : Type 0 where
  goes_on : Represents facts m c → Agrees facts m c
  has_ended : HasEnded c → Reports facts m c → Agrees facts m c
