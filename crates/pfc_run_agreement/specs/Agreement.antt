-- When the machine goes the way of the source text.
use Rattle.std.specs.Prelude.{ℕ, zero, suc, ◌≡◌, ◌≢◌, List, ◌++◌, Option, Some, None}
use Rattle.pfc_code.specs.Images.{PlainImage}
use Rattle.pfc_machines.specs.declared.machine.Machine.{Machine}
use Rattle.pfc_machine_acts.specs.Acting.{MayAct}
use Rattle.pfc_machine_acts.specs.Settling.{machine_settled}
use Rattle.pfc_sched.specs.Picks.{Picking, after_pick}
use Rattle.pfc_state.specs.declared.endings.Ending.TheVariants.{Memory}
use Rattle.pfc_values.specs.Outputs.{is_open_line}
use Rattle.pfc_semantics.specs.Configurations.{Config}
use Rattle.pfc_semantics.specs.Configurations as source
use Rattle.pfc_semantics.specs.Events.{step as source_step}
use Rattle.pfc_semantics.specs.Programs.{Program}
use Rattle.pfc_semantics.specs.Runs.{behind_choice, choice_among}
use Rattle.pfc_semantics.specs.Runs as source_runs
use Rattle.pfc_semantics.specs.Selects.{choices}
use Rattle.pfc_semantics.specs.Steps.{next_of}
use Rattle.pfc_semantics.specs.Time.{settled_config}
use Rattle.pfc_sessions.specs.Runs.{Run, IsPicked, step_of}
use Rattle.pfc_sessions.specs.Standings.{standings}
use Rattle.pfc_sessions.specs.Steps.{FaultAt, Step, begins}

-- ## Between two actions

-- What is told of both is the same: who stands at what, at which line, and whether the output ends inside a line.
pub record LookAlike (m : Machine) (c : Config) : Type 0 where
  pub rows : m.world.rows ≡ c.table.rows
  pub standings : standings m ≡ source_runs.standings c
  pub in_line : m.in_line ≡ is_open_line c.output

-- ## One action

abbrev pub fault_of : Option source.FaultAt → Option FaultAt
fault_of None = None
fault_of (Some f) = Some (record { process = f.process; line = f.line; fault = f.fault })

-- who picks, in the source text, behind the pick from a configuration
abbrev pub picking_behind : Picking → Config → Picking
picking_behind picking c = after_pick picking (settled_config c).table.rows

-- how many alternatives the action of process p chooses among
abbrev pub choices_of : Program → Config → ℕ → ℕ
choices_of g c p = choices g (settled_config c) p (next_of g (settled_config c) p)

-- the configuration behind the action of process p
abbrev pub behind_action : Program → Picking → Config → ℕ → Config
behind_action g picking c p = (source_step g (settled_config c) p (choice_among (picking_behind picking c) (choices_of g c p))).config

-- The step of the machine is this step of the source text: the same fault or none, the same bytes, and the same choices from there on.
pub record AreStepsAlike (g : Program) (picking : Picking) (c : Config) (p : ℕ) (t : Step) : Type 0 where
  pub fault : t.fault ≡ fault_of (behind_action g picking c p).fault
  pub printed : (behind_action g picking c p).output ≡ c.output ++ t.printed
  pub picks : t.fault ≡ None → t.picking ≡ behind_choice (picking_behind picking c) (choices_of g c p)
  -- a fault ends the run there
  pub faulted : (f : FaultAt) → t.fault ≡ Some f → LookAlike (machine_settled t.machine) (settled_config (behind_action g picking c p))

-- ## So many actions

pub record AgreesHere (m : Machine) (c : Config) : Type 0 where
  pub alone : m.world.acting ≡ None
  pub sound : c.fault ≡ None
  pub settled : LookAlike (machine_settled m) (settled_config c)

-- Who is picked may act, both steps are alike, and this holds behind them, where they are no fault.
pub record AgreesInTurn (image : PlainImage) (g : Program) (picking : Picking) (m : Machine) (c : Config)
    (later : Picking → Machine → Config → Type 0) : Type 0 where
  pub here : AgreesHere m c
  pub may : (p : ℕ) → IsPicked picking (machine_settled m) p
      → MayAct image (after_pick picking (machine_settled m).world.rows) p (begins p (machine_settled m))
  pub alike : (p : ℕ) → IsPicked picking (machine_settled m) p → AreStepsAlike g picking c p (step_of image picking m p)
  pub onward : (p : ℕ) → IsPicked picking (machine_settled m) p → (step_of image picking m p).fault ≡ None
      → later (step_of image picking m p).picking (step_of image picking m p).machine (behind_action g picking c p)

-- In each of so many actions they agree.
abbrev pub Agree : PlainImage → Program → ℕ → Picking → Machine → Config → Type 0
Agree image g zero picking m c = AgreesHere m c
Agree image g (suc left) picking m c = AgreesInTurn image g picking m c (Agree image g left)

-- The action of a process that is picked: it may be done, it is alike on both sides, and this holds behind it, where it is no fault.
pub record ActsAlike (image : PlainImage) (g : Program) (picking : Picking) (m : Machine) (c : Config) (p : ℕ)
    (behind : Machine → Config → Type 0) : Type 0 where
  pub may : MayAct image (after_pick picking (machine_settled m).world.rows) p (begins p (machine_settled m))
  pub alike : AreStepsAlike g picking c p (step_of image picking m p)
  pub kept : (step_of image picking m p).fault ≡ None → behind (step_of image picking m p).machine (behind_action g picking c p)

-- ## Runs

-- The run of the machine from somewhere on, and that of the source text from a configuration on: where the machine does not stop counting, the ending is
-- the same, what is told of the end, and all that is printed; else a front of what the source text prints.
pub record AreRunsAlike (f : Run) (h : source_runs.Run) (c : Config) : Type 0 where
  pub ending : f.ending ≢ Memory → f.ending ≡ h.ending
  pub look : f.ending ≢ Memory → LookAlike f.machine h.config
  pub printed : f.ending ≢ Memory → h.config.output ≡ c.output ++ f.printed
  pub front : (bytes : List ℕ) × (h.config.output ≡ (c.output ++ f.printed) ++ bytes)
