-- One action of a process, as a function of the machine.
use Rattle.std.specs.Prelude.{ℕ, zero, suc, ◌≡◌, Bool, false, List, [], ◌++◌, length, Option, None, Some, Ok, Err}
use Rattle.pfc_base.specs.declared.faults.RunFault.{RunFault}
use Rattle.pfc_code.specs.declared.instructions.Instr.{Instr}
use Rattle.pfc_code.specs.Images.{PlainImage}
use Rattle.pfc_sched.specs.Picks.{Picking}
use Rattle.pfc_world.specs.Transitions.{begun}
use Rattle.pfc_machines.specs.declared.machine.Machine.{Machine}
use Rattle.pfc_machines.specs.Actions.{at_rest, PrintedEffect}
use Rattle.pfc_machines.specs.Quiet.{QuietEffect, goes, ends_in, acts}
use Rattle.pfc_select_actions.specs.Selects.{takes_up}
use Rattle.pfc_machine_acts.specs.Acting.{choice_among, after_choosing, acted, comes_to, line_of}
use Rattle.pfc_machine_acts.specs.Performing.{acts_by, choices_for, may_want_memory}
use Rattle.pfc_machine_acts.specs.Quietly.{quietly, next_instr}
use Rattle.pfc_machine_acts.specs.Running.{effect_of_next}
use Rattle.pfc_machine_acts.specs.declared.acts.ActionEnd.{ActionEnd}
use Rattle.pfc_machine_acts.specs.declared.acts.ActionEnd.TheVariants.{Done, Faulted}

-- ## Up to the action

-- the process acts
abbrev pub begins : ℕ → Machine → Machine
begins p m = record m { world = begun m.world p }

-- an instruction that is quiet is performed, and those behind it; at any other the machine stays
abbrev pub quiet_on : QuietEffect → (Machine → Machine) → Machine → Machine
quiet_on (goes m') others m = others m'
quiet_on (ends_in f) others m = m
quiet_on acts others m = m

-- the quiet instructions of process p, up to a number of them
abbrev pub quiet_up_to : PlainImage → ℕ → ℕ → Machine → Machine
quiet_up_to image p zero m = m
quiet_up_to image p (suc most) m = quiet_on (effect_of_next (next_instr image p m) image p m) (quiet_up_to image p most) m

-- Process p, which begins to act, has come to its next action: what it offered while it waited is gone, and its quiet instructions are done. The
-- code has as many instructions as none of these comes twice.
abbrev pub before_action : PlainImage → ℕ → Machine → Machine
before_action image p m = quiet_up_to image p (length image.code) (takes_up p (begins p m))

-- ## The action

pub record FaultAt : Type 0 where
  pub process : ℕ
  pub line : ℕ
  pub fault : RunFault

-- the machine behind an action, what the action prints, the fault that it is, and who picks behind it
pub record Step : Type 0 where
  pub machine : Machine
  pub printed : List ℕ
  pub fault : Option FaultAt
  pub picking : Picking

-- An action of process p at a line, counted. A choice among n was made, but for a fault, which changes nothing else.
abbrev pub counted : PrintedEffect → ℕ → ℕ → ℕ → Picking → Machine → Step
counted (Ok x) line p n picking before =
    record { machine = acted line p x.machine; printed = x.bytes; fault = None; picking = after_choosing picking n }
counted (Err f) line p n picking before =
    record { machine = acted line p (at_rest before); printed = []; fault = Some (record { process = p; line = line; fault = f }); picking = picking }

-- the action of an instruction before which the process stands; without one nothing is done
abbrev pub step_at : Option Instr → PlainImage → ℕ → Picking → Machine → Step
step_at None image p picking before = record { machine = before; printed = []; fault = None; picking = picking }
step_at (Some i) image p picking before =
    let n = choices_for i p before in
    counted (comes_to (quietly image i p before) (acts_by image i (choice_among picking n) p before)) (line_of image p before) p n picking before

-- the action of process p that comes next, with the choice that is made for it
abbrev pub step : PlainImage → ℕ → Picking → Machine → Step
step image p picking m = let before = before_action image p m in step_at (next_instr image p before) image p picking before

-- ## What an answer tells

-- the action of this instruction may want memory
abbrev pub may_want : Option Instr → Bool
may_want None = false
may_want (Some i) = may_want_memory i

-- whether the action was a fault, and which
abbrev pub Tells : ℕ → ActionEnd → Option FaultAt → Type 0
Tells p Done fault = fault ≡ None
Tells p (Faulted line f) fault = fault ≡ Some (record { process = p; line = line; fault = f })

-- it was this step of process p, and what it prints stands behind what was there
pub record IsStep (t : Step) (p : ℕ) (new : Machine) (picking : Picking) (out out' : List ℕ) (end : ActionEnd) : Type 0 where
  pub machine : new ≡ t.machine
  pub tells : Tells p end t.fault
  pub picked : picking ≡ t.picking
  pub written : out' ≡ out ++ t.printed
