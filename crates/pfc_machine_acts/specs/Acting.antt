-- One action of a process, counted.
use Rattle.std.specs.Prelude.{ℕ, zero, suc, ◌≡◌, ◌<◌, true, List, ◌++◌, length, get_or, set, Result, Ok, Err}
use Rattle.pfc_base.specs.declared.memory_error.Memory.{Memory}
use Rattle.pfc_code.specs.declared.instructions.Instr.{Instr}
use Rattle.pfc_code.specs.Images.{PlainImage}
use Rattle.pfc_sched.specs.Picks.{Picking, chosen, after_choice}
use Rattle.pfc_stacks.specs.Stacks.{stack_of}
use Rattle.pfc_world.specs.Tables.{Table}
use Rattle.pfc_world.specs.Transitions.{ticked}
use Rattle.pfc_machines.specs.declared.machine.Machine.{Machine}
use Rattle.pfc_machines.specs.Actions.{at_rest, Printed, PrintedEffect}
use Rattle.pfc_machines.specs.Descriptors.{descriptor_of}
use Rattle.pfc_machines.specs.Quiet.{QuietEffect, goes, ends_in, acts}
use Rattle.pfc_select_actions.specs.Selects.{takes_up}
use Rattle.pfc_machine_acts.specs.declared.acts.ActionEnd.{ActionEnd}
use Rattle.pfc_machine_acts.specs.declared.acts.ActionEnd.TheVariants.{Done, Faulted}
use Rattle.pfc_machine_acts.specs.Conditions.{CanDo}
use Rattle.pfc_machine_acts.specs.Performing.{acts_by, choices_for, may_want_memory}
use Rattle.pfc_machine_acts.specs.Quietly.{quietly}
use Rattle.pfc_machine_acts.specs.Running.{IsNext}

-- ## Choices

-- A choice is drawn only where there is something to choose among.
abbrev pub choice_among : Picking → ℕ → ℕ
choice_among picking zero = 0
choice_among picking (suc n) = chosen picking (suc n)

abbrev pub after_choosing : Picking → ℕ → Picking
after_choosing picking zero = picking
after_choosing picking (suc n) = after_choice picking

-- ## Counting

-- An action of process p at a line was done: the process has the line, and the number of actions and the clock rise by 1.
abbrev pub acted : ℕ → ℕ → Machine → Machine
acted line p m = record m {
  world = ticked m.world;
  descriptors = set m.descriptors p (record (descriptor_of m.descriptors p) { line = line });
}

-- the number of actions, and the clock
abbrev pub clock : Table → ℕ × ℕ
clock w = (w.done, w.moment)

-- what is performed leaves both as they are in a table
abbrev pub KeepsClock : Table → PrintedEffect → Type 0
KeepsClock w (Ok x) = clock x.machine.world ≡ clock w
KeepsClock w (Err f) = Unit {0}

-- the line of the instruction at which the process stands
abbrev pub line_of : PlainImage → ℕ → Machine → ℕ
line_of image p m = get_or image.lines (stack_of m.stacks p).at 0

-- ## An action

-- what an action comes to, by what it does quietly: the fault of an instruction that is quiet else is one
abbrev pub comes_to : QuietEffect → PrintedEffect → PrintedEffect
comes_to (goes m) e = e
comes_to (ends_in f) e = Err f
comes_to acts e = e

-- The process stands before its next action, with nothing that it offered while it waited, and may do it.
pub record MayAct (image : PlainImage) (picking : Picking) (p : ℕ) (m : Machine) : Type 0 where
  pub short : length image.code < 4294967296
  pub descriptor : p < length m.descriptors
  pub count : ℕ
  pub before : Machine
  pub instr : Instr
  pub next : IsNext image p (takes_up p m) count before instr
  pub can : CanDo image instr (choice_among picking (choices_for instr p before)) p before

-- it was done
pub record IsDone (e : PrintedEffect) (line p n : ℕ) (picking picking' : Picking) (out out' : List ℕ) (new : Machine) : Type 0 where
  pub printed : Printed
  pub is : e ≡ Ok printed
  pub machine : new ≡ acted line p printed.machine
  pub bytes : out' ≡ out ++ printed.bytes
  pub chosen : picking' ≡ after_choosing picking n

-- What the answer to an action of process p by an instruction tells, which stands before it at a line, and chooses among n. A fault changes nothing
-- but the count, the clock and the line. Want of memory comes only of an action that may want it and changes nothing: it can be tried again.
abbrev pub IsAnswer : PrintedEffect → Instr → ℕ → ℕ → ℕ → Machine → Picking → Picking → List ℕ → List ℕ → Result ActionEnd Memory → Machine → Type 0
IsAnswer e i line p n before picking picking' out out' (Ok Done) new = IsDone e line p n picking picking' out out' new
IsAnswer e i line p n before picking picking' out out' (Ok (Faulted at f)) new =
    (e ≡ Err f) × (at ≡ line) × (new ≡ acted line p (at_rest before)) × (out' ≡ out) × (picking' ≡ picking)
IsAnswer e i line p n before picking picking' out out' (Err memory) new =
    (may_want_memory i ≡ true) × (new ≡ at_rest before) × (out' ≡ out) × (picking' ≡ picking)

-- an action of instruction i, before which the process came
abbrev pub IsActed : PlainImage → ℕ → Machine → Instr → Picking → Picking → List ℕ → List ℕ → Result ActionEnd Memory → Machine → Type 0
IsActed image p before i picking picking' out out' result new =
    let n = choices_for i p before in
    IsAnswer (comes_to (quietly image i p before) (acts_by image i (choice_among picking n) p before)) i (line_of image p before) p n before
    picking picking' out out' result new
