-- What it is for an action to keep the representation.
use Rattle.std.specs.Prelude.{ℕ, ◌≡◌, ◌<◌, max, ◌++◌, Some, Ok, Err}
use Rattle.pfc_code.specs.declared.instructions.Instr.{Instr}
use Rattle.pfc_semantics.specs.Remainders.{Action}
use Rattle.pfc_semantics.specs.Configurations.{Config, Effect, after}
use Rattle.pfc_semantics.specs.Selects.{choices}
use Rattle.pfc_semantics.specs.Steps.{effect, line_of}
use Rattle.pfc_translation.specs.Images.{image_of}
use Rattle.pfc_machines.specs.declared.machine.Machine.{Machine}
use Rattle.pfc_machines.specs.Actions.{at_rest, PrintedEffect}
use Rattle.pfc_machine_acts.specs.Acting.{acted, comes_to, line_of as machine_line}
use Rattle.pfc_machine_acts.specs.Conditions.{CanDo}
use Rattle.pfc_machine_acts.specs.Performing.{acts_by, choices_for}
use Rattle.pfc_machine_acts.specs.Quietly.{quietly, next_instr, CanStep}
use Rattle.pfc_machine_acts.specs.Running.{IsNoMove}
use Rattle.pfc_representation.specs.Levels.{Facts, program_in, LivingLevel}
use Rattle.pfc_representation.specs.Machines.{Agrees}
use Rattle.pfc_representation.specs.Acting.{IsActing, HasArrived}

-- a choice among so many, the first where there are none
abbrev pub IsChoice : ℕ → ℕ → Type 0
IsChoice choice n = choice < max 1 n

-- Both sides have come to the same: behind the action, counted, the machine agrees with the configuration, and has printed what the output grew by; or both
-- end in the same fault.
abbrev pub ComeToSame : Facts → Machine → Config → ℕ → ℕ → PrintedEffect → Effect → Type 0
ComeToSame facts m c p line (Ok printed) (Ok d) =
    Agrees facts (acted line p printed.machine) (after (program_in facts) c p line (Ok d)) × (d.output ≡ c.output ++ printed.bytes)
ComeToSame facts m c p line (Err f) (Err g) = (f ≡ g) × Agrees facts (acted line p (at_rest m)) (after (program_in facts) c p line (Err g))
ComeToSame facts m c p line (Ok printed) (Err g) = ⊥
ComeToSame facts m c p line (Err f) (Ok d) = ⊥

-- The machine's instruction may be performed, is the action, and does what the action does in the source text.
pub record IsKept (facts : Facts) (m : Machine) (c : Config) (p choice : ℕ) (n : Action) : Type 0 where
  pub instr : Instr
  pub is : next_instr (image_of facts.tree) p m ≡ Some instr
  pub can_step : CanStep (image_of facts.tree) instr p m
  pub no_move : IsNoMove (quietly (image_of facts.tree) instr p m)
  pub can_do : CanDo (image_of facts.tree) instr choice p m
  pub line : machine_line (image_of facts.tree) p m ≡ line_of n
  pub choices : choices_for instr p m ≡ choices (program_in facts) c p n
  pub same :
      ComeToSame facts m c p (line_of n) (comes_to (quietly (image_of facts.tree) instr p m) (acts_by (image_of facts.tree) instr choice p m))
      (effect (program_in facts) c p choice n)

-- The form of a law on some actions, at some levels: wherever the code of the process that acts has arrived at one of them.
abbrev pub AreKept : (LivingLevel → Action → Type 0) → Type 0
AreKept P =
    (facts : Facts) (m : Machine) (c : Config) (p choice : ℕ) (level : LivingLevel) (n : Action) → P level n → IsActing facts m c p level
    → HasArrived facts m c p level n → IsChoice choice (choices (program_in facts) c p n) → IsKept facts m c p choice n
