-- Where a process that is about to act comes to its next action.
use Rattle.std.specs.Prelude.{List, ◌++◌, Result, Ok, Err, Some, ℕ, ◌^◌, ◌≡◌, ◌≤◌, ◌<◌, true, length}
use Rattle.pfc_base.specs.declared.memory_error.Memory.{Memory}
use Rattle.pfc_code.specs.declared.instructions.Instr.{Instr}
use Rattle.pfc_tree.specs.trees.Parts.{ProgramTree}
use Rattle.pfc_state.specs.Stands.{Is_ready}
use Rattle.pfc_world.specs.Tables.{at}
use Rattle.pfc_world.specs.Transitions.{begun}
use Rattle.pfc_sched.specs.Picks.{Picking}
use Rattle.pfc_semantics.specs.Configurations.{Config, Effect}
use Rattle.pfc_semantics.specs.Programs.{program_of}
use Rattle.pfc_semantics.specs.Events.{step}
use Rattle.pfc_semantics.specs.Selects.{choices}
use Rattle.pfc_semantics.specs.Steps.{effect, line_of, next_of}
use Rattle.pfc_translation.specs.Images.{image_of}
use Rattle.pfc_machines.specs.declared.machine.Machine.{Machine}
use Rattle.pfc_machines.specs.Actions.{at_rest}
use Rattle.pfc_select_actions.specs.Selects.{takes_up}
use Rattle.pfc_machine_acts.specs.declared.acts.ActionEnd.{ActionEnd}
use Rattle.pfc_machine_acts.specs.declared.acts.ActionEnd.TheVariants.{Done, Faulted}
use Rattle.pfc_machine_acts.specs.Acting.{MayAct, choice_among, comes_to, line_of as machine_line}
use Rattle.pfc_machine_acts.specs.Performing.{acts_by, choices_for, may_want_memory}
use Rattle.pfc_machine_acts.specs.Quietly.{next_instr, quietly}
use Rattle.pfc_machine_acts.specs.Running.{QuietRun}
use Rattle.pfc_object_laws.specs.Objects.{number_at}
use Rattle.pfc_run_rules.specs.Rules.{KeepsToRules}
use Rattle.pfc_representation.specs.Levels.{Facts, program_in, LivingLevel}
use Rattle.pfc_representation.specs.Machines.{Agrees, Represents}
use Rattle.pfc_representation.specs.Acting.{IsActing, TakesNumber, HasArrived}
use Rattle.pfc_representation.specs.Actions.{IsChoice, ComeToSame, IsKept}

-- the process acts
abbrev pub begins : ℕ → Machine → Machine
begins p m = record m { world = begun m.world p }

-- Process p is ready and may be picked. What its next action takes as a count or as a rank has 32 bits.
pub record IsAboutToAct (facts : Facts) (m : Machine) (c : Config) (p : ℕ) : Type 0 where
  pub process : p < length c.activities
  pub ready : at c.table.rows p ≡ Is_ready
  pub few : c.table.done < 10 ^ 18
  pub number : TakesNumber (next_of (program_in facts) c p)

-- Quiet instructions of process p, no more than the code has, lead to the action that comes next in the source text.
pub record ComesToAction (facts : Facts) (m : Machine) (c : Config) (p : ℕ) : Type 0 where
  pub level : LivingLevel
  pub count : ℕ
  pub before : Machine
  pub run : QuietRun (image_of facts.tree) p count (takes_up p (begins p m)) before
  pub few : count ≤ length (image_of facts.tree).code
  pub acting : IsActing facts before c p level
  pub arrived : HasArrived facts before c p level (next_of (program_in facts) c p)

-- And where that action may want memory, the machine represents the same configuration there, with nobody acting.
pub record ComesAndStays (facts : Facts) (m : Machine) (c : Config) (p : ℕ) : Type 0 where
  pub come : ComesToAction facts m c p
  pub stays : (i : Instr) → next_instr (image_of facts.tree) p come.before ≡ Some i → may_want_memory i ≡ true
      → Represents facts (at_rest come.before) c

-- Process p may act on the machine, and what its action comes to there and in the source text is the same, with the same choice. Where the action may want
-- memory, the machine represents the same configuration before it.
pub record ActsAsItsSource (facts : Facts) (m : Machine) (c : Config) (p : ℕ) (picking : Picking) : Type 0 where
  pub may : MayAct (image_of facts.tree) picking p (begins p m)
  pub line : machine_line (image_of facts.tree) p may.before ≡ line_of (next_of (program_in facts) c p)
  pub choices_same : choices_for may.instr p may.before ≡ choices (program_in facts) c p (next_of (program_in facts) c p)
  pub same :
      let choice = choice_among picking (choices_for may.instr p may.before) in
      ComeToSame facts may.before c p (line_of (next_of (program_in facts) c p))
      (comes_to (quietly (image_of facts.tree) may.instr p may.before) (acts_by (image_of facts.tree) may.instr choice p may.before))
      (effect (program_in facts) c p choice (next_of (program_in facts) c p))
  pub stays : may_want_memory may.instr ≡ true → Represents facts (at_rest may.before) c

-- The action has ended as in the source text: without a fault, or in the same fault, on this line.
abbrev pub EndsAs : ActionEnd → ℕ → Effect → Type 0
EndsAs Done line (Ok d) = Unit {0}
EndsAs (Faulted at f) line (Err g) = (at ≡ line) × (f ≡ g)
EndsAs end line e = ⊥

-- What an action has come to, of which this is the answer: the machine agrees with the configuration behind the step of the source text, what the action
-- prints stands behind what was there on both sides, and it has ended as the step. Want of memory is no action: the machine represents the same configuration
-- still, and nothing is printed.
abbrev pub HasAgreed : Facts → Config → ℕ → ℕ → Result ActionEnd Memory → List ℕ → List ℕ → Machine → Type 0
HasAgreed facts c p choice (Ok end) out out' new =
    let behind = (step (program_in facts) c p choice).config in
    Agrees facts new behind × ((bytes : List ℕ) × (out' ≡ out ++ bytes) × (behind.output ≡ c.output ++ bytes))
    × EndsAs end (line_of (next_of (program_in facts) c p)) (effect (program_in facts) c p choice (next_of (program_in facts) c p))
HasAgreed facts c p choice (Err memory) out out' new = Represents facts new c × (out' ≡ out)

-- ## The numbers of objects

-- the objects have the numbers that the image of the program gives them
abbrev pub AreNumbered : Facts → Type 0
AreNumbered facts = facts.number ≡ number_at (image_of facts.tree).objects

-- so it is told where a process is at this level
abbrev pub IsNumbered : LivingLevel → Type 0
IsNumbered level = (t : ProgramTree) → level.setting.program ≡ program_of t → level.setting.number ≡ number_at (image_of t).objects

-- ## The next action

-- What a process does next is kept, on every machine whose code has arrived there, where the objects are numbered so and the run keeps to the rules.
abbrev pub IsNextKept : Facts → Config → ℕ → Type 0
IsNextKept facts c p =
    let n = next_of (program_in facts) c p in
    (m : Machine) (choice : ℕ) (level : LivingLevel) → IsNumbered level → KeepsToRules (program_in facts) c p → IsActing facts m c p level
    → HasArrived facts m c p level n → IsChoice choice (choices (program_in facts) c p n) → IsKept facts m c p choice n
