-- What holds at the start of a run, and behind each action on a machine that agrees with the configuration before it, holds wherever the run comes.
use Rattle.std.proofs.Common.{ℕ}
use Rattle.pfc_sched.specs.Picks.{Picking}
use Rattle.pfc_semantics.specs.Configurations.{Config}
use Rattle.pfc_semantics.specs.Programs.{Program}
use Rattle.pfc_semantics.specs.Steps.{next_of}
use Rattle.pfc_semantics.specs.Time.{settled_config}
use Rattle.pfc_translation.specs.Images.{image_of}
use Rattle.pfc_machines.specs.declared.machine.Machine.{Machine}
use Rattle.pfc_run_agreement.specs.Agreement.{behind_action}
use Rattle.pfc_run_rules.specs.Rules.{KeepsToRules}
use Rattle.pfc_representation.specs.Acting.{TakesNumber}
use Rattle.pfc_representation.specs.Levels.{Facts, program_in}
use Rattle.pfc_representation.specs.Machines.{Represents, Agrees, goes_on}
use Rattle.pfc_arrivals.specs.Arrivals.{AreNumbered, IsNextKept}
use Rattle.pfc_sessions.specs.Runs.{step_of}
use Rattle.pfc_simulation.specs.Reached.{GoesOn, IsReached, at_first, one_further, RunKeepsToRules, IsRunKept}
use Rattle.pfc_simulation.proofs.Stepping.{steps_agree}

-- Of an action of process p: what it takes has 32 bits, the run keeps to the rules there, the action is kept, and behind it this holds again.
pub record GoesOnHolding (facts : Facts) (holds : Config → Type 0) (c : Config) (picking : Picking) (p : ℕ) : Type 0 where
  pub number : TakesNumber (next_of (program_in facts) (settled_config c) p)
  pub rules : KeepsToRules (program_in facts) (settled_config c) p
  pub kept : IsNextKept facts (settled_config c) p
  pub behind : holds (behind_action (program_in facts) picking c p)

-- so it is of each action that comes next on a machine that agrees with the configuration
abbrev pub Carries : Facts → Config → (Config → Type 0) → Type 0
Carries facts first holds =
    (m : Machine) (c : Config) (picking : Picking) (p : ℕ) → Agrees facts m c → IsReached (program_in facts) first c → GoesOn c picking p → holds c
    → GoesOnHolding facts holds c picking p

-- a machine that agrees with the configuration, of which this holds
pub record IsHeld (facts : Facts) (holds : Config → Type 0) (c : Config) : Type 0 where
  pub machine : Machine
  pub agrees : Agrees facts machine c
  pub holding : holds c

module _
    (facts : Facts) (numbered : AreNumbered facts) (first : Config) (holds : Config → Type 0) (carries : Carries facts first holds) (m : Machine)
    (is : Represents facts m first) (from : holds first)
  where
    abbrev g : Program
    g = program_in facts

    module _ (c : Config) (picking : Picking) (p : ℕ) (reached : IsReached g first c) (on : GoesOn c picking p) (held : IsHeld facts holds c) where
      goes : GoesOnHolding facts holds c picking p
      goes = carries held.machine c picking p held.agrees reached on held.holding

      behind_by : GoesOnHolding facts holds c picking p → IsHeld facts holds (behind_action g picking c p)
      behind_by so = record {
        machine = (step_of (image_of facts.tree) picking held.machine p).machine;
        agrees = (steps_agree facts picking held.machine c p held.agrees on numbered so.number so.rules so.kept).agrees;
        holding = so.behind;
      }

      held_behind : IsHeld facts holds (behind_action g picking c p)
      held_behind = behind_by goes

    held_at : (c : Config) → IsReached g first c → IsHeld facts holds c
    held_at _ at_first = record { machine = m; agrees = goes_on is; holding = from }
    held_at _ (one_further c picking p reached on) = held_behind c picking p reached on (held_at c reached)

    pub goes_at : (c : Config) (picking : Picking) (p : ℕ) → IsReached g first c → GoesOn c picking p → GoesOnHolding facts holds c picking p
    goes_at c picking p reached on = goes c picking p reached on (held_at c reached)

    pub run_kept : IsRunKept facts first
    run_kept c picking p reached on = (goes_at c picking p reached on).kept

    pub run_rules : RunKeepsToRules g first
    run_rules c picking p reached on = ((goes_at c picking p reached on).number, (goes_at c picking p reached on).rules)
