-- Where runs of the source text may come, and what is so there.
use Rattle.std.specs.Prelude.{ℕ, ◌≡◌, ◌<◌, ◌^◌, None}
use Rattle.pfc_sched.specs.Picks.{Picking, picked}
use Rattle.pfc_sched.specs.declared.picking.Pick.TheVariants.{Process}
use Rattle.pfc_semantics.specs.Configurations.{Config}
use Rattle.pfc_semantics.specs.Programs.{Program}
use Rattle.pfc_semantics.specs.Runs.{ending_at}
use Rattle.pfc_semantics.specs.Steps.{next_of}
use Rattle.pfc_semantics.specs.Time.{settled_config}
use Rattle.pfc_representation.specs.Acting.{TakesNumber}
use Rattle.pfc_run_rules.specs.Rules.{KeepsToRules}
use Rattle.pfc_representation.specs.Levels.{Facts, program_in}
use Rattle.pfc_arrivals.specs.Arrivals.{IsNextKept}
use Rattle.pfc_run_agreement.specs.Agreement.{behind_action}

-- From a configuration a run goes on: it is not at its end there, process p is picked, and fewer than 10^18 actions are done, as many as the machine counts.
pub record GoesOn (c : Config) (picking : Picking) (p : ℕ) : Type 0 where
  pub goes : ending_at (settled_config c) ≡ None
  pub picks : picked picking (settled_config c).table.rows ≡ Process p
  pub few : (settled_config c).table.done < 10 ^ 18

-- A run from the first configuration comes to this one, whoever picks in each action.
pub data IsReached (g : Program) (first : Config) : Config → Type 0 where
  at_first : IsReached g first first
  one_further : (c : Config) (picking : Picking) (p : ℕ) → IsReached g first c → GoesOn c picking p → IsReached g first (behind_action g picking c p)

-- Wherever a run from there comes and goes on, it keeps to the rules, and what the next action takes as a count or as a rank has 32 bits. It is a fact about
-- the source text alone.
abbrev pub RunKeepsToRules : Program → Config → Type 0
RunKeepsToRules g first =
    (c : Config) (picking : Picking) (p : ℕ) → IsReached g first c → GoesOn c picking p
    → TakesNumber (next_of g (settled_config c) p) × KeepsToRules g (settled_config c) p

-- Wherever a run from there comes and goes on, what the process that is picked does next is kept.
abbrev pub IsRunKept : Facts → Config → Type 0
IsRunKept facts first =
    (c : Config) (picking : Picking) (p : ℕ) → IsReached (program_in facts) first c → GoesOn c picking p → IsNextKept facts (settled_config c) p
