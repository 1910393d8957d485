-- A run keeps to all rules where it returns once from what it has entered, and holds what it resumes in.
use Rattle.std.proofs.Common.{◌≡◌, ℕ, List, [], ◌∷◌, None, refl}
use Rattle.pfc_semantics.specs.Programs.{Program}
use Rattle.pfc_semantics.specs.Remainders.{Action, finishes, resumes, scans, bars, passes}
use Rattle.pfc_semantics.specs.Configurations.{Config, main_activation, start}
use Rattle.pfc_semantics.specs.Steps.{next_of}
use Rattle.pfc_semantics.specs.Time.{settled_config}
use Rattle.pfc_run_rules.specs.Rules.{IsByRules, KeepsToRules}
use Rattle.pfc_guard_laws.specs.Remainders.{GuardsByRules}
use Rattle.pfc_guard_laws.specs.Configurations.{SuitsProgram, Left, ScansByRules}
use Rattle.pfc_guard_laws.specs.Runs.{RunsTo, at_first, acts, RunsOnce, once_first, acts_once}
use Rattle.pfc_guard_laws.specs.Keeping.{IsOutsideAtEnds, HoldsAtResumes}
use Rattle.pfc_guard_laws.proofs.Runs.{start_suits, all_barred, next_guards}
use Rattle.pfc_guard_laws.proofs.Leaving.{next_left}

pub runs_to : (g : Program) (first c : Config) → RunsOnce g first c → RunsTo g first c
runs_to g first _ once_first = at_first
runs_to g first _ (acts_once c p choice before ready once) = acts c p choice (runs_to g first c before) ready

by_rules :
    (g : Program) (c : Config) (p : ℕ) → IsOutsideAtEnds g c p → HoldsAtResumes g c p → (n : Action) → next_of g c p ≡ n → GuardsByRules g n
    → ScansByRules g c p n → IsByRules g c p n
by_rules g c p outside holds (finishes line) e guards left = λ n a innermost marked. outside line n a e innermost marked
by_rules g c p outside holds (resumes x v k) e guards left = holds x v k e
by_rules g c p outside holds (scans x s k) e guards left = (guards, left)
by_rules g c p outside holds (bars x b k) e guards left = guards
by_rules g c p outside holds (passes x w s k) e guards left = left
by_rules g c p outside holds n e guards left = tt

pub run_keeps :
    (g : Program) (input : List ℕ) (seed : ℕ) (c : Config) (p : ℕ) → SuitsProgram g → RunsOnce g (start g input seed) c
    → IsOutsideAtEnds g (settled_config c) p → HoldsAtResumes g (settled_config c) p → KeepsToRules g (settled_config c) p
run_keeps g input seed c p program comes outside holds =
    let first = start g input seed in
    let run = runs_to g first c comes in
    record {
      barred = all_barred g program first c (λ q. main_activation g ∷ [], start_suits g None (λ own s. Unit {0}) program input seed) run;
      action =
          by_rules g (settled_config c) p outside holds (next_of g (settled_config c) p) refl
          (next_guards g program first c (λ q. main_activation g ∷ [], start_suits g None (λ own s. Unit {0}) program input seed) run p)
          (next_left g program first c (λ q. main_activation g ∷ [], start_suits g None Left program input seed) comes p);
    }
