use Rattle.std.proofs.Common.{◌≡◌, ◌<◌, ◌≤◌, ◌^◌, ℕ, List, [], length, refl, arith}
use Rattle.pfc_tree.specs.Grammar.{IsSmall}
use Rattle.pfc_tree.specs.forget.Parts.{forget_program}
use Rattle.pfc_tree.specs.tokens.Parts.{tokens_of}
use Rattle.pfc_tree.specs.trees.Parts.{ProgramTree}
use Rattle.pfc_types.specs.rules.Whole.{broken}
use Rattle.pfc_monitor_laws.proofs.Tokens.{few_monitors as few_of_program}
use Rattle.pfc_represented_start.proofs.Checked.{none_broken, checked_start}
use Rattle.pfc_represented_start.specs.Starts.{start_facts}
use Rattle.pfc_semantics.specs.Configurations.{start}
use Rattle.pfc_semantics.specs.Programs.{program_of}
use Rattle.pfc_translation.specs.Images.{image_of}
use Rattle.pfc_machines.specs.Machines.{start_machine}
use Rattle.pfc_checked_runs.specs.Along.{IsSoAlong}
use Rattle.pfc_checked_runs.proofs.Along.{TellsAlong, so_at_first, goes_on_so}
use Rattle.pfc_checked_runs.proofs.Carried.{run_kept, run_rules}
use Rattle.pfc_checked_runs.proofs.laws.checked_runs_are_kept.Goals as goal

few_monitors : (t : ProgramTree) → IsSmall (forget_program t) → (image_of t).monitors < 2 ^ 32
few_monitors t text =
    let some : (image_of t).monitors ≤ length (tokens_of (forget_program t)) = few_of_program t text.lawful in
    let short : length (tokens_of (forget_program t)) ≤ 262144 = text.short in
    omega (arith, some, short)

pub returns : goal.returns
returns c =
    let tells : (t : ProgramTree) (input : List ℕ) (seed : ℕ) → broken t ≡ [] → TellsAlong (program_of t) (start (program_of t) input seed)
    = λ t input seed whole. record {
      start = c.checked_runs_tell_of_accepts.ensures.start t input seed whole;
      settles = λ d so. c.checked_runs_tell_of_accepts.ensures.settles t d whole so;
      steps = λ d p choice so ready alive inside passes. c.checked_runs_tell_of_accepts.ensures.steps t d p choice whole so ready alive inside passes;
    } in
    record {
      kept = λ t input seed text whole small bytes short.
          let clean = none_broken t whole in
          let lawful = text.lawful in
          let few = few_monitors t text in
          run_kept (start_facts t) refl (start (program_of t) input seed) (IsSoAlong (program_of t) (start (program_of t) input seed))
          (λ m d picking p agrees reached on so. goes_on_so t input seed lawful clean small bytes few
          (tells t input seed clean) m d picking p agrees reached on so)
          (start_machine (image_of t) input seed) (checked_start t input seed lawful clean short)
          (so_at_first t input seed lawful clean small bytes few (tells t input seed clean));
      rules = λ t input seed text whole small bytes short.
          let clean = none_broken t whole in
          let lawful = text.lawful in
          let few = few_monitors t text in
          run_rules (start_facts t) refl (start (program_of t) input seed) (IsSoAlong (program_of t) (start (program_of t) input seed))
          (λ m d picking p agrees reached on so. goes_on_so t input seed lawful clean small bytes few
          (tells t input seed clean) m d picking p agrees reached on so)
          (start_machine (image_of t) input seed) (checked_start t input seed lawful clean short)
          (so_at_first t input seed lawful clean small bytes few (tells t input seed clean));
    }
