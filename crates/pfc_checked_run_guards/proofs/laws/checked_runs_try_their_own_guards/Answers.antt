use Rattle.std.proofs.Common.{[], ◌∷◌, None}
use Rattle.pfc_semantics.specs.Programs.{program_of}
use Rattle.pfc_semantics.specs.Configurations.{main_activation, start}
use Rattle.pfc_guard_laws.specs.Configurations.{Left}
use Rattle.pfc_guard_laws.proofs.Runs.{start_suits, all_barred, next_guards}
use Rattle.pfc_guard_laws.proofs.Leaving.{next_left}
use Rattle.pfc_guard_laws.proofs.Keeping.{run_keeps}
use Rattle.pfc_run_guards.proofs.Headings.{checked_program}
use Rattle.pfc_checked_run_guards.proofs.Headings.{headings_stand}
use Rattle.pfc_checked_run_guards.proofs.laws.checked_runs_try_their_own_guards.Goals as goal

pub returns : goal.returns
returns c =
    record {
      headings = λ t lawful whole. headings_stand t lawful whole;
      programs = λ t lawful whole. checked_program t lawful whole (headings_stand t lawful whole);
      barred = λ t input seed d lawful whole comes.
          let g = program_of t in
          let program = checked_program t lawful whole (headings_stand t lawful whole) in
          all_barred g program (start g input seed) d (λ q. main_activation g ∷ [], start_suits g None (λ own s. Unit {0}) program input seed) comes;
      next = λ t input seed d p lawful whole comes.
          let g = program_of t in
          let program = checked_program t lawful whole (headings_stand t lawful whole) in
          next_guards g program (start g input seed) d (λ q. main_activation g ∷ [], start_suits g None (λ own s. Unit {0}) program input seed) comes p;
      scans = λ t input seed d p lawful whole comes.
          let g = program_of t in
          let program = checked_program t lawful whole (headings_stand t lawful whole) in
          next_left g program (start g input seed) d (λ q. main_activation g ∷ [], start_suits g None Left program input seed) comes p;
      rules = λ t input seed d p lawful whole comes outside holds.
          run_keeps (program_of t) input seed d p (checked_program t lawful whole (headings_stand t lawful whole)) comes outside holds;
    }
