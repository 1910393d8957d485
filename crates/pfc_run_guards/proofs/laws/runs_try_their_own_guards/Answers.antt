use Rattle.std.proofs.Common.{[], ◌∷◌, None}
use Rattle.pfc_semantics.specs.Programs.{program_of}
use Rattle.pfc_semantics.specs.Configurations.{main_activation, start}
use Rattle.pfc_guard_laws.proofs.Runs.{start_suits, all_barred, next_guards}
use Rattle.pfc_run_guards.proofs.Headings.{checked_program}
use Rattle.pfc_run_guards.proofs.laws.runs_try_their_own_guards.Goals as goal

pub returns : goal.returns
returns c =
    record {
      programs = λ t lawful whole headings. checked_program t lawful whole headings;
      barred = λ t input seed d lawful whole headings comes.
          let g = program_of t in
          let program = checked_program t lawful whole headings in
          all_barred g program (start g input seed) d (λ q. main_activation g ∷ [], start_suits g None (λ own s. Unit {0}) program input seed) comes;
      next = λ t input seed d p lawful whole headings comes.
          let g = program_of t in
          let program = checked_program t lawful whole headings in
          next_guards g program (start g input seed) d (λ q. main_activation g ∷ [], start_suits g None (λ own s. Unit {0}) program input seed) comes p;
    }
