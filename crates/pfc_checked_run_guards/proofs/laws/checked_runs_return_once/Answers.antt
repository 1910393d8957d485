use Rattle.std.proofs.Common.{Some}
use Rattle.pfc_semantics.specs.Programs.{program_of}
use Rattle.pfc_guard_laws.proofs.Keeping.{run_keeps}
use Rattle.pfc_guard_laws.proofs.Living.{outside_so, runs_once}
use Rattle.pfc_run_guards.proofs.Headings.{checked_program, checked_in_order}
use Rattle.pfc_checked_run_guards.proofs.Headings.{headings_stand}
use Rattle.pfc_checked_run_guards.proofs.laws.checked_runs_return_once.Goals as goal

pub returns : goal.returns
returns c =
    record {
      suits = λ t tops lawful whole order. checked_in_order t lawful whole (headings_stand t lawful whole) tops order;
      once = λ t tops input seed d lawful whole order comes.
          runs_once tops (program_of t) (checked_in_order t lawful whole (headings_stand t lawful whole) (Some tops) order) input seed d comes;
      outside = λ t tops input seed d p lawful whole order comes.
          outside_so tops (program_of t) (checked_in_order t lawful whole (headings_stand t lawful whole) (Some tops) order) input seed d p comes;
      rules = λ t tops input seed d p lawful whole order comes holds.
          let headings = headings_stand t lawful whole in
          let so = checked_in_order t lawful whole headings (Some tops) order in
          run_keeps (program_of t) input seed d p (checked_program t lawful whole headings) (runs_once tops (program_of t) so input seed d comes)
          (outside_so tops (program_of t) so input seed d p comes) holds;
    }
