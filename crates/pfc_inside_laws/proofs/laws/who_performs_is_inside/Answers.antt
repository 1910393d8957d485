use Rattle.pfc_inside_laws.specs.Inside.{inside_of}
use Rattle.pfc_inside_laws.proofs.Inside.{closed, stable, program_fits, resumes_inside}
use Rattle.pfc_run_invariants.proofs.Runs.{settled_fits, start_fits, step_fits}
use Rattle.pfc_inside_laws.proofs.laws.who_performs_is_inside.Goals as goal

pub returns : goal.returns
returns c =
    record {
      start = λ g input seed scoped text bytes. start_fits (inside_of g) (closed g scoped) (program_fits g scoped text) input seed bytes;
      settles = λ g d scoped inside. settled_fits (inside_of g) (stable g scoped) d inside;
      steps = λ g d p choice scoped text inside ready alive.
          step_fits (inside_of g) (closed g scoped) (program_fits g scoped text) (stable g scoped) d p choice inside (ready, alive);
      resumes = λ g d p n x v k scoped text inside alive child is monitor. resumes_inside g scoped text d p n x v k inside alive child is monitor;
    }
