use Rattle.pfc_semantics.specs.Programs.{program_of}
use Rattle.pfc_accept_programs.proofs.laws.checked_runs_tell_of_accepts.Goals as goal

pub returns : goal.returns
returns c =
    record {
      start = λ t input seed whole.
          record {
            back = c.first_displays_come_back.ensures.start (program_of t) input seed;
            passed = c.callers_pass_locations.ensures.start (program_of t) input seed;
            placed = c.processes_stay_placed.ensures.start (program_of t) input seed (c.checked_programs_have_places.ensures t whole);
          };
      settles = λ t d whole so.
          record {
            back = c.first_displays_come_back.ensures.settles (program_of t) d so.back;
            passed = c.callers_pass_locations.ensures.settles (program_of t) d so.passed;
            placed = c.processes_stay_placed.ensures.settles (program_of t) d (c.checked_programs_have_places.ensures t whole) so.placed;
          };
      steps = λ t d p choice whole so ready alive inside passes.
          record {
            back = c.first_displays_come_back.ensures.steps (program_of t) d p choice so.back alive inside;
            passed = c.callers_pass_locations.ensures.steps (program_of t) d p choice so.passed passes;
            placed =
                c.processes_stay_placed.ensures.steps (program_of t) d p choice (c.checked_programs_have_places.ensures t whole) so.placed ready alive
                inside;
          };
    }
