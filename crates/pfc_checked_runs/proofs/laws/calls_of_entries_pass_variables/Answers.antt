use Rattle.pfc_checked_runs.proofs.arrived.Entering.{takes_variables, passes_locations}
use Rattle.pfc_checked_runs.proofs.laws.calls_of_entries_pass_variables.Goals as goal

pub returns : goal.returns
returns c =
    record {
      given = λ facts m d p level x s entry k given numbered acting arrived. takes_variables facts m d p level x s entry k given numbered acting arrived;
      passed = λ facts m d p level numbered acting arrived. passes_locations facts m d p level numbered acting arrived;
    }
