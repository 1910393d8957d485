use Rattle.pfc_kept_calls.proofs.Calling.{procedures_kept, functions_kept}
use Rattle.pfc_kept_calls.proofs.laws.calls_are_kept.Goals as goal

pub returns-clause-procedures : goal.returns-clause-procedures
returns-clause-procedures c = procedures_kept

pub returns-clause-functions : goal.returns-clause-functions
returns-clause-functions c = functions_kept
