use Rattle.pfc_kept_calls.proofs.Callable.{procedure_calls_kept, function_calls_kept, function_ends_kept}
use Rattle.pfc_kept_calls.proofs.laws.plain_calls_are_kept.Goals as goal

pub returns-clause-procedures : goal.returns-clause-procedures
returns-clause-procedures c = procedure_calls_kept

pub returns-clause-functions : goal.returns-clause-functions
returns-clause-functions c = function_calls_kept

pub returns-clause-ends : goal.returns-clause-ends
returns-clause-ends c = function_ends_kept
