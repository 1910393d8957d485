use Rattle.pfc_kept_calls.proofs.Callable.{procedure_may_be_called, function_may_be_called, function_has_result}
use Rattle.pfc_kept_calls.proofs.laws.checked_programs_may_call.Goals as goal

pub returns-clause-procedures : goal.returns-clause-procedures
returns-clause-procedures c = procedure_may_be_called

pub returns-clause-functions : goal.returns-clause-functions
returns-clause-functions c = function_may_be_called

pub returns-clause-results : goal.returns-clause-results
returns-clause-results c = function_has_result
