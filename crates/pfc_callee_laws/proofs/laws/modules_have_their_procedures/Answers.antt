use Rattle.pfc_callee_laws.proofs.Modules.{module_found, called_of_module}
use Rattle.pfc_callee_laws.proofs.Requeues.{requeued_from}
use Rattle.pfc_callee_laws.proofs.laws.modules_have_their_procedures.Goals as goal

pub returns-clause-found : goal.returns-clause-found
returns-clause-found c = λ t n lawful low. module_found t lawful n low

pub returns-clause-from_outside : goal.returns-clause-from_outside
returns-clause-from_outside c = λ t b n scope formals lawful clean is. called_of_module t lawful clean b n scope formals is

pub returns-clause-by_requeue : goal.returns-clause-by_requeue
returns-clause-by_requeue c = λ t b scope formals lawful clean body is. requeued_from t lawful clean b scope formals body is
