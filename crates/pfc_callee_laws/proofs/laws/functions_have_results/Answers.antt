use Rattle.pfc_callee_laws.proofs.Blocks.{has_result}
use Rattle.pfc_callee_laws.proofs.laws.functions_have_results.Goals as goal

pub returns : goal.returns
returns c = λ t n lawful clean below function. has_result t lawful clean n below function
