use Rattle.pfc_number_runs.proofs.Reached.{checked_take}
use Rattle.pfc_number_runs.proofs.laws.checked_runs_take_numbers.Goals as goal

pub returns : goal.returns
returns c = λ t input seed lawful whole small bytes. checked_take t input seed lawful whole small bytes
