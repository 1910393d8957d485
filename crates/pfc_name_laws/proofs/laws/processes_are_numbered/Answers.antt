use Rattle.pfc_name_laws.proofs.Processes.{program_processes}
use Rattle.pfc_name_laws.proofs.laws.processes_are_numbered.Goals as goal

pub returns : goal.returns
returns c = λ t lawful. program_processes t lawful
