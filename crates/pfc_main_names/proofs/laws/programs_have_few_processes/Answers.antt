use Rattle.pfc_main_names.proofs.Few.{few_processes}
use Rattle.pfc_main_names.proofs.laws.programs_have_few_processes.Goals as goal

pub returns : goal.returns
returns c = λ t lawful whole. few_processes t lawful whole
