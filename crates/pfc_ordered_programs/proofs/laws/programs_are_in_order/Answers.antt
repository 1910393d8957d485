use Rattle.pfc_ordered_programs.proofs.Programs.{program_in_order}
use Rattle.pfc_ordered_programs.proofs.laws.programs_are_in_order.Goals as goal

pub returns : goal.returns
returns c = λ t lawful. program_in_order t lawful
