use Rattle.pfc_inside_programs.proofs.Scoped.{is_scoped}
use Rattle.pfc_inside_programs.proofs.laws.checked_programs_are_scoped.Goals as goal

pub returns : goal.returns
returns c = λ t lawful whole small declared. is_scoped t lawful whole small declared
