use Rattle.pfc_inside_programs.proofs.Programs.{has_text}
use Rattle.pfc_inside_programs.proofs.laws.checked_programs_have_text.Goals as goal

pub returns : goal.returns
returns c = λ t lawful whole small. has_text t lawful whole small
