use Rattle.pfc_accept_programs.proofs.Programs.{has_places}
use Rattle.pfc_accept_programs.proofs.laws.checked_programs_have_places.Goals as goal

pub returns : goal.returns
returns c = λ t whole. has_places t whole
