use Rattle.pfc_standing_code.proofs.Checked.{checked_with}
use Rattle.pfc_standing_code.proofs.laws.names_stay_known.Goals as goal

pub returns : goal.returns
returns c = λ g b env i caller h. checked_with g b env i caller h
