use Rattle.pfc_standing_code.proofs.Checked.{checked_for}
use Rattle.pfc_standing_code.proofs.laws.names_are_enough.Goals as goal

pub returns : goal.returns
returns c = λ g b env k h. checked_for g b env k h
