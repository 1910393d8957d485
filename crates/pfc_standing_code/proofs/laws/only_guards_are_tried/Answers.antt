use Rattle.pfc_standing_code.proofs.Trials.{arrived_own}
use Rattle.pfc_standing_code.proofs.laws.only_guards_are_tried.Goals as goal

pub returns : goal.returns
returns c = λ g at ops arms n here e. arrived_own g here.0 at ops arms n here.2 e
