use Rattle.pfc_arrivals.proofs.Arriving.{comes_to_action}
use Rattle.pfc_arrivals.proofs.laws.code_comes_to_actions.Goals as goal

pub returns : goal.returns
returns c = λ facts m config p is about. comes_to_action facts m config p is about
