use Rattle.pfc_arrivals.proofs.Agreed.{has_agreed}
use Rattle.pfc_arrivals.proofs.laws.actions_agree_with_their_steps.Goals as goal

pub returns : goal.returns
returns c = λ facts m config p picking picking' acts out out' result new acted. has_agreed facts m config p picking picking' acts out out' result new acted
