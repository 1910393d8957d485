use Rattle.pfc_arrivals.proofs.Picked.{acts_alike}
use Rattle.pfc_arrivals.proofs.laws.who_is_picked_may_act.Goals as goal

pub returns : goal.returns
returns c = λ facts m config p picking kept numbered rules is about.
    acts_alike facts m config p picking kept numbered rules is about
