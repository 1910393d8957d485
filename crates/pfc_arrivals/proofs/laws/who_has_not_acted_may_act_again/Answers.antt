use Rattle.pfc_arrivals.proofs.Again.{acts_again}
use Rattle.pfc_arrivals.proofs.laws.who_has_not_acted_may_act_again.Goals as goal

pub returns : goal.returns
returns c =
    λ facts m config p level picking kept numbered rules acting arrived represents.
    acts_again facts m config p level acting arrived represents picking kept numbered rules
