use Rattle.pfc_arrivals.proofs.Wanting.{may_want_there}
use Rattle.pfc_arrivals.proofs.laws.memory_is_wanting_only_of_calls_and_output.Goals as goal

pub returns : goal.returns
returns c = λ facts m config p level i acting arrived is wants. may_want_there facts m config p level i acting arrived is wants
