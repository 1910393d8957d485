use Rattle.pfc_arrivals.proofs.Refused.{comes_and_stays}
use Rattle.pfc_arrivals.proofs.laws.refused_memory_leaves_the_configuration.Goals as goal

pub returns : goal.returns
returns c = λ facts m config p is about. comes_and_stays facts m config p is about
