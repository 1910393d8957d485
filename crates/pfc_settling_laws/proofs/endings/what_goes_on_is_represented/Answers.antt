use Rattle.pfc_settling_laws.proofs.Reported.{still_represented}
use Rattle.pfc_settling_laws.proofs.endings.what_goes_on_is_represented.Goals as goal

pub returns : goal.returns
returns c = λ facts m config agrees none. still_represented facts m config agrees none
