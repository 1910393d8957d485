use Rattle.pfc_holding_laws.proofs.Inside.{resumer_holds}
use Rattle.pfc_holding_laws.proofs.laws.children_resume_as_holders.Goals as goal

pub returns : goal.returns
returns c = λ facts m d p level x v k acting scoped text inside next own. resumer_holds facts m d p level x v k acting scoped text inside next own
