use Rattle.pfc_following_source.proofs.Behind.{leads_on}
use Rattle.pfc_following_source.proofs.laws.actions_lead_on.Goals as goal

pub returns : goal.returns
returns c = λ g n b at ops arms fit checked h. leads_on g b at n ops arms fit checked h
