use Rattle.pfc_call_laws.proofs.Keeping.{sees_too}
use Rattle.pfc_call_laws.proofs.laws.more_may_be_kept.Goals as goal

pub returns : goal.returns
returns c = λ g homes entries store keeps more display b accepts w chain view among living sees.
    sees_too keeps more among homes entries g store display b accepts w chain view sees living
