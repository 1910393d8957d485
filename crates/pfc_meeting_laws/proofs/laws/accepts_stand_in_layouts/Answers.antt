use Rattle.pfc_meeting_laws.proofs.Laid.{accept_stands}
use Rattle.pfc_meeting_laws.proofs.laws.accepts_stand_in_layouts.Goals as goal

pub returns : goal.returns
returns c = λ g b i layout accept. accept_stands g b i layout accept
