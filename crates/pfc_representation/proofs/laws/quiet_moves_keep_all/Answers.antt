use Rattle.pfc_representation.proofs.Quiet.{acting_moved}
use Rattle.pfc_representation.proofs.laws.quiet_moves_keep_all.Goals as goal

pub returns : goal.returns
returns c = λ facts m c p level to left acting. acting_moved facts m c p level to left acting
