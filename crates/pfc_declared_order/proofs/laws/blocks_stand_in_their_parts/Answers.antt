use Rattle.pfc_declared_order.proofs.Parts.{parts_stand}
use Rattle.pfc_declared_order.proofs.laws.blocks_stand_in_their_parts.Goals as goal

pub returns : goal.returns
returns c = λ s n next qs. parts_stand s n next qs
