use Rattle.pfc_checked_order.proofs.Blocks.{blocks_placed}
use Rattle.pfc_checked_order.proofs.laws.blocks_stand_with_those_around.Goals as goal

pub returns : goal.returns
returns c = λ t. blocks_placed t
