use Rattle.pfc_standing_images.proofs.Places.{phrase_stands}
use Rattle.pfc_standing_images.proofs.laws.operands_have_room.Goals as goal

pub returns : goal.returns
returns c = λ g block at n held code has room. phrase_stands g block held code has room
