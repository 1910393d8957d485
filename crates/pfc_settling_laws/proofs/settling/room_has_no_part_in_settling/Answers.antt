use Rattle.pfc_settling_laws.proofs.Rooms.{wholly_so}
use Rattle.pfc_settling_laws.proofs.settling.room_has_no_part_in_settling.Goals as goal

pub returns : goal.returns
returns c = λ w room. wholly_so room w
