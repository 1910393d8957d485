use Rattle.pfc_types.proofs.FaultyTypes.{written_exactly}
use Rattle.pfc_types.proofs.WalkParts.{constants_simple}
use Rattle.pfc_types.proofs.laws.a_type_is_faulty_exactly.Goals as goal

pub returns : goal.returns
returns c = record { parts = written_exactly; constants = constants_simple }
