use Rattle.pfc_standing_code.proofs.ValueTypes.{value_type}
use Rattle.pfc_standing_code.proofs.laws.values_hold_no_object.Goals as goal

pub returns : goal.returns
returns c = λ forms t v sound is. value_type forms sound is
