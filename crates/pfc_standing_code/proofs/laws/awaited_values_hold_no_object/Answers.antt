use Rattle.pfc_standing_code.proofs.ValueTypes.{awaited_value}
use Rattle.pfc_standing_code.proofs.laws.awaited_values_hold_no_object.Goals as goal

pub returns : goal.returns
returns c = λ g b x at ops arms t u h. awaited_value g b x at ops arms t u h
