use Rattle.pfc_types.specs.rules.Whole.{finished}
use Rattle.pfc_name_laws.proofs.Numbers.{numbered, no_faulty, none_noted}
use Rattle.pfc_name_laws.proofs.Parts.{finished_reached}
use Rattle.pfc_name_laws.proofs.laws.no_name_is_faulty.Goals as goal

pub returns : goal.returns
returns c = λ t view x whole. no_faulty (finished t) (numbered (finished t) (finished_reached t)) (none_noted t whole) view x
