use Rattle.pfc_typed_phrases.proofs.Known.{names_known}
use Rattle.pfc_typed_phrases.proofs.laws.names_are_known.Goals as goal

pub returns : goal.returns
returns c = λ t s lawful program state places. names_known t s lawful program state places
