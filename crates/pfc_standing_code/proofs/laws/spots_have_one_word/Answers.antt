use Rattle.pfc_standing_code.proofs.Parts.{words_once}
use Rattle.pfc_standing_code.proofs.laws.spots_have_one_word.Goals as goal

pub returns : goal.returns
returns c = λ view s v t u w y one other. words_once view s v t u w y one other
