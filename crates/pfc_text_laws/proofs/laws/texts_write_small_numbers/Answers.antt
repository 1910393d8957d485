use Rattle.pfc_text_laws.proofs.Cut.{kinds_fit}
use Rattle.pfc_text_laws.proofs.laws.texts_write_small_numbers.Goals as goal

pub returns : goal.returns
returns c = λ text ts end bytes cut. kinds_fit ts (c.tokens_are_small.ensures text ts end bytes cut)
