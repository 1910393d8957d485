use Rattle.std.proofs.Common.{refl}
use Rattle.pfc_scan.specs.Cutting.{text_start, tokens}
use Rattle.pfc_scan.proofs.Small.{small_cut}
use Rattle.pfc_scan.proofs.laws.tokens_are_small.Goals as goal

pub returns : goal.returns
returns c = λ text ts end bytes cut. small_cut text_start text (tokens ts end) bytes cut ts end refl
