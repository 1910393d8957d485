use Rattle.pfc_standing_code.proofs.Over.{performs_over}
use Rattle.pfc_standing_code.proofs.laws.callers_operands_are_kept.Goals as goal

pub returns : goal.returns
returns c = λ g b env at ops arms k h. performs_over k g b env at ops arms h
