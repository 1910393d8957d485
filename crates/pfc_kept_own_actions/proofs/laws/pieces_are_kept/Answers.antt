use Rattle.pfc_kept_own_actions.proofs.Printing.{prints_kept}
use Rattle.pfc_kept_own_actions.proofs.laws.pieces_are_kept.Goals as goal

pub returns : goal.returns
returns c = prints_kept
