use Rattle.pfc_kept_actions.proofs.Every.{every_kept}
use Rattle.pfc_kept_actions.proofs.laws.told_actions_are_kept.Goals as goal

pub returns : goal.returns
returns c = λ facts m config p choice level n told numbered rules acting arrived picks.
    every_kept facts m config p choice level numbered rules acting n told arrived picks
