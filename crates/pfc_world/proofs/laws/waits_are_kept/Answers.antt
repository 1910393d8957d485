use Rattle.pfc_world.specs.Settling.{settled}
use Rattle.pfc_world.specs.Transitions.{finished, ended}
use Rattle.pfc_world.proofs.Kept.{keeps, none-finished, none-ended, none-settled}
use Rattle.pfc_world.proofs.laws.waits_are_kept.Goals as goal

pub returns-clause-finish : goal.returns-clause-finish
returns-clause-finish c = λ w p. keeps w (finished w p) (none-finished w p)

pub returns-clause-end_select : goal.returns-clause-end_select
returns-clause-end_select c = λ w p. keeps w (ended w p) (none-ended w p)

pub returns-clause-settle : goal.returns-clause-settle
returns-clause-settle c = λ w. keeps w (settled w) (none-settled w)
