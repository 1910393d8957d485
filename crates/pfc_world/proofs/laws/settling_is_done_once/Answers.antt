use Rattle.pfc_world.proofs.Kept.{settled-left, settled-twice}
use Rattle.pfc_world.proofs.laws.settling_is_done_once.Goals as goal

pub returns-clause-left : goal.returns-clause-left
returns-clause-left c = settled-left

pub returns-clause-again : goal.returns-clause-again
returns-clause-again c = settled-twice
