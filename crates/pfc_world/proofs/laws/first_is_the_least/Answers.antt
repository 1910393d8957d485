use Rattle.pfc_world.proofs.FirstIs.{first-is, last-is, first-none}
use Rattle.pfc_world.proofs.laws.first_is_the_least.Goals as goal

pub returns-clause-first : goal.returns-clause-first
returns-clause-first c = first-is

pub returns-clause-last : goal.returns-clause-last
returns-clause-last c = last-is

pub returns-clause-nobody : goal.returns-clause-nobody
returns-clause-nobody c = first-none
