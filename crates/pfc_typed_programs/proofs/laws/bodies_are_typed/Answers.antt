use Rattle.pfc_typed_programs.proofs.Bodies.{body_met, guard_met, body_typed, guard_shaped}
use Rattle.pfc_typed_programs.proofs.laws.bodies_are_typed.Goals as goal

pub returns-clause-names : goal.returns-clause-names
returns-clause-names c = λ t b lawful whole is. body_met t lawful whole b is

pub returns-clause-statements : goal.returns-clause-statements
returns-clause-statements c = λ t b lawful whole is. body_typed t lawful whole b is

pub returns-clause-guard_names : goal.returns-clause-guard_names
returns-clause-guard_names c = λ t b guard lawful whole is e. guard_met t lawful whole b guard is e

pub returns-clause-guards : goal.returns-clause-guards
returns-clause-guards c = λ t b guard lawful whole is e. guard_shaped t lawful whole b guard is e
