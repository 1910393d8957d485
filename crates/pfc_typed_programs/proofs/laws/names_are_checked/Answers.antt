use Rattle.pfc_typed_programs.proofs.Bodies.{body_state, guard_state, guard_place, seen_checked}
use Rattle.pfc_typed_programs.proofs.laws.names_are_checked.Goals as goal

pub returns-clause-bodies : goal.returns-clause-bodies
returns-clause-bodies c = λ t b lawful whole is. body_state t lawful whole b is

pub returns-clause-guards : goal.returns-clause-guards
returns-clause-guards c = λ t b guard lawful whole is e. guard_state t lawful whole b guard is e

pub returns-clause-places : goal.returns-clause-places
returns-clause-places c = λ t b guard lawful whole is e. guard_place t lawful whole b guard is e

pub returns-clause-seen : goal.returns-clause-seen
returns-clause-seen c = λ t g b env of_image state tried seen. seen_checked t g b env of_image state tried seen
