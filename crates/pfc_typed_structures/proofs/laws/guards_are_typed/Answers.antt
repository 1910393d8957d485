use Rattle.pfc_types.proofs.Clean.{listed-clean}
use Rattle.pfc_types.specs.rules.Statements.{broken_guard}
use Rattle.pfc_typed_structures.proofs.Leaves.{guard_typed}
use Rattle.pfc_typed_structures.proofs.laws.guards_are_typed.Goals as goal

pub returns : goal.returns
returns c = λ s e known h. guard_typed s known e (listed-clean (broken_guard s.env e) h)
