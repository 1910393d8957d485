use Rattle.std.proofs.Common.{refl}
use Rattle.pfc_stacks.specs.Activations.{returned, returned_with}
use Rattle.pfc_stacks.specs.Stacks.{stack_of}
use Rattle.pfc_cells.proofs.Machine.{return_taken, end_taken}
use Rattle.pfc_cells.proofs.laws.activations_end.Goals as goal

pub returns-clause-returned : goal.returns-clause-returned
returns-clause-returned c = λ g homes entries store stacks p e below home sound memory living at base.
    return_taken g sound homes entries store stacks p e below home (returned (stack_of stacks p)) memory living at base refl

pub returns-clause-returned_with : goal.returns-clause-returned_with
returns-clause-returned_with c = λ g homes entries store stacks p e below home v sound memory living at base.
    return_taken g sound homes entries store stacks p e below home (returned_with v (stack_of stacks p)) memory living at base refl

pub returns-clause-ended : goal.returns-clause-ended
returns-clause-ended c = λ g homes entries store stacks p e sound memory living. end_taken g sound homes entries store stacks p e memory living
