use Rattle.pfc_cells.proofs.Machine.{call_added, creation_added}
use Rattle.pfc_cells.proofs.laws.activations_begin.Goals as goal

pub returns-clause-called : goal.returns-clause-called
returns-clause-called c = λ g homes entries store stacks p a scope k b link mark values e below memory living fresh holds.
    call_added g homes entries store stacks p a scope k b link mark values e below memory living fresh holds

pub returns-clause-created : goal.returns-clause-created
returns-clause-created c = λ g homes entries store stacks from p a scope k b values memory idle inside fresh holds.
    creation_added g homes entries store stacks from p a scope k b values memory idle inside fresh holds
