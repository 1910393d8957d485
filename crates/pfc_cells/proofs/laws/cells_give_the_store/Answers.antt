use Rattle.pfc_cells.proofs.Reading.{fits, are_live, reads}
use Rattle.pfc_cells.proofs.laws.cells_give_the_store.Goals as goal

pub returns-clause-live : goal.returns-clause-live
returns-clause-live c = λ g homes entries store stacks l t r sound memory lives lies. are_live g sound homes entries store stacks l t r memory lives lies

pub returns-clause-typed : goal.returns-clause-typed
returns-clause-typed c = λ g homes entries store stacks l t r sound memory lives lies. fits g sound homes entries store stacks l t r memory lives lies

pub returns-clause-words : goal.returns-clause-words
returns-clause-words c = λ g homes entries store stacks l t r sound memory lives lies. reads g sound homes entries store stacks l t r memory lives lies
