use Rattle.pfc_cells.proofs.Kept.{reference_held}
use Rattle.pfc_cells.proofs.laws.references_are_held.Goals as goal

pub returns : goal.returns
returns c = λ g homes entries store stacks a k q home t l sound memory among at laid value.
    reference_held g sound homes entries store stacks a k q home t l memory among at laid value
