use Rattle.pfc_number_laws.proofs.Runs.{numbers_are_small}
use Rattle.pfc_number_laws.proofs.laws.counts_and_ranks_are_small.Goals as goal

pub returns : goal.returns
returns c = λ g first d p program fits comes. numbers_are_small g program first d fits comes p
