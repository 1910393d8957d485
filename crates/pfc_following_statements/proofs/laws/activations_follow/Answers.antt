use Rattle.pfc_following_statements.proofs.Anywhere.{activations_follow as by_activations_follow, entry_calls_follow}
use Rattle.pfc_following_statements.proofs.laws.activations_follow.Goals as goal

pub returns-clause-activations : goal.returns-clause-activations
returns-clause-activations c = λ g b x. by_activations_follow g b x

pub returns-clause-entries : goal.returns-clause-entries
returns-clause-entries c = λ g b x. entry_calls_follow g b x
