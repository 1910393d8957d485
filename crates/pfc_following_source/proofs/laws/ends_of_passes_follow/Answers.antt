use Rattle.pfc_following_source.proofs.structures.Anywhere.{until_left_follows, pass_left_follows, pass_end_follows, replica_left_follows}
use Rattle.pfc_following_source.proofs.laws.ends_of_passes_follow.Goals as goal

pub returns-clause-until : goal.returns-clause-until
returns-clause-until c = λ g b env. until_left_follows g b env

pub returns-clause-next : goal.returns-clause-next
returns-clause-next c = λ g b env. pass_left_follows g b env

pub returns-clause-end : goal.returns-clause-end
returns-clause-end c = λ g b env. pass_end_follows g b env

pub returns-clause-replicated : goal.returns-clause-replicated
returns-clause-replicated c = λ g b env. replica_left_follows g b env
