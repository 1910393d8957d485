use Rattle.pfc_representation.proofs.Kept.{process_still}
use Rattle.pfc_representation.proofs.laws.others_are_kept.Goals as goal

pub returns : goal.returns
returns c = λ facts q homes homes' entries entries' store store' stacks stacks' table table' h h' a d alone is.
    process_still facts q d homes homes' entries entries' store store' stacks stacks' table table' h h' alone a is
