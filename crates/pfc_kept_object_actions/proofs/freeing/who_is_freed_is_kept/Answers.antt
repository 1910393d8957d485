use Rattle.pfc_kept_object_actions.proofs.Freed.{process_freed}
use Rattle.pfc_kept_object_actions.proofs.freeing.who_is_freed_is_kept.Goals as goal

pub returns : goal.returns
returns c = λ facts q homes entries store stacks table table' h a d freed is. process_freed facts homes entries store stacks table table' h q d freed a is
