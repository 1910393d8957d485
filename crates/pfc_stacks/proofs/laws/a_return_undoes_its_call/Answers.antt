use Rattle.pfc_stacks.proofs.Undone.{undone}
use Rattle.pfc_stacks.proofs.laws.a_return_undoes_its_call.Goals as goal

pub returns : goal.returns
returns c = undone
