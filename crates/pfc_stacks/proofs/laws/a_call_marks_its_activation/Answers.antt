use Rattle.pfc_stacks.proofs.Undone.{marks}
use Rattle.pfc_stacks.proofs.laws.a_call_marks_its_activation.Goals as goal

pub returns : goal.returns
returns c = marks
