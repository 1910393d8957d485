use Rattle.pfc_typed_programs.proofs.Called.{called_stands}
use Rattle.pfc_typed_programs.proofs.laws.called_blocks_stand.Goals as goal

pub returns : goal.returns
returns c = λ t g scope left formals lawful whole of_image called. called_stands t g scope left formals lawful whole of_image called
