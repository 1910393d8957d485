use Rattle.pfc_stacks.proofs.Counted.{counted_law}
use Rattle.pfc_stacks.proofs.laws.an_instruction_takes_and_leaves_its_operands.Goals as goal

pub returns : goal.returns
returns c = counted_law
