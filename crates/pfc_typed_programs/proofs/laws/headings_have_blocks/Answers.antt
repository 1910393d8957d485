use Rattle.pfc_typed_programs.proofs.Blocks.{sub_called, process_called}
use Rattle.pfc_typed_programs.proofs.laws.headings_have_blocks.Goals as goal

pub returns-clause-subs : goal.returns-clause-subs
returns-clause-subs c = λ t n lawful whole below. sub_called t lawful whole n below

pub returns-clause-processes : goal.returns-clause-processes
returns-clause-processes c = λ t n lawful whole below. process_called t lawful whole n below
