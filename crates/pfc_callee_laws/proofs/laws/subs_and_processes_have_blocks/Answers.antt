use Rattle.pfc_callee_laws.proofs.Blocks.{sub_block, process_block}
use Rattle.pfc_callee_laws.proofs.laws.subs_and_processes_have_blocks.Goals as goal

pub returns-clause-subs : goal.returns-clause-subs
returns-clause-subs c = λ t n lawful clean below. sub_block t lawful clean n below

pub returns-clause-processes : goal.returns-clause-processes
returns-clause-processes c = λ t n lawful clean below. process_block t lawful clean n below
