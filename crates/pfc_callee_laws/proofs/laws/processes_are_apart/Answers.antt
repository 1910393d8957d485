use Rattle.pfc_callee_laws.proofs.Processes.{process_declared, process_apart, process_once, entry_typed}
use Rattle.pfc_callee_laws.proofs.laws.processes_are_apart.Goals as goal

pub returns-clause-blocks : goal.returns-clause-blocks
returns-clause-blocks c = λ t n lawful clean below. process_apart t lawful clean n below

pub returns-clause-once : goal.returns-clause-once
returns-clause-once c = λ t n k lawful clean below_n below_k same. process_once t lawful clean n k below_n below_k same

pub returns-clause-declared : goal.returns-clause-declared
returns-clause-declared c = λ t q lawful some few. process_declared t lawful q some few

pub returns-clause-entries : goal.returns-clause-entries
returns-clause-entries c = λ t n entry lawful clean. entry_typed t lawful clean n entry
