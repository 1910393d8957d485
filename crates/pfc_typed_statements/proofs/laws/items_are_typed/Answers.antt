use Rattle.pfc_typed_statements.proofs.Anywhere.{items_written, items_read}
use Rattle.pfc_typed_statements.proofs.laws.items_are_typed.Goals as goal

pub returns-clause-written : goal.returns-clause-written
returns-clause-written c = λ s known. items_written s known

pub returns-clause-read : goal.returns-clause-read
returns-clause-read c = λ s known. items_read s known
