use Rattle.pfc_typed_statements.proofs.Anywhere.{assignments_typed, sends_typed, receives_typed, requeues_typed}
use Rattle.pfc_typed_statements.proofs.laws.messages_are_typed.Goals as goal

pub returns-clause-assignments : goal.returns-clause-assignments
returns-clause-assignments c = λ s known reached. assignments_typed s known reached

pub returns-clause-sends : goal.returns-clause-sends
returns-clause-sends c = λ s known reached. sends_typed s known reached

pub returns-clause-receives : goal.returns-clause-receives
returns-clause-receives c = λ s known reached. receives_typed s known reached

pub returns-clause-requeues : goal.returns-clause-requeues
returns-clause-requeues c = λ s known reached. requeues_typed s known reached
