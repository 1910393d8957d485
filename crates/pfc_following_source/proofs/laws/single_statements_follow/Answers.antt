use Rattle.pfc_following_source.proofs.structures.Anywhere.{assignment_statement_follows, send_statement_follows, receive_statement_follows}
use Rattle.pfc_following_source.proofs.structures.Anywhere.{call_statement_follows}
use Rattle.pfc_following_source.proofs.structures.Anywhere.{requeue_statement_follows}
use Rattle.pfc_following_source.proofs.laws.single_statements_follow.Goals as goal

pub returns-clause-assignments : goal.returns-clause-assignments
returns-clause-assignments c = λ g b env. assignment_statement_follows g b env

pub returns-clause-sends : goal.returns-clause-sends
returns-clause-sends c = λ g b env. send_statement_follows g b env

pub returns-clause-receives : goal.returns-clause-receives
returns-clause-receives c = λ g b env. receive_statement_follows g b env

pub returns-clause-calls : goal.returns-clause-calls
returns-clause-calls c = λ g b env. call_statement_follows g b env

pub returns-clause-requeues : goal.returns-clause-requeues
returns-clause-requeues c = λ g b env. requeue_statement_follows g b env
