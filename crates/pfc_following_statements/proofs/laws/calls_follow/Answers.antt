use Rattle.pfc_following_statements.proofs.Anywhere.{call_follows, module_call_follows, requeues_follow}
use Rattle.pfc_following_statements.proofs.laws.calls_follow.Goals as goal

pub returns-clause-calls : goal.returns-clause-calls
returns-clause-calls c = λ g b x. call_follows g b x

pub returns-clause-exported : goal.returns-clause-exported
returns-clause-exported c = λ g b x. module_call_follows g b x

pub returns-clause-requeues : goal.returns-clause-requeues
returns-clause-requeues c = λ g b x. requeues_follow g b x
