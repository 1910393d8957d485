use Rattle.pfc_meet.proofs.Unpairing.{start, changes, elsewhere, send, receive, call, accept, commit, wait}
use Rattle.pfc_meet.proofs.laws.nobody_waits_for_one_who_waits_for_it.Goals as goal

pub returns-clause-start : goal.returns-clause-start
returns-clause-start c = start

pub returns-clause-changes : goal.returns-clause-changes
returns-clause-changes c = changes

pub returns-clause-elsewhere : goal.returns-clause-elsewhere
returns-clause-elsewhere c = elsewhere

pub returns-clause-send : goal.returns-clause-send
returns-clause-send c = send

pub returns-clause-receive : goal.returns-clause-receive
returns-clause-receive c = receive

pub returns-clause-call : goal.returns-clause-call
returns-clause-call c = call

pub returns-clause-accept : goal.returns-clause-accept
returns-clause-accept c = accept

pub returns-clause-commit : goal.returns-clause-commit
returns-clause-commit c = commit

pub returns-clause-wait : goal.returns-clause-wait
returns-clause-wait c = wait
