use Rattle.pfc_resource.proofs.KeptInOrder.{enter, give_up, bar, pass, requeue}
use Rattle.pfc_resource.proofs.laws.a_free_resource_is_wanted_by_nobody.Goals as goal

pub returns-clause-enter : goal.returns-clause-enter
returns-clause-enter c = enter

pub returns-clause-leave : goal.returns-clause-leave
returns-clause-leave c = give_up

pub returns-clause-bar : goal.returns-clause-bar
returns-clause-bar c = bar

pub returns-clause-pass : goal.returns-clause-pass
returns-clause-pass c = pass

pub returns-clause-requeue : goal.returns-clause-requeue
returns-clause-requeue c = requeue
