use Rattle.pfc_monitor.proofs.KeptInOrder.{enter, hand_over, delay, resume}
use Rattle.pfc_monitor.proofs.laws.a_free_monitor_is_wanted_by_nobody.Goals as goal

pub returns-clause-enter : goal.returns-clause-enter
returns-clause-enter c = enter

pub returns-clause-leave : goal.returns-clause-leave
returns-clause-leave c = hand_over

pub returns-clause-delay : goal.returns-clause-delay
returns-clause-delay c = delay

pub returns-clause-resume : goal.returns-clause-resume
returns-clause-resume c = resume
