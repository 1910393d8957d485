use Rattle.pfc_waiting.proofs.Turns.{signal_acts}
use Rattle.pfc_waiting.proofs.rules.signal_by.Goals as goal

pub returns-clause-acted : goal.returns-clause-acted
returns-clause-acted c =
    signal_acts c.args.world.now c.sem_signal.new.world c.args.sems.now c.sem_signal.new.sems c.args.s c.sem_signal.result c.requires.alone
    c.sem_signal.ensures.table
