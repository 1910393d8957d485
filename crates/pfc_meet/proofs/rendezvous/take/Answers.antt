use Rattle.pfc_meet.proofs.Taking.{takes}
use Rattle.pfc_meet.proofs.rendezvous.take.Goals as goal

pub returns-clause-table : goal.returns-clause-table
returns-clause-table c =
    takes _ _ _ _ _ _ c.args.r.number c.args.caller _ _ c.requires.acts c.rest.ensures c.wake.ensures.world
    c.begin-called.ensures.world c.block.ensures c.begin.ensures.world
    c.begin-called.ensures.number c.number-owner.ensures
