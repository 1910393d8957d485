use Rattle.pfc_accepting.proofs.Entering.{owner_elsewhere}
use Rattle.pfc_accepting.proofs.calling.waits_for_owner.Goals as goal

pub returns : goal.returns
returns c = λ source.
    owner_elsewhere source c.args.state.now c.show.new.state c.call_by.new.world c.args.p c.args.q c.args.entry c.args.values c.show.result c.requires.active
    c.requires.elsewhere c.call_by.ensures.rule c.call_by.ensures.acted c.show.ensures
