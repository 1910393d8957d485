use Rattle.pfc_accepting.proofs.Entering.{enters_performed}
use Rattle.pfc_accepting.proofs.calling.enters.Goals as goal

pub returns-in-Ok-clause-ok : goal.returns-in-Ok-clause-ok
returns-in-Ok-clause-ok c =
    enters_performed c.args.source.now c.args.state.now c.enters_at.new.state c.args.p c.args.entry c.args.spot c.args.args c.deref.result.now c.in-Ok.done
    c.deref.ensures.value c.in-Ok.ensures.ok
