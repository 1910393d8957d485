use Rattle.pfc_events.proofs.Telling.{coming_so}
use Rattle.pfc_events.proofs.events.foretell.Goals as goal

pub returns : goal.returns
returns c =
    coming_so c.args.source.now c.args.state.now c.args.p c.args.deed.now c.args.picker.now c.index-own.result.now _ c.index-own.ensures c.line_of.ensures
    c.in_ok-things_of.ensures c.in_ok-accesses_of.ensures c.in_ok-before.ensures
