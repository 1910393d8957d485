use Rattle.std.proofs.Common.{refl}
use Rattle.pfc_accepting.proofs.Taking.{taken_so}
use Rattle.pfc_accepting.proofs.beginning.take_caller.Goals as goal

pub returns : goal.returns
returns c =
    taken_so c.args.state.now _ c.begin_at.new.state c.end_action.new.self c.args.p c.args.caller c.take_asked-args.result.items c.args.meeting
    c.index_mut.result.now c.take_asked-args.new.activity c.line_of-line.result c.requires.other c.requires.within c.index_mut.ensures.value
    c.take_asked-args.ensures.args c.take_asked-args.ensures.shown refl refl c.begin_at.ensures c.line_of-line.ensures c.end_action.ensures.activity
    c.end_action.ensures.kept c.end_action.ensures.world c.end_action.ensures.fresh
