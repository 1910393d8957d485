use Rattle.pfc_accepting.proofs.Accepting.{accepts_so}
use Rattle.pfc_accepting.proofs.answering.accepts_from.Goals as goal

pub returns-clause-ok : goal.returns-clause-ok
returns-clause-ok c =
    accepts_so c.args.source.now c.args.state.now c.take_caller.new.state c.accept_by.new.world c.args.p c.args.caller c.args.accepting
    c.way_behind_plain-way.result c.index-own.result.now c.in_ok-meeting.meeting c.take_caller.result c.requires.first c.index-own.ensures
    c.way_behind_plain-way.ensures.kept c.way_behind_plain-way.ensures.opened c.in_ok-meeting.ensures c.accept_by.ensures.rule c.accept_by.ensures.acted
    c.take_caller.ensures
