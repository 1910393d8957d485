use Rattle.std.proofs.Common.{refl}
use Rattle.pfc_meeting.proofs.BothPass.{another, passed_so}
use Rattle.pfc_meeting.proofs.Waking.{may_act_on}
use Rattle.pfc_meeting.proofs.passing.pass.Goals as goal

pub go_on_with-requires-clause-may : goal.go_on_with-requires-clause-may
go_on_with-requires-clause-may c =
    may_act_on c.args.state.now (record c.args.state.now { store = c.put_into.new.store; world = c.wake.new.self }) c.args.p c.args.q c.requires.may
    (another c.args.state.now.world.rows c.args.p c.args.q c.requires.may.ready c.requires.waits) refl c.wake.ensures.world c.wake.ensures.fresh

pub go_on_with-requires-clause-other : goal.go_on_with-requires-clause-other
go_on_with-requires-clause-other c = another c.args.state.now.world.rows c.args.p c.args.q c.requires.may.ready c.requires.waits

pub returns : goal.returns
returns c =
    passed_so c.args.state.now (record c.args.state.now {
      store = c.put_into.new.store;
      world =
          c.wake.new.self;
    }) c.go_on_with.new.state c.args.p c.args.q c.args.into
    c.args.value c.args.way c.go_on_with.result refl c.put_into.ensures c.wake.ensures.world c.wake.ensures.fresh c.go_on_with.ensures
