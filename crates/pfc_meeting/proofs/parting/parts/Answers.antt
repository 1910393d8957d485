use Rattle.std.proofs.Common.{refl}
use Rattle.pfc_meeting.proofs.BothPass.{another}
use Rattle.pfc_meeting.proofs.Waking.{may_act_on, parts_so}
use Rattle.pfc_meeting.proofs.parting.parts.Goals as goal

pub go_on-requires : goal.go_on-requires
go_on-requires c =
    may_act_on c.args.state.now (record c.args.state.now { world = c.wake.new.self }) c.args.p c.args.caller c.requires
    (another c.args.state.now.world.rows c.args.p c.args.caller c.requires.ready (c.state.ensures.waits _ c.in-Waiting.is)) refl
    c.wake.ensures.world c.wake.ensures.fresh

pub returns-clause-ok : goal.returns-clause-ok
returns-clause-ok c =
    parts_so c.args.state.now (record c.args.state.now {
      world =
          c.wake.new.self;
    }) c.go_on.new.self c.args.p c.args.caller c.go_on.result refl refl c.wake.ensures.world
    c.wake.ensures.fresh c.go_on.ensures
