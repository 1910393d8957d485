use Rattle.std.proofs.Common.{refl}
use Rattle.pfc_store.specs.Views.{value_view}
use Rattle.pfc_activities.specs.declared.state.State.{State}
use Rattle.pfc_returning.proofs.Finishing.{monitor_so}
use Rattle.pfc_returning.proofs.returns.return_from_monitor.Goals as goal

pub returns-clause-ok : goal.returns-clause-ok
returns-clause-ok c =
    let old : State = c.args.state.now in
    let mid : State = record old { world = c.leave_by.new.world; monitors = c.leave_by.new.mons } in
    monitor_so old mid c.go_back_from.new.state c.args.p c.args.number c.args.m c.args.line (value_view c.of.result) c.go_back_from.result
    refl c.leave_by.ensures.acted refl c.leave_by.ensures.conditions c.leave_by.ensures.rule c.requires.way c.go_back_from.ensures
