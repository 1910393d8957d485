use Rattle.std.proofs.Common.{refl}
use Rattle.pfc_activities.specs.declared.state.State.{State}
use Rattle.pfc_guarding.proofs.Performing.{bars_so}
use Rattle.pfc_guarding.proofs.actions.bars.Goals as goal

pub returns-clause-ok : goal.returns-clause-ok
returns-clause-ok c =
    let old : State = c.args.state.now in
    let mid : State = record old { world = c.bar_by.new.world; resources = c.bar_by.new.res } in
    bars_so old mid c.wait_barred.new.state c.args.p c.args.bar c.wait_barred.result refl c.bar_by.ensures.acted c.bar_by.ensures.rule
    c.wait_barred.ensures
