use Rattle.std.proofs.Common.{◌+◌, refl, ap}
use Rattle.std.specs.Vec.{with_item}
use Rattle.pfc_activities.specs.declared.state.State.{State}
use Rattle.pfc_activating.proofs.Activated.{on_err, stays}
use Rattle.pfc_creating.proofs.Created.{are_apart, begins_so, stays_with_store}
use Rattle.pfc_creating.proofs.activation.begin.Goals as goal

pub returns-in_err-beginning-clause-err : goal.returns-in_err-beginning-clause-err
returns-in_err-beginning-clause-err c = on_err c.from_residual.result (stays c.args.state.now c.args.p)

pub returns-in_err-first-clause-err : goal.returns-in_err-first-clause-err
returns-in_err-first-clause-err c = on_err c.from_residual-in_err-first.result (stays c.args.state.now c.args.p)

pub returns-in_err-doing-clause-err : goal.returns-in_err-doing-clause-err
returns-in_err-doing-clause-err c = on_err c.from_residual-in_err-doing.result (stays c.args.state.now c.args.p)

pub returns-in_err-add-clause-err : goal.returns-in_err-add-clause-err
returns-in_err-add-clause-err c =
    let old : State = c.args.state.now in
    let new : State = record old { store = c.add.new.self } in
    on_err c.from_residual-in_err-add.result (stays_with_store old new c.args.p refl c.in_err-add.ensures.unchanged)

pub returns-clause-ok : goal.returns-clause-ok
returns-clause-ok c =
    let old : State = c.args.state.now in
    let new : State
    = record old { activities = with_item old.activities c.args.n c.enter.new.activity; store = c.add.new.self; world = c.create.new.world } in
    begins_so c.args.source.now old new c.args.p c.args.n c.args.block.now c.args.args.now (c.done-number.result + 1) c.args.cells c.in_ok-doing.doing
    c.in_ok-beginning.beginning.display c.in_ok-first.first.items c.in_ok-beginning.beginning.values.items
    c.index.result.now c.index_mut.result.now c.enter.new.activity c.index.ensures c.index_mut.ensures.value
    (are_apart old.world.rows c.args.p c.args.n c.requires.ready c.requires.free) c.requires.process c.requires.cells
    (ap (λ n. n + 1) c.done-number.ensures.count) (c.in_ok-doing.ensures c.args.source.now.program.tables) c.in_ok-beginning.ensures.display
    (c.in_ok-first.ensures c.args.source.now.program.tables) c.in_ok-beginning.ensures.values
    (c.enter.ensures c.args.source.now.program.tables) refl refl c.in_ok-add.ensures.added c.create.ensures
