use Rattle.std.proofs.Common.{◌≡◌, ◌+◌, Result, Ok, Err, OnErr, refl, ap}
use Rattle.std.specs.Vec.{with_item}
use Rattle.pfc_activities.specs.declared.state.State.{State}
use Rattle.pfc_activating.proofs.Activated.{stays_with_room, activated_so}
use Rattle.pfc_activating.proofs.entering.activate.Goals as goal

-- what stands after a call that was refused
of_err : {T E P : Type 0} (r : Result T E) → ((v : T) → r ≡ Ok v → ⊥) → OnErr r P → P
of_err (Ok v) refused holds = absurd (refused v refl)
of_err (Err e) refused holds = holds

pub returns-in_default-make_room-clause-err : goal.returns-in_default-make_room-clause-err
returns-in_default-make_room-clause-err c =
    let old : State = c.args.state.now in
    let new : State = record old { activities = with_item old.activities c.args.p c.make_room.new.activity } in
    stays_with_room old new c.args.p c.index_mut.result.now c.make_room.new.activity c.index_mut.ensures.value c.make_room.ensures.same refl refl refl

pub returns-in_default-add-clause-err : goal.returns-in_default-add-clause-err
returns-in_default-add-clause-err c =
    let old : State = c.args.state.now in
    let new : State = record old { activities = with_item old.activities c.args.p c.make_room.new.activity; store = c.add.new.self } in
    stays_with_room old new c.args.p c.index_mut.result.now c.make_room.new.activity c.index_mut.ensures.value c.make_room.ensures.same refl refl
    (of_err c.add.result c.in_default-add.not-Ok c.add.ensures.unchanged)

pub returns-clause-ok : goal.returns-clause-ok
returns-clause-ok c =
    let old : State = c.args.state.now in
    let mid : State = record old { activities = with_item old.activities c.args.p c.make_room.new.activity; store = c.add.new.self } in
    let new : State = record mid { activities = with_item mid.activities c.args.p c.enter.new.activity } in
    activated_so c.args.source.now old new c.args.p c.args.block.now c.args.entry c.args.doing c.args.args.now (c.done.result + 1)
    c.in-Ok.beginning.display c.in-Ok.beginning.values.items
    c.index.result.now c.index_mut.result.now c.make_room.new.activity c.index_mut-2.result.now c.enter.new.activity
    c.index.ensures c.index_mut.ensures.value c.make_room.ensures.same c.index_mut-2.ensures.value c.requires.cells
    (ap (λ n. n + 1) c.done.ensures.count) c.in-Ok.ensures.display c.in-Ok.ensures.values
    (c.enter.ensures c.args.source.now.program.tables) refl refl c.in-Ok-add.ensures.added
