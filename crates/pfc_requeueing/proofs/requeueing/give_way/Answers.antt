use Rattle.std.proofs.Common.{◌+◌, refl, ap, ◌∙◌}
use Rattle.std.specs.Vec.{with_item}
use Rattle.std.proofs.lemmas.Bool.{ne_eqb}
use Rattle.pfc_semantics.specs.Store.{Store, without}
use Rattle.pfc_activities.specs.declared.state.State.{State}
use Rattle.pfc_activities.specs.Views.{mark_view}
use Rattle.pfc_activating.proofs.Activated.{on_err, stays}
use Rattle.pfc_requeueing.proofs.Requeued.{stays_with_store, gives_way_so}
use Rattle.pfc_requeueing.proofs.requeueing.give_way.Goals as goal

pub returns-in_err-beginning-clause-err : goal.returns-in_err-beginning-clause-err
returns-in_err-beginning-clause-err c = on_err c.from_residual.result (stays c.args.state.now c.args.p)

pub returns-in_err-add-clause-err : goal.returns-in_err-add-clause-err
returns-in_err-add-clause-err c =
    let old : State = c.args.state.now in
    let new : State = record old { store = c.add.new.self } in
    on_err c.from_residual-in_err-add.result (stays_with_store old new c.args.p refl c.in_err-add.ensures.unchanged)

pub returns-clause-ok : goal.returns-clause-ok
returns-clause-ok c =
    let old : State = c.args.state.now in
    let new : State = record old { activities = with_item old.activities c.args.p c.replace.new.activity; store = c.remove.new.self } in
    gives_way_so c.args.source.now old new c.args.p c.args.block.now c.args.innermost.number c.args.cells (c.done-number.result + 1)
    (mark_view c.args.innermost.mark) c.args.doing c.args.args.now c.in_ok-beginning.beginning.display c.in_ok-beginning.beginning.values.items
    c.index.result.now c.index_mut.result.now c.replace.new.activity c.index.ensures c.index_mut.ensures.value c.requires.cells
    (ap (λ n. n + 1) c.done-number.ensures.count) (ne_eqb (c.done-number.result + 1) c.args.innermost.number c.if-number-innermost.false)
    c.in_ok-beginning.ensures.display c.in_ok-beginning.ensures.values
    (c.replace.ensures c.args.source.now.program.tables) refl refl (c.remove.ensures ∙
    ap (λ (x : Store). without x c.args.innermost.number) c.in_ok-add.ensures.added)
