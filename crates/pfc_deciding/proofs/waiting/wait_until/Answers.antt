use Rattle.std.proofs.Common.{refl, set, ap, ◌∙◌}
use Rattle.pfc_activities.specs.Relation.{IsKept}
use Rattle.pfc_world.specs.Selects.{select_waited}
use Rattle.pfc_world.specs.Tables.{Table}
use Rattle.pfc_semantics.specs.Selects.{may_terminate_at}
use Rattle.pfc_pending.specs.Selects.{opens_view}
use Rattle.pfc_deciding.proofs.Timing.{shows_all}
use Rattle.pfc_deciding.proofs.waiting.wait_until.Goals as goal

pub returns : goal.returns
returns c =
    let kept = c.end_action.ensures.kept in
    let as_kept : IsKept (record c.args.state.now { world = c.select_wait.new.world }) c.end_action.new.self
    = record {
      semaphores = kept.semaphores;
      monitors = kept.monitors;
      resources = kept.resources;
      store = kept.store;
      input = kept.input;
      draws = kept.draws;
    } in
    shows_all c.args.state.now (record c.args.state.now { world = c.select_wait.new.world }) c.end_action.new.self c.args.p c.args.opens.items c.args.arms.now
    c.args.kept c.args.due c.may_terminate-terminate.result (set c.args.state.now.activities.items c.args.p c.show_all.new.activity) c.index_mut.result.now
    c.show_all.new.activity c.line_of-line.result c.begin-r.result.number c.index_mut.ensures.value c.show_all.ensures c.line_of-line.ensures
    c.begin-r.ensures.number (c.may_terminate-terminate.ensures ∙ ap (λ os. may_terminate_at (opens_view os)) c.deref.ensures.value) refl refl
    (c.select_wait.ensures
    ∙ ap (λ (w : Table). select_waited w c.begin-r.result.number c.args.arms.now c.args.due c.may_terminate-terminate.result) c.begin-r.ensures.world)
    refl c.end_action.ensures.activity as_kept c.end_action.ensures.world c.end_action.ensures.fresh
