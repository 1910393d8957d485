use Rattle.std.proofs.Common.{refl, set, ap, ◌∙◌, []}
use Rattle.pfc_activities.specs.Relation.{IsKept}
use Rattle.pfc_world.specs.Tables.{Table}
use Rattle.pfc_world.specs.Transitions.{blocked}
use Rattle.pfc_messages.proofs.Exchanging.{shows_so, same_stays}
use Rattle.pfc_messages.proofs.messages.waits.Goals as goal

pub returns-in-Err-clause-err : goal.returns-in-Err-clause-err
returns-in-Err-clause-err c = same_stays c.args.state.now c.args.p

pub returns-clause-ok : goal.returns-clause-ok
returns-clause-ok c =
    let kept = c.end_action.ensures.kept in
    let as_kept : IsKept (record c.args.state.now { world = c.block.new.self }) c.end_action.new.self
    = record {
      semaphores = kept.semaphores;
      monitors = kept.monitors;
      resources = kept.resources;
      store = kept.store;
      input = kept.input;
      draws = kept.draws;
    } in
    shows_so c.args.state.now (record c.args.state.now { world = c.block.new.self }) c.end_action.new.self c.args.p c.args.why c.args.offer c.in-Ok.opens.items
    (set c.args.state.now.activities.items c.args.p c.show.new.activity) c.index_mut.result.now c.show.new.activity
    c.line_of-line.result c.begin-r.result.number
    c.index_mut.ensures.value c.show.ensures c.in-Ok.ensures.ok c.line_of-line.ensures c.begin-r.ensures.number refl refl
    (c.block.ensures ∙ ap (λ (w : Table). blocked w c.begin-r.result.number c.args.why []) c.begin-r.ensures.world) refl c.end_action.ensures.activity
    as_kept c.end_action.ensures.world c.end_action.ensures.fresh
