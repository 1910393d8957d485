use Rattle.std.proofs.Common.{◌<◌, length, ◌∙◌, arith, rules}
use Rattle.std.proofs.lemmas.Grind.{common_steps}
use Rattle.pfc_events.proofs.Waking.{woken_one, woken_none, woken_all}
use Rattle.pfc_events.proofs.wakes.Standings.woken.Goals.{then-is_ready_now, else-is_ready_now}
use Rattle.pfc_events.proofs.wakes.Standings.woken.Goals as goal

pub loop-q-preserved : goal.loop-q-preserved
loop-q-preserved c =
    let low : c.loop-q.q < length c.args.self.ready.items = omega arith in
    let within : c.loop-q.q < length c.args.world.now.rows = omega arith in
    elim c.if-is_ready_now.branch [
      | then-is_ready_now w ↦ record {
        found =
            woken_one c.args.self.ready.items c.args.world.now.rows c.loop-q.q c.index.result.now c.is_ready_now.result c.loop-q.woken.items
            c.if-is_ready_now.woken.items _ low within c.index.ensures c.is_ready_now.ensures w.if-is_ready_now.true (search rules) c.loop-q.invariant.found;
        room = grind (arith, common_steps);
      }
      | else-is_ready_now w ↦ record {
        found =
            woken_none c.args.self.ready.items c.args.world.now.rows c.loop-q.q c.index.result.now c.is_ready_now.result c.loop-q.woken.items
            c.if-is_ready_now.woken.items _ low within c.index.ensures c.is_ready_now.ensures w.if-is_ready_now.false (search rules) c.loop-q.invariant.found;
        room = grind (arith, common_steps);
      }
    ]

pub returns : goal.returns
returns c =
    c.from_vec.ensures
    ∙ woken_all c.args.self.ready.items c.args.world.now.rows c.loop-q.q c.min-count.result c.loop-q.woken.items _
    (search rules) (omega arith) c.loop-q.invariant.found
