use Rattle.std.proofs.Common.{length, ap, ◌∙◌}
use Rattle.pfc_world.specs.Ready.{ready_numbers}
use Rattle.pfc_world.proofs.ReadySets.{ready-numbers}
use Rattle.pfc_world.proofs.world.World.ready_count.Goals as goal

pub returns : goal.returns
returns c =
    c.count.ensures ∙ ap length (ready-numbers c.self.inside.rows.rows c.self.inside.index.ready c.self.invariant.indexed.bits) ∙
    ap (λ w. length (ready_numbers w.rows)) c.self.view_is
