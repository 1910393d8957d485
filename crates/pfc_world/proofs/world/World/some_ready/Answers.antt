use Rattle.std.proofs.Common.{nat_lt, ap, ◌∙◌}
use Rattle.pfc_world.specs.Tables.{some_ready}
use Rattle.pfc_world.proofs.ReadySets.{ready-some}
use Rattle.pfc_world.proofs.world.World.some_ready.Goals as goal

pub returns : goal.returns
returns c =
    ap (λ n. nat_lt 0 n) c.count.ensures ∙ ready-some c.self.inside.rows.rows c.self.inside.index.ready c.self.invariant.indexed.bits ∙
    ap (λ w. some_ready w.rows) c.self.view_is
