use Rattle.std.proofs.Common.{ap, ◌∙◌}
use Rattle.pfc_world.specs.Tables.{some_created}
use Rattle.pfc_world.proofs.Counting.{created-some}
use Rattle.pfc_world.proofs.world.World.some_created.Goals as goal

pub returns : goal.returns
returns c = created-some c.self.inside.rows.rows c.self.inside.index.created c.self.invariant.indexed.created ∙ ap (λ w. some_created w.rows) c.self.view_is
