use Rattle.std.proofs.Common.{ap, ◌∙◌}
use Rattle.pfc_world.specs.Transitions.{is_released}
use Rattle.pfc_world.proofs.Counting.{released-one, released-not}
use Rattle.pfc_world.proofs.world.World.is_released.Goals as goal

pub returns-then-self-eq1 : goal.returns-then-self-eq1
returns-then-self-eq1 c =
    c.is_at_coend.ensures
    ∙ released-one c.self.inside.rows.rows c.self.inside.index.unfinished c.self.invariant.indexed.some c.self.invariant.indexed.unfinished c.if-self-eq1.true
    ∙ ap (λ w. is_released w.rows) c.self.view_is

pub returns-else-self-eq1 : goal.returns-else-self-eq1
returns-else-self-eq1 c =
    released-not c.self.inside.rows.rows c.self.inside.index.unfinished c.self.invariant.indexed.some c.self.invariant.indexed.unfinished c.if-self-eq1.false
    ∙ ap (λ w. is_released w.rows) c.self.view_is
