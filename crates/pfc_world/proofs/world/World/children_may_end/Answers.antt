use Rattle.std.proofs.Common.{◌-◌, ap, ◌∙◌}
use Rattle.pfc_world.specs.Indexes.{number}
use Rattle.pfc_world.specs.Settling.{children_may_end}
use Rattle.pfc_world.proofs.Counting.{may-end-by, may-end-some, may-end-none}
use Rattle.pfc_world.proofs.world.World.children_may_end.Goals as goal

pub returns-then-unfinished-gt0 : goal.returns-then-unfinished-gt0
returns-then-unfinished-gt0 c =
    may-end-some c.self.inside.rows.rows c.but_main-unfinished.result c.but_main-ending.result c.if-unfinished-gt0.true
    (may-end-by c.self.inside.rows.rows (number c.is_unfinished.result)
    (number c.may_end.result) c.but_main-unfinished.result c.but_main-ending.result c.self.invariant.indexed.some
    (c.but_main-unfinished.ensures ∙ ap (λ n. n - number c.is_unfinished.result) c.self.invariant.indexed.unfinished) (ap number c.is_unfinished.ensures)
    (c.but_main-ending.ensures ∙ ap (λ n. n - number c.may_end.result) c.self.invariant.indexed.ending) (ap number c.may_end.ensures))
    ∙ ap (λ w. children_may_end w.rows) c.self.view_is

pub returns-else-unfinished-gt0 : goal.returns-else-unfinished-gt0
returns-else-unfinished-gt0 c =
    may-end-none c.self.inside.rows.rows c.but_main-unfinished.result c.but_main-ending.result c.if-unfinished-gt0.false
    (may-end-by c.self.inside.rows.rows (number c.is_unfinished.result)
    (number c.may_end.result) c.but_main-unfinished.result c.but_main-ending.result c.self.invariant.indexed.some
    (c.but_main-unfinished.ensures ∙ ap (λ n. n - number c.is_unfinished.result) c.self.invariant.indexed.unfinished) (ap number c.is_unfinished.ensures)
    (c.but_main-ending.ensures ∙ ap (λ n. n - number c.may_end.result) c.self.invariant.indexed.ending) (ap number c.may_end.ensures))
    ∙ ap (λ w. children_may_end w.rows) c.self.view_is
