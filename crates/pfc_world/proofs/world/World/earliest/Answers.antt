use Rattle.std.proofs.Common.{sym, ap, ◌∙◌}
use Rattle.pfc_world.specs.Settling.{earliest}
use Rattle.pfc_world.proofs.Earliest.{earliest-first, earliest-nobody}
use Rattle.pfc_world.proofs.world.World.earliest.Goals as goal

pub returns-in-Some : goal.returns-in-Some
returns-in-Some c = sym (earliest-first c.self.inside.rows.rows c.self.inside.index.dues c.in-Some.due c.self.invariant.indexed.dues c.in-Some.ensures) ∙
    ap (λ w. earliest w.rows) c.self.view_is

pub returns-in-None : goal.returns-in-None
returns-in-None c = sym (earliest-nobody c.self.inside.rows.rows c.self.inside.index.dues c.self.invariant.indexed.dues c.in-None.ensures) ∙
    ap (λ w. earliest w.rows) c.self.view_is
