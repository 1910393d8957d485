use Rattle.std.proofs.Common.{◌<◌, length, get_or, sym, ap, ◌∙◌, subst}
use Rattle.pfc_world.specs.Ready.{ready_numbers}
use Rattle.pfc_world.proofs.ReadySets.{ready-numbers}
use Rattle.pfc_world.proofs.world.World.ready_at.Goals as goal

pub at-requires : goal.at-requires
at-requires c =
    subst (λ v. c.args.place < length v) (sym (ready-numbers c.self.inside.rows.rows c.self.inside.index.ready c.self.invariant.indexed.bits))
    (subst (λ w. c.args.place < length (ready_numbers w.rows)) (sym c.self.view_is) c.requires)

pub returns : goal.returns
returns c =
    c.at.ensures
    ∙ ap (λ v. get_or v c.args.place 0) (ready-numbers c.self.inside.rows.rows c.self.inside.index.ready c.self.invariant.indexed.bits)
    ∙ ap (λ w. get_or (ready_numbers w.rows) c.args.place 0) c.self.view_is
