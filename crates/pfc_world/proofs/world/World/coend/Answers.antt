use Rattle.std.proofs.Common.{sym, subst}
use Rattle.pfc_state.specs.Stands.{started}
use Rattle.pfc_world.specs.Tickets.{IsNew}
use Rattle.pfc_world.proofs.Maps.{fresh-map, started-kind}
use Rattle.pfc_world.proofs.world.World.coend.Goals as goal

pub block-requires-clause-fresh : goal.block-requires-clause-fresh
block-requires-clause-fresh c =
    subst (λ w. IsNew w.rows w.done) (sym c.start_created.ensures) (fresh-map started c.args.self.now.rows c.args.self.now.done started-kind c.requires.fresh)
