use Rattle.pfc_world.proofs.OfferLists.{started-offered}
use Rattle.std.proofs.Common.{sym, ap, ◌∙◌}
use Rattle.pfc_world.proofs.Indexes.{all-started-index}
use Rattle.pfc_world.proofs.world.World.start_created.Goals as goal

pub invariant_of-self : goal.invariant_of-self
invariant_of-self c = record {
  indexed =
      all-started-index c.self.inside.rows.rows c.start_created.new.self.rows c.self.inside.index c.show_ready.new.ready
      (ap (λ w. w.rows) c.start_created.ensures) c.show_ready.ensures c.self.invariant.indexed;
  offered = started-offered c.self.inside.rows.rows c.start_created.new.self.rows c.self.inside.offers
      (ap (λ w. w.rows) c.start_created.ensures) c.self.invariant.offered;
  room = c.self.invariant.room ∙ ap (λ w. w.room) (sym c.start_created.ensures);
}
