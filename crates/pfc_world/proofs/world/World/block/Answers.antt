use Rattle.pfc_world.proofs.OfferLists.{OffersNone, ready-none, plain-none, kept-offered}
use Rattle.pfc_state.specs.Stands.{Waits}
use Rattle.std.proofs.Common.{◌+◌, [], sym, ap, subst, ◌∙◌}
use Rattle.pfc_world.specs.Indexes.{Admits, BeginsWait}
use Rattle.pfc_world.specs.Tickets.{IsNew}
use Rattle.pfc_world.proofs.Indexes.{admits, begun-index}
use Rattle.pfc_world.proofs.world.World.block.Goals as goal

pub begin_wait-requires : goal.begin_wait-requires
begin_wait-requires c =
    subst (λ n. Admits c.self.inside.index n (c.done-ticket.result + 1)) (sym c.number-p.ensures)
    (admits c.self.inside.rows.rows c.self.inside.index c.args.r.number c.self.inside.rows.done
    (c.done-ticket.result + 1) c.block.ensures.within c.block.ensures.acted
    c.done-ticket.ensures.tickets (subst (λ w. IsNew w.rows w.done) (sym c.self.view_is) c.requires.fresh)
    (ap (λ n. n + 1) c.done-ticket.ensures.count) c.self.invariant.indexed)

pub invariant_of-self : goal.invariant_of-self
invariant_of-self c = record {
  indexed =
      begun-index c.self.inside.rows.rows c.block.new.self.rows c.args.r.number (c.self.inside.rows.done + 1) c.args.why
      [] c.self.inside.index c.begin_wait.new.self
      c.block.ensures.within c.block.ensures.acted (ap (λ w. w.rows) c.block.ensures.table) c.self.invariant.indexed
      (subst (λ n. BeginsWait c.self.inside.index c.begin_wait.new.self n c.args.why (c.self.inside.rows.done + 1)) c.number-p.ensures
      (subst (λ n. BeginsWait c.self.inside.index c.begin_wait.new.self c.number-p.result c.args.why
      (n + 1)) c.done-ticket.ensures.count c.begin_wait.ensures));
  offered = kept-offered c.self.inside.rows.rows c.block.new.self.rows c.self.inside.offers c.args.r.number (Waits c.args.why (c.self.inside.rows.done + 1)
      []) c.block.ensures.within (subst OffersNone (sym c.block.ensures.acted) ready-none) (ap (λ w. w.rows) c.block.ensures.table)
      (plain-none c.args.why (c.self.inside.rows.done + 1) c.requires.plain) c.self.invariant.offered;
  room = c.self.invariant.room ∙ ap (λ w. w.room) (sym c.block.ensures.table);
}
