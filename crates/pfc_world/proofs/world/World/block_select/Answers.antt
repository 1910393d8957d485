use Rattle.pfc_alternatives.specs.Nodes.{IsProcess, AreBefore}
use Rattle.pfc_world.proofs.OfferLists.{select-offered, is-process, free-offered, earlier-offered}
use Rattle.std.proofs.Common.{length, ◌≤◌, ◌+◌, sym, ap, subst, ◌∙◌}
use Rattle.pfc_state.specs.declared.waits.Why.TheVariants.{Select}
use Rattle.pfc_world.specs.Indexes.{Admits, BeginsWait}
use Rattle.pfc_world.specs.Tickets.{IsNew}
use Rattle.pfc_world.proofs.Indexes.{admits, begun-index}
use Rattle.pfc_world.proofs.world.World.block_select.Goals as goal

pub begin_wait-requires : goal.begin_wait-requires
begin_wait-requires c =
    subst (λ n. Admits c.self.inside.index n (c.done-ticket.result + 1)) (sym c.number-p.ensures)
    (admits c.self.inside.rows.rows c.self.inside.index c.args.r.number c.self.inside.rows.done
    (c.done-ticket.result + 1) c.block_select.ensures.within c.block_select.ensures.acted
    c.done-ticket.ensures.tickets (subst (λ w. IsNew w.rows w.done) (sym c.self.view_is) c.requires.fresh)
    (ap (λ n. n + 1) c.done-ticket.ensures.count) c.self.invariant.indexed)

pub invariant_of-self : goal.invariant_of-self
invariant_of-self c = record {
  indexed =
      begun-index c.self.inside.rows.rows c.block_select.new.self.rows c.args.r.number (c.self.inside.rows.done + 1)
      (Select c.args.due c.args.terminate) c.args.arms.now c.self.inside.index c.begin_wait.new.self
      c.block_select.ensures.within c.block_select.ensures.acted (ap (λ w. w.rows) c.block_select.ensures.table) c.self.invariant.indexed
      (subst (λ n. BeginsWait c.self.inside.index c.begin_wait.new.self n (Select c.args.due c.args.terminate) (c.self.inside.rows.done + 1)) c.number-p.ensures
      (subst (λ n. BeginsWait c.self.inside.index c.begin_wait.new.self c.number-p.result (Select c.args.due c.args.terminate)
      (n + 1)) c.done-ticket.ensures.count c.begin_wait.ensures));
  offered =
      select-offered c.self.inside.rows.rows c.block_select.new.self.rows c.self.inside.offers c.offer.new.self c.args.r.number c.number-p.result
      (c.self.inside.rows.done + 1) (c.done-ticket.result + 1)
      c.args.due c.args.terminate c.args.arms.now c.number-p.ensures (ap (λ n. n + 1) c.done-ticket.ensures.count) c.block_select.ensures.within
      (ap (λ w. w.rows) c.block_select.ensures.table)
      (subst (λ n. length c.args.arms.now ≤ n) (ap (λ w. w.room) (sym c.self.view_is) ∙ sym c.self.invariant.room) c.requires.room) c.self.invariant.offered
      c.offer.ensures.offered c.offer.ensures.only c.offer.ensures.others;
  room = c.offer.ensures.others.room ∙ c.self.invariant.room ∙ ap (λ w. w.room) (sym c.block_select.ensures.table);
}

pub offer-requires-clause-process : goal.offer-requires-clause-process
offer-requires-clause-process c =
    subst (λ n. IsProcess c.self.inside.offers n) (sym c.number-p.ensures)
    (is-process c.self.inside.rows.rows c.self.inside.offers c.args.r.number c.block_select.ensures.within c.self.invariant.offered)

pub offer-requires-clause-room : goal.offer-requires-clause-room
offer-requires-clause-room c = subst (λ n. length c.args.arms.now ≤ n) (ap (λ w. w.room) (sym c.self.view_is) ∙ sym c.self.invariant.room) c.requires.room

pub offer-requires-clause-free : goal.offer-requires-clause-free
offer-requires-clause-free c =
    subst (λ n. AreBefore c.self.inside.offers n 0 (c.done-ticket.result + 1)) (sym c.number-p.ensures)
    (free-offered c.self.inside.rows.rows c.self.inside.offers c.args.r.number (c.done-ticket.result + 1) c.block_select.ensures.acted c.self.invariant.offered)

pub offer-requires-clause-last : goal.offer-requires-clause-last
offer-requires-clause-last c =
    earlier-offered c.self.inside.rows.rows c.self.inside.offers c.number-p.result c.self.inside.rows.done (c.done-ticket.result + 1)
    (ap (λ n. n + 1) c.done-ticket.ensures.count)
    c.done-ticket.ensures.tickets (subst (λ w. IsNew w.rows w.done) (sym c.self.view_is) c.requires.fresh) c.self.invariant.offered
