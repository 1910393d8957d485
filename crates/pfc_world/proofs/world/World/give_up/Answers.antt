use Rattle.pfc_world.proofs.OfferLists.{OffersNone, ready-none, done-none, kept-offered}
use Rattle.pfc_state.specs.Stands.{Is_done}
use Rattle.std.proofs.Common.{false, set, refl, ap, ◌∙◌, sym, subst}
use Rattle.pfc_world.proofs.Indexes.{some-unfinished, finished-index}
use Rattle.pfc_world.proofs.world.World.give_up.Goals as goal

pub overflow_sub-self : goal.overflow_sub-self
overflow_sub-self c =
    some-unfinished c.self.inside.rows.rows c.self.inside.index c.args.r.number c.give_up.ensures.within c.give_up.ensures.acted c.self.invariant.indexed

pub invariant_of-self : goal.invariant_of-self
invariant_of-self c = record {
  indexed =
      finished-index c.self.inside.rows.rows c.give_up.new.self.rows c.args.r.number _ c.self.inside.index _ c.give_up.ensures.within c.give_up.ensures.acted
      (ap (λ w. w.rows) c.give_up.ensures.table) c.self.invariant.indexed (c.put.ensures ∙
      ap (λ n. set c.self.inside.index.ready n false) c.number-p.ensures) refl;
  offered = kept-offered c.self.inside.rows.rows c.give_up.new.self.rows c.self.inside.offers c.args.r.number Is_done c.give_up.ensures.within
      (subst OffersNone (sym c.give_up.ensures.acted) ready-none) (ap (λ w. w.rows) c.give_up.ensures.table) done-none c.self.invariant.offered;
  room = c.self.invariant.room ∙ ap (λ w. w.room) (sym c.give_up.ensures.table);
}
