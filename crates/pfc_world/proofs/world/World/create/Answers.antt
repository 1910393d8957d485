use Rattle.pfc_world.proofs.OfferLists.{over-none, created-none, kept-offered}
use Rattle.pfc_state.specs.Stands.{Is_created}
use Rattle.pfc_world.specs.Tables.{at}
use Rattle.std.proofs.Common.{◌<◌, ◌≤◌, length, refl, arith, sym, ap, subst, ◌∙◌}
use Rattle.pfc_world.proofs.Indexes.{room-unfinished, room-created, created-index}
use Rattle.pfc_world.proofs.world.World.create.Goals as goal

pub overflow_add-self : goal.overflow_add-self
overflow_add-self c = let few : c.self.inside.index.unfinished ≤ 1024 =
    room-unfinished c.self.inside.rows.rows c.self.inside.index c.self.invariant.indexed in omega arith

pub overflow_add-self-2 : goal.overflow_add-self-2
overflow_add-self-2 c = let few : c.self.inside.index.created ≤ 1024 =
    room-created c.self.inside.rows.rows c.self.inside.index c.self.invariant.indexed in omega arith

pub invariant_of-self-2 : goal.invariant_of-self-2
invariant_of-self-2 c = record {
  indexed =
      let lt : c.args.p < length c.self.inside.rows.rows = subst (λ w. c.args.p < length w.rows) (sym c.self.view_is) c.requires in
      created-index c.self.inside.rows.rows c.create.new.self.rows c.args.p _ _ c.self.inside.index lt c.in_ok-create.ensures.0
      (ap (λ w. w.rows) c.in_ok-create.ensures.1) c.self.invariant.indexed refl refl;
  offered = kept-offered c.self.inside.rows.rows c.create.new.self.rows c.self.inside.offers c.args.p Is_created
      (subst (λ w. c.args.p < length w.rows) (sym c.self.view_is) c.requires) (over-none (at c.self.inside.rows.rows c.args.p) c.in_ok-create.ensures.0)
      (ap (λ w. w.rows) c.in_ok-create.ensures.1) created-none c.self.invariant.offered;
  room = c.self.invariant.room ∙ ap (λ w. w.room) (sym c.in_ok-create.ensures.1);
}
