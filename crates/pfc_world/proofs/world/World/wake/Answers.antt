use Rattle.pfc_world.proofs.OfferLists.{is-process, within-offered, ready-none, withdrawn-offered}
use Rattle.pfc_state.specs.Stands.{Is_ready}
use Rattle.std.proofs.Common.{◌≤◌, sym, ap, subst, ◌∙◌}
use Rattle.pfc_state.specs.Stands.{IsWaiting}
use Rattle.pfc_world.specs.Tables.{at}
use Rattle.pfc_world.proofs.Changes.{waits-within}
use Rattle.pfc_world.proofs.Indexes.{is-listed, woken-index}
use Rattle.pfc_world.proofs.world.World.wake.Goals as goal

pub wake-requires-2 : goal.wake-requires-2
wake-requires-2 c =
    let waits : IsWaiting (at c.self.inside.rows.rows c.args.p) = subst (λ w. IsWaiting (at w.rows c.args.p)) (sym c.self.view_is) c.requires in
    is-listed c.self.inside.rows.rows c.self.inside.index c.args.p c.may_end-ends.result
    (waits-within c.self.inside.rows.rows c.args.p waits) waits c.may_end-ends.ensures c.self.invariant.indexed

pub invariant_of-self : goal.invariant_of-self
invariant_of-self c = record {
  indexed =
      let waits : IsWaiting (at c.self.inside.rows.rows c.args.p) = subst (λ w. IsWaiting (at w.rows c.args.p)) (sym c.self.view_is) c.requires in
      woken-index c.self.inside.rows.rows c.wake.new.self.rows c.args.p c.may_end-ends.result c.self.inside.index c.wake-2.new.self
      (waits-within c.self.inside.rows.rows c.args.p waits) waits
      c.may_end-ends.ensures (ap (λ w. w.rows) c.wake.ensures.table) c.self.invariant.indexed c.wake-2.ensures.wait
      c.wake-2.ensures.ready c.wake-2.ensures.unfinished;
  offered = withdrawn-offered c.self.inside.rows.rows c.wake.new.self.rows c.self.inside.offers c.withdraw.new.self c.args.p Is_ready
      (waits-within c.self.inside.rows.rows c.args.p (subst (λ w. IsWaiting (at w.rows c.args.p)) (sym c.self.view_is) c.requires))
      (ap (λ w. w.rows) c.wake.ensures.table) ready-none c.self.invariant.offered c.withdraw.ensures.none c.withdraw.ensures.others;
  room = c.withdraw.ensures.others.room ∙ c.self.invariant.room ∙ ap (λ w. w.room) (sym c.wake.ensures.table);
}

pub withdraw-requires-clause-process : goal.withdraw-requires-clause-process
withdraw-requires-clause-process c =
    let waits : IsWaiting (at c.self.inside.rows.rows c.args.p) = subst (λ w. IsWaiting (at w.rows c.args.p)) (sym c.self.view_is) c.requires in
    is-process c.self.inside.rows.rows c.self.inside.offers c.args.p (waits-within c.self.inside.rows.rows c.args.p waits) c.self.invariant.offered

pub withdraw-requires-clause-room : goal.withdraw-requires-clause-room
withdraw-requires-clause-room c = subst (λ n. n ≤ c.self.inside.offers.room) (sym c.arm_count-arms.ensures) (c.self.invariant.offered.few c.args.p)

pub withdraw-requires-clause-only : goal.withdraw-requires-clause-only
withdraw-requires-clause-only c =
    within-offered c.self.inside.rows.rows c.self.inside.offers c.args.p c.arm_count-arms.result c.arm_count-arms.ensures c.self.invariant.offered
