use Rattle.std.proofs.Common.{sym, ap, ◌∙◌, subst}
use Rattle.pfc_world.specs.Indexes.{IsIndexed}
use Rattle.pfc_world.specs.Offers.{AreOffered}
use Rattle.pfc_world.proofs.OfferLists.{first-offered}
use Rattle.pfc_world.proofs.world.World.with_processes.Goals as goal

pub invariant_of-result : goal.invariant_of-result
invariant_of-result c = record {
  indexed = subst (λ w. IsIndexed w.rows c.in_ok-new.field-0) (sym c.in_ok-with_processes.ensures.table) c.in_ok-new.ensures;
  offered = subst (λ w. AreOffered w.rows c.in_ok-new-2.field-0) (sym c.in_ok-with_processes.ensures.table)
      (first-offered c.args.n c.args.arms c.in_ok-new-2.field-0 c.requires.some c.in_ok-new-2.ensures.room c.in_ok-new-2.ensures.members);
  room = c.in_ok-new-2.ensures.room ∙ sym (ap (λ w. w.room) c.in_ok-with_processes.ensures.table);
}
