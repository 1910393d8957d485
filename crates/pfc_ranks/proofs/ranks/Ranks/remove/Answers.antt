use Rattle.std.proofs.Common.{◌≡◌, ◌<◌, None, Some, length, set, arith, sym, ◌∙◌, subst}
use Rattle.std.proofs.lemmas.List.{length-set, get_or_read}
use Rattle.pfc_sorted.specs.Sorted.{AreSorted}
use Rattle.pfc_sorted.proofs.Takes.{out-sorted}
use Rattle.pfc_ranks.specs.Delays.{delay_at}
use Rattle.pfc_ranks.specs.Sorted.{comes_first}
use Rattle.pfc_ranks.proofs.Parts.{never-first}
use Rattle.pfc_ranks.proofs.ranks.Ranks.remove.Goals as goal

pub invariant_of-self : goal.invariant_of-self
invariant_of-self c =
    let lt : c.args.process < length c.self.inside.delays.items = subst (λ v. c.args.process < length v) (sym c.self.view_is) c.requires in
    let own : delay_at c.self.inside.delays.items c.args.process ≡ Some c.in-Some.delay =
    sym (get_or_read c.self.inside.delays.items c.args.process c.index.result.now lt c.index.ensures None) ∙ c.in-Some.is in
    let long : length (set c.self.inside.delays.items c.args.process None) ≡ length c.self.inside.delays.items =
    length-set c.self.inside.delays.items c.args.process None in (
      subst (λ v. AreSorted comes_first v (set c.self.inside.delays.items c.args.process None)) (sym c.take_out.ensures.items)
          (out-sorted comes_first never-first c.self.inside.sorted.items c.self.inside.delays.items c.args.process c.in-Some.delay
          c.place_of_process-place.result own c.self.invariant.0
          c.place_of_process-place.ensures),
      omega (arith, long, c.self.invariant.1, c.take_out.ensures.capacity),
      omega (arith, long, c.self.invariant.2),
    )
