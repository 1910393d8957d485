use Rattle.std.proofs.Common.{◌≡◌, None, [], length, arith, sym, ap, ◌∙◌, subst}
use Rattle.std.proofs.lemmas.List.{length-replicate}
use Rattle.pfc_sorted.specs.Sorted.{AreSorted}
use Rattle.pfc_sorted.proofs.Puts.{none-sorted}
use Rattle.pfc_moments.specs.Sorted.{comes_first}
use Rattle.pfc_moments.proofs.moments.Moments.new.Goals as goal

pub invariant_of-result : goal.invariant_of-result
invariant_of-result c =
    let none : c.in_ok-sorted.sorted.items ≡ [] = c.in_ok-sorted.ensures.items in
    let long : length c.loop-p.moments.items ≡ c.loop-p._p = ap length c.loop-p.invariant ∙ length-replicate c.loop-p._p None in (
      subst (λ v. AreSorted comes_first v c.loop-p.moments.items) (sym none)
          (subst (λ v. AreSorted comes_first [] v) (sym c.loop-p.invariant) (none-sorted comes_first c.loop-p._p)),
      omega (arith, long, c.in_ok-sorted.ensures),
      omega (arith, long, c.requires),
    )
