use Rattle.std.proofs.Common.{◌≡◌, ◌<◌, None, Some, length, set, arith, sym, ap, ◌∙◌, subst}
use Rattle.std.proofs.lemmas.List.{length-set}
use Rattle.pfc_sorted.specs.Sorted.{count_keys, passes, IsParted, AreSorted}
use Rattle.pfc_sorted.proofs.Counts.{count-room}
use Rattle.pfc_sorted.proofs.Puts.{put-sorted}
use Rattle.pfc_moments.specs.Moments.{moment_at, is_sooner}
use Rattle.pfc_moments.specs.Sorted.{due, comes_first}
use Rattle.pfc_moments.proofs.Order.{sooner-total}
use Rattle.pfc_moments.proofs.moments.Moments.put.Goals as goal

pub put_in-requires-clause-room : goal.put_in-requires-clause-room
put_in-requires-clause-room c =
    let lt : c.args.process < length c.self.inside.moments.items = subst (λ v. c.args.process < length v) (sym c.self.view_is) c.requires.process in
    let free : moment_at c.self.inside.moments.items c.args.process ≡ None = ap (λ v. moment_at v c.args.process) c.self.view_is ∙ c.requires.free in
    let less : count_keys c.self.inside.moments.items < length c.self.inside.moments.items = count-room c.self.inside.moments.items c.args.process lt free in
    omega (arith, less, c.self.invariant.0.count, c.self.invariant.1)

pub invariant_of-self : goal.invariant_of-self
invariant_of-self c =
    let lt : c.args.process < length c.self.inside.moments.items = subst (λ v. c.args.process < length v) (sym c.self.view_is) c.requires.process in
    let free : moment_at c.self.inside.moments.items c.args.process ≡ None = ap (λ v. moment_at v c.args.process) c.self.view_is ∙ c.requires.free in
    let long : length (set c.self.inside.moments.items c.args.process (Some c.args.moment)) ≡ length c.self.inside.moments.items =
    length-set c.self.inside.moments.items c.args.process (Some c.args.moment) in (
      subst (λ v. AreSorted comes_first v (set c.self.inside.moments.items c.args.process (Some c.args.moment))) (sym c.put_in.ensures.items)
          (put-sorted comes_first c.self.inside.sorted.items c.self.inside.moments.items c.args.process c.args.moment c.place_of-place.result lt free
          (λ q other away own. sooner-total (due other q) (due c.args.moment c.args.process) away) c.self.invariant.0
          (subst (λ v. IsParted (passes (λ p moment. is_sooner (due moment p) (due c.args.moment c.args.process)) v) c.self.inside.sorted.items
          c.place_of-place.result) c.deref.ensures.value c.place_of-place.ensures)),
      omega (arith, long, c.self.invariant.1, c.put_in.ensures.capacity),
      omega (arith, long, c.self.invariant.2),
    )
