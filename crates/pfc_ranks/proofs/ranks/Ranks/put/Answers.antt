use Rattle.std.proofs.Common.{◌≡◌, ◌<◌, None, Some, length, set, arith, sym, ap, ◌∙◌, subst}
use Rattle.std.proofs.lemmas.List.{length-set}
use Rattle.pfc_sorted.specs.Sorted.{count_keys, passes, IsParted, AreSorted}
use Rattle.pfc_sorted.proofs.Counts.{count-room}
use Rattle.pfc_sorted.proofs.Puts.{put-sorted}
use Rattle.pfc_ranks.specs.Delays.{delay_at, is_before}
use Rattle.pfc_ranks.specs.Sorted.{comes_first}
use Rattle.pfc_ranks.proofs.Order.{before-total}
use Rattle.pfc_ranks.proofs.ranks.Ranks.put.Goals as goal

pub put_in-requires-clause-room : goal.put_in-requires-clause-room
put_in-requires-clause-room c =
    let lt : c.args.process < length c.self.inside.delays.items = subst (λ v. c.args.process < length v) (sym c.self.view_is) c.requires.process in
    let free : delay_at c.self.inside.delays.items c.args.process ≡ None = ap (λ v. delay_at v c.args.process) c.self.view_is ∙ c.requires.free in
    let less : count_keys c.self.inside.delays.items < length c.self.inside.delays.items = count-room c.self.inside.delays.items c.args.process lt free in
    omega (arith, less, c.self.invariant.0.count, c.self.invariant.1)

pub invariant_of-self : goal.invariant_of-self
invariant_of-self c =
    let lt : c.args.process < length c.self.inside.delays.items = subst (λ v. c.args.process < length v) (sym c.self.view_is) c.requires.process in
    let free : delay_at c.self.inside.delays.items c.args.process ≡ None = ap (λ v. delay_at v c.args.process) c.self.view_is ∙ c.requires.free in
    let long : length (set c.self.inside.delays.items c.args.process (Some c.args.delay)) ≡ length c.self.inside.delays.items =
    length-set c.self.inside.delays.items c.args.process (Some c.args.delay) in (
      subst (λ v. AreSorted comes_first v (set c.self.inside.delays.items c.args.process (Some c.args.delay))) (sym c.put_in.ensures.items)
          (put-sorted comes_first c.self.inside.sorted.items c.self.inside.delays.items c.args.process c.args.delay c.place_of-place.result lt free
          (λ q other away own. before-total other c.args.delay
          (c.requires.apart q other (sym (ap (λ v. delay_at v q) c.self.view_is) ∙ own))) c.self.invariant.0
          (subst (λ v. IsParted (passes (λ p other. is_before other c.args.delay) v) c.self.inside.sorted.items c.place_of-place.result)
          c.deref.ensures.value c.place_of-place.ensures)),
      omega (arith, long, c.self.invariant.1, c.put_in.ensures.capacity),
      omega (arith, long, c.self.invariant.2),
    )
