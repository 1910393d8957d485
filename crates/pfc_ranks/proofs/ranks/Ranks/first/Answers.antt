use Rattle.std.proofs.Common.{◌≡◌, ◌<◌, ◌==◌, nat_lt, length, arith, refl, sym, ap, ◌∙◌, subst}
use Rattle.std.proofs.lemmas.List.{get_or_read}
use Rattle.pfc_sorted.specs.Sorted.{process_at, passes, IsParted}
use Rattle.pfc_ranks.specs.Delays.{IsFirst, IsNobody}
use Rattle.pfc_ranks.proofs.First.{first-at, nobody-at}
use Rattle.pfc_ranks.proofs.ranks.Ranks.first.Goals as goal

pub returns-in-Some : goal.returns-in-Some
returns-in-Some c =
    let long : c.self.inside.sorted.len ≡ length c.self.inside.sorted.items = c.self.inside.sorted.ok.0 in
    let within : c.start_of-place.result < c.self.inside.sorted.len = c.in-Some.ensures.variant.0 refl in
    let lt : c.start_of-place.result < length c.self.inside.sorted.items = omega (arith, within, long) in
    let is : c.in-Some.first.now ≡ process_at c.self.inside.sorted.items c.start_of-place.result =
    get_or_read c.self.inside.sorted.items c.start_of-place.result c.in-Some.first.now lt c.in-Some.ensures.lookup 0 in
    subst (λ v. IsFirst v c.args.object c.from.result) c.self.view_is
    (subst (λ n. IsFirst c.self.inside.delays.items c.args.object n) (sym (c.from.ensures ∙ is))
    (first-at c.self.inside.sorted.items c.self.inside.delays.items c.args.object c.start_of-place.result c.self.invariant.0
    (subst (λ v. IsParted (passes (λ p other. nat_lt other.object c.args.object) v) c.self.inside.sorted.items c.start_of-place.result)
    c.as_slice-delays.ensures.value c.start_of-place.ensures)
    lt
    (ap (passes (λ p other. other.object == c.args.object) c.self.inside.delays.items) (sym is)
    ∙ sym (subst (λ v. c.is_at.result ≡ passes (λ p other. other.object == c.args.object) v c.in-Some.first.now)
    c.as_slice-delays.ensures.value c.is_at.ensures)
    ∙ c.if-is_at.true)))

pub returns-in_default : goal.returns-in_default
returns-in_default c =
    subst (λ v. IsNobody v c.args.object) c.self.view_is
    (nobody-at c.self.inside.sorted.items c.self.inside.delays.items c.args.object c.start_of-place.result c.self.invariant.0
    (subst (λ v. IsParted (passes (λ p other. nat_lt other.object c.args.object) v) c.self.inside.sorted.items c.start_of-place.result)
    c.as_slice-delays.ensures.value c.start_of-place.ensures)
    (λ lt.
    ap (passes (λ p other. other.object == c.args.object) c.self.inside.delays.items)
    (sym (get_or_read c.self.inside.sorted.items c.start_of-place.result c.in-Some.first.now lt c.in-Some.ensures.lookup 0))
    ∙ sym (subst (λ v. c.is_at.result ≡ passes (λ p other. other.object == c.args.object) v c.in-Some.first.now)
    c.as_slice-delays.ensures.value c.is_at.ensures)
    ∙ c.if-is_at.false))
