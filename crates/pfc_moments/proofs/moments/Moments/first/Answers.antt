use Rattle.std.proofs.Common.{◌≡◌, ◌<◌, Some, length, arith, refl, sym, ap, ◌∙◌, subst}
use Rattle.std.specs.Prelude.{MatchOption, option_map}
use Rattle.std.proofs.lemmas.List.{get_or_read}
use Rattle.pfc_sorted.specs.Sorted.{process_at}
use Rattle.pfc_moments.specs.Moments.{moment_at, IsFirst, IsNobody}
use Rattle.pfc_moments.specs.Sorted.{due}
use Rattle.pfc_moments.proofs.First.{first-is}
use Rattle.pfc_moments.proofs.moments.Moments.first.Goals as goal

pub returns-in-Some : goal.returns-in-Some
returns-in-Some c =
    let long : c.self.inside.sorted.len ≡ length c.self.inside.sorted.items = c.self.inside.sorted.ok.0 in
    let within : 0 < c.self.inside.sorted.len = c.in-Some.ensures.variant.0 refl in
    let lt : 0 < length c.self.inside.sorted.items = omega (arith, within, long) in
    let is : c.in-Some.first.now ≡ process_at c.self.inside.sorted.items 0 =
    get_or_read c.self.inside.sorted.items 0 c.in-Some.first.now lt c.in-Some.ensures.lookup 0 in
    let own : moment_at c.self.inside.moments.items (process_at c.self.inside.sorted.items 0) ≡ Some (c.self.invariant.0.each 0 lt).0 =
    (c.self.invariant.0.each 0 lt).1 in
    subst (λ v. MatchOption c.due_of.result (IsNobody v) (IsFirst v)) c.self.view_is
    (subst (λ o. MatchOption o (IsNobody c.self.inside.moments.items) (IsFirst c.self.inside.moments.items))
    (sym
    (c.due_of.ensures ∙ ap (λ v. option_map (λ moment. due moment c.in-Some.first.now) (moment_at v c.in-Some.first.now)) c.deref.ensures.value
    ∙ ap (λ n. option_map (λ moment. due moment n) (moment_at c.self.inside.moments.items n)) is
    ∙ ap (option_map (λ moment. due moment (process_at c.self.inside.sorted.items 0))) own))
    (first-is c.self.inside.sorted.items c.self.inside.moments.items (c.self.invariant.0.each 0 lt).0 c.self.invariant.0 lt own))
