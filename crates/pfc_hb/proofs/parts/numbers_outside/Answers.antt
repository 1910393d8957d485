use Rattle.std.proofs.Common.{◌≡◌, ℕ, ◌++◌, ◌↔◌, length, arith, ap, sym, subst, ◌∙◌, Contains}
use Rattle.std.specs.Option.{option_to_list}
use Rattle.std.proofs.lemmas.List.{append-nil}
use Rattle.pfc_hb.proofs.PartLaws.{IsFront, fronts-more, fronts-own}
use Rattle.pfc_hb.proofs.parts.numbers_outside.Goals as goal
use Rattle.pfc_hb.proofs.parts.numbers_outside.Goals.{in-Some+in_ok-push, in_default}

pub loop-depth-preserved : goal.loop-depth-preserved
loop-depth-preserved c =
    let now = c.loop-depth.numbers.items in
    let found = c.number_at.result in
    let added : c.match-number_at.numbers.items ≡ now ++ option_to_list found = elim c.match-number_at.branch [
      | in-Some+in_ok-push w ↦ ap (λ v. v.items) w.numbers-is ∙ w.in_ok-push.ensures.items ∙ sym (ap (λ o. now ++ option_to_list o) w.in-Some.is)
      | in_default w ↦ ap (λ v. v.items) w.numbers-is ∙ sym (append-nil now) ∙ sym (ap (λ o. now ++ option_to_list o) w.in_default.is)
    ] in
    fronts-more c.args.parts.now.keys c.args.spot.now c.loop-depth.depth found now c.match-number_at.numbers.items
    c.number_at.ensures c.loop-depth.invariant added

pub returns : goal.returns
returns c =
    let parts = c.args.parts.now.keys in
    let spot = c.args.spot.now in
    let numbers = c.loop-depth.numbers.items in
    let last : c.loop-depth.depth ≡ length spot.path = omega (arith, ap length c.steps-depths.ensures) in
    let P : ℕ → Type 0 = λ bound. (n : ℕ) → Contains numbers n ↔ IsFront parts spot bound n in
    fronts-own parts spot numbers (subst P last c.loop-depth.invariant)
