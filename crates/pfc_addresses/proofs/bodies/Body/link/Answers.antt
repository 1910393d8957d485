use Rattle.std.proofs.Common.{◌≡◌, ◌∙◌, ◌==◌, ℕ, List, Bool, true, get_or, drop, sym, ap, ap₂, arith, Option}
use Rattle.std.specs.Prelude.{unwrap_or}
use Rattle.std.specs.List.{position_from}
use Rattle.std.proofs.lemmas.Bool.Decides.{nat_tests}
use Rattle.std.proofs.lemmas.List.{at_drop_all}
use Rattle.std.proofs.lemmas.Iterator.Adapters.{position_from-zero}
use Rattle.pfc_program.proofs.Rows.{position_here}
use Rattle.pfc_addresses.proofs.bodies.Body.link.Goals as goal

pub returns-then-j-i : goal.returns-then-j-i
returns-then-j-i c =
    let test : ℕ → Bool = λ j. j == c.args.i in
    let xs : List ℕ = c.args.self.now.linked.items in
    let n : ℕ = c.loop-j.n in
    let held = c.loop-j.invariant in
    let same : get_or xs n 0 ≡ c.args.i = ap₂ (λ (l : List ℕ) k. get_or l k 0) (sym c.deref-j-items.ensures.value) held.0 ∙ c.if-j-i.true in
    let here : test (get_or xs n 0) ≡ true = grind (arith, nat_tests) in
    ap (λ (r : Option ℕ). unwrap_or r 0)
    (sym (position_here test n xs 0 (omega (arith, c.loop-j-test.true)) here) ∙ ap (λ k. position_from test n (drop k xs)) held.0 ∙
    held.1 ∙ sym (position_from-zero test xs))

pub returns : goal.returns
returns c =
    let test : ℕ → Bool = λ j. j == c.args.i in
    let xs : List ℕ = c.args.self.now.linked.items in
    ap (λ (r : Option ℕ). unwrap_or r 0) (sym (at_drop_all (position_from test c.loop-j.n) xs c.loop-j.j-index (omega arith)) ∙
    c.loop-j.invariant.1 ∙ sym (position_from-zero test xs))
