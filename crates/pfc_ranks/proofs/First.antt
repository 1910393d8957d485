-- The first at an object in the sorted list.
use Rattle.std.proofs.Common.{◌≡◌, ◌≢◌, ℕ, ◌<◌, ◌≤◌, ◌==◌, ℤ, ◌≤ℤ◌, true, false, inl, inr, nat_lt, Option, Some, List, length, arith, sym, ap, ◌∙◌}
use Rattle.std.proofs.lemmas.Bool.{cases_eq}
use Rattle.std.proofs.lemmas.Bool.Decides.{nat_tests}
use Rattle.std.proofs.lemmas.Int.{ints}
use Rattle.pfc_sorted.specs.Sorted.{process_at, passes, IsParted, IsPlace, AreSorted}
use Rattle.pfc_sorted.proofs.Puts.{same-key}
use Rattle.pfc_sorted.proofs.Searches.{stands-behind, passes-at}
use Rattle.pfc_ranks.specs.declared.ranks.Delay.{Delay}
use Rattle.pfc_ranks.specs.Delays.{delay_at, is_before, IsFirst, IsNobody}
use Rattle.pfc_ranks.specs.Sorted.{comes_first}
use Rattle.pfc_ranks.proofs.Order.{before-low, before-rank, before-ticket}

pub same-object : (a c : ℕ) → (a == c) ≡ true → a ≡ c
same-object a c h = grind (arith, nat_tests)

pub other-object : (a c : ℕ) → (a == c) ≡ false → a ≢ c
other-object a c h = grind (arith, nat_tests)

not-lower : (a c : ℕ) → a ≡ c → nat_lt a c ≡ false
not-lower a c e = grind (arith, nat_tests)

above-is : (a c : ℕ) → nat_lt a c ≡ false → c ≤ a
above-is a c h = grind (arith, nat_tests)

-- who stands where those of the object begin, and is delayed there, is the first
pub first-at : (sorted : List ℕ) (delays : List (Option Delay)) (object place : ℕ) → AreSorted comes_first sorted delays
    → IsParted (passes (λ p other. nat_lt other.object object) delays) sorted place → place < length sorted
    → passes (λ p other. other.object == object) delays (process_at sorted place) ≡ true → IsFirst delays object (process_at sorted place)
first-at sorted delays object place h parts lt here = record {
  delay = mine;
  own = own;
  there = there;
  least = λ q other is level. (first q other is level).0;
  earliest = λ q other is level. (first q other is level).1;
}
  where
    mine : Delay
    mine = (h.each place lt).0

    own : delay_at delays (process_at sorted place) ≡ Some mine
    own = (h.each place lt).1

    there : mine.object ≡ object
    there = same-object mine.object object (passes-at (λ p other. other.object == object) sorted delays place mine true own here)

    level_rank : (r s : ℤ) → r ≡ s → r ≤ℤ s
    level_rank r s e = grind (arith, ints)

    no_later : (other : Delay) (i : ℕ) → place ≤ i → i < length sorted → delay_at delays (process_at sorted i) ≡ Some other → other.object ≡ object
        → (mine.rank ≤ℤ other.rank) × (other.rank ≡ mine.rank → mine.ticket ≤ other.ticket)
    no_later other i ge room is at_it = elim (cases_eq place i) [
      | inl same ↦
          let e : mine ≡ other =
          same-key (delay_at delays (process_at sorted i)) mine other (ap (λ n. delay_at delays (process_at sorted n)) (sym same) ∙ own) is in
          (level_rank mine.rank other.rank (ap (λ v. v.rank) e), λ k. let t : mine.ticket ≡ other.ticket = ap (λ v. v.ticket) e in omega (arith, t))
      | inr apart ↦
          let rises : is_before mine other ≡ true = h.rising place i mine other (omega (arith, ge, apart)) room own is in
          (before-rank mine other rises (at_it ∙ sym there), λ k. before-ticket mine other rises (at_it ∙ sym there) k)
    ]

    first : (q : ℕ) (other : Delay) → delay_at delays q ≡ Some other → other.object ≡ object
        → (mine.rank ≤ℤ other.rank) × (other.rank ≡ mine.rank → mine.ticket ≤ other.ticket)
    first q other is at_it =
        go (stands-behind comes_first (λ p d. nat_lt d.object object) sorted delays place h parts q other is (not-lower other.object object at_it))
      where
        go : (i : ℕ) × ((place ≤ i) × IsPlace sorted q i) → (mine.rank ≤ℤ other.rank) × (other.rank ≡ mine.rank → mine.ticket ≤ other.ticket)
        go found = no_later other found.0 found.1.0 found.1.1.within (ap (λ n. delay_at delays n) found.1.1.is ∙ is) at_it

-- where those of the object would begin, nobody or somebody else stands
pub nobody-at : (sorted : List ℕ) (delays : List (Option Delay)) (object place : ℕ) → AreSorted comes_first sorted delays
    → IsParted (passes (λ p other. nat_lt other.object object) delays) sorted place
    → (place < length sorted → passes (λ p other. other.object == object) delays (process_at sorted place) ≡ false) → IsNobody delays object
nobody-at sorted delays object place h parts none p delay own at_it =
    go (stands-behind comes_first (λ q d. nat_lt d.object object) sorted delays place h parts p delay own (not-lower delay.object object at_it))
  where
    go : (i : ℕ) × ((place ≤ i) × IsPlace sorted p i) → ⊥
    go found =
        let ge : place ≤ found.0 = found.1.0 in
        let room : found.0 < length sorted = found.1.1.within in
        let lt : place < length sorted = omega (arith, ge, room) in
        let mine : delay_at delays (process_at sorted place) ≡ Some (h.each place lt).0 = (h.each place lt).1 in
        let theirs : delay_at delays (process_at sorted found.0) ≡ Some delay = ap (λ n. delay_at delays n) found.1.1.is ∙ own in
        let away : (h.each place lt).0.object ≢ object =
        other-object (h.each place lt).0.object object (passes-at (λ q d. d.object == object) sorted delays place (h.each place lt).0 false mine (none lt)) in
        elim (cases_eq place found.0) [
          | inl here ↦
              away
              (ap (λ d. d.object)
              (same-key (delay_at delays (process_at sorted found.0)) (h.each place lt).0 delay (ap (λ n. delay_at delays (process_at sorted n)) (sym here) ∙
              mine) theirs)
              ∙ at_it)
          | inr apart ↦
              let above : object ≤ (h.each place lt).0.object =
              above-is (h.each place lt).0.object object (passes-at (λ q d. nat_lt d.object object) sorted delays place (h.each place lt).0 false mine
              (parts.behind place 0 (omega arith) lt)) in
              let low : (h.each place lt).0.object ≤ delay.object =
              before-low (h.each place lt).0 delay (h.rising place found.0 (h.each place lt).0 delay (omega (arith, ge, apart)) room mine theirs) in
              omega (arith, away, above, low, at_it)
        ]
