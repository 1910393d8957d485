-- Who is due first, and who comes before whom, in the sorted list.
use Rattle.std.proofs.Common.{◌≡◌, ℕ, ◌<◌, ◌≤◌, true, inl, inr, Option, Some, List, length, arith, refl, sym, ap, ◌∙◌}
use Rattle.std.specs.List.Sorted.{IsPartitionedBy}
use Rattle.std.proofs.lemmas.Bool.{cases_eq}
use Rattle.pfc_sorted.specs.Sorted.{process_at, passes, IsPlace, AreSorted}
use Rattle.pfc_sorted.proofs.Puts.{same-key}
use Rattle.pfc_sorted.proofs.Searches.{parted}
use Rattle.pfc_moments.specs.declared.moments.Due.{Due}
use Rattle.pfc_moments.specs.Moments.{moment_at, is_sooner, IsFirst}
use Rattle.pfc_moments.specs.Sorted.{due, comes_first}
use Rattle.pfc_moments.proofs.Order.{not-itself, sooner-early, sooner-trans}

-- nobody comes before himself
pub never-first : (p m : ℕ) → comes_first p m p m ≡ true → ⊥
never-first p m h = not-itself ⊥ (due m p) (due m p) refl h

pub parted-before : (sorted : List ℕ) (moments : List (Option ℕ)) (other : Due) → AreSorted comes_first sorted moments
    → IsPartitionedBy (passes (λ p moment. is_sooner (due moment p) other) moments) sorted
parted-before sorted moments other h =
    parted comes_first (λ p moment. is_sooner (due moment p) other) (λ p q a b e f. sooner-trans (due a p) (due b q) other e f) sorted moments h

-- the first of the list is due first
pub first-is : (sorted : List ℕ) (moments : List (Option ℕ)) (m : ℕ) → AreSorted comes_first sorted moments → 0 < length sorted
    → moment_at moments (process_at sorted 0) ≡ Some m → IsFirst moments (due m (process_at sorted 0))
first-is sorted moments m h lt own = record {
  own = own;
  least = λ q n is. least q n is (h.every q n is);
}
  where
    least : (q n : ℕ) → moment_at moments q ≡ Some n → (i : ℕ) × IsPlace sorted q i → m ≤ n
    least q n is found =
        let theirs : moment_at moments (process_at sorted found.0) ≡ Some n = ap (λ v. moment_at moments v) found.1.is ∙ is in
        elim (cases_eq 0 found.0) [
          | inl same ↦
              let e : m ≡ n = same-key (moment_at moments (process_at sorted found.0)) m n (ap (λ i. moment_at moments (process_at sorted i)) (sym same) ∙
              own) theirs in
              omega (arith, e)
          | inr apart ↦
              sooner-early (due m (process_at sorted 0)) (due n (process_at sorted found.0))
              (h.rising 0 found.0 m n (omega (arith, apart)) found.1.within own theirs)
        ]
