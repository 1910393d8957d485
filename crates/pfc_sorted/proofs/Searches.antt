-- Searches in a sorted list.
use Rattle.std.proofs.Common.{◌≡◌, ℕ, ◌-◌, ◌<◌, ◌≤◌, Bool, true, false, inl, inr, Option, Some, List, length, get_or, arith, refl, sym, ap, ◌∙◌}
use Rattle.std.specs.List.Sorted.{IsPartitionedBy}
use Rattle.std.proofs.lemmas.List.{get_or_default}
use Rattle.std.proofs.lemmas.Bool.{cases_eq, cases_lt}
use Rattle.pfc_sorted.specs.Sorted.{key_at, process_at, key_passes, passes, IsParted, IsPlace, AreSorted}

contrary : (A : Type 0) (b : Bool) → b ≡ true → b ≡ false → A
contrary A true e f = cc
contrary A false e f = cc

not-true : (b : Bool) → (b ≡ true → ⊥) → b ≡ false
not-true true h = absurd (h refl)
not-true false h = refl

-- where whoever comes before one that passes passes, those that pass stand first
pub parted : {K : Type 0} (before : ℕ → K → ℕ → K → Bool) (test : ℕ → K → Bool)
    → ((p q : ℕ) (a b : K) → before p a q b ≡ true → test q b ≡ true → test p a ≡ true)
    → (sorted : List ℕ) (keys : List (Option K)) → AreSorted before sorted keys → IsPartitionedBy (passes test keys) sorted
parted {K} before test down sorted keys h i j d le lt is =
    elim (cases_eq i j) [
      | inl same ↦ ap (λ n. passes test keys (get_or sorted n d)) same ∙ is
      | inr apart ↦
          let less : i < j = omega (arith, le, apart) in
          let within : i < length sorted = omega (arith, less, lt) in
          let x : key_at keys (process_at sorted i) ≡ Some (h.each i within).0 = (h.each i within).1 in
          let y : key_at keys (process_at sorted j) ≡ Some (h.each j lt).0 = (h.each j lt).1 in
          let later : test (process_at sorted j) (h.each j lt).0 ≡ true =
          sym (tested j (h.each j lt).0 y) ∙ ap (λ n. passes test keys n) (get_or_default sorted j 0 d lt) ∙ is in
          ap (λ n. passes test keys n) (get_or_default sorted i d 0 within)
          ∙ tested i (h.each i within).0 x
          ∙ down (process_at sorted i) (process_at sorted j) (h.each i within).0 (h.each j lt).0
          (h.rising i j (h.each i within).0 (h.each j lt).0 less lt x y) later
    ]
  where
    tested : (k : ℕ) (a : K) → key_at keys (process_at sorted k) ≡ Some a → passes test keys (process_at sorted k) ≡ test (process_at sorted k) a
    tested k a own = ap (λ o. key_passes (test (process_at sorted k)) o) own

-- where the first does not pass, nobody does
pub none-pass : (p : ℕ → Bool) (sorted : List ℕ) (d : ℕ) → IsPartitionedBy p sorted → p (get_or sorted 0 d) ≡ false → IsParted p sorted 0
none-pass p sorted d parts first = record {
  within = omega arith;
  before = λ k e from lt. absurd (omega (arith, lt));
  behind = λ k e from lt.
      not-true (p (get_or sorted k e))
      (λ is. contrary ⊥ (p (get_or sorted 0 d)) (ap p (get_or_default sorted 0 d e (omega (arith, lt))) ∙ parts 0 k e (omega arith) lt is) first);
}

-- where the last passes, all do
pub all-pass : (p : ℕ → Bool) (sorted : List ℕ) (d : ℕ) → IsPartitionedBy p sorted →
    p (get_or sorted (length sorted - 1) d) ≡ true → IsParted p sorted (length sorted)
all-pass p sorted d parts last = record {
  within = omega arith;
  before = λ k e from lt.
      parts k (length sorted - 1) e (omega (arith, lt)) (omega (arith, lt)) (ap p (get_or_default sorted (length sorted - 1) e d (omega (arith, lt))) ∙ last);
  behind = λ k e from lt. absurd (omega (arith, from, lt));
}

-- where nobody stands, each place parts them
pub nobody-parted : (p : ℕ → Bool) (sorted : List ℕ) (place : ℕ) → length sorted ≤ 0 → place ≤ length sorted → IsParted p sorted place
nobody-parted p sorted place none le = record {
  within = le;
  before = λ k e from lt. absurd (omega (arith, lt, le, none));
  behind = λ k e from lt. absurd (omega (arith, lt, none));
}

-- a process whose key does not pass stands where those begin that do not pass, or behind
pub stands-behind : {K : Type 0} (before : ℕ → K → ℕ → K → Bool) (test : ℕ → K → Bool) (sorted : List ℕ) (keys : List (Option K))
    (place : ℕ) → AreSorted before sorted keys
    → IsParted (passes test keys) sorted place → (q : ℕ) (other : K) → key_at keys q ≡ Some other → test q other ≡ false
    → (i : ℕ) × ((place ≤ i) × IsPlace sorted q i)
stands-behind {K} before test sorted keys place h parts q other own fails = go (h.every q other own)
  where
    tested : (i : ℕ) → process_at sorted i ≡ q → passes test keys (process_at sorted i) ≡ test q other
    tested i is = ap (λ n. passes test keys n) is ∙ ap (λ o. key_passes (test q) o) own

    go : (i : ℕ) × IsPlace sorted q i → (i : ℕ) × ((place ≤ i) × IsPlace sorted q i)
    go found = elim (cases_lt found.0 place) [
      | inl less ↦
          contrary ((i : ℕ) × ((place ≤ i) × IsPlace sorted q i)) (test q other) (sym (tested found.0 found.1.is) ∙
          parts.before found.0 0 (omega arith) less) fails
      | inr ge ↦ (found.0, (ge, found.1))
    ]

-- who stands at a place passes a test, or not, as its key does
pub passes-at : {K : Type 0} (test : ℕ → K → Bool) (sorted : List ℕ) (keys : List (Option K)) (place : ℕ) (key : K) (truth : Bool) →
    key_at keys (process_at sorted place) ≡ Some key
    → passes test keys (process_at sorted place) ≡ truth → test (process_at sorted place) key ≡ truth
passes-at test sorted keys place key truth own is = sym (ap (λ o. key_passes (test (process_at sorted place)) o) own) ∙ is
