-- The sorted list, as one process loses its key.
use Rattle.std.proofs.Common.{◌≡◌, ◌≢◌, ℕ, suc, ◌+◌, ◌-◌, ◌<◌, ◌≤◌, Bool, true, false, ◌⊎◌, inl, inr, Option, None, Some, List, length, set, arith, sym, ap}
use Rattle.std.proofs.Common.{◌∙◌, subst}
use Rattle.std.specs.List.{remove}
use Rattle.std.proofs.lemmas.List.{length-set, get_or-set_same, get_or_past}
use Rattle.std.proofs.lemmas.List.Edits.{length-remove, get_or-remove_below, get_or-remove_above}
use Rattle.std.proofs.lemmas.Bool.{cases_eq, cases_lt}
use Rattle.pfc_sorted.specs.Sorted.{key_at, process_at, count_keys, key_passes, passes, IsParted, IsPlace, AreSorted}
use Rattle.pfc_sorted.proofs.Counts.{count-less}
use Rattle.pfc_sorted.proofs.Puts.{some-apart, key-other}

contrary : (A : Type 0) (b : Bool) → b ≡ true → b ≡ false → A
contrary A true e f = cc
contrary A false e f = cc

-- the place that is found for the key of a process is that of the process
pub place-is : {K : Type 0} (before : ℕ → K → ℕ → K → Bool) → ((q : ℕ) (a : K) → before q a q a ≡ true → ⊥)
    → (sorted : List ℕ) (keys : List (Option K)) (p : ℕ) (key : K) (k : ℕ) → AreSorted before sorted keys → key_at keys p ≡ Some key
    → IsParted (passes (λ n other. before n other p key) keys) sorted k → IsPlace sorted p k
place-is {K} before never sorted keys p key k h own parts = go (h.every p key own)
  where
    tested : (j : ℕ) (a : K) → key_at keys (process_at sorted j) ≡ Some a →
        passes (λ n other. before n other p key) keys (process_at sorted j) ≡ before (process_at sorted j) a p key
    tested j a is = ap (λ o. key_passes (λ other. before (process_at sorted j) other p key) o) is

    go : (i : ℕ) × IsPlace sorted p i → IsPlace sorted p k
    go found =
        let room : found.0 < length sorted = found.1.within in
        let mine : key_at keys (process_at sorted found.0) ≡ Some key = ap (λ n. key_at keys n) found.1.is ∙ own in
        elim (cases_lt found.0 k) [
          | inl less ↦
              let no : ⊥ = never p key (ap (λ n. before n key p key) (sym found.1.is) ∙ sym (tested found.0 key mine) ∙
              parts.before found.0 0 (omega arith) less) in
              absurd no
          | inr ge ↦ elim (cases_eq k found.0) [
            | inl same ↦ subst (λ n. IsPlace sorted p n) (sym same) found.1
            | inr apart ↦
                let less : k < found.0 = omega (arith, ge, apart) in
                let within : k < length sorted = omega (arith, less, room) in
                let a : K = (h.each k within).0 in
                let theirs : key_at keys (process_at sorted k) ≡ Some (h.each k within).0 = (h.each k within).1 in
                contrary (IsPlace sorted p k) (before (process_at sorted k) (h.each k within).0 p key)
                (ap (λ n. before (process_at sorted k) (h.each k within).0 n key) (sym found.1.is) ∙
                h.rising k found.0 (h.each k within).0 key less room theirs mine)
                (sym (tested k (h.each k within).0 theirs) ∙ parts.behind k 0 (omega arith) within)
          ]
        ]

-- what stands at a place after one was taken out
data Left (sorted : List ℕ) (i k : ℕ) : Type 0 where
  below : k < i → process_at (remove sorted i) k ≡ process_at sorted k → Left sorted i k
  above : i ≤ k → k + 1 < length sorted → process_at (remove sorted i) k ≡ process_at sorted (k + 1) → Left sorted i k

left : (sorted : List ℕ) (i k : ℕ) → i < length sorted → k < length (remove sorted i) → Left sorted i k
left sorted i k lt less =
    let long : length (remove sorted i) + 1 ≡ length sorted = length-remove sorted i lt in
    elim (cases_lt k i) [
      | inl low ↦ below low (get_or-remove_below sorted i 0 k low lt)
      | inr ge ↦ above ge (omega (arith, less, long)) (get_or-remove_above sorted i 0 k ge lt)
    ]

-- a process with a key has none any more
pub out-sorted : {K : Type 0} (before : ℕ → K → ℕ → K → Bool) → ((q : ℕ) (a : K) → before q a q a ≡ true → ⊥)
    → (sorted : List ℕ) (keys : List (Option K)) (p : ℕ) (key : K) (i : ℕ) → key_at keys p ≡ Some key → AreSorted before sorted keys → IsPlace sorted p i
    → AreSorted before (remove sorted i) (set keys p None)
out-sorted {K} before never sorted keys p key i own h found = record {
  count = counted (length (remove sorted i)) (count_keys (set keys p None)) (length-remove sorted i found.within ∙ h.count ∙ sym (count-less keys p key own));
  each = λ k less. each k (left sorted i k found.within less);
  every = λ q n is. every q n is (cases_eq q p);
  rising = λ j k a b less room x y. rising j k a b less x y (left sorted i j found.within (omega (arith, less, room))) (left sorted i k found.within room);
}
  where
    counted : (a b : ℕ) → a + 1 ≡ suc b → a ≡ b
    counted a b e = omega (arith, e)

    room_i : i < length sorted
    room_i = found.within

    long : length (remove sorted i) + 1 ≡ length sorted
    long = length-remove sorted i room_i

    -- each process stands once
    twice : (m n : ℕ) → m < n → n < length sorted → process_at sorted m ≡ p → process_at sorted n ≡ p → ⊥
    twice m n less room e f =
        never p key
        (ap (λ v. before v key p key) (sym e) ∙ ap (λ v. before (process_at sorted m) key v key) (sym f)
        ∙ h.rising m n key key less room (ap (λ v. key_at keys v) e ∙ own) (ap (λ v. key_at keys v) f ∙ own))

    once : (j : ℕ) → j < length sorted → process_at sorted j ≡ p → j ≡ i
    once j less same = elim (cases_lt j i) [
      | inl low ↦ absurd (twice j i low room_i same found.is)
      | inr ge ↦ elim (cases_eq j i) [
        | inl at_i ↦ at_i
        | inr apart ↦ absurd (twice i j (omega (arith, ge, apart)) less found.is same)
      ]
    ]

    -- who is left has the key that it had
    old : (k j : ℕ) (a : K) → j < length sorted → j ≢ i → process_at (remove sorted i) k ≡ process_at sorted j →
        key_at (set keys p None) (process_at (remove sorted i) k) ≡ Some a
        → key_at keys (process_at sorted j) ≡ Some a
    old k j a less away is mine =
        sym (key-other keys p (process_at sorted j) None (λ same. away (once j less same))) ∙ ap (λ n. key_at (set keys p None) n) (sym is) ∙ mine

    each-old : (k j : ℕ) → j < length sorted → j ≢ i → process_at (remove sorted i) k ≡ process_at sorted j
        → (a : K) × (key_at (set keys p None) (process_at (remove sorted i) k) ≡ Some a)
    each-old k j less away is = (
      (h.each j less).0,
      ap (λ n. key_at (set keys p None) n) is ∙
          key-other keys p (process_at sorted j) None (λ same. away (once j less same)) ∙ (h.each j less).1,
    )

    each : (k : ℕ) → Left sorted i k → (a : K) × (key_at (set keys p None) (process_at (remove sorted i) k) ≡ Some a)
    each k (Left.below low is) = each-old k k (omega (arith, low, room_i)) (λ e. omega (arith, low, e)) is
    each k (Left.above ge room is) = each-old k (k + 1) room (λ e. omega (arith, ge, e)) is

    every : (q : ℕ) (n : K) → key_at (set keys p None) q ≡ Some n → (q ≡ p) ⊎ (q ≢ p) → (k : ℕ) × IsPlace (remove sorted i) q k
    every q n is (inl same) =
        some-apart ((k : ℕ) × IsPlace (remove sorted i) q k) (key_at (set keys p None) q) n (gone (ap (λ k. key_at (set keys p None) k) same)) is
      where
        gone : key_at (set keys p None) q ≡ key_at (set keys p None) p → key_at (set keys p None) q ≡ None
        gone e = elim (cases_lt p (length keys)) [
          | inl lt ↦ e ∙ get_or-set_same keys p None None lt
          | inr past ↦ e ∙ get_or_past (set keys p None) p None (subst (λ v. v ≤ p) (sym (length-set keys p None)) past)
        ]
    every q n is (inr away) = stood (h.every q n (sym (key-other keys p q None away) ∙ is))
      where
        stood : (j : ℕ) × IsPlace sorted q j → (k : ℕ) × IsPlace (remove sorted i) q k
        stood place =
            let room : place.0 < length sorted = place.1.within in
            let other_place : place.0 ≢ i = λ e. away (sym place.1.is ∙ ap (λ k. process_at sorted k) e ∙ found.is) in
            elim (cases_lt place.0 i) [
              | inl low ↦ (place.0, record { within = omega (arith, long, low, room_i); is = get_or-remove_below sorted i 0 place.0 low room_i ∙ place.1.is })
              | inr ge ↦
                  let back : place.0 - 1 + 1 ≡ place.0 = omega (arith, ge, other_place) in
                  let after : i ≤ place.0 - 1 = omega (arith, ge, other_place) in (
                    place.0 - 1,
                    record {
                      within = omega (arith, long, room, back);
                      is = get_or-remove_above sorted i 0 (place.0 - 1) after room_i ∙ ap (λ k. process_at sorted k) back ∙ place.1.is;
                    },
                  )
            ]

    moved : (j k : ℕ) (a b : K) (m n : ℕ) → process_at (remove sorted i) j ≡ m → process_at (remove sorted i) k ≡ n → before m a n b ≡ true
        → before (process_at (remove sorted i) j) a (process_at (remove sorted i) k) b ≡ true
    moved j k a b m n e f is = ap (λ v. before v a (process_at (remove sorted i) k) b) e ∙ ap (λ v. before m a v b) f ∙ is

    -- two that are left, from their places before
    kept : (j k : ℕ) (a b : K) (m n : ℕ) → m < n → n < length sorted → m ≢ i → n ≢ i → process_at (remove sorted i) j ≡ process_at sorted m →
        process_at (remove sorted i) k ≡ process_at sorted n
        → key_at (set keys p None) (process_at (remove sorted i) j) ≡ Some a → key_at (set keys p None) (process_at (remove sorted i) k) ≡ Some b
        → before (process_at (remove sorted i) j) a (process_at (remove sorted i) k) b ≡ true
    kept j k a b m n less room away away' e f x y =
        moved j k a b (process_at sorted m) (process_at sorted n) e f
        (h.rising m n a b less room (old j m a (omega (arith, less, room)) away e x) (old k n b room away' f y))

    rising : (j k : ℕ) (a b : K) → j < k → key_at (set keys p None) (process_at (remove sorted i) j) ≡ Some a →
        key_at (set keys p None) (process_at (remove sorted i) k) ≡ Some b
        → Left sorted i j → Left sorted i k → before (process_at (remove sorted i) j) a (process_at (remove sorted i) k) b ≡ true
    rising j k a b less x y (Left.below low e) (Left.below low' f) =
        kept j k a b j k less (omega (arith, low', room_i)) (λ v. omega (arith, low, v)) (λ v. omega (arith, low', v)) e f x y
    rising j k a b less x y (Left.below low e) (Left.above ge room f) =
        kept j k a b j (k + 1) (omega (arith, less)) room (λ v. omega (arith, low, v)) (λ v. omega (arith, ge, v)) e f x y
    rising j k a b less x y (Left.above ge room e) (Left.above ge' room' f) =
        kept j k a b (j + 1) (k + 1) (omega (arith, less)) room' (λ v. omega (arith, ge, v)) (λ v. omega (arith, ge', v)) e f x y
    rising j k a b less x y (Left.above ge room e) (Left.below low f) = absurd (omega (arith, less, ge, low))
