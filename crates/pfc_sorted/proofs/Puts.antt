-- The sorted list, as one process gets a key.
use Rattle.std.proofs.Common.{◌≡◌, ◌≢◌, ℕ, suc, ◌+◌, ◌-◌, ◌<◌, ◌≤◌, Bool, true, false, ◌⊎◌, inl, inr, Option, None, Some, List, [], length, set, replicate}
use Rattle.std.proofs.Common.{arith, sym, ap, ◌∙◌, subst}
use Rattle.std.specs.List.{insert}
use Rattle.std.proofs.lemmas.List.{get_or-set_same, get_or-set_other, get_or_past, get_or-replicate, length-replicate}
use Rattle.std.proofs.lemmas.List.Edits.{length-insert, get_or-insert_below, get_or-insert_at, get_or-insert_above}
use Rattle.std.proofs.lemmas.Bool.{cases_eq, cases_lt}
use Rattle.pfc_sorted.specs.Sorted.{key_at, process_at, count_keys, key_passes, passes, IsParted, IsPlace, AreSorted}
use Rattle.pfc_sorted.proofs.Counts.{count-more, count-none}

-- what stands at a place after one was put in
data Put (sorted : List ℕ) (i p k : ℕ) : Type 0 where
  below : k < i → process_at (insert sorted i p) k ≡ process_at sorted k → Put sorted i p k
  here : k ≡ i → process_at (insert sorted i p) k ≡ p → Put sorted i p k
  above : (j : ℕ) → k ≡ j + 1 → i ≤ j → j < length sorted → process_at (insert sorted i p) k ≡ process_at sorted j → Put sorted i p k

put : (sorted : List ℕ) (i p k : ℕ) → i ≤ length sorted → k < length (insert sorted i p) → Put sorted i p k
put sorted i p k le lt =
    let long : length (insert sorted i p) ≡ length sorted + 1 = length-insert sorted i p le in
    elim (cases_lt k i) [
      | inl less ↦ below less (get_or-insert_below sorted i p 0 k less le)
      | inr ge ↦ elim (cases_eq k i) [
        | inl same ↦ here same (ap (λ n. process_at (insert sorted i p) n) same ∙ get_or-insert_at sorted i p 0 le)
        | inr apart ↦
            let back : k ≡ k - 1 + 1 = omega (arith, ge, apart) in
            let after : i ≤ k - 1 = omega (arith, ge, apart) in
            above (k - 1) back after (omega (arith, lt, long, back))
            (ap (λ n. process_at (insert sorted i p) n) back ∙ get_or-insert_above sorted i p 0 (k - 1) after le)
      ]
    ]

pub some-apart : {K : Type 0} (A : Type 0) (o : Option K) (key : K) → o ≡ None → o ≡ Some key → A
some-apart A o key e f = let g : None ≡ Some key = sym e ∙ f in cc

pub same-key : {K : Type 0} (o : Option K) (a b : K) → o ≡ Some a → o ≡ Some b → a ≡ b
same-key o a b e f = let g : Some a ≡ Some b = sym e ∙ f in cc

pub key-other : {K : Type 0} (keys : List (Option K)) (p q : ℕ) (o : Option K) → q ≢ p → key_at (set keys p o) q ≡ key_at keys q
key-other keys p q o away = get_or-set_other keys p q o None away

-- a process without a key gets one that is apart from those of the others
pub put-sorted : {K : Type 0} (before : ℕ → K → ℕ → K → Bool) (sorted : List ℕ) (keys : List (Option K)) (p : ℕ) (key : K) (i : ℕ) → p < length keys →
    key_at keys p ≡ None
    → ((q : ℕ) (other : K) → q ≢ p → key_at keys q ≡ Some other → before q other p key ≡ false → before p key q other ≡ true)
    → AreSorted before sorted keys → IsParted (passes (λ n other. before n other p key) keys) sorted i
    → AreSorted before (insert sorted i p) (set keys p (Some key))
put-sorted {K} before sorted keys p key i lt free total h parts = record {
  count = length-insert sorted i p parts.within ∙ ap (λ n. n + 1) h.count ∙ plus_one (count_keys keys) ∙ sym (count-more keys p key lt free);
  each = λ k less. each k (put sorted i p k parts.within less);
  every = λ q n own. every q n own (cases_eq q p);
  rising = λ j k a b less room x y. rising j k a b less x y (put sorted i p j parts.within (omega (arith, less, room))) (put sorted i p k parts.within room);
}
  where
    le : i ≤ length sorted
    le = parts.within

    long : length (insert sorted i p) ≡ length sorted + 1
    long = length-insert sorted i p le

    plus_one : (n : ℕ) → n + 1 ≡ suc n
    plus_one n = omega arith

    differs : (j : ℕ) → j < length sorted → process_at sorted j ≢ p
    differs j less same = some-apart ⊥ (key_at keys (process_at sorted j)) (h.each j less).0 (ap (λ n. key_at keys n) same ∙ free) (h.each j less).1

    own_key : key_at (set keys p (Some key)) p ≡ Some key
    own_key = get_or-set_same keys p (Some key) None lt

    -- who was there before has the key that it had
    old : (k j : ℕ) (a : K) → j < length sorted → process_at (insert sorted i p) k ≡ process_at sorted j
        → key_at (set keys p (Some key)) (process_at (insert sorted i p) k) ≡ Some a → key_at keys (process_at sorted j) ≡ Some a
    old k j a less is own =
        sym (key-other keys p (process_at sorted j) (Some key) (differs j less)) ∙ ap (λ n. key_at (set keys p (Some key)) n) (sym is) ∙ own

    new : (k : ℕ) (a : K) → process_at (insert sorted i p) k ≡ p → key_at (set keys p (Some key)) (process_at (insert sorted i p) k) ≡ Some a → key ≡ a
    new k a is own = same-key (key_at (set keys p (Some key)) p) key a own_key (ap (λ n. key_at (set keys p (Some key)) n) (sym is) ∙ own)

    each-old : (k j : ℕ) → j < length sorted → process_at (insert sorted i p) k ≡ process_at sorted j
        → (a : K) × (key_at (set keys p (Some key)) (process_at (insert sorted i p) k) ≡ Some a)
    each-old k j less is = (
      (h.each j less).0,
      ap (λ n. key_at (set keys p (Some key)) n) is ∙
          key-other keys p (process_at sorted j) (Some key) (differs j less) ∙ (h.each j less).1,
    )

    each : (k : ℕ) → Put sorted i p k → (a : K) × (key_at (set keys p (Some key)) (process_at (insert sorted i p) k) ≡ Some a)
    each k (Put.below less is) = each-old k k (omega (arith, less, le)) is
    each k (Put.here same is) = (key, ap (λ n. key_at (set keys p (Some key)) n) is ∙ own_key)
    each k (Put.above j back after room is) = each-old k j room is

    every : (q : ℕ) (n : K) → key_at (set keys p (Some key)) q ≡ Some n → (q ≡ p) ⊎ (q ≢ p) → (k : ℕ) × IsPlace (insert sorted i p) q k
    every q n own (inl same) = (i, record { within = omega (arith, long, le); is = get_or-insert_at sorted i p 0 le ∙ sym same })
    every q n own (inr away) = stood (h.every q n (sym (key-other keys p q (Some key) away) ∙ own))
      where
        stood : (j : ℕ) × IsPlace sorted q j → (k : ℕ) × IsPlace (insert sorted i p) q k
        stood found =
            let room : found.0 < length sorted = found.1.within in
            elim (cases_lt found.0 i) [
              | inl less ↦ (found.0, record { within = omega (arith, long, room); is = get_or-insert_below sorted i p 0 found.0 less le ∙ found.1.is })
              | inr ge ↦ (found.0 + 1, record { within = omega (arith, long, room); is = get_or-insert_above sorted i p 0 found.0 ge le ∙ found.1.is })
            ]

    moved : (j k : ℕ) (a b : K) (m n : ℕ) → process_at (insert sorted i p) j ≡ m → process_at (insert sorted i p) k ≡ n → before m a n b ≡ true
        → before (process_at (insert sorted i p) j) a (process_at (insert sorted i p) k) b ≡ true
    moved j k a b m n e f is = ap (λ v. before v a (process_at (insert sorted i p) k) b) e ∙ ap (λ v. before m a v b) f ∙ is

    tested : (j : ℕ) (a : K) (truth : Bool) → key_at keys (process_at sorted j) ≡ Some a →
        passes (λ n other. before n other p key) keys (process_at sorted j) ≡ truth
        → before (process_at sorted j) a p key ≡ truth
    tested j a truth own is = sym (ap (λ o. key_passes (λ other. before (process_at sorted j) other p key) o) own) ∙ is

    rising : (j k : ℕ) (a b : K) → j < k → key_at (set keys p (Some key)) (process_at (insert sorted i p) j) ≡ Some a →
        key_at (set keys p (Some key)) (process_at (insert sorted i p) k) ≡ Some b
        → Put sorted i p j → Put sorted i p k → before (process_at (insert sorted i p) j) a (process_at (insert sorted i p) k) b ≡ true
    rising j k a b less x y (Put.below low e) (Put.below low' f) =
        let room : k < length sorted = omega (arith, low', le) in
        let within : j < length sorted = omega (arith, less, room) in
        moved j k a b (process_at sorted j) (process_at sorted k) e f (h.rising j k a b less room (old j j a within e x) (old k k b room f y))
    rising j k a b less x y (Put.below low e) (Put.here at_it f) =
        let own : key_at keys (process_at sorted j) ≡ Some a = old j j a (omega (arith, low, le)) e x in
        moved j k a b (process_at sorted j) p e f
        (subst (λ v. before (process_at sorted j) a p v ≡ true) (new k b f y) (tested j a true own (parts.before j 0 (omega arith) low)))
    rising j k a b less x y (Put.below low e) (Put.above o back after room f) =
        let within : j < length sorted = omega (arith, low, le) in
        moved j k a b (process_at sorted j) (process_at sorted o) e f (h.rising j o a b (omega (arith, low, after)) room
        (old j j a within e x) (old k o b room f y))
    rising j k a b less x y (Put.here at_it e) (Put.above o back after room f) =
        let own : key_at keys (process_at sorted o) ≡ Some b = old k o b room f y in
        moved j k a b p (process_at sorted o) e f
        (subst (λ v. before p v (process_at sorted o) b ≡ true) (new j a e x) (total (process_at sorted o) b (differs o room) own
        (tested o b false own (parts.behind o 0 after room))))
    rising j k a b less x y (Put.above n back after room e) (Put.above o back' after' room' f) =
        moved j k a b (process_at sorted n) (process_at sorted o) e f
        (h.rising n o a b (omega (arith, less, back, back')) room' (old j n a room e x) (old k o b room' f y))
    rising j k a b less x y (Put.here at_it e) (Put.below low f) = absurd (omega (arith, less, at_it, low))
    rising j k a b less x y (Put.here at_it e) (Put.here at_it' f) = absurd (omega (arith, less, at_it, at_it'))
    rising j k a b less x y (Put.above n back after room e) (Put.below low f) = absurd (omega (arith, less, back, after, low))
    rising j k a b less x y (Put.above n back after room e) (Put.here at_it f) = absurd (omega (arith, less, back, after, at_it))

-- nobody has a key
pub none-sorted : {K : Type 0} (before : ℕ → K → ℕ → K → Bool) (n : ℕ) → AreSorted before [] (replicate n None)
none-sorted {K} before n = record {
  count = sym (count-none K n);
  each = λ i lt. absurd (omega (arith, lt));
  every = λ p key own. some-apart ((i : ℕ) × IsPlace [] p i) (key_at {K = K} (replicate n None) p) key (none p) own;
  rising = λ i j a b less lt. absurd (omega (arith, lt));
}
  where
    none : (p : ℕ) → key_at {K = K} (replicate n None) p ≡ None
    none p = elim (cases_lt p n) [
      | inl lt ↦ get_or-replicate n p None None lt
      | inr le ↦ get_or_past (replicate n None) p None (subst (λ v. v ≤ p) (sym (length-replicate n None)) le)
    ]
