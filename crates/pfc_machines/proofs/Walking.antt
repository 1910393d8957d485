-- Walks over the alternatives of a process, from the one made last.
use Rattle.std.proofs.Common.{◌≡◌, ◌≢◌, ℕ, ◌+◌, ◌≤◌, ◌<◌, ◌==◌, Bool, true, false, List, [], ◌∷◌, ◌++◌, length, take, drop, get_or, Option, None, Some, refl}
use Rattle.std.proofs.Common.{sym, ap, ap₂, ◌∙◌, arith, cond, ◌⊎◌, inl, inr}
use Rattle.std.specs.Prelude.{slice_get, is_some, if◌then◌else◌}
use Rattle.std.specs.List.{find}
use Rattle.std.specs.Option.{option_or}
use Rattle.std.proofs.Math.ListN.{get_or-append}
use Rattle.std.proofs.Math.Seq.{get_or-append_seam}
use Rattle.std.proofs.lemmas.List.{drop_more, get_or-take, length-take-le, length-append, append-nil}
use Rattle.std.proofs.lemmas.Bool.Decides.{nat_tests}
use Rattle.std.proofs.lemmas.List.Elements.{filter-append}
use Rattle.std.proofs.lemmas.List.Folds.{find-append}
use Rattle.std.proofs.lemmas.Option.{slice_get_within, slice_get_past, slice_get-get_or, get_or_from_slice_get}
use Rattle.pfc_state.specs.declared.waits.Arm.{Arm}
use Rattle.pfc_machines.specs.declared.alternatives.Alternative.{Alternative}
use Rattle.pfc_machines.specs.declared.alternatives.KeptAlternative.{KeptAlternative}
use Rattle.pfc_machines.specs.declared.alternatives.Sought.{Sought}
use Rattle.pfc_machines.specs.Offers.{arm_of, listed_arm, arms_of, words_in, kept, kept_under, is_sought, first_sought, communicates, communications, made_by}

few_or_more : (i n : ℕ) → (i < n) ⊎ (n ≤ i)
few_or_more i n = grind arith

one_or_other : (n : ℕ) → (n ≡ 1) ⊎ (n ≢ 1)
one_or_other n = grind arith

-- the one at a place, and those made before it
pub next_at : {A : Type 0} (xs : List A) (j : ℕ) (x : A) → slice_get xs j ≡ Some x → drop j xs ≡ x ∷ drop (j + 1) xs
next_at xs j x h =
    drop_more xs j x (slice_get_within xs j x h) ∙ ap (λ y. y ∷ drop (j + 1) xs) (get_or_from_slice_get xs j x x h)

-- the same among the last n
pub next_of : {A : Type 0} (xs : List A) (n j : ℕ) (x : A) → n ≤ length xs → j < n → slice_get xs j ≡ Some x
    → drop j (take n xs) ≡ x ∷ drop (j + 1) (take n xs)
next_of xs n j x few lt h =
    let size : length (take n xs) ≡ n = length-take-le n xs few in
    let inside : j < length (take n xs) = omega arith in
    drop_more (take n xs) j x inside
    ∙ ap (λ y. y ∷ drop (j + 1) (take n xs)) (get_or-take n xs j x lt ∙ get_or_from_slice_get xs j x x h)

-- ## The first of a kind

or_found : {A : Type 0} (o found : Option A) (x : A) (b : Bool) → option_or (option_or o (cond b (Some x) None)) found ≡ option_or o (cond b (Some x) found)
or_found (Some y) found x b = refl
or_found None found x true = refl
or_found None found x false = refl

pub first_step : (s : Sought) (above : ℕ) (a : Alternative) (earlier : List Alternative) (found : Option KeptAlternative)
    → option_or (first_sought s (kept_under above (a ∷ earlier))) found
    ≡ option_or (first_sought s (kept_under (above + words_in a.offer) earlier)) (if is_sought s a.offer then Some (kept a above) else found)
first_step s above a earlier found =
    let test : KeptAlternative → Bool = λ k. is_sought s k.alternative.offer in
    let before : List KeptAlternative = kept_under (above + words_in a.offer) earlier in
    ap (λ o. option_or o found) (find-append test before (kept a above ∷ []))
    ∙ or_found (find test before) found (kept a above) (is_sought s a.offer)

-- ## Those of one activation

same_number : (n m : ℕ) → n ≡ m → (n == m) ≡ true
same_number n m e = grind (arith, nat_tests)

other_number : (n m : ℕ) → n ≢ m → (n == m) ≡ false
other_number n m e = grind (arith, nat_tests)

pub made_step : (activation : ℕ) (a : Alternative) (earlier : List Alternative) → a.activation ≡ activation
    → made_by activation (a ∷ earlier) ≡ 1 + made_by activation earlier
made_step activation a earlier e = ap (λ b. if b then 1 + made_by activation earlier else 0) (same_number a.activation activation e)

pub made_end : (activation : ℕ) (a : Alternative) (earlier : List Alternative) → a.activation ≢ activation → made_by activation (a ∷ earlier) ≡ 0
made_end activation a earlier e = ap (λ b. if b then 1 + made_by activation earlier else 0) (other_number a.activation activation e)

-- ## Those that communicate

pub arms_step : (a : Alternative) (earlier : List Alternative)
    → length (arms_of (a ∷ earlier)) ≡ length (arms_of earlier) + length (listed_arm (arm_of a.offer))
arms_step a earlier = length-append (arms_of earlier) (listed_arm (arm_of a.offer))

-- the last of them, where it does
abbrev last_of : KeptAlternative → Bool → List KeptAlternative
last_of k b = cond b (k ∷ []) []

communications_step : (above : ℕ) (a : Alternative) (earlier : List Alternative)
    → communications (kept_under above (a ∷ earlier))
    ≡ communications (kept_under (above + words_in a.offer) earlier) ++ last_of (kept a above) (communicates (kept a above))
communications_step above a earlier = filter-append communicates (kept_under (above + words_in a.offer) earlier) (kept a above ∷ [])

one_or_none : (k : KeptAlternative) (o : Option Arm) → length (last_of k (is_some o)) ≡ length (listed_arm o)
one_or_none k None = refl
one_or_none k (Some arm) = refl

does_communicate : (o : Option Arm) → length (listed_arm o) ≡ 1 → is_some o ≡ true
does_communicate None e = absurd (omega (arith, e))
does_communicate (Some arm) e = refl

does_not : (o : Option Arm) → length (listed_arm o) ≢ 1 → is_some o ≡ false
does_not None e = refl
does_not (Some arm) e = absurd (e refl)

pub count_is : (above : ℕ) (made : List Alternative) → length (communications (kept_under above made)) ≡ length (arms_of made)
count_is above [] = refl
count_is above (a ∷ earlier) =
    let k : KeptAlternative = kept a above in
    let before : List KeptAlternative = communications (kept_under (above + words_in a.offer) earlier) in
    ap length (communications_step above a earlier)
    ∙ length-append before (last_of k (communicates k))
    ∙ ap₂ (λ (n m : ℕ). n + m) (count_is (above + words_in a.offer) earlier) (one_or_none k (arm_of a.offer))
    ∙ sym (arms_step a earlier)

-- a place before the last, or past it
not_last : {A : Type 0} (xs : List A) (y : A) (i : ℕ) → i ≢ length xs → slice_get (xs ++ y ∷ []) i ≡ slice_get xs i
not_last xs y i other = elim (few_or_more i (length xs)) [
  | inl lt ↦
      let all : length (xs ++ y ∷ []) ≡ length xs + 1 = length-append xs (y ∷ []) in
      slice_get-get_or (xs ++ y ∷ []) i y (omega arith) ∙ ap Some (get_or-append xs (y ∷ []) y i lt) ∙ sym (slice_get-get_or xs i y lt)
  | inr past ↦
      let all : length (xs ++ y ∷ []) ≡ length xs + 1 = length-append xs (y ∷ []) in
      slice_get_past (xs ++ y ∷ []) i (omega (arith, other)) ∙ sym (slice_get_past xs i past)
]

is_last : {A : Type 0} (xs : List A) (y : A) (i : ℕ) → i ≡ length xs → slice_get (xs ++ y ∷ []) i ≡ Some y
is_last xs y i here =
    let all : length (xs ++ y ∷ []) ≡ length xs + 1 = length-append xs (y ∷ []) in
    slice_get-get_or (xs ++ y ∷ []) i y (omega arith) ∙ ap Some (ap (λ j. get_or (xs ++ y ∷ []) j y) here ∙ get_or-append_seam xs y [] y)

module _ (above : ℕ) (a : Alternative) (earlier : List Alternative) (place : ℕ) where
  abbrev k : KeptAlternative
  k = kept a above

  abbrev before : List KeptAlternative
  before = communications (kept_under (above + words_in a.offer) earlier)

  abbrev and_last : Bool → List KeptAlternative
  and_last b = before ++ last_of k b

  -- it stands at the place
  pub stands_here : length (listed_arm (arm_of a.offer)) ≡ 1 → place ≡ length (arms_of earlier)
      → slice_get (communications (kept_under above (a ∷ earlier))) place ≡ Some k
  stands_here one here =
      ap (λ ks. slice_get ks place) (communications_step above a earlier ∙ ap and_last (does_communicate (arm_of a.offer) one))
      ∙ is_last before k place (here ∙ sym (count_is (above + words_in a.offer) earlier))

  -- it does not
  pub stands_before : (length (listed_arm (arm_of a.offer)) ≡ 1 → place ≢ length (arms_of earlier))
      → slice_get (communications (kept_under above (a ∷ earlier))) place ≡ slice_get before place
  stands_before other = elim (one_or_other (length (listed_arm (arm_of a.offer)))) [
    | inl one ↦
        ap (λ ks. slice_get ks place) (communications_step above a earlier ∙ ap and_last (does_communicate (arm_of a.offer) one))
        ∙ not_last before k place (λ e. other one (e ∙ count_is (above + words_in a.offer) earlier))
    | inr none ↦
        ap (λ ks. slice_get ks place) (communications_step above a earlier ∙ ap and_last (does_not (arm_of a.offer) none) ∙ append-nil before)
  ]
