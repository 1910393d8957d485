-- Lists that are seen from their end.
use Rattle.std.proofs.Common.{◌≡◌, ℕ, zero, suc, ◌+◌, ◌-◌, ◌≤◌, ℤ, List, [], ◌∷◌, ◌++◌, Option, None, Some, length, take, drop, refl, sym, ap, ap₂, ◌∙◌, arith}
use Rattle.std.specs.Prelude.{reverse}
use Rattle.std.proofs.lemmas.List.{take_all, length-take-le, length-drop, length-reverse, length-append, reverse-append, append_assoc, append-nil}
use Rattle.std.proofs.lemmas.List.{take-append-drop, take_at, drop_at}
use Rattle.pfc_state.specs.declared.waits.Arm.{Arm}
use Rattle.pfc_stacks.proofs.Lists.{drop-reverse, last-reverse}
use Rattle.pfc_machines.specs.declared.alternatives.Alternative.{Alternative}
use Rattle.pfc_machines.specs.Communications.{Communicating}
use Rattle.pfc_machines.specs.Offers.{arm_of, listed_arm, arms_of, words_in, without_last}

-- so many words, over which so many lie
pub stretch_is : {A : Type 0} (xs : List A) (above n : ℕ) → above + n ≤ length xs
    → (let below = take (length xs - above) xs in let from = length below - n in take (length below - from) (drop from below))
    ≡ reverse (take n (drop above (reverse xs)))
stretch_is xs above n h =
    let below = take (length xs - above) xs in
    let from = length below - n in
    let size : length below ≡ length xs - above = length-take-le (length xs - above) xs (omega arith) in
    let rest : length (drop from below) ≡ length below - from = length-drop from below in
    let few : length (drop from below) ≤ length below - from = omega arith in
    take_all (length below - from) (drop from below) few
    ∙ last-reverse n below (omega arith)
    ∙ ap (λ ys. reverse (take n ys)) (drop-reverse above xs)

-- the last is gone
pub last_gone : {A : Type 0} (xs ys : List A) → take (length (xs ++ ys) - length ys) (xs ++ ys) ≡ xs
last_gone xs ys = take_at xs ys (length (xs ++ ys) - length ys) (let size : length (xs ++ ys) ≡ length xs + length ys = length-append xs ys in omega arith)

pub take_fewer : {A : Type 0} (n : ℕ) (xs : List A) → length (take n xs) ≤ length xs
take_fewer n xs =
    let all : length (take n xs ++ drop n xs) ≡ length xs = ap length (take-append-drop n xs) in
    let both : length (take n xs ++ drop n xs) ≡ length (take n xs) + length (drop n xs) = length-append (take n xs) (drop n xs) in
    omega arith

-- ## The alternative that was made last

pub one_arm : (arm : Option Arm) → length (listed_arm arm) ≤ 1
one_arm None = omega arith
one_arm (Some arm) = omega arith

-- each gives one arm at most
pub arms_few : (made : List Alternative) → length (arms_of made) ≤ length made
arms_few [] = omega arith
arms_few (a ∷ earlier) =
    let ih : length (arms_of earlier) ≤ length earlier = arms_few earlier in
    let one : length (listed_arm (arm_of a.offer)) ≤ 1 = one_arm (arm_of a.offer) in
    let all : length (arms_of earlier ++ listed_arm (arm_of a.offer)) ≡ length (arms_of earlier) + length (listed_arm (arm_of a.offer)) =
    length-append (arms_of earlier) (listed_arm (arm_of a.offer)) in
    let more : length (a ∷ earlier) ≡ suc (length earlier) = refl in
    omega arith

module _ (items earlier : List Alternative) (last : Alternative) (is : items ≡ earlier ++ last ∷ []) where
  pub last_first : reverse items ≡ last ∷ reverse earlier
  last_first = ap reverse is ∙ reverse-append earlier (last ∷ [])

  pub arms_after : (arms : List Arm) (n : ℕ) → arms ≡ arms_of (reverse items) → n ≡ length arms - length (listed_arm (arm_of last.offer))
      → take n arms ≡ arms_of (reverse earlier)
  arms_after arms n known count =
      let all : arms ≡ arms_of (reverse earlier) ++ listed_arm (arm_of last.offer) = known ∙ ap arms_of last_first in
      ap (λ k. take k arms) count
      ∙ ap (λ xs. take (length xs - length (listed_arm (arm_of last.offer))) xs) all
      ∙ last_gone (arms_of (reverse earlier)) (listed_arm (arm_of last.offer))

  pub fewer : length earlier ≤ length items
  fewer =
      let size : length (earlier ++ last ∷ []) ≡ length earlier + 1 = length-append earlier (last ∷ []) in
      let all : length items ≡ length (earlier ++ last ∷ []) = ap length is in
      omega arith

  pub arms_within : length (arms_of (reverse earlier)) ≤ length earlier
  arms_within =
      let some = arms_few (reverse earlier) in
      let size : length (reverse earlier) ≡ length earlier = length-reverse earlier in
      omega (arith, some, size)

-- the last one is gone, with its message
pub forgotten : (e : Communicating) (items earlier : List Alternative) (last : Alternative) (words kept : List ℤ) (len n : ℕ)
    → items ≡ earlier ++ last ∷ [] → e.alternatives ≡ reverse items → e.words ≡ reverse words → len ≡ length words
    → n ≡ words_in last.offer → kept ≡ take (len - n) words
    → (let after : Communicating = record e { alternatives = reverse earlier; words = reverse kept } in after) ≡ without_last e e.alternatives
forgotten e items earlier last words kept len n is made said all count left =
    let gone : reverse kept ≡ drop (words_in last.offer) e.words =
    ap reverse left ∙ ap₂ (λ l m. reverse (take (l - m) words)) all count ∙ drop-reverse (words_in last.offer) words
    ∙ ap (drop (words_in last.offer)) (sym said) in
    ap (λ ws. (let after : Communicating = record e { alternatives = reverse earlier; words = ws } in after)) gone
    ∙ sym (ap (without_last e) (made ∙ last_first items earlier last is))

-- the arms of the last n alternatives are the last of all arms
pub arms_split : (made : List Alternative) (n : ℕ) → arms_of made ≡ arms_of (drop n made) ++ arms_of (take n made)
arms_split made zero = sym (append-nil (arms_of made))
arms_split [] (suc n) = refl
arms_split (a ∷ earlier) (suc n) =
    ap (λ xs. xs ++ listed_arm (arm_of a.offer)) (arms_split earlier n)
    ∙ append_assoc (arms_of (drop n earlier)) (arms_of (take n earlier)) (listed_arm (arm_of a.offer))

pub last_arms : (arms : List Arm) (made : List Alternative) (n k : ℕ) → arms ≡ arms_of made → k ≡ length arms - length (arms_of (take n made))
    → take (length arms - k) (drop k arms) ≡ arms_of (take n made)
last_arms arms made n k known place =
    let all : arms ≡ arms_of (drop n made) ++ arms_of (take n made) = known ∙ arms_split made n in
    let size : length arms ≡ length (arms_of (drop n made)) + length (arms_of (take n made)) =
    ap length all ∙ length-append (arms_of (drop n made)) (arms_of (take n made)) in
    let here : length (arms_of (drop n made)) ≡ k = omega arith in
    let rest : drop k arms ≡ arms_of (take n made) = ap (drop k) all ∙ drop_at (arms_of (drop n made)) (arms_of (take n made)) k here in
    ap (take (length arms - k)) rest ∙ take_all (length arms - k) (arms_of (take n made)) (omega arith)

pub arms_no_more : (arms : List Arm) (made : List Alternative) (n : ℕ) → arms ≡ arms_of made → length (arms_of (take n made)) ≤ length arms
arms_no_more arms made n known =
    let size : length arms ≡ length (arms_of (drop n made)) + length (arms_of (take n made)) =
    ap length (known ∙ arms_split made n) ∙ length-append (arms_of (drop n made)) (arms_of (take n made)) in
    omega arith
