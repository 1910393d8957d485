-- Lists from their end.
use Rattle.std.proofs.Common.{◌≡◌, ℕ, ◌-◌, ◌≤◌, ◌<◌, List, ◌++◌, ◌≢◌, length, take, drop, get_or, set, sym, ◌∙◌, ap, arith, ◌⊎◌, inl, inr}
use Rattle.std.specs.Prelude.{reverse}
use Rattle.std.proofs.lemmas.List.{reverse-append, reverse-reverse, take_all, length-reverse, length-drop, take-append-drop, drop_at, take_at, drop_all}
use Rattle.std.proofs.lemmas.List.{length-set, get_or-reverse, get_or-set_same, get_or-set_other, same_lists}

reverse-split : {X : Type 0} (m : ℕ) (xs : List X) → reverse xs ≡ reverse (drop m xs) ++ reverse (take m xs)
reverse-split m xs = sym (ap reverse (take-append-drop m xs)) ∙ reverse-append (take m xs) (drop m xs)

-- how many stand behind a place
length_behind : {X : Type 0} (m : ℕ) (xs : List X) → length (reverse (drop m xs)) ≡ length xs - m
length_behind m xs = length-reverse (drop m xs) ∙ length-drop m xs

-- all but the last n, from their end
drop-reverse_few : {X : Type 0} (n : ℕ) (xs : List X) → n ≤ length xs → reverse (take (length xs - n) xs) ≡ drop n (reverse xs)
drop-reverse_few n xs h =
    let m : ℕ = length xs - n in
    let size : length (reverse (drop m xs)) ≡ n = length_behind m xs ∙ omega arith in
    sym (drop_at (reverse (drop m xs)) (reverse (take m xs)) n size) ∙ ap (drop n) (sym (reverse-split m xs))

drop-reverse_all : {X : Type 0} (n : ℕ) (xs : List X) → length xs ≤ n → reverse (take (length xs - n) xs) ≡ drop n (reverse xs)
drop-reverse_all n xs h =
    let none : length xs - n ≡ 0 = omega arith in
    let same : length (reverse xs) ≡ length xs = length-reverse xs in
    let past : length (reverse xs) ≤ n = omega arith in
    ap (λ (k : ℕ). reverse (take k xs)) none ∙ sym (drop_all n (reverse xs) past)

few_or_all : (n m : ℕ) → (n ≤ m) ⊎ (m ≤ n)
few_or_all n m = grind arith

pub drop-reverse : {X : Type 0} (n : ℕ) (xs : List X) → reverse (take (length xs - n) xs) ≡ drop n (reverse xs)
drop-reverse n xs = elim (few_or_all n (length xs)) [ inl h ↦ drop-reverse_few n xs h | inr h ↦ drop-reverse_all n xs h ]

-- the first n of what was turned around
pub take-reverse : {X : Type 0} (n : ℕ) (xs : List X) → n ≤ length xs → take n (reverse xs) ≡ reverse (drop (length xs - n) xs)
take-reverse n xs h =
    let m : ℕ = length xs - n in
    let size : length (reverse (drop m xs)) ≡ n = length_behind m xs ∙ omega arith in
    ap (take n) (reverse-split m xs) ∙ take_at (reverse (drop m xs)) (reverse (take m xs)) n size

-- a place, seen from the other end
same_or_not : (j k : ℕ) → (j ≡ k) ⊎ (j ≢ k)
same_or_not j k = grind arith

set-reverse_at : {X : Type 0} (xs : List X) (k : ℕ) (v : X) → k < length xs → (j : ℕ) (d : X) → j < length xs →
    get_or (set (reverse xs) k v) j d ≡ get_or (reverse (set xs (length xs - 1 - k) v)) j d
set-reverse_at xs k v h j d lt =
    let m : ℕ = length xs - 1 - k in
    let size : length (set xs m v) ≡ length xs = length-set xs m v in
    let turned : length (reverse xs) ≡ length xs = length-reverse xs in
    let below : j < length (set xs m v) = omega arith in
    let right : get_or (reverse (set xs m v)) j d ≡ get_or (set xs m v) (length xs - 1 - j) d =
    get_or-reverse (set xs m v) j d below ∙ ap (λ (n : ℕ). get_or (set xs m v) (n - 1 - j) d) size in
    elim (same_or_not j k) [
      | inl same ↦
          let place : length xs - 1 - j ≡ m = ap (λ (n : ℕ). length xs - 1 - n) same in
          let inside : k < length (reverse xs) = omega arith in
          let within : m < length xs = omega arith in
          ap (λ (n : ℕ). get_or (set (reverse xs) k v) n d) same ∙ get_or-set_same (reverse xs) k v d inside
          ∙ sym (right ∙ ap (λ (n : ℕ). get_or (set xs m v) n d) place ∙ get_or-set_same xs m v d within)
      | inr other ↦
          let apart : length xs - 1 - j ≢ m = λ same. other (omega arith) in
          get_or-set_other (reverse xs) k j v d other ∙ get_or-reverse xs j d lt
          ∙ sym (right ∙ get_or-set_other xs m (length xs - 1 - j) v d apart)
    ]

pub set-reverse : {X : Type 0} (xs : List X) (k : ℕ) (v : X) → k < length xs → set (reverse xs) k v ≡ reverse (set xs (length xs - 1 - k) v)
set-reverse xs k v h =
    let left : length (set (reverse xs) k v) ≡ length xs = length-set (reverse xs) k v ∙ length-reverse xs in
    let right : length (reverse (set xs (length xs - 1 - k) v)) ≡ length xs =
    length-reverse (set xs (length xs - 1 - k) v) ∙ length-set xs (length xs - 1 - k) v in
    same_lists (set (reverse xs) k v) (reverse (set xs (length xs - 1 - k) v)) (left ∙ sym right)
    (λ j d lt. set-reverse_at xs k v h j d (omega arith))

-- the last n as they lie, of a list that is seen from its end
pub last-reverse : {X : Type 0} (n : ℕ) (xs : List X) → n ≤ length xs → drop (length xs - n) xs ≡ reverse (take n (reverse xs))
last-reverse n xs h = sym (ap reverse (take-reverse n xs h) ∙ reverse-reverse (drop (length xs - n) xs))

-- the first n, seen from the end
pub keep-reverse : {X : Type 0} (n : ℕ) (xs : List X) → reverse (take n xs) ≡ drop (length (reverse xs) - n) (reverse xs)
keep-reverse n xs = elim (few_or_all n (length xs)) [
  | inl h ↦
      let size : length xs - (length xs - n) ≡ n = omega arith in
      ap (λ (m : ℕ). reverse (take m xs)) (sym size) ∙ drop-reverse (length xs - n) xs
      ∙ ap (λ (m : ℕ). drop (m - n) (reverse xs)) (sym (length-reverse xs))
  | inr h ↦
      let same : length (reverse xs) ≡ length xs = length-reverse xs in
      let none : length (reverse xs) - n ≡ 0 = omega arith in
      ap reverse (take_all n xs h) ∙ ap (λ (m : ℕ). drop m (reverse xs)) (sym none)
]
