-- Lists that are made of three parts, of which the middle one is written over.
use Rattle.std.proofs.Common.{◌≡◌, ℕ, zero, suc, ◌+◌, ◌-◌, ◌≤◌, List, [], ◌∷◌, ◌++◌, length, take, drop, get_or, refl, sym, ap, ap₂, ◌∙◌, arith, length-append}
use Rattle.std.proofs.Common.{append_assoc, ◌⊎◌, inl, inr}
use Rattle.std.proofs.lemmas.List.{take_at, drop_at}

-- three parts within the middle one of three
pub nested : {A : Type 0} (a b w c d : List A) → a ++ ((b ++ (w ++ c)) ++ d) ≡ (a ++ b) ++ (w ++ (c ++ d))
nested a b w c d = simp append_assoc

-- new words over old ones of the same number, in the form of a write to cells
pub over_written :
    {A : Type 0} (before old after new cells : List A) (o : ℕ) → length before ≡ o → length new ≡ length old → cells ≡ before ++ (old ++ after)
    → before ++ (new ++ after) ≡ take o cells ++ new ++ drop (o + length new) cells
over_written before old after new cells o place size is =
    sym (append_assoc before new after) ∙ ap₂ (λ a b. a ++ new ++ b) (sym front) (sym back)
  where
    front : take o cells ≡ before
    front = ap (λ l. take o l) is ∙ take_at before (old ++ after) o place

    back : drop (o + length new) cells ≡ after
    back =
        ap (λ l. drop (o + length new) l) (is ∙ sym (append_assoc before old after))
        ∙ drop_at (before ++ old) after (o + length new) (omega (arith, length-append before old, place, size))

-- the middle part is what is read at its place
pub middle_read : {A : Type 0} (before old after cells : List A) (o z : ℕ) → length before ≡ o → length old ≡ z → cells ≡ before ++ (old ++ after)
    → take z (drop o cells) ≡ old
middle_read before old after cells o z place size is = ap (λ l. take z (drop o l)) is ∙ ap (λ l. take z l) (drop_at before (old ++ after) o place)
    ∙ take_at old after z size

-- and it ends within the whole
pub middle_within : {A : Type 0} (before old after cells : List A) (o z : ℕ) → length before ≡ o → length old ≡ z
    → cells ≡ before ++ (old ++ after) → o + z ≤ length cells
middle_within before old after cells o z place size is = omega (arith, place, size, ap length is, length-append before (old ++ after), length-append old after)

-- ## What lies before the middle part, and behind it

take_front : {A : Type 0} (front after : List A) (n : ℕ) → n ≤ length front → take n (front ++ after) ≡ take n front
take_front front after zero h = refl
take_front [] after (suc n) h = absurd (omega (arith, h))
take_front (x ∷ front) after (suc n) h = ap (λ l. x ∷ l) (take_front front after n (omega (arith, h)))

read_front : {A : Type 0} (front after : List A) (c n : ℕ) → c + n ≤ length front → take n (drop c (front ++ after)) ≡ take n (drop c front)
read_front front after zero n h = take_front front after n (omega (arith, h))
read_front [] after (suc c) n h = absurd (omega (arith, h))
read_front (x ∷ front) after (suc c) n h = read_front front after c n (omega (arith, h))

drop_front : {A : Type 0} (front after : List A) (c : ℕ) → length front ≤ c → drop c (front ++ after) ≡ drop (c - length front) after
drop_front [] after c h = ap (λ n. drop n after) (omega arith)
drop_front (x ∷ front) after zero h = absurd (omega (arith, h))
drop_front (x ∷ front) after (suc c) h = drop_front front after c (omega (arith, h)) ∙ ap (λ n. drop n after) (omega arith)

-- other words in the middle leave both as they were
pub read_beside :
    {A : Type 0} (before old new after : List A) (c n : ℕ) → length new ≡ length old → (c + n ≤ length before) ⊎ (length before + length old ≤ c)
    → take n (drop c (before ++ (new ++ after))) ≡ take n (drop c (before ++ (old ++ after)))
read_beside before old new after c n size (inl h) = read_front before (new ++ after) c n h ∙ sym (read_front before (old ++ after) c n h)
read_beside before old new after c n size (inr h) =
    let one : length (before ++ new) ≡ length before + length new = length-append before new in
    let two : length (before ++ old) ≡ length before + length old = length-append before old in
    let equal : length (before ++ new) ≡ length (before ++ old) = omega (arith, one, two, size) in
    ap (λ l. take n (drop c l)) (sym (append_assoc before new after))
    ∙ ap (λ l. take n l) (drop_front (before ++ new) after c (omega (arith, one, size, h)) ∙ ap (λ k. drop (c - k) after) equal
    ∙ sym (drop_front (before ++ old) after c (omega (arith, two, h))))
    ∙ ap (λ l. take n (drop c l)) (append_assoc before old after)

-- one item between others
pub item_between : {A : Type 0} (before : List A) (x : A) (after : List A) (n : ℕ) (d : A) → length before ≡ n → get_or (before ++ (x ∷ after)) n d ≡ x
item_between [] x after zero d h = refl
item_between [] x after (suc n) d h = absurd (omega (arith, h))
item_between (y ∷ before) x after zero d h = absurd (omega (arith, h))
item_between (y ∷ before) x after (suc n) d h = item_between before x after n d (omega (arith, h))
