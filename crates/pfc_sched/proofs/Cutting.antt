-- A script cut at its first item.
use Rattle.std.proofs.Common.{◌≡◌, ℕ, suc, ◌+◌, ◌-◌, ◌≤◌, ◌<◌, Bool, true, false, not, cond, List, [], ◌∷◌, length, take, drop, refl, ap, ◌∙◌, sym, subst}
use Rattle.std.proofs.Common.{arith}
use Rattle.std.proofs.lemmas.List.{length-drop}
use Rattle.pfc_sched.specs.Script.{items_of, put_before, goes_on, is_blank}
use Rattle.pfc_sched.specs.Cut.{blanks_before, bytes_before_blank, IsCutAt}

skipped_by : (t : Bool) (b : ℕ) (rest : List ℕ) → items_of (drop (blanks_before rest) rest) ≡ items_of rest
    → items_of (drop (cond t (suc (blanks_before rest)) 0) (b ∷ rest)) ≡ cond t (items_of rest) (items_of (b ∷ rest))
skipped_by true b rest h = h
skipped_by false b rest h = refl

blank_or_not : (t : Bool) (b : ℕ) (rest : List ℕ) → is_blank b ≡ t → cond t (items_of rest) (items_of (b ∷ rest)) ≡ items_of (b ∷ rest)
blank_or_not true b rest e = sym (ap (λ t. cond t (items_of rest) (put_before b (goes_on rest) (items_of rest))) e)
blank_or_not false b rest e = refl

-- the blanks before the first item hold no item
pub skipped : (bs : List ℕ) → items_of (drop (blanks_before bs) bs) ≡ items_of bs
skipped [] = refl
skipped (b ∷ rest) = skipped_by (is_blank b) b rest (skipped rest) ∙ blank_or_not (is_blank b) b rest refl

-- bytes that begin with an item, if there are any
abbrev pub BeginsItem : List ℕ → Type 0
BeginsItem [] = Unit {0}
BeginsItem (b ∷ rest) = is_blank b ≡ false

begins_by : (t : Bool) (b : ℕ) (rest : List ℕ) → is_blank b ≡ t → BeginsItem (drop (blanks_before rest) rest) →
    BeginsItem (drop (cond t (suc (blanks_before rest)) 0) (b ∷ rest))
begins_by true b rest e h = h
begins_by false b rest e h = e

pub begins_item : (bs : List ℕ) → BeginsItem (drop (blanks_before bs) bs)
begins_item [] = tt
begins_item (b ∷ rest) = begins_by (is_blank b) b rest refl (begins_item rest)

-- the items of bytes that begin with one
item_first : (b : ℕ) (rest : List ℕ) → is_blank b ≡ false → items_of (b ∷ rest) ≡ put_before b (goes_on rest) (items_of rest)
item_first b rest e = ap (λ t. cond t (items_of rest) (put_before b (goes_on rest) (items_of rest))) e

put_at : (t : Bool) (b c : ℕ) (rest : List ℕ) → is_blank c ≡ t
    → (is_blank c ≡ false → items_of (c ∷ rest) ≡ take (suc (bytes_before_blank rest)) (c ∷ rest) ∷ items_of (drop (suc (bytes_before_blank rest)) (c ∷ rest)))
    → put_before b (not t) (items_of (c ∷ rest)) ≡ take (suc (cond t 0 (suc (bytes_before_blank rest)))) (b ∷ c ∷ rest) ∷ items_of
    (drop (suc (cond t 0 (suc (bytes_before_blank rest)))) (b ∷ c ∷ rest))
put_at true b c rest e h = refl
put_at false b c rest e h = ap (λ items. put_before b true items) (h e)

-- the first item ends before the first blank
pub cut_behind : (b : ℕ) (rest : List ℕ) → is_blank b ≡ false → items_of (b ∷ rest) ≡ take (suc (bytes_before_blank rest)) (b ∷ rest) ∷ items_of
    (drop (suc (bytes_before_blank rest)) (b ∷ rest))
cut_behind b [] e = item_first b [] e
cut_behind b (c ∷ rest) e = item_first b (c ∷ rest) e ∙ put_at (is_blank c) b c rest refl (cut_behind c rest)

-- bytes that begin with an item are cut behind it
cut_here : (bs : List ℕ) → 0 < length bs → BeginsItem bs → IsCutAt bs (take (bytes_before_blank bs) bs) (drop (bytes_before_blank bs) bs)
cut_here [] some h = absurd (omega arith)
cut_here (b ∷ rest) some h =
    let one : bytes_before_blank (b ∷ rest) ≡ suc (bytes_before_blank rest) = ap (λ t. cond t 0 (suc (bytes_before_blank rest))) h in
    subst (λ (n : ℕ). IsCutAt (b ∷ rest) (take n (b ∷ rest)) (drop n (b ∷ rest))) (sym one)
    (record { items = cut_behind b rest h; shorter = shorter rest (bytes_before_blank rest) })
  where
    shorter : (xs : List ℕ) (n : ℕ) → length (drop n xs) < suc (length xs)
    shorter xs n = simp length-drop (omega arith)

-- nothing but blanks holds no item
pub none_left : (bs : List ℕ) → length (drop (blanks_before bs) bs) ≡ 0 → items_of bs ≡ []
none_left bs h = sym (skipped bs) ∙ ap items_of (empty (drop (blanks_before bs) bs) h)
  where
    empty : (xs : List ℕ) → length xs ≡ 0 → xs ≡ []
    empty [] e = refl
    empty (x ∷ xs) e = absurd (omega arith)

-- the same for lists that equal these
pub cut_from : (bs rest item after : List ℕ) → rest ≡ drop (blanks_before bs) bs → 0 < length rest → item ≡ take (bytes_before_blank rest) rest →
    after ≡ drop (bytes_before_blank rest) rest → IsCutAt bs item after
cut_from bs rest item after e some f g =
    let here = cut_here rest some (subst BeginsItem (sym e) (begins_item bs)) in
    record {
      items = sym (skipped bs) ∙ ap items_of (sym e) ∙ here.items ∙
          ap (λ x. x ∷ items_of (drop (bytes_before_blank rest) rest)) (sym f) ∙ ap (λ x. item ∷ items_of x) (sym g);
      shorter = less (length rest) (ap length e ∙ length-drop (blanks_before bs) bs) (subst (λ (x : List ℕ). length x < length rest) (sym g) here.shorter);
    }
  where
    less : {n : ℕ} (m : ℕ) → m ≡ length bs - blanks_before bs → n < m → n < length bs
    less m e h = omega arith

pub none_from : (bs rest : List ℕ) → rest ≡ drop (blanks_before bs) bs → length rest ≡ 0 → items_of bs ≡ []
none_from bs rest e h = none_left bs (ap length (sym e) ∙ h)
