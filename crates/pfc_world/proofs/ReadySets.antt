-- The set of ready processes, as the table changes.
use Rattle.std.proofs.Common.{◌≡◌, ℕ, zero, suc, ◌+◌, ◌<◌, ◌≤◌, Bool, true, false, ◌||◌, nat_lt, nat_le, inl, inr, None, Some, List, [], ◌∷◌, length, get_or}
use Rattle.std.proofs.Common.{set, take, arith, refl, sym, ap, ◌∙◌, cond, slice_get, slice_index, unwrap_or}
use Rattle.std.proofs.lemmas.Bool.{cases_eq, cases_lt}
use Rattle.std.proofs.lemmas.Bool.Decides.{nat_tests}
use Rattle.std.proofs.lemmas.List.{length-set, get_or-set_same, get_or-set_other, set_past}
use Rattle.pfc_lists.specs.Bits.{numbers_from, numbers}
use Rattle.pfc_state.specs.Stands.{Stand, Is_idle, is_ready}
use Rattle.pfc_world.specs.Indexes.{IsReadySet}
use Rattle.pfc_world.specs.Ready.{ready_from, ready_numbers, at_or_after, turn_of}
use Rattle.pfc_world.specs.Tables.{at, some_ready}

-- one process stands at something else, and the set says whether that is ready
pub ready-set : (rows : List Stand) (ready : List Bool) (p : ℕ) (s : Stand) (b : Bool)
    → p < length rows → is_ready s ≡ b → IsReadySet rows ready → IsReadySet (set rows p s) (set ready p b)
ready-set rows ready p s b lt is h = record {
  room = rw length-set (rw length-set h.room);
  each = λ k. elim (cases_eq k p) [
    | inl here ↦
        ap (λ n. get_or (set ready p b) n false) here ∙ get_or-set_same ready p b false (let le : length rows ≤ length ready = h.room in omega (arith, lt, le))
        ∙ sym is ∙ ap is_ready (sym (ap (λ n. at (set rows p s) n) here ∙ get_or-set_same rows p s Is_idle lt))
    | inr away ↦ get_or-set_other ready p k b false away ∙ h.each k ∙ ap is_ready (sym (get_or-set_other rows p k s Is_idle away))
  ];
}

-- one process stands at something else, which is ready where the old was
pub ready-kept : (rows : List Stand) (ready : List Bool) (p : ℕ) (s : Stand)
    → is_ready s ≡ is_ready (at rows p) → IsReadySet rows ready → IsReadySet (set rows p s) ready
ready-kept rows ready p s is h = record {
  room = rw length-set h.room;
  each = λ k. elim (cases_eq k p) [
    | inl here ↦ elim (cases_lt p (length rows)) [
      | inl lt ↦ h.each k ∙ ap (λ n. is_ready (at rows n)) here ∙ sym is ∙
          ap is_ready (sym (ap (λ n. at (set rows p s) n) here ∙ get_or-set_same rows p s Is_idle lt))
      | inr past ↦ h.each k ∙ ap (λ v. is_ready (at v k)) (sym (set_past rows p s past))
    ]
    | inr away ↦ h.each k ∙ ap is_ready (sym (get_or-set_other rows p k s Is_idle away))
  ];
}

same-from : (n : ℕ) (rows : List Stand) (ready : List Bool) → ((k : ℕ) → get_or ready k false ≡ is_ready (at rows k)) → numbers_from n ready ≡ ready_from n rows
same-from n [] [] h = refl
same-from n [] (b ∷ ready) h = ap (λ v. cond v (n ∷ numbers_from (n + 1) ready) (numbers_from (n + 1) ready)) (h 0) ∙
    same-from (n + 1) [] ready (λ k. h (suc k))
same-from n (s ∷ rows) [] h = same-from (n + 1) rows [] (λ k. h (suc k)) ∙ ap (λ v. cond v (n ∷ ready_from (n + 1) rows) (ready_from (n + 1) rows)) (h 0)
same-from n (s ∷ rows) (b ∷ ready) h =
    ap (λ v. cond v (n ∷ numbers_from (n + 1) ready) (numbers_from (n + 1) ready)) (h 0)
    ∙ ap (λ v. cond (is_ready s) (n ∷ v) v) (same-from (n + 1) rows ready (λ k. h (suc k)))

-- the numbers of the set are those of the ready processes
pub ready-numbers : (rows : List Stand) (ready : List Bool) → IsReadySet rows ready → numbers ready ≡ ready_numbers rows
ready-numbers rows ready h = same-from 0 rows ready h.each

some-from : (n : ℕ) (rows : List Stand) → nat_lt 0 (length (ready_from n rows)) ≡ some_ready rows
some-from n [] = refl
some-from n (s ∷ rows) = go (is_ready s) (some-from (n + 1) rows)
  where
    go : (b : Bool) → nat_lt 0 (length (ready_from (n + 1) rows)) ≡ some_ready rows
        → nat_lt 0 (length (cond b (n ∷ ready_from (n + 1) rows) (ready_from (n + 1) rows))) ≡ (b || some_ready rows)
    go true ih = let e : nat_lt 0 (suc (length (ready_from (n + 1) rows))) ≡ true = grind (arith, nat_tests) in e
    go false ih = ih

pub ready-some : (rows : List Stand) (ready : List Bool) → IsReadySet rows ready → nat_lt 0 (length (numbers ready)) ≡ some_ready rows
ready-some rows ready h = ap (λ v. nat_lt 0 (length v)) (ready-numbers rows ready h) ∙ some-from 0 rows

-- where all numbers are from the bound on, the first of them is the first of all
from-bound : (b n : ℕ) (bs : List Bool) → b ≤ n → at_or_after b (numbers_from n bs) ≡ slice_get (numbers_from n bs) 0
from-bound b n [] le = refl
from-bound b n (x ∷ bs) le = go x (from-bound b (n + 1) bs (omega (arith, le)))
  where
    go : (x : Bool) → at_or_after b (numbers_from (n + 1) bs) ≡ slice_get (numbers_from (n + 1) bs) 0
        → at_or_after b (cond x (n ∷ numbers_from (n + 1) bs) (numbers_from (n + 1) bs)) ≡ slice_get
        (cond x (n ∷ numbers_from (n + 1) bs) (numbers_from (n + 1) bs)) 0
    go true ih = let passed : nat_le b n ≡ true = grind (arith, nat_tests) in ap (λ v. cond v (Some n) (at_or_after b (numbers_from (n + 1) bs))) passed
    go false ih = ih

-- the first number from the bound on stands behind as many as are below the bound
from-place : (m n : ℕ) (bs : List Bool) → at_or_after (n + m) (numbers_from n bs) ≡ slice_get (numbers_from n bs) (length (numbers_from n (take m bs)))
from-place zero n [] = refl
from-place (suc m) n [] = refl
from-place zero n (x ∷ bs) = from-bound (n + 0) n (x ∷ bs) (omega arith)
from-place (suc m) n (x ∷ bs) =
    let e : n + 1 + m ≡ n + suc m = omega arith in
    go x (ap (λ v. at_or_after v (numbers_from (n + 1) bs)) (sym e) ∙ from-place m (n + 1) bs)
  where
    go : (x : Bool) → at_or_after (n + suc m) (numbers_from (n + 1) bs) ≡ slice_get (numbers_from (n + 1) bs) (length (numbers_from (n + 1) (take m bs)))
        → at_or_after (n + suc m) (cond x (n ∷ numbers_from (n + 1) bs) (numbers_from (n + 1) bs))
        ≡ slice_get (cond x (n ∷ numbers_from (n + 1) bs) (numbers_from (n + 1) bs))
        (length (cond x (n ∷ numbers_from (n + 1) (take m bs)) (numbers_from (n + 1) (take m bs))))
    go true ih = let failed : nat_le (n + suc m) n ≡ false =
        grind (arith, nat_tests) in ap (λ v. cond v (Some n) (at_or_after (n + suc m) (numbers_from (n + 1) bs))) failed ∙ ih
    go false ih = ih

get-within : (ns : List ℕ) (i : ℕ) → i < length ns → slice_get ns i ≡ Some (get_or ns i 0)
get-within [] i lt = absurd (omega (arith, lt))
get-within (n ∷ ns) zero lt = refl
get-within (n ∷ ns) (suc i) lt = get-within ns i (omega (arith, lt))

get-past : (ns : List ℕ) (i : ℕ) → length ns ≤ i → slice_get ns i ≡ None
get-past [] i le = refl
get-past (n ∷ ns) zero le = absurd (omega (arith, le))
get-past (n ∷ ns) (suc i) le = get-past ns i (omega (arith, le))

after-place : (last : ℕ) (bs : List Bool) → at_or_after last (numbers bs) ≡ slice_get (numbers bs) (length (numbers (take last bs)))
after-place last bs = let e : last ≡ 0 + last = omega arith in ap (λ v. at_or_after v (numbers bs)) e ∙ from-place last 0 bs

-- whose turn it is, by how many are below
pub turn-found : (last : ℕ) (bs : List Bool) → length (numbers (take last bs)) < length (numbers bs)
    → get_or (numbers bs) (length (numbers (take last bs))) 0 ≡ turn_of last (numbers bs)
turn-found last bs lt =
    sym (ap (λ o. unwrap_or o (slice_index (numbers bs) 0)) (after-place last bs ∙ get-within (numbers bs) (length (numbers (take last bs))) lt))

pub turn-round : (last : ℕ) (bs : List Bool) → length (numbers bs) ≤ length (numbers (take last bs)) → get_or (numbers bs) 0 0 ≡ turn_of last (numbers bs)
turn-round last bs le =
    sym (ap (λ o. unwrap_or o (slice_index (numbers bs) 0)) (after-place last bs ∙ get-past (numbers bs) (length (numbers (take last bs))) le))
