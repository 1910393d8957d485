-- Lists: a front that passes a test, and two fronts of one list.
use Rattle.std.proofs.Common.{◌≡◌, ℕ, ◌<◌, ◌≤◌, ◌+◌, Bool, true, false, ◌&&◌, cond, List, [], ◌∷◌, ◌++◌, length, take, zero, suc, get_or, ap, refl, ◌∙◌, sym}
use Rattle.std.proofs.Common.{subst, arith}
use Rattle.std.proofs.Math.Seq.{take-append_seam}
use Rattle.std.proofs.lemmas.List.{append_cancel_left}
use Rattle.std.specs.List.{list_all, prefix_len}

pub and_left : (x y : Bool) → (x && y) ≡ true → x ≡ true
and_left true y h = refl
and_left false y h = h

pub and_right : (x y : Bool) → (x && y) ≡ true → y ≡ true
and_right true y h = h
and_right false y h = cc

pub and_both : (x y : Bool) → x ≡ true → y ≡ true → (x && y) ≡ true
and_both true y h k = k
and_both false y h k = h

-- a front of which each byte passes is no longer than the longest such front
pub prefix-least : (q : ℕ → Bool) (front rest : List ℕ) → list_all q front ≡ true → length front ≤ prefix_len q (front ++ rest)
prefix-least q [] rest h = omega arith
prefix-least q (b ∷ front) rest h =
    let here : q b ≡ true = and_left (q b) (list_all q front) h in
    let later : length front ≤ prefix_len q (front ++ rest) = prefix-least q front rest (and_right (q b) (list_all q front) h) in
    rw here (omega arith)

-- and just as long where the next byte does not pass
pub prefix-exact : (q : ℕ → Bool) (front : List ℕ) (c : ℕ) (rest : List ℕ) → list_all q front ≡ true → q c ≡ false →
    prefix_len q (front ++ (c ∷ rest)) ≡ length front
prefix-exact q [] c rest h stop = rw stop refl
prefix-exact q (b ∷ front) c rest h stop =
    let here : q b ≡ true = and_left (q b) (list_all q front) h in
    let later : prefix_len q (front ++ (c ∷ rest)) ≡ length front = prefix-exact q front c rest (and_right (q b) (list_all q front) h) stop in
    rw here (omega arith)

-- the longest front of which each byte passes, and what is behind it
pub prefix-passes : (q : ℕ → Bool) (text : List ℕ) → list_all q (take (prefix_len q text) text) ≡ true
prefix-passes q [] = refl
prefix-passes q (b ∷ text) = go (prefix-passes q text) (q b) refl
  where
    go : list_all q (take (prefix_len q text) text) ≡ true → (t : Bool) → q b ≡ t → list_all q (take (cond t (1 + prefix_len q text) 0) (b ∷ text)) ≡ true
    go later true h =
        let next : suc (prefix_len q text) ≡ 1 + prefix_len q text = omega arith in
        subst (λ n. list_all q (take n (b ∷ text)) ≡ true) next (and_both (q b) _ h later)
    go later false h = refl

-- two fronts of one list with one length are one
pub front-one : (a b r s : List ℕ) → a ++ r ≡ b ++ s → length a ≡ length b → a ≡ b
front-one a b r s e h = sym (take-append_seam a r) ∙ ap (take (length a)) e ∙ ap (λ n. take n (b ++ s)) h ∙ take-append_seam b s

-- what is behind them is one, too
pub rest-one : (a b r s : List ℕ) → a ++ r ≡ b ++ s → a ≡ b → r ≡ s
rest-one a b r s e h = append_cancel_left b r s (ap (λ x. x ++ r) (sym h) ∙ e)

-- each byte passes where all do
pub passes-at : (q : ℕ → Bool) (text : List ℕ) (i : ℕ) → i < length text → list_all q text ≡ true → q (get_or text i 0) ≡ true
passes-at q [] i h all = absurd (omega arith)
passes-at q (b ∷ text) zero h all = and_left (q b) (list_all q text) all
passes-at q (b ∷ text) (suc i) h all = passes-at q text i (omega arith) (and_right (q b) (list_all q text) all)
