-- Who was made ready.
use Rattle.std.proofs.Common.{◌≡◌, ℕ, ◌+◌, ◌<◌, ◌≤◌, inl, inr, arith, Bool, true, false, not, ◌&&◌, List, [], ◌∷◌, ◌++◌, length, map, drop, drop-cons}
use Rattle.std.proofs.Common.{drop_of_length-le, add-one, get_or, min, append_assoc, append-nil, refl, sym, ap, ap₂, ◌∙◌}
use Rattle.std.specs.Prelude.{◌⊎◌, if◌then◌else◌}
use Rattle.std.proofs.lemmas.Bool.{cases_lt}
use Rattle.pfc_state.specs.Stands.{Stand, Is_idle, is_ready}
use Rattle.pfc_world.specs.Tables.{at}
use Rattle.pfc_semantics.specs.Events.{woken_from}
use Rattle.pfc_events.specs.Wakes.{woken_by}

pub woken_is : (q : ℕ) (rows others : List Stand) → woken_by q (map is_ready rows) others ≡ woken_from q rows others
woken_is q [] others = refl
woken_is q (before ∷ rows) [] = refl
woken_is q (before ∷ rows) (now ∷ others) =
    ap (λ (l : List ℕ). if not (is_ready before) && is_ready now then q ∷ l else l) (woken_is (q + 1) rows others)

pub woken_step :
    (ready : List Bool) (rows : List Stand) (q : ℕ) (d : Bool) → q < length ready → q < length rows
    → woken_by q (drop q ready) (drop q rows)
    ≡ (if not (get_or ready q d) && is_ready (at rows q) then q ∷ woken_by (q + 1) (drop (q + 1) ready) (drop (q + 1) rows) else woken_by (q + 1)
    (drop (q + 1) ready) (drop (q + 1) rows))
woken_step ready rows q d h k =
    ap₂ (woken_by q) (drop-cons ready q d h ∙ ap (λ n. get_or ready q d ∷ drop n ready) (sym (add-one q)))
    (drop-cons rows q Is_idle k ∙ ap (λ n. get_or rows q Is_idle ∷ drop n rows) (sym (add-one q)))

none_before : (q : ℕ) (rows : List Stand) → woken_by q [] rows ≡ []
none_before q [] = refl
none_before q (now ∷ rows) = refl

none_behind : (q : ℕ) (ready : List Bool) → woken_by q ready [] ≡ []
none_behind q [] = refl
none_behind q (was ∷ ready) = refl

pub woken_end :
    (ready : List Bool) (rows : List Stand) (q : ℕ) → length ready ≤ q → woken_by q (drop q ready) (drop q rows) ≡ []
woken_end ready rows q h = ap (λ (l : List Bool). woken_by q l (drop q rows)) (drop_of_length-le ready {i = q} h) ∙ none_before q (drop q rows)

pub woken_last :
    (ready : List Bool) (rows : List Stand) (q : ℕ) → length rows ≤ q → woken_by q (drop q ready) (drop q rows) ≡ []
woken_last ready rows q h = ap (λ (l : List Stand). woken_by q (drop q ready) l) (drop_of_length-le rows {i = q} h) ∙ none_behind q (drop q ready)

-- ## One after the other

where_woken :
    (b : Bool) (q : ℕ) (items more rest : List ℕ) → (b ≡ true → more ≡ items ++ q ∷ []) → (b ≡ false → more ≡ items) →
    more ++ rest ≡ items ++ (if b then q ∷ rest else rest)
where_woken true q items more rest woke slept = ap (λ (l : List ℕ). l ++ rest) (woke refl) ∙ append_assoc items (q ∷ []) rest
where_woken false q items more rest woke slept = ap (λ (l : List ℕ). l ++ rest) (slept refl)

-- one more was looked at
woken_more :
    (ready : List Bool) (rows : List Stand) (q : ℕ) (was b : Bool) (items more total : List ℕ)
    → q < length ready → q < length rows → was ≡ get_or ready q was → b ≡ (not was && is_ready (at rows q))
    → (b ≡ true → more ≡ items ++ q ∷ []) → (b ≡ false → more ≡ items) → items ++ woken_by q (drop q ready) (drop q rows) ≡ total
    → more ++ woken_by (q + 1) (drop (q + 1) ready) (drop (q + 1) rows) ≡ total
woken_more ready rows q was b items more total h k there is woke slept so =
    let rest : List ℕ = woken_by (q + 1) (drop (q + 1) ready) (drop (q + 1) rows) in
    where_woken b q items more rest woke slept
    ∙ ap (λ (t : Bool). items ++ (if t then q ∷ rest else rest)) (is ∙ ap (λ (t : Bool). not t && is_ready (at rows q)) there)
    ∙ ap (λ (l : List ℕ). items ++ l) (sym (woken_step ready rows q was h k)) ∙ so

pub woken_one :
    (ready : List Bool) (rows : List Stand) (q : ℕ) (was b : Bool) (items more total : List ℕ)
    → q < length ready → q < length rows → was ≡ get_or ready q was → b ≡ (not was && is_ready (at rows q)) → b ≡ true → more ≡ items ++ q ∷ []
    → items ++ woken_by q (drop q ready) (drop q rows) ≡ total → more ++ woken_by (q + 1) (drop (q + 1) ready) (drop (q + 1) rows) ≡ total
woken_one ready rows q was b items more total h k there is woke push so =
    woken_more ready rows q was b items more total h k there is (λ _. push) (λ slept. absurd (let no : true ≡ false = sym woke ∙ slept in cc)) so

pub woken_none :
    (ready : List Bool) (rows : List Stand) (q : ℕ) (was b : Bool) (items more total : List ℕ)
    → q < length ready → q < length rows → was ≡ get_or ready q was → b ≡ (not was && is_ready (at rows q)) → b ≡ false → more ≡ items
    → items ++ woken_by q (drop q ready) (drop q rows) ≡ total → more ++ woken_by (q + 1) (drop (q + 1) ready) (drop (q + 1) rows) ≡ total
woken_none ready rows q was b items more total h k there is slept same so =
    woken_more ready rows q was b items more total h k there is (λ woke. absurd (let no : true ≡ false = sym woke ∙ slept in cc)) (λ _. same) so

-- nobody is left
pub woken_all :
    (ready : List Bool) (rows : List Stand) (q count : ℕ) (items total : List ℕ)
    → count ≡ min (length ready) (length rows) → count ≤ q → items ++ woken_by q (drop q ready) (drop q rows) ≡ total → items ≡ total
woken_all ready rows q count items total is high so =
    sym (append-nil items) ∙ ap (λ (l : List ℕ). items ++ l) (sym (none_left (cases_lt q (length ready)))) ∙ so
  where
    none_left : (q < length ready) ⊎ (length ready ≤ q) → woken_by q (drop q ready) (drop q rows) ≡ []
    none_left (inl h) = woken_last ready rows q (omega (arith, is, high, h))
    none_left (inr h) = woken_end ready rows q h
