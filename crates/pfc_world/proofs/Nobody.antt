-- What a first, a last, and the lack of one say back.
use Rattle.std.proofs.Common.{◌≡◌, ℕ, zero, suc, Bool, true, false, inl, inr, min, max, Option, None, Some, List, [], ◌∷◌, length, set, arith, refl, sym, ap}
use Rattle.std.proofs.Common.{◌∙◌, cond}
use Rattle.std.specs.Prelude.{option_map}
use Rattle.std.proofs.lemmas.Bool.{eq-eqb, eqb-true, cases_eq, cases_lt}
use Rattle.std.proofs.lemmas.List.{get_or-set_same, get_or-set_other, set_past}
use Rattle.pfc_state.specs.Stands.{Stand, Is_idle}
use Rattle.pfc_world.specs.Firsts.{IsNobody, lesser, least, greater, greatest, has_number, holder, holder_of, first, last}
use Rattle.pfc_world.specs.Tables.{at}

-- who holds a ticket by a key has it
has-own : (t : ℕ) (o : Option ℕ) → has_number t o ≡ true → o ≡ Some t
has-own t (Some u) h = ap (λ n. Some n) (eqb-true u t h)
has-own t None h = cc

behind-one : (A : Type 0) (o : Option ℕ) (p : ℕ) → ((q : ℕ) → o ≡ Some q → suc q ≡ p → A) → option_map suc o ≡ Some p → A
behind-one A (Some q) p f h = f q refl (ap (λ x. from p x) h)
  where
    from : ℕ → Option ℕ → ℕ
    from d (Some n) = n
    from d None = d
behind-one A None p f h = cc

pub holder-own : (key : Stand → Option ℕ) (t : ℕ) (rows : List Stand) (p : ℕ) → holder key t rows ≡ Some p → key (at rows p) ≡ Some t
holder-own key t [] p h = cc
holder-own key t (s ∷ rest) p h = go (has_number t (key s)) refl h (λ q e. holder-own key t rest q e)
  where
    go : (b : Bool) → has_number t (key s) ≡ b → cond b (Some 0) (option_map suc (holder key t rest)) ≡ Some p
        → ((q : ℕ) → holder key t rest ≡ Some q → key (at rest q) ≡ Some t) → key (at (s ∷ rest) p) ≡ Some t
    go true e g ih = let z : 0 ≡ p = ap (λ x. from x) g in ap (λ n. key (at (s ∷ rest) n)) (sym z) ∙ has-own t (key s) e
      where
        from : Option ℕ → ℕ
        from (Some n) = n
        from None = 0
    go false e g ih =
        behind-one (key (at (s ∷ rest) p) ≡ Some t) (holder key t rest) p (λ q found next. ap (λ n. key (at (s ∷ rest) n)) (sym next) ∙ ih q found) g

of-holder : (key : Stand → Option ℕ) (rows : List Stand) (o : Option ℕ) (p : ℕ) → holder_of key o rows ≡ Some p → (t : ℕ) × (key (at rows p) ≡ Some t)
of-holder key rows (Some t) p h = (t, holder-own key t rows p h)
of-holder key rows None p h = cc

-- who is first has a ticket, and so has who is last
pub first-own : (key : Stand → Option ℕ) (rows : List Stand) (p : ℕ) → first key rows ≡ Some p → (t : ℕ) × (key (at rows p) ≡ Some t)
first-own key rows p h = of-holder key rows (least key rows) p h

pub last-own : (key : Stand → Option ℕ) (rows : List Stand) (p : ℕ) → last key rows ≡ Some p → (t : ℕ) × (key (at rows p) ≡ Some t)
last-own key rows p h = of-holder key rows (greatest key rows) p h

-- the least number is somebody's
holder-behind : (t : ℕ) (o : Option ℕ) (rest : Option ℕ) → (rest ≡ None → ⊥) → cond (has_number t o) (Some 0) (option_map suc rest) ≡ None → ⊥
holder-behind t o rest f = go (has_number t o) rest f
  where
    go : (b : Bool) (rest : Option ℕ) → (rest ≡ None → ⊥) → cond b (Some 0) (option_map suc rest) ≡ None → ⊥
    go true rest f h = cc
    go false (Some q) f h = cc
    go false None f h = f refl

no-value : (n : ℕ) → None ≡ Some n → ⊥
no-value n h = cc

holder-here : (t u : ℕ) (rest : Option ℕ) → u ≡ t → cond (has_number t (Some u)) (Some 0) (option_map suc rest) ≡ None → ⊥
holder-here t u rest same h = no-value 0 (sym h ∙ ap (λ b. cond b (Some 0) (option_map suc rest)) (eq-eqb u t same))

least-held : (key : Stand → Option ℕ) (rows : List Stand) (t : ℕ) → least key rows ≡ Some t → holder key t rows ≡ None → ⊥
least-held key [] t e h = cc
least-held key (s ∷ rest) t e h = go (key s) (least key rest) refl e (λ v f. least-held key rest v f) h
  where
    go : (o l : Option ℕ) → least key rest ≡ l → lesser o l ≡ Some t → ((v : ℕ) → l ≡ Some v → holder key v rest ≡ None → ⊥)
        → cond (has_number t o) (Some 0) (option_map suc (holder key t rest)) ≡ None → ⊥
    go None l is e ih h = holder-behind t None (holder key t rest) (ih t e) h
    go (Some u) None is e ih h = holder-here t u (holder key t rest) (ap (λ x. number u x) e) h
      where
        number : ℕ → Option ℕ → ℕ
        number d (Some n) = n
        number d None = d
    go (Some u) (Some v) is e ih h = elim (cases_eq u t) [
      | inl same ↦ holder-here t u (holder key t rest) same h
      | inr other ↦ holder-behind t (Some u) (holder key t rest)
          (ih t (ap (λ n. Some n) (let m : min u v ≡ t = ap (λ x. number u x) e in omega (arith, m, other)))) h
    ]
      where
        number : ℕ → Option ℕ → ℕ
        number d (Some n) = n
        number d None = d

greatest-held : (key : Stand → Option ℕ) (rows : List Stand) (t : ℕ) → greatest key rows ≡ Some t → holder key t rows ≡ None → ⊥
greatest-held key [] t e h = cc
greatest-held key (s ∷ rest) t e h = go (key s) (greatest key rest) refl e (λ v f. greatest-held key rest v f) h
  where
    go : (o l : Option ℕ) → greatest key rest ≡ l → greater o l ≡ Some t → ((v : ℕ) → l ≡ Some v → holder key v rest ≡ None → ⊥)
        → cond (has_number t o) (Some 0) (option_map suc (holder key t rest)) ≡ None → ⊥
    go None l is e ih h = holder-behind t None (holder key t rest) (ih t e) h
    go (Some u) None is e ih h = holder-here t u (holder key t rest) (ap (λ x. number u x) e) h
      where
        number : ℕ → Option ℕ → ℕ
        number d (Some n) = n
        number d None = d
    go (Some u) (Some v) is e ih h = elim (cases_eq u t) [
      | inl same ↦ holder-here t u (holder key t rest) same h
      | inr other ↦ holder-behind t (Some u) (holder key t rest)
          (ih t (ap (λ n. Some n) (let m : max u v ≡ t = ap (λ x. number u x) e in omega (arith, m, other)))) h
    ]
      where
        number : ℕ → Option ℕ → ℕ
        number d (Some n) = n
        number d None = d

lesser-none : (o l : Option ℕ) → lesser o l ≡ None → (o ≡ None) × (l ≡ None)
lesser-none None l e = (refl, e)
lesser-none (Some u) None e = cc
lesser-none (Some u) (Some v) e = cc

greater-none : (o l : Option ℕ) → greater o l ≡ None → (o ≡ None) × (l ≡ None)
greater-none None l e = (refl, e)
greater-none (Some u) None e = cc
greater-none (Some u) (Some v) e = cc

least-nobody : (key : Stand → Option ℕ) (rows : List Stand) → key Is_idle ≡ None → least key rows ≡ None → IsNobody key rows
least-nobody key [] idle e q = idle
least-nobody key (s ∷ rest) idle e zero = (lesser-none (key s) (least key rest) e).0
least-nobody key (s ∷ rest) idle e (suc q) = least-nobody key rest idle (lesser-none (key s) (least key rest) e).1 q

greatest-nobody : (key : Stand → Option ℕ) (rows : List Stand) → key Is_idle ≡ None → greatest key rows ≡ None → IsNobody key rows
greatest-nobody key [] idle e q = idle
greatest-nobody key (s ∷ rest) idle e zero = (greater-none (key s) (greatest key rest) e).0
greatest-nobody key (s ∷ rest) idle e (suc q) = greatest-nobody key rest idle (greater-none (key s) (greatest key rest) e).1 q

-- Where there is no first, nobody has a ticket; and so where there is no last.
pub nobody-first : (key : Stand → Option ℕ) (rows : List Stand) → key Is_idle ≡ None → first key rows ≡ None → IsNobody key rows
nobody-first key rows idle h = go (least key rows) refl h
  where
    go : (o : Option ℕ) → least key rows ≡ o → holder_of key o rows ≡ None → IsNobody key rows
    go None e g = least-nobody key rows idle e
    go (Some t) e g = absurd (least-held key rows t e g)

pub nobody-last : (key : Stand → Option ℕ) (rows : List Stand) → key Is_idle ≡ None → last key rows ≡ None → IsNobody key rows
nobody-last key rows idle h = go (greatest key rows) refl h
  where
    go : (o : Option ℕ) → greatest key rows ≡ o → holder_of key o rows ≡ None → IsNobody key rows
    go None e g = greatest-nobody key rows idle e
    go (Some t) e g = absurd (greatest-held key rows t e g)

-- A standing without a ticket, put anywhere, gives nobody one.
pub set-none : (key : Stand → Option ℕ) (rows : List Stand) (p : ℕ) (s : Stand) (q t : ℕ) → key s ≡ None →
    key (at (set rows p s) q) ≡ Some t → key (at rows q) ≡ Some t
set-none key rows p s q t none h = elim (cases_eq q p) [
  | inl here ↦ elim (cases_lt p (length rows)) [
    | inl lt ↦ let e : None ≡ Some t = sym none ∙ sym (ap key (ap (λ n. at (set rows p s) n) here ∙ get_or-set_same rows p s Is_idle lt)) ∙ h in cc
    | inr le ↦ sym (ap (λ v. key (at v q)) (set_past rows p s le)) ∙ h
  ]
  | inr other ↦ sym (ap key (get_or-set_other rows p q s Is_idle other)) ∙ h
]

pub nobody-set : (key : Stand → Option ℕ) (rows : List Stand) (p : ℕ) (s : Stand) → key s ≡ None → IsNobody key rows → IsNobody key (set rows p s)
nobody-set key rows p s none nobody q = go (key (at (set rows p s) q)) refl
  where
    go : (o : Option ℕ) → key (at (set rows p s) q) ≡ o → o ≡ None
    go None e = refl
    go (Some t) e = let f : None ≡ Some t = sym (nobody q) ∙ set-none key rows p s q t none e in cc
