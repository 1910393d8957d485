-- Numbers of parts, and the parts within which a spot lies.
use Rattle.std.proofs.Common.{get_or, ◌≡◌, ℕ, ◌+◌, ◌<◌, ◌≤◌, ◌↔◌, inl, inr, Bool, true, false, ◌&&◌, ℤ, Option, Some, None, eqb, List, [], ◌∷◌, ◌++◌, length}
use Rattle.std.proofs.Common.{take, arith, refl, sym, ap, subst, ◌∙◌, eqb-true, eq-eqb, Contains, cond}
use Rattle.std.specs.Ordering.{int_eq}
use Rattle.std.specs.Option.{option_to_list}
use Rattle.std.specs.Cmp.Rules.{signed_items}
use Rattle.std.specs.List.{All, position_or_len, starts_with}
use Rattle.std.specs.Cmp.Lexicographic.{pointwise}
use Rattle.std.proofs.lemmas.Bool.{and_parts, and_from, cases_eq, cases_lt, lt-ltb, or_cases, or_left, false≢true}
use Rattle.std.proofs.lemmas.List.Sums.{fails_before_first}
use Rattle.std.proofs.lemmas.List.{take_all, length-take, append-nil}
use Rattle.std.proofs.lemmas.List.Quantifiers.{position-Some}
use Rattle.std.proofs.lemmas.List.Elements.{Contains-append_left, Contains-get_or, Contains-push, Contains-push_cases}
use Rattle.pfc_hb.specs.declared.accesses.Spot.{Spot}
use Rattle.pfc_hb.specs.declared.parts.Part.{Part}
use Rattle.pfc_hb.specs.Conflicts.{has_same_variable}
use Rattle.pfc_hb.specs.Parts.{is_at, is_known, number_of, front, is_same_spot, lies_in, AreAround}
use Rattle.pfc_hb.specs.Users.{has_number}
use Rattle.pfc_hb.proofs.ListAny.{list_any-found, list_any-contained}

abbrev spot : ℕ → ℕ → List ℤ → Spot
spot activation variable path = record { activation = activation; variable = variable; path = path }

-- ## Spots and parts

pub front-all : (s : Spot) → front (length s.path) s ≡ s
front-all s =
    let same : spot s.activation s.variable (take (length s.path) s.path) ≡ spot s.activation s.variable s.path =
    rw (take_all (length s.path) s.path (omega arith)) refl in
    same

-- the spot of a part
abbrev spot_of : Part → Spot
spot_of p = spot p.activation p.variable p.path.now

is_at-spot : (s : Spot) (p : Part) → is_at s p ≡ true → s ≡ spot_of p
is_at-spot s p h =
    let parts = and_parts (eqb s.activation p.activation && eqb s.variable p.variable) (pointwise int_eq s.path p.path.now) h in
    let heads = and_parts (eqb s.activation p.activation) (eqb s.variable p.variable) parts.0 in
    let activation = eqb-true s.activation p.activation heads.0 in
    let variable = eqb-true s.variable p.variable heads.1 in
    let path : s.path ≡ p.path.now = (signed_items s.path p.path.now).0 parts.1 in
    let same : spot s.activation s.variable s.path ≡ spot_of p = rw (activation, variable, path) refl in
    same

-- two spots of one number are the same
pub number_of-injective : (parts : List Part) (a b : Spot) (n : ℕ) → number_of parts a ≡ Some n → number_of parts b ≡ Some n → a ≡ b
number_of-injective [] a b n first second = cc
number_of-injective (some ∷ others) a b n first second =
    let parts : List Part = some ∷ others in
    let p = get_or parts n some in
    is_at-spot a p (position-Some (is_at a) parts n some first).1 ∙ sym (is_at-spot b p (position-Some (is_at b) parts n some second).1)

none-some : (n : ℕ) (o : Option ℕ) → None ≡ o → o ≡ Some n → ⊥
none-some n o first second = cc

pub number_of-within : (parts : List Part) (s : Spot) (n : ℕ) → number_of parts s ≡ Some n → n < length parts
number_of-within [] s n h = cc
number_of-within (some ∷ others) s n h =
    let parts : List Part = some ∷ others in
    (position-Some (is_at s) parts n some h).0

pub same_spot : (a b : Spot) → is_same_spot a b ≡ true → a ≡ b
same_spot a b h =
    let parts = and_parts (has_same_variable a b) (pointwise int_eq a.path b.path) h in
    let heads = and_parts (eqb a.variable b.variable) (eqb a.activation b.activation) parts.0 in
    let variable = eqb-true a.variable b.variable heads.0 in
    let activation = eqb-true a.activation b.activation heads.1 in
    let path : a.path ≡ b.path = (signed_items a.path b.path).0 parts.1 in
    let same : spot a.activation a.variable a.path ≡ spot b.activation b.variable b.path = rw (activation, variable, path) refl in
    same

pub same_spot-refl : (a : Spot) → is_same_spot a a ≡ true
same_spot-refl a =
    and_from _ _ (and_from _ _ (eq-eqb a.variable a.variable refl) (eq-eqb a.activation a.activation refl)) ((signed_items a.path a.path).1 refl)

-- two tests that pass for each other are one
pub same_answer : (a b : Bool) → (a ≡ true → b ≡ true) → (b ≡ true → a ≡ true) → a ≡ b
same_answer true b first second = sym (first refl)
same_answer false true first second = second refl
same_answer false false first second = refl

has_number-found : (numbers : List ℕ) (n : ℕ) → has_number numbers n ≡ true → Contains numbers n
has_number-found numbers n h =
    let f = list_any-found (λ m. eqb m n) numbers 0 h in
    let same : get_or numbers f.0 0 ≡ n = eqb-true _ n f.2 in
    subst (λ v. Contains numbers v) same (Contains-get_or numbers f.0 0 f.1)

has_number-there : (numbers : List ℕ) (n : ℕ) → Contains numbers n → has_number numbers n ≡ true
has_number-there numbers n c = list_any-contained (λ m. eqb m n) numbers n c (eq-eqb n n refl)

-- a spot is that of a part where it has the part's number
pub same_spot-number : (parts : List Part) (a s : Spot) (n : ℕ) (r : Option ℕ) → r ≡ number_of parts a → number_of parts s ≡ Some n
    → is_same_spot a s ≡ has_number (option_to_list r) n
same_spot-number parts a s n None is known = same_answer _ _
    (λ h. absurd (none-some n _ is (ap (number_of parts) (same_spot a s h) ∙ known)))
    (λ h. absurd (false≢true h))
same_spot-number parts a s n (Some m) is known = same_answer _ _
    (λ h.
    let at : Some m ≡ Some n = is ∙ ap (number_of parts) (same_spot a s h) ∙ known in
    let same : m ≡ n = cc in
    or_left (eqb m n) false (eq-eqb m n same))
    (λ h.
    let same : m ≡ n = eqb-true m n (elim (or_cases (eqb m n) false h) [ inl e ↦ e | inr e ↦ absurd (false≢true e) ]) in
    let here : a ≡ s = number_of-injective parts a s n (sym is ∙ ap Some same) known in
    subst (λ v. is_same_spot a v ≡ true) here (same_spot-refl a))

-- ## Fronts

pub lies_in-front : (s : Spot) (depth : ℕ) → depth ≤ length s.path → lies_in s (front depth s) ≡ true
lies_in-front s depth short =
    let long : length (take depth s.path) ≡ depth = omega (arith, length-take depth s.path) in
    let path : take depth s.path ≡ take (length (take depth s.path)) s.path = rw long refl in
    and_from _ _ (and_from _ _ (eq-eqb s.variable s.variable refl) (eq-eqb s.activation s.activation refl))
    ((signed_items (take depth s.path) (take (length (take depth s.path)) s.path)).1 path)

lies_in-path : (inner outer : Spot) → lies_in inner outer ≡ true → outer.path ≡ take (length outer.path) inner.path
lies_in-path inner outer h =
    (signed_items outer.path (take (length outer.path) inner.path)).0 (and_parts (has_same_variable inner outer) (starts_with int_eq inner.path outer.path) h).1

lies_in-short : (inner outer : Spot) → lies_in inner outer ≡ true → length outer.path ≤ length inner.path
lies_in-short inner outer h = omega (arith, ap length (lies_in-path inner outer h), length-take (length outer.path) inner.path)

lies_in-is_front : (inner outer : Spot) → lies_in inner outer ≡ true → outer ≡ front (length outer.path) inner
lies_in-is_front inner outer h =
    let heads = and_parts (has_same_variable inner outer) (starts_with int_eq inner.path outer.path) h in
    let places = and_parts (eqb inner.variable outer.variable) (eqb inner.activation outer.activation) heads.0 in
    let variable = eqb-true inner.variable outer.variable places.0 in
    let activation = eqb-true inner.activation outer.activation places.1 in
    let same : spot outer.activation outer.variable outer.path ≡ spot inner.activation inner.variable (take (length outer.path) inner.path) =
    ap (λ v. spot v outer.variable outer.path) (sym activation) ∙ ap (λ v. spot inner.activation v outer.path) (sym variable) ∙
    ap (λ v. spot inner.activation inner.variable v) (lies_in-path inner outer h) in
    same

-- the number of one of so many fronts of a spot
abbrev pub IsFront : List Part → Spot → ℕ → ℕ → Type 0
IsFront parts s bound n = (depth : ℕ) × (depth < bound) × (number_of parts (front depth s) ≡ Some n)

-- one front more
pub fronts-more : (parts : List Part) (s : Spot) (depth : ℕ) (found : Option ℕ) (numbers later : List ℕ) → found ≡ number_of parts (front depth s)
    → ((n : ℕ) → Contains numbers n ↔ IsFront parts s depth n) → later ≡ numbers ++ option_to_list found
    → (n : ℕ) → Contains later n ↔ IsFront parts s (depth + 1) n
fronts-more parts s depth None numbers later is old added n = (
  λ c.
      let f = (old n).0 (subst (λ l. Contains l n) (added ∙ append-nil numbers) c) in
      (f.0, omega (arith, f.1), f.2),
  λ f. subst (λ l. Contains l n) (sym (added ∙ append-nil numbers))
      ((old n).1 (elim (cases_eq f.0 depth) [
        | inl e ↦ absurd (none-some n _ is (ap (λ d. number_of parts (front d s)) (sym e) ∙ f.2))
        | inr other ↦ (f.0, omega (arith, f.1, other), f.2)
      ])),
)
fronts-more parts s depth (Some m) numbers later is old added n = (
  λ c. elim (Contains-push_cases numbers m n (subst (λ l. Contains l n) added c)) [
    | inl before ↦ let f = (old n).0 before in (f.0, omega (arith, f.1), f.2)
    | inr e ↦ (depth, omega arith, sym is ∙ ap Some e)
  ],
  λ f. subst (λ l. Contains l n) (sym added) (elim (cases_eq f.0 depth) [
    | inl e ↦
        let at : Some m ≡ Some n = is ∙ ap (λ d. number_of parts (front d s)) (sym e) ∙ f.2 in
        let same : m ≡ n = cc in
        subst (λ v. Contains (numbers ++ m ∷ []) v) same (Contains-push numbers m)
    | inr other ↦ Contains-append_left numbers (m ∷ []) n ((old n).1 (f.0, omega (arith, f.1, other), f.2))
  ]),
)

-- all fronts of a spot are the parts within which it lies
pub fronts-around : (parts : List Part) (s : Spot) (numbers : List ℕ) → ((n : ℕ) → Contains numbers n ↔ IsFront parts s (length s.path + 1) n)
    → AreAround parts s numbers
fronts-around parts s numbers fronts n = (
  λ c. let f = (fronts n).0 c in (front f.0 s, f.2, lies_in-front s f.0 (omega (arith, f.1))),
  λ around.
      let outer = around.0 in
      let is : outer ≡ front (length outer.path) s = lies_in-is_front s outer around.2 in
      (fronts n).1 (length outer.path, omega (arith, lies_in-short s outer around.2), ap (number_of parts) (sym is) ∙ around.1),
)

-- the fronts before all of a spot are the parts around it, but for its own
pub fronts-own : (parts : List Part) (s : Spot) (numbers : List ℕ) → ((n : ℕ) → Contains numbers n ↔ IsFront parts s (length s.path) n)
    → AreAround parts s (numbers ++ option_to_list (number_of parts s))
fronts-own parts s numbers fronts =
    let own = number_of parts s in
    let all = numbers ++ option_to_list own in
    fronts-around parts s all (fronts-more parts s (length s.path) own numbers all (sym (ap (number_of parts) (front-all s))) fronts refl)

pub outside-within : (parts : List Part) (s : Spot) (numbers own : List ℕ) → AreAround parts s (numbers ++ own) → All (λ n. n < length parts) numbers
outside-within parts s numbers own around = λ k d lt.
    let n = get_or numbers k d in
    let is = (around n).0 (Contains-append_left numbers own n (Contains-get_or numbers k d lt)) in
    number_of-within parts is.0 n is.1

-- a spot lies in a part where the part's number is among those around it
pub lies_in-number : (parts : List Part) (a s : Spot) (n : ℕ) (numbers : List ℕ) → AreAround parts a numbers → number_of parts s ≡ Some n
    → lies_in a s ≡ has_number numbers n
lies_in-number parts a s n numbers around known = same_answer _ _
    (λ h. has_number-there numbers n ((around n).1 (s, known, h)))
    (λ h.
    let is = (around n).0 (has_number-found numbers n h) in
    subst (λ v. lies_in a v ≡ true) (number_of-injective parts is.0 s n is.1 known) is.2)

-- what is known has a number
pub known-number : (parts : List Part) (s : Spot) → is_known parts s ≡ true → (n : ℕ) × (number_of parts s ≡ Some n)
known-number [] s h = absurd (false≢true h)
known-number (some ∷ others) s h =
    let parts : List Part = some ∷ others in
    let place = position_or_len (is_at s) parts in
    let f = list_any-found (is_at s) parts some h in
    let lt : place < length parts = elim (cases_lt place (length parts)) [
      | inl within ↦ within
      | inr beyond ↦ absurd (false≢true (sym (fails_before_first (is_at s) parts f.0 some (omega (arith, f.1, beyond))) ∙ f.2))
    ] in
    (place, ap (λ b. cond b (Some place) None) (lt-ltb place (length parts) lt))
