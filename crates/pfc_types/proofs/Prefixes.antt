-- Names that are declared at the end of a scope: those before are found as they were, and counting them again gives the length.
use Rattle.std.proofs.Common.{◌≡◌, ℕ, suc, ◌+◌, ◌<◌, ◌≤◌, Bool, true, false, not, cond, is_some, nat_lt, ◌==◌, List, [], ◌∷◌, ◌++◌, length, bytes_eq, Option}
use Rattle.std.proofs.Common.{Some, None, refl, sym, ap, ap₂, ◌∙◌, subst, arith, append_assoc, append-nil, length-append}
use Rattle.std.specs.Map.{keys_of}
use Rattle.std.specs.List.{position_or_len}
use Rattle.std.proofs.lemmas.Bool.Decides.{nat_tests}
use Rattle.std.proofs.lemmas.Slice.Eq.{bytes_eq-Decides}
use Rattle.std.proofs.lemmas.Map.Entries.{length-keys_of}
use Rattle.pfc_tree.specs.Symbols.{Text}
use Rattle.pfc_types.specs.Growing.{Begins}
use Rattle.pfc_types.specs.Scopes.{Names, Level, meaning_in, position_in, within}
use Rattle.pfc_types.specs.declared.scope.Meaning.{Meaning}
use Rattle.pfc_types.specs.declared.view.Found.{Found}
use Rattle.pfc_types.specs.rules.Bodies.{counted, passed}

-- ## Beginnings

pub begins_same : {A : Type 0} (xs : List A) → Begins xs xs
begins_same xs = record { more = []; splits = sym (append-nil xs) }

pub begins_all : {A : Type 0} (xs : List A) → Begins [] xs
begins_all xs = record { more = xs; splits = refl }

pub begins_push : {A : Type 0} (xs ys : List A) → Begins xs (xs ++ ys)
begins_push xs ys = record { more = ys; splits = refl }

pub begins_trans : {A : Type 0} (xs ys zs : List A) → Begins xs ys → Begins ys zs → Begins xs zs
begins_trans xs ys zs h k = record { more = h.more ++ k.more; splits = k.splits ∙ ap (λ l. l ++ k.more) h.splits ∙ append_assoc xs h.more k.more }

pub begins_length : {A : Type 0} (xs ys : List A) → Begins xs ys → length xs ≤ length ys
begins_length xs ys h = subst (λ l. length xs ≤ length l) (sym h.splits) (omega (arith, length-append xs h.more))

-- ## The first place of a name

-- the place of x, or how many names there are
first : Names → Text → ℕ
first names x = position_or_len (bytes_eq x) (keys_of names)

first_here : (x : Text) (e : Text × Meaning) (names : Names) → bytes_eq x e.0 ≡ true → first (e ∷ names) x ≡ 0
unfolding first
first_here x e names h = ap (λ b. cond (not b) (1 + first names x) 0) h

first_later : (x : Text) (e : Text × Meaning) (names : Names) → bytes_eq x e.0 ≡ false → first (e ∷ names) x ≡ 1 + first names x
unfolding first
first_later x e names h = ap (λ b. cond (not b) (1 + first names x) 0) h

place_of : (names : Names) (x : Text) → position_in names x ≡ cond (nat_lt (first names x) (length names)) (Some (first names x)) None
unfolding first
place_of names x = ap (λ n. cond (nat_lt (first names x) n) (Some (first names x)) None) (length-keys_of names)

meaning_here : (x : Text) (e : Text × Meaning) (names : Names) → bytes_eq x e.0 ≡ true → meaning_in (e ∷ names) x ≡ Some e.1
meaning_here x e names h = ap (λ b. cond b (Some e.1) (meaning_in names x)) h

meaning_later : (x : Text) (e : Text × Meaning) (names : Names) → bytes_eq x e.0 ≡ false → meaning_in (e ∷ names) x ≡ meaning_in names x
meaning_later x e names h = ap (λ b. cond b (Some e.1) (meaning_in names x)) h

-- a name stands in the list at its first place, whatever comes behind, or not at all
record Among (names : Names) (x : Text) : Type 0 where
  below : first names x < length names
  there : is_some (meaning_in names x) ≡ true
  place : (more : Names) → first (names ++ more) x ≡ first names x
  meaning : (more : Names) → meaning_in (names ++ more) x ≡ meaning_in names x

record Beyond (names : Names) (x : Text) : Type 0 where
  after : (more : Names) → first (names ++ more) x ≡ length names + first more x
  missing : meaning_in names x ≡ None

data Where (names : Names) (x : Text) : Type 0 where
  among : Among names x → Where names x
  beyond : Beyond names x → Where names x

where_is : (names : Names) (x : Text) → Where names x
where_is [] x = beyond (record { after = λ more. sym (zero-add' (first more x)); missing = refl })
  where
    zero-add' : (n : ℕ) → 0 + n ≡ n
    zero-add' n = omega arith
where_is (e ∷ names) x = by (bytes_eq x e.0) refl (where_is names x)
  where
    by : (b : Bool) → bytes_eq x e.0 ≡ b → Where names x → Where (e ∷ names) x
    by true h w =
        among (record {
          below = subst (λ n. n < length (e ∷ names)) (sym (first_here x e names h)) (omega arith);
          there = ap is_some (meaning_here x e names h);
          place = λ more. first_here x e (names ++ more) h ∙ sym (first_here x e names h);
          meaning = λ more. meaning_here x e (names ++ more) h ∙ sym (meaning_here x e names h);
        })
    by false h (among w) =
        among (record {
          below = subst (λ n. n < length (e ∷ names)) (sym (first_later x e names h)) (omega (arith, w.below));
          there = ap is_some (meaning_later x e names h) ∙ w.there;
          place = λ more. first_later x e (names ++ more) h ∙ ap (λ n. 1 + n) (w.place more) ∙ sym (first_later x e names h);
          meaning = λ more. meaning_later x e (names ++ more) h ∙ w.meaning more ∙ sym (meaning_later x e names h);
        })
    by false h (beyond w) =
        beyond (record {
          after = λ more. first_later x e (names ++ more) h ∙ ap (λ n. 1 + n) (w.after more) ∙ plus (length names) (first more x);
          missing = meaning_later x e names h ∙ w.missing;
        })
      where
        plus : (n m : ℕ) → 1 + (n + m) ≡ suc n + m
        plus n m = omega arith

-- ## What is found

lt_true : (n m : ℕ) → n < m → nat_lt n m ≡ true
lt_true n m h = grind (arith, nat_tests)

lt_false : (n m : ℕ) → m ≤ n → nat_lt n m ≡ false
lt_false n m h = grind (arith, nat_tests)

place_among : (names : Names) (x : Text) → first names x < length names → position_in names x ≡ Some (first names x)
place_among names x h = place_of names x ∙ ap (λ b. cond b (Some (first names x)) None) (lt_true (first names x) (length names) h)

-- a place that no name in view has
within_none : (level : Level) (names : Names) (x : Text) (m : Option Meaning) → level.count ≤ first names x → within level (position_in names x) m ≡ None
within_none level names x m h = ap (λ p. within level p m) (place_of names x) ∙ by (nat_lt (first names x) (length names)) m
  where
    not_seen : (o : Option Found) → (if_seen : Bool) → if_seen ≡ false → cond if_seen o None ≡ None
    not_seen o b e = ap (λ c. cond c o None) e

    by : (b : Bool) (m : Option Meaning) → within level (cond b (Some (first names x)) None) m ≡ None
    by false m = refl
    by true None = refl
    by true (Some y) = not_seen (Some (record { scope = Some level.scope; place = first names x; meaning = y })) (nat_lt (first names x) level.count)
        (lt_false (first names x) level.count h)

-- what comes behind the names that are counted is not found
pub found_alike :
    (level : Level) (names fin : Names) (x : Text) → Begins names fin → level.count ≤ length names
    → within level (position_in fin x) (meaning_in fin x) ≡ within level (position_in names x) (meaning_in names x)
found_alike level names fin x begins fits = ap (λ l. within level (position_in l x) (meaning_in l x)) begins.splits ∙ by (where_is names x)
  where
    more : Names
    more = begins.more

    by : Where names x → within level (position_in (names ++ begins.more) x) (meaning_in (names ++ begins.more) x) ≡ within level
        (position_in names x) (meaning_in names x)
    by (among w) =
        ap₂ (λ p m. within level p m)
        (place_among (names ++ begins.more) x (subst (λ n. n < length (names ++ begins.more)) (sym (w.place begins.more))
        (omega (arith, w.below, length-append names begins.more)))
        ∙ ap Some (w.place begins.more) ∙ sym (place_among names x w.below))
        (w.meaning begins.more)
    by (beyond w) =
        within_none level (names ++ begins.more) x (meaning_in (names ++ begins.more) x)
        (subst (λ n. level.count ≤ n) (sym (w.after begins.more)) (omega (arith, fits)))
        ∙ sym (ap (λ m. within level (position_in names x) m) w.missing ∙ missing (position_in names x))
      where
        missing : (p : Option ℕ) → within level p None ≡ None
        missing None = refl
        missing (Some k) = refl

-- ## Counting

eq_same : (n : ℕ) → (n == n) ≡ true
eq_same n = grind (arith, nat_tests)

eq_less : (k n : ℕ) → k < n → (k == n) ≡ false
eq_less k n h = grind (arith, nat_tests)

-- a name that is declared already counts no more
pub passed_again : (names fin : Names) (x : Text) → Begins names fin → is_some (meaning_in names x) ≡ true → passed fin (length names) x ≡ length names
passed_again names fin x begins there = ap (λ l. passed l (length names) x) begins.splits ∙ by (where_is names x)
  where
    no : is_some (meaning_in names x) ≡ true → meaning_in names x ≡ None → ⊥
    no h e = cc

    by : Where names x → passed (names ++ begins.more) (length names) x ≡ length names
    by (beyond w) = absurd (no there w.missing)
    by (among w) =
        ap (λ p. counted p (length names))
        (place_among (names ++ begins.more) x (subst (λ n. n < length (names ++ begins.more)) (sym (w.place begins.more))
        (omega (arith, w.below, length-append names begins.more)))
        ∙ ap Some (w.place begins.more))
        ∙ ap (λ b. cond b (length names + 1) (length names)) (eq_less (first names x) (length names) w.below)

-- a new name counts
pub passed_new : (names fin : Names) (x : Text) (m : Meaning) → Begins (names ++ (x, m) ∷ []) fin → is_some (meaning_in names x) ≡ false →
    passed fin (length names) x ≡ length (names ++ (x, m) ∷ [])
passed_new names fin x m begins fresh =
    ap (λ l. passed l (length names) x) (begins.splits ∙ append_assoc names ((x, m) ∷ []) begins.more) ∙ by (where_is names x) ∙ count
  where
    tail : Names
    tail = (x, m) ∷ begins.more

    no : is_some (meaning_in names x) ≡ false → is_some (meaning_in names x) ≡ true → ⊥
    no h e = cc

    count : length names + 1 ≡ length (names ++ (x, m) ∷ [])
    count = omega (arith, length-append names ((x, m) ∷ []))

    first_tail : first ((x, m) ∷ begins.more) x ≡ 0
    first_tail = first_here x (x, m) begins.more ((bytes_eq-Decides x x).1 refl)

    by : Where names x → passed (names ++ (x, m) ∷ begins.more) (length names) x ≡ length names + 1
    by (among w) = absurd (no fresh w.there)
    by (beyond w) =
        ap (λ p. counted p (length names))
        (place_among (names ++ (x, m) ∷ begins.more) x (subst (λ n. n < length (names ++ (x, m) ∷ begins.more)) (sym at)
        (omega (arith, length-append names ((x, m) ∷ begins.more)))) ∙ ap Some at)
        ∙ ap (λ b. cond b (length names + 1) (length names)) (eq_same (length names))
      where
        at : first (names ++ (x, m) ∷ begins.more) x ≡ length names
        at = w.after ((x, m) ∷ begins.more) ∙ ap (λ n. length names + n) first_tail ∙ plus (length names)
          where
            plus : (n : ℕ) → n + 0 ≡ n
            plus n = omega arith
