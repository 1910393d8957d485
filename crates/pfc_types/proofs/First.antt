-- The first fault is the first of the list of all.
use Rattle.std.proofs.Common.{◌≡◌, ℕ, zero, suc, ◌<◌, ◌≤◌, ◌⊎◌, inl, inr, Bool, true, false, ◌&&◌, ◌||◌, ◌==◌, cond, nat_lt, nat_le, List, [], ◌∷◌, ◌++◌}
use Rattle.std.proofs.Common.{Contains, slice_index_or, Option, Some, None, lit<, refl, sym, ◌∙◌, subst, arith}
use Rattle.std.proofs.lemmas.Bool.Decides.{nat_tests}
use Rattle.std.proofs.lemmas.List.Elements.{Contains-append_left, Contains-append_right, Contains-append_cases}
use Rattle.pfc_base.specs.declared.faults.Refusal.{Refusal}
use Rattle.pfc_types.specs.Faults.{Faults, none, one, ◌⨾◌, listed, is_before, lesser, least_from, IsFirst, IsFirstOf}

-- ## The order

-- one number of the order, and what decides where it is equal
abbrev before : ℕ → ℕ → Bool → Bool
before x y p = nat_lt x y || (x == y && p)

before-le : (x y : ℕ) (p : Bool) → before y x p ≡ false → x ≤ y
before-le x y p h = grind (arith, nat_tests)

before-rest : (x y : ℕ) (p : Bool) → before y x p ≡ false → x ≡ y → p ≡ false
before-rest x y p h e = grind (arith, nat_tests)

not_before : (x y : ℕ) (p : Bool) → x ≤ y → (x ≡ y → p ≡ false) → before y x p ≡ false
not_before x y true le rest = strict (λ e. cc_of (rest e))
  where
    cc_of : true ≡ false → ⊥
    cc_of h = cc

    strict : (x ≡ y → ⊥) → before y x true ≡ false
    strict apart = below (omega (arith, apart))
      where
        below : x < y → before y x true ≡ false
        below h = grind (arith, nat_tests)
not_before x y false le rest = grind (arith, nat_tests)

before-trans :
    (x y z : ℕ) (p q r : Bool) → before y x p ≡ false → before z y q ≡ false → (p ≡ false → q ≡ false → r ≡ false) → before z x r ≡ false
before-trans x y z p q r h k rest =
    not_before x z r (omega (arith, before-le x y p h, before-le y z q k))
    (λ e. rest (before-rest x y p h (omega (arith, e, before-le x y p h, before-le y z q k)))
    (before-rest y z q k (omega (arith, e, before-le x y p h, before-le y z q k))))

before-asym : (x y : ℕ) (p q : Bool) → before x y p ≡ true → (p ≡ true → q ≡ false) → before y x q ≡ false
before-asym x y true q h rest = by q (rest refl)
  where
    by : (q : Bool) → q ≡ false → before y x q ≡ false
    by true e = cc
    by false e = grind (arith, nat_tests)
before-asym x y false q h rest = lower (strict h)
  where
    strict : before x y false ≡ true → x < y
    strict h = grind (arith, nat_tests)

    lower : x < y → before y x q ≡ false
    lower k = grind (arith, nat_tests)

lt-trans : (x y z : ℕ) → nat_lt y x ≡ false → nat_lt z y ≡ false → nat_lt z x ≡ false
lt-trans x y z h k = grind (arith, nat_tests)

lt-asym : (x y : ℕ) → nat_lt x y ≡ true → nat_lt y x ≡ false
lt-asym x y h = grind (arith, nat_tests)

-- what is not after f, and f not after b
trans : (f g b : Refusal) → is_before g f ≡ false → is_before b g ≡ false → is_before b f ≡ false
trans f g b h k =
    before-trans f.place.line g.place.line b.place.line _ _ _ h k
    (λ p q. before-trans f.place.column g.place.column b.place.column _ _ _ p q (λ p q. lt-trans f.code g.code b.code p q))

asym : (f g : Refusal) → is_before f g ≡ true → is_before g f ≡ false
asym f g h =
    before-asym f.place.line g.place.line _ _ h (λ p. before-asym f.place.column g.place.column _ _ p (λ p. lt-asym f.code g.code p))

irrefl : (f : Refusal) → is_before f f ≡ false
irrefl f = by (is_before f f) refl
  where
    by : (b : Bool) → is_before f f ≡ b → is_before f f ≡ false
    by true h = asym f f h
    by false h = h

-- ## What is found

-- r is what was found from `best` on, among the rules of fs
record Finds (from : ℕ) (best : Option Refusal) (fs : List Refusal) (r : Option Refusal) : Type 0 where
  -- it is one of these, or what was found before
  origin : (f : Refusal) → r ≡ Some f → (best ≡ Some f) ⊎ (Contains fs f × (from ≤ f.code))
  -- no other comes before it
  first : (f : Refusal) → r ≡ Some f → (g : Refusal) → Contains fs g → from ≤ g.code → is_before g f ≡ false
  -- nor does what was found before
  kept : (f b : Refusal) → r ≡ Some f → best ≡ Some b → is_before b f ≡ false
  -- where there is none, there was none before
  fresh : r ≡ None → best ≡ None
  empty : r ≡ None → (g : Refusal) → Contains fs g → g.code < from

contains_nothing : (g : Refusal) → Contains [] g → ⊥
contains_nothing g h = absurd (omega (arith, h.1))

contains_one : (f g : Refusal) → Contains (f ∷ []) g → f ≡ g
contains_one f g h = by h.0 h.1 h.2
  where
    by : (k : ℕ) → k < 1 → slice_index_or (f ∷ []) k g ≡ g → f ≡ g
    by zero h e = e
    by (suc k) h e = absurd (omega (arith, h))

one_contains : (f : Refusal) → Contains (f ∷ []) f
one_contains f = (0, lit< tt, refl)

some_of : {f g : Refusal} → ◌≡◌ {A = Option Refusal} (Some f) (Some g) → f ≡ g
some_of e = cc

le_of : (n m : ℕ) → nat_le n m ≡ true → n ≤ m
le_of n m h = grind (arith, nat_tests)

lt_of : (n m : ℕ) → nat_le n m ≡ false → m < n
lt_of n m h = grind (arith, nat_tests)

-- no rule
finds_none : (from : ℕ) (best : Option Refusal) → Finds from best [] best
finds_none from best =
    record {
      origin = λ f e. inl e;
      first = λ f e g h n. absurd (contains_nothing g h);
      kept = λ f b e d. subst (λ x. is_before b x ≡ false) (some_of (sym d ∙ e)) (irrefl b);
      fresh = λ e. e;
      empty = λ e g h. absurd (contains_nothing g h);
    }

-- one rule that is not asked for
finds_other : (from : ℕ) (best : Option Refusal) (f : Refusal) → f.code < from → Finds from best (f ∷ []) best
finds_other from best f low =
    record {
      origin = λ x e. inl e;
      first = λ x e g h n. absurd (below g h n);
      kept = λ x b e d. subst (λ y. is_before b y ≡ false) (some_of (sym d ∙ e)) (irrefl b);
      fresh = λ e. e;
      empty = λ e g h. subst (λ y. y.code < from) (contains_one f g h) low;
    }
  where
    below : (g : Refusal) → Contains (f ∷ []) g → from ≤ g.code → ⊥
    below g h n = let l : g.code < from = subst (λ y. y.code < from) (contains_one f g h) low in absurd (omega (arith, l, n))

-- one rule that is taken
finds_new : (from : ℕ) (best : Option Refusal) (f : Refusal) → from ≤ f.code →
    ((b : Refusal) → best ≡ Some b → is_before b f ≡ false) → Finds from best (f ∷ []) (Some f)
finds_new from best f asked after =
    record {
      origin = λ x e. inr (subst (λ y. Contains (f ∷ []) y × (from ≤ y.code)) (some_of e) (one_contains f, asked));
      first = λ x e g h n. subst (λ y. is_before y x ≡ false) (contains_one f g h) (subst (λ y. is_before f y ≡ false) (some_of e) (irrefl f));
      kept = λ x b e d. subst (λ y. is_before b y ≡ false) (some_of e) (after b d);
      fresh = λ e. cc;
      empty = λ e g h. cc;
    }

-- one rule that comes later
finds_old : (from : ℕ) (b f : Refusal) → is_before f b ≡ false → Finds from (Some b) (f ∷ []) (Some b)
finds_old from b f later =
    record {
      origin = λ x e. inl e;
      first = λ x e g h n. subst (λ y. is_before y x ≡ false) (contains_one f g h) (subst (λ y. is_before f y ≡ false) (some_of e) later);
      kept = λ x d e h. subst (λ y. is_before d y ≡ false) (some_of (sym h ∙ e)) (irrefl d);
      fresh = λ e. cc;
      empty = λ e g h. cc;
    }

finds_lesser : (from : ℕ) (best : Option Refusal) (f : Refusal) → from ≤ f.code → Finds from best (f ∷ []) (lesser f best)
finds_lesser from None f asked = finds_new from None f asked (λ b e. cc)
finds_lesser from (Some b) f asked = by (is_before f b) refl
  where
    by : (t : Bool) → is_before f b ≡ t → Finds from (Some b) (f ∷ []) (cond t (Some f) (Some b))
    by true h = finds_new from (Some b) f asked (λ d e. subst (λ y. is_before y f ≡ false) (some_of e) (asym f b h))
    by false h = finds_old from b f h

finds_one : (from : ℕ) (best : Option Refusal) (f : Refusal) → Finds from best (f ∷ []) (least_from from best (one f))
finds_one from best f = by (nat_le from f.code) refl
  where
    by : (t : Bool) → nat_le from f.code ≡ t → Finds from best (f ∷ []) (cond t (lesser f best) best)
    by true h = finds_lesser from best f (le_of from f.code h)
    by false h = finds_other from best f (lt_of from f.code h)

-- the rules of one part, and then those of another
finds_both : (from : ℕ) (best mid r : Option Refusal) (fs gs : List Refusal) → Finds from best fs mid → Finds from mid gs r → Finds from best (fs ++ gs) r
finds_both from best mid r fs gs left right =
    record {
      origin = λ f e. origin_of f (right.origin f e);
      first = λ f e g h n. first_of f e g n (Contains-append_cases fs gs g h);
      kept = λ f b e d. kept_of f b e d mid refl;
      fresh = λ e. left.fresh (right.fresh e);
      empty = λ e g h. empty_of e g (Contains-append_cases fs gs g h);
    }
  where
    from_left : (f : Refusal) → (best ≡ Some f) ⊎ (Contains fs f × (from ≤ f.code)) → (best ≡ Some f) ⊎ (Contains (fs ++ gs) f × (from ≤ f.code))
    from_left f (inl e) = inl e
    from_left f (inr h) = inr (Contains-append_left fs gs f h.0, h.1)

    origin_of : (f : Refusal) → (mid ≡ Some f) ⊎ (Contains gs f × (from ≤ f.code)) → (best ≡ Some f) ⊎ (Contains (fs ++ gs) f × (from ≤ f.code))
    origin_of f (inl e) = from_left f (left.origin f e)
    origin_of f (inr h) = inr (Contains-append_right fs gs f h.0, h.1)

    behind : (f : Refusal) → r ≡ Some f → (g : Refusal) → Contains fs g → from ≤ g.code → (m : Option Refusal) → mid ≡ m → is_before g f ≡ false
    behind f e g h n None is = absurd (contrary (left.empty is g h))
      where
        contrary : g.code < from → ⊥
        contrary low = absurd (omega (arith, low, n))
    behind f e g h n (Some b) is = trans f b g (right.kept f b e is) (left.first b is g h n)

    first_of : (f : Refusal) → r ≡ Some f → (g : Refusal) → from ≤ g.code → Contains fs g ⊎ Contains gs g → is_before g f ≡ false
    first_of f e g n (inl h) = behind f e g h n mid refl
    first_of f e g n (inr h) = right.first f e g h n

    kept_of : (f b : Refusal) → r ≡ Some f → best ≡ Some b → (m : Option Refusal) → mid ≡ m → is_before b f ≡ false
    kept_of f b e d None is = cc_of (sym (left.fresh is) ∙ d)
      where
        cc_of : ◌≡◌ {A = Option Refusal} None (Some b) → is_before b f ≡ false
        cc_of h = cc
    kept_of f b e d (Some m) is = trans f m b (right.kept f m e is) (left.kept m b is d)

    empty_of : r ≡ None → (g : Refusal) → Contains fs g ⊎ Contains gs g → g.code < from
    empty_of e g (inl h) = left.empty (right.fresh e) g h
    empty_of e g (inr h) = right.empty e g h

finds : (from : ℕ) (best : Option Refusal) (fs : Faults) → Finds from best (listed fs) (least_from from best fs)
finds from best none = finds_none from best
finds from best (one f) = finds_one from best f
finds from best (fs ⨾ gs) =
    finds_both from best (least_from from best fs) (least_from from (least_from from best fs) gs) (listed fs) (listed gs)
    (finds from best fs) (finds from (least_from from best fs) gs)

is_first_of : (from : ℕ) (fs : List Refusal) (r : Option Refusal) → Finds from None fs r → IsFirstOf from fs r
is_first_of from fs None h = h.empty refl
is_first_of from fs (Some f) h = by (h.origin f refl)
  where
    by : (◌≡◌ {A = Option Refusal} None (Some f)) ⊎ (Contains fs f × (from ≤ f.code)) → IsFirst from fs f
    by (inl e) = absurd (no e)
      where
        no : ◌≡◌ {A = Option Refusal} None (Some f) → ⊥
        no e = cc
    by (inr k) = record { among = k.0; asked = k.1; first = λ g. h.first f refl g }

-- the least that the walk finds is the first of the list
pub first_of_listed : (from : ℕ) (fs : Faults) → IsFirstOf from (listed fs) (least_from from None fs)
first_of_listed from fs = is_first_of from (listed fs) (least_from from None fs) (finds from None fs)
