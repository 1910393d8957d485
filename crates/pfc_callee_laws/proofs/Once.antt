-- Each scope has a name once: so what stands among its names is what is looked up.
use Rattle.std.proofs.Common.{◌≡◌, ◌≢◌, ℕ, zero, suc, ◌==◌, Bool, true, false, cond, [], ◌∷◌, ◌++◌, set, get_or-set_same, get_or-set_other, bytes_eq, Some}
use Rattle.std.proofs.Common.{None, refl, sym, ap, subst, arith}
use Rattle.std.specs.List.{All}
use Rattle.std.proofs.lemmas.Bool.Decides.{nat_tests}
use Rattle.std.proofs.lemmas.Slice.Eq.{bytes_eq-Decides}
use Rattle.std.proofs.lemmas.List.Elements.{All-nil, All-cons, All-append, All-weaker}
use Rattle.pfc_tree.specs.Symbols.{Text}
use Rattle.pfc_types.specs.Scopes.{Names, scope_at, meaning_in}
use Rattle.pfc_types.specs.Blocks.{State}
use Rattle.pfc_types.specs.declared.scope.Meaning.{Meaning}
use Rattle.pfc_name_laws.specs.Reached.{Reached, at_begin, noted, opened, named, a_sub, exported, a_module, a_process, an_entry, a_type, counted}
use Rattle.pfc_type_laws.proofs.WalkTypes.{scope_pushed}

-- each name stands for what is looked up
abbrev pub AreOnce : Names → Type 0
AreOnce names = All (λ (y : Text × Meaning). meaning_in names y.0 ≡ Some y.1) names

found_first : (names : Names) (x y : Text) (m n : Meaning) → meaning_in names y ≡ Some n → meaning_in (names ++ (x, m) ∷ []) y ≡ Some n
found_first [] x y m n e = absurd (cc)
found_first (z ∷ names) x y m n e = by (bytes_eq y z.0) e (λ q. found_first names x y m n q)
  where
    by : (r : Bool) → cond r (Some z.1) (meaning_in names y) ≡ Some n → (meaning_in names y ≡ Some n → meaning_in (names ++ (x, m) ∷ []) y ≡ Some n)
        → cond r (Some z.1) (meaning_in (names ++ (x, m) ∷ []) y) ≡ Some n
    by true q rest = q
    by false q rest = rest q

same_text : (x : Text) → bytes_eq x x ≡ true
same_text x = (bytes_eq-Decides x x).1 refl

found_last : (names : Names) (x : Text) (m : Meaning) → meaning_in names x ≡ None → meaning_in (names ++ (x, m) ∷ []) x ≡ Some m
found_last [] x m e = ap (λ (r : Bool). cond r (Some m) None) (same_text x)
found_last (z ∷ names) x m e = by (bytes_eq x z.0) e (λ q. found_last names x m q)
  where
    by : (r : Bool) → cond r (Some z.1) (meaning_in names x) ≡ None → (meaning_in names x ≡ None → meaning_in (names ++ (x, m) ∷ []) x ≡ Some m)
        → cond r (Some z.1) (meaning_in (names ++ (x, m) ∷ []) x) ≡ Some m
    by true q rest = absurd (cc)
    by false q rest = rest q

one_more : (names : Names) (x : Text) (m : Meaning) → meaning_in names x ≡ None → AreOnce names → AreOnce (names ++ (x, m) ∷ [])
one_more names x m fresh h =
    let more = names ++ (x, m) ∷ [] in
    All-append (λ (y : Text × Meaning). meaning_in more y.0 ≡ Some y.1) names ((x, m) ∷ [])
    (All-weaker (λ (y : Text × Meaning). meaning_in names y.0 ≡ Some y.1) (λ (y : Text × Meaning). meaning_in more y.0 ≡ Some y.1)
    (λ y e. found_first names x y.0 m y.1 e) names h)
    (All-cons (λ (y : Text × Meaning). meaning_in more y.0 ≡ Some y.1) (x, m) [] (found_last names x m fresh)
    (All-nil (λ (y : Text × Meaning). meaning_in more y.0 ≡ Some y.1)))

none_named : AreOnce []
none_named = All-nil (λ (y : Text × Meaning). meaning_in [] y.0 ≡ Some y.1)

pub names_once : (s : State) → Reached s → (i : ℕ) → AreOnce (scope_at s.blocks.scopes i)
names_once s at_begin zero = none_named
names_once s at_begin (suc i) = none_named
names_once s (noted {s = r} f p) i = names_once r p i
names_once s (opened {s = r} p) i = scope_pushed r.blocks.scopes i AreOnce (names_once r p i) none_named
names_once s (named {s = r} k x m p below fresh is) i = by (i == k) refl (λ j. names_once r p j)
  where
    more : Names
    more = scope_at r.blocks.scopes k ++ (x, m) ∷ []

    equal_of : (j : ℕ) → (j == k) ≡ true → j ≡ k
    equal_of j h = grind (arith, nat_tests)

    other_of : (j n : ℕ) → (j == n) ≡ false → j ≢ n
    other_of j n h e = let same : (n == n) ≡ false = subst (λ (z : ℕ). (z == n) ≡ false) e h in absurd (grind (arith, nat_tests))

    by : (q : Bool) → (i == k) ≡ q → ((j : ℕ) → AreOnce (scope_at r.blocks.scopes j)) → AreOnce (scope_at (set r.blocks.scopes k more) i)
    by true e before =
        subst (λ (j : ℕ). AreOnce (scope_at (set r.blocks.scopes k more) j)) (sym (equal_of i e))
        (subst AreOnce (sym (get_or-set_same r.blocks.scopes k more [] below)) (one_more (scope_at r.blocks.scopes k) x m fresh (before k)))
    by false e before = subst AreOnce (sym (get_or-set_other r.blocks.scopes k i more [] (other_of i k e))) (before i)
names_once s (a_sub {s = r} head p is) i = names_once r p i
names_once s (exported {s = r} n p plain) i = names_once r p i
names_once s (a_module {s = r} head p below) i = names_once r p i
names_once s (a_process {s = r} head p is) i = names_once r p i
names_once s (an_entry {s = r} formals p some typed) i = names_once r p i
names_once s (a_type {s = r} form p fits is) i = names_once r p i
names_once s (counted {s = r} n p) i = names_once r p i
