-- Where a name that is found stands.
use Rattle.std.proofs.Common.{◌≡◌, ℕ, ◌≤◌, ◌⊎◌, inl, inr, Bool, true, false, cond, nat_lt, if◌then◌else◌, List, [], ◌∷◌, bytes_eq, option_map, Option, Some}
use Rattle.std.proofs.Common.{None, refl, sym, ap, ◌∙◌, subst, arith}
use Rattle.std.proofs.lemmas.Bool.Decides.{nat_tests}
use Rattle.std.specs.Option.{option_or}
use Rattle.std.specs.List.{AllByRecursion}
use Rattle.pfc_tree.specs.Symbols.{Text}
use Rattle.pfc_types.specs.Scopes.{Names, Level, meaning_in, scope_at, position_in, predeclared_names, within, found_at, found_in, meaning_of}
use Rattle.pfc_types.specs.declared.view.Found.{Found}
use Rattle.pfc_types.specs.declared.scope.Meaning.{Meaning}
use Rattle.pfc_types.specs.declared.scope.Meaning.TheVariants.{Sub, Module}
use Rattle.pfc_types.specs.rules.Bodies.{level}

abbrev pub is_declared : Meaning → Bool
is_declared (Sub n) = true
is_declared (Module n) = true
is_declared m = false

abbrev none_declared : Names → Bool
none_declared [] = true
none_declared (e ∷ names) = cond (is_declared e.1) false (none_declared names)

false_true : false ≡ true → ⊥
false_true e = cc

not_found : (names : Names) → none_declared names ≡ true → (x : Text) (m : Meaning) → is_declared m ≡ true → meaning_in names x ≡ Some m → ⊥
not_found [] h x m d e = absurd (cc)
not_found (n ∷ names) h x m d e =
    by (is_declared n.1) refl h (bytes_eq x n.0) e (λ rest k. not_found names rest x m d k)
  where
    by : (r : Bool) → is_declared n.1 ≡ r → cond r false (none_declared names) ≡ true → (b : Bool) → cond b (Some n.1) (meaning_in names x) ≡ Some m
        → (none_declared names ≡ true → meaning_in names x ≡ Some m → ⊥) → ⊥
    by true own h b e rest = false_true h
    by false own h true e rest = (let same : n.1 ≡ m = cc in false_true (sym own ∙ ap is_declared same ∙ d))
    by false own h false e rest = rest h e

abbrev IsNamedAt : List Names → Text → Meaning → List Level → Type 0
IsNamedAt scopes x m [] = ⊥
IsNamedAt scopes x m (l ∷ view) = (meaning_of (found_at scopes l x) ≡ Some m) ⊎ IsNamedAt scopes x m view

named_at : (scopes : List Names) (view : List Level) (x : Text) (m : Meaning) → is_declared m ≡ true → meaning_of (found_in scopes view x) ≡ Some m
    → IsNamedAt scopes x m view
named_at scopes [] x m d e = by (meaning_in predeclared_names x) refl e
  where
    by : (o : Option Meaning) → meaning_in predeclared_names x ≡ o
        → meaning_of (option_map (λ n. let f : Found = record { scope = None; place = 0; meaning = n } in f) o) ≡ Some m → ⊥
    by None h e = absurd (cc)
    by (Some n) h e = not_found predeclared_names refl x m d (h ∙ e)
named_at scopes (l ∷ view) x m d e = by (found_at scopes l x) refl e (λ h. named_at scopes view x m d h)
  where
    by : (o : Option Found) → found_at scopes l x ≡ o → meaning_of (option_or o (found_in scopes view x)) ≡ Some m
        → (meaning_of (found_in scopes view x) ≡ Some m → IsNamedAt scopes x m view) → IsNamedAt scopes x m (l ∷ view)
    by None at h rest = inr (rest h)
    by (Some f) at h rest = inl (ap (λ (o : Option Found). meaning_of o) at ∙ h)

-- the level in which it is found
pub record IsFoundIn (P : Level → Type 0) (scopes : List Names) (x : Text) (m : Meaning) : Type 0 where
  pub at : Level
  pub is : P at
  pub found : meaning_of (found_at scopes at x) ≡ Some m

in_view : (P : Level → Type 0) (scopes : List Names) (x : Text) (m : Meaning) (view : List Level) → AllByRecursion P view → IsNamedAt scopes x m view
    → IsFoundIn P scopes x m
in_view P scopes x m [] all named = absurd named
in_view P scopes x m (l ∷ view) all (inl here) = record { at = l; is = all.0; found = here }
in_view P scopes x m (l ∷ view) all (inr later) = in_view P scopes x m view all.1 later

pub found_level :
    (P : Level → Type 0) (scopes : List Names) (view : List Level) (x : Text) (m : Meaning) → AllByRecursion P view → is_declared m ≡ true
    → meaning_of (found_in scopes view x) ≡ Some m → IsFoundIn P scopes x m
found_level P scopes view x m all d e = in_view P scopes x m view all (named_at scopes view x m d e)

pub found_meaning : (l : Level) (p : Option ℕ) (o : Option Meaning) (m : Meaning) → meaning_of (within l p o) ≡ Some m → o ≡ Some m
found_meaning l None o m e = absurd (cc)
found_meaning l (Some k) None m e = absurd (cc)
found_meaning l (Some k) (Some n) m e = by (nat_lt k l.count) e
  where
    by : (b : Bool) → meaning_of (if b then Some (record { scope = Some l.scope; place = k; meaning = n }) else None) ≡ Some m → Some n ≡ Some m
    by true h = h
    by false h = absurd (cc)

-- where more names count it is found too
more_counted : (l : Level) (n : ℕ) → l.count ≤ n → (p : Option ℕ) (o : Option Meaning) (m : Meaning) → meaning_of (within l p o) ≡ Some m
    → meaning_of (within (level 0 n) p o) ≡ Some m
more_counted l n few None o m e = absurd (cc)
more_counted l n few (Some k) None m e = absurd (cc)
more_counted l n few (Some k) (Some y) m e = by (nat_lt k l.count) refl e
  where
    by : (b : Bool) → nat_lt k l.count ≡ b
        → meaning_of (if b then Some (record { scope = Some l.scope; place = k; meaning = y }) else None) ≡ Some m
        → meaning_of (within (level 0 n) (Some k) (Some y)) ≡ Some m
    by true low h =
        let below : nat_lt k n ≡ true = grind (arith, nat_tests, low, few) in
        ap (λ (b : Bool). meaning_of (if b then Some (record { scope = Some 0; place = k; meaning = y }) else None)) below ∙ h
    by false low h = absurd (cc)

pub found_further : (scopes : List Names) (l : Level) (n : ℕ) (x : Text) (m : Meaning) → l.scope ≡ 0 → l.count ≤ n
    → meaning_of (found_at scopes l x) ≡ Some m → meaning_of (found_at scopes (level 0 n) x) ≡ Some m
found_further scopes l n x m zero few e =
    subst (λ (i : ℕ). meaning_of (within (level 0 n) (position_in (scope_at scopes i) x) (meaning_in (scope_at scopes i) x)) ≡ Some m) zero
    (more_counted l n few (position_in (scope_at scopes l.scope) x) (meaning_in (scope_at scopes l.scope) x) m e)
