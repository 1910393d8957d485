-- A sub that is named is declared in a scope in view.
use Rattle.std.proofs.Common.{◌≡◌, ℕ, ◌⊎◌, inl, inr, Bool, true, false, ◌&&◌, cond, nat_lt, if◌then◌else◌, List, [], ◌∷◌, bytes_eq, option_map, Option, Some}
use Rattle.std.proofs.Common.{None, refl, sym, ap, ◌∙◌, subst}
use Rattle.std.specs.Option.{option_or}
use Rattle.pfc_tree.specs.Symbols.{Text}
use Rattle.pfc_types.specs.Scopes.{Names, Level, all_names, meaning_in, scope_at, position_in, predeclared_names, within, found_in, meaning_of}
use Rattle.pfc_types.specs.declared.view.Found.{Found}
use Rattle.pfc_types.specs.declared.scope.Meaning.{Meaning}
use Rattle.pfc_types.specs.declared.scope.Meaning.TheVariants.{Sub, Module}
use Rattle.pfc_types.specs.Blocks.{State}
use Rattle.pfc_types.specs.rules.Expressions.{Env, find}
use Rattle.pfc_types.specs.rules.Statements.{within_accept}
use Rattle.pfc_semantics.specs.Programs.{Program}
use Rattle.pfc_guard_laws.specs.Tops.{Tops}
use Rattle.pfc_checked_guards.specs.Order.{InOrder, IsForParameters}
use Rattle.pfc_image_numbers.proofs.Rules.{and_left, and_right}

abbrev is_no_sub : Meaning → Bool
is_no_sub (Sub n) = false
is_no_sub m = true

abbrev are_no_subs : Names → Bool
are_no_subs [] = true
are_no_subs (e ∷ names) = is_no_sub e.1 && are_no_subs names

no_sub_found : (names : Names) → are_no_subs names ≡ true → (x : Text) (m : Meaning) → meaning_in names x ≡ Some m → is_no_sub m ≡ true
no_sub_found [] h x m e = absurd (cc)
no_sub_found (n ∷ names) h x m e = by (bytes_eq x n.0) e (λ k. no_sub_found names (and_right (is_no_sub n.1) (are_no_subs names) h) x m k)
  where
    by : (b : Bool) → cond b (Some n.1) (meaning_in names x) ≡ Some m → (meaning_in names x ≡ Some m → is_no_sub m ≡ true) → is_no_sub m ≡ true
    by true e k = let same : n.1 ≡ m = cc in ap is_no_sub (sym same) ∙ and_left (is_no_sub n.1) (are_no_subs names) h
    by false e k = k e

not_so : false ≡ true → ⊥
not_so e = cc

-- in one of these scopes the name stands for the sub
abbrev pub IsNamed : List Names → Text → ℕ → List Level → Type 0
IsNamed scopes x n [] = ⊥
IsNamed scopes x n (level ∷ view) = (meaning_in (scope_at scopes level.scope) x ≡ Some (Sub n)) ⊎ IsNamed scopes x n view

pub sub_named : (scopes : List Names) (view : List Level) (x : Text) (n : ℕ) → meaning_of (found_in scopes view x) ≡ Some (Sub n) → IsNamed scopes x n view
sub_named scopes [] x n e = by (meaning_in predeclared_names x) refl e
  where
    by : (o : Option Meaning) → meaning_in predeclared_names x ≡ o
        → meaning_of (option_map (λ m. let f : Found = record { scope = None; place = 0; meaning = m } in f) o) ≡ Some (Sub n) → ⊥
    by None h e = absurd (cc)
    by (Some m) h e =
        let same : m ≡ Sub n = cc in not_so (sym (ap is_no_sub same) ∙ no_sub_found predeclared_names refl x m h)
sub_named scopes (level ∷ view) x n e =
    by (position_in (scope_at scopes level.scope) x) (meaning_in (scope_at scopes level.scope) x) refl e (λ k. sub_named scopes view x n k)
  where
    by : (k : Option ℕ) (m : Option Meaning) → meaning_in (scope_at scopes level.scope) x ≡ m
        → meaning_of (option_or (within level k m) (found_in scopes view x)) ≡ Some (Sub n)
        → (meaning_of (found_in scopes view x) ≡ Some (Sub n) → IsNamed scopes x n view) → IsNamed scopes x n (level ∷ view)
    by None m h e rest = inr (rest e)
    by (Some k) None h e rest = inr (rest e)
    by (Some k) (Some m) h e rest = seen (nat_lt k level.count) e
      where
        seen : (b : Bool)
            → meaning_of (option_or (if b then Some (record { scope = Some level.scope; place = k; meaning = m }) else None) (found_in scopes view x))
            ≡ Some (Sub n)
            → IsNamed scopes x n (level ∷ view)
        seen true e = inl (h ∙ e)
        seen false e = inr (rest e)

-- what stands for no name of an accept's scope stands in view around it
pub behind_accept :
    (env : Env) (i : ℕ) (m : Meaning) → ((x : Text) → meaning_in (scope_at env.state.blocks.scopes i) x ≡ Some m → ⊥) → (x : Text)
    → meaning_of (find (within_accept env i) x) ≡ Some m → meaning_of (find env x) ≡ Some m
behind_accept env i m none x e = by (position_in (scope_at env.state.blocks.scopes i) x) (meaning_in (scope_at env.state.blocks.scopes i) x) refl e
  where
    own : Level
    own = all_names env.state.blocks.scopes i

    by : (k : Option ℕ) (o : Option Meaning) → meaning_in (scope_at env.state.blocks.scopes i) x ≡ o
        → meaning_of (option_or (within own k o) (find env x)) ≡ Some m → meaning_of (find env x) ≡ Some m
    by None o h e = e
    by (Some k) None h e = e
    by (Some k) (Some n) h e = seen (nat_lt k own.count) e
      where
        seen : (b : Bool)
            → meaning_of (option_or (if b then Some (record { scope = Some own.scope; place = k; meaning = n }) else None) (find env x)) ≡ Some m
            → meaning_of (find env x) ≡ Some m
        seen true e = absurd (none x (h ∙ e))
        seen false e = e

-- So names are in order in an accept where they are so around it.
pub within_order :
    (g : Program) (tops : Option Tops) (i : ℕ) (env : Env) (n : ℕ) → env.state ≡ g.state → InOrder g tops i env → IsForParameters g n
    → InOrder g tops i (within_accept env n)
within_order g tops i env n same order own =
    record {
      called = λ x k e.
          order.called x k
          (behind_accept env n (Sub k) (λ y h. own.subs y k (subst (λ (s : State). meaning_in (scope_at s.blocks.scopes n) y ≡ Some (Sub k)) same h)) x e);
      entered = λ x y j k e exported.
          order.entered x y j k
          (behind_accept env n (Module j)
          (λ z h. own.modules z j (subst (λ (s : State). meaning_in (scope_at s.blocks.scopes n) z ≡ Some (Module j)) same h)) x e)
          exported;
    }
