-- What holds of each name in the scopes holds of what is in view.
use Rattle.std.proofs.Common.{◌≡◌, ℕ, Bool, true, false, ◌&&◌, cond, nat_lt, List, [], ◌∷◌, bytes_eq, Option, Some, None, option_map, refl}
use Rattle.std.specs.Option.{option_or}
use Rattle.pfc_tree.specs.Symbols.{Text}
use Rattle.pfc_types.specs.Faulty.{IsSimpleConstant, HoldSimpleConstants}
use Rattle.pfc_types.specs.Blocks.{Blocks, no_blocks}
use Rattle.pfc_types.specs.Types.{is_simple}
use Rattle.pfc_types.specs.Scopes.{Names, Level, meaning_in, scope_at, position_in, within, predeclared_names, found_in, meaning_of, look}
use Rattle.pfc_types.specs.declared.scope.Meaning.{Meaning}
use Rattle.pfc_types.specs.declared.scope.Meaning.TheVariants.{Constant, Named, Variable, Sub, Module, Process, Entry, Predeclared, Faulty}
use Rattle.pfc_types.proofs.Clean.{and-left, and-right}
use Rattle.pfc_types.proofs.Sound.{IsSound, AreSound, simple_of}

-- ## The predeclared names

-- no sub, and no constant but of a simple type
abbrev is_plain : Meaning → Bool
is_plain (Constant t v) = is_simple t
is_plain (Sub n) = false
is_plain m = true

abbrev all_plain : Names → Bool
all_plain [] = true
all_plain (e ∷ es) = is_plain e.1 && all_plain es

plain_found : (P : Option Meaning → Type 0) → P None → ((m : Meaning) → is_plain m ≡ true → P (Some m)) → (names : Names) →
    all_plain names ≡ true → (x : Text) → P (meaning_in names x)
plain_found P none some [] h x = none
plain_found P none some (e ∷ es) h x = by (bytes_eq x e.0) (plain_found P none some es (and-right (is_plain e.1) (all_plain es) h) x)
  where
    by : (b : Bool) → P (meaning_in es x) → P (cond b (Some e.1) (meaning_in es x))
    by true k = some e.1 (and-left (is_plain e.1) (all_plain es) h)
    by false k = k

plain_sound : (b : Blocks) (m : Meaning) → is_plain m ≡ true → IsSound b (Some m)
plain_sound b (Constant t v) h = h
plain_sound b (Named t) h = tt
plain_sound b (Variable t r) h = tt
plain_sound b (Sub n) h = cc
plain_sound b (Module n) h = tt
plain_sound b (Process n) h = tt
plain_sound b (Entry n) h = tt
plain_sound b (Predeclared k) h = tt
plain_sound b Faulty h = tt

-- ## What is in view

look_holds : (P : Option Meaning → Type 0) → P None → ((m : Meaning) → is_plain m ≡ true → P (Some m)) → (scopes : List Names) →
    ((i : ℕ) (x : Text) → P (meaning_in (scope_at scopes i) x)) → (view : List Level) (x : Text) → P (look scopes view x)
look_holds P none some scopes h [] x = by (meaning_in predeclared_names x) (plain_found P none some predeclared_names refl x)
  where
    by : (m : Option Meaning) → P m → P (meaning_of (option_map (λ y. record { scope = None; place = 0; meaning = y }) m))
    by None g = g
    by (Some y) g = g
look_holds P none some scopes h (level ∷ view) x = by (position_in (scope_at scopes level.scope) x) (meaning_in (scope_at scopes level.scope) x)
    (h level.scope x) (look_holds P none some scopes h view x)
  where
    by : (p : Option ℕ) (m : Option Meaning) → P m → P (look scopes view x) → P (meaning_of (option_or (within level p m) (found_in scopes view x)))
    by None m g outside = outside
    by (Some k) None g outside = outside
    by (Some k) (Some y) g outside = seen (nat_lt k level.count)
      where
        seen : (b : Bool) → P
            (meaning_of (option_or (cond b (Some (record { scope = Some level.scope; place = k; meaning = y })) None) (found_in scopes view x)))
        seen true = g
        seen false = outside

-- a constant in view is of a simple type
pub look_simple : (scopes : List Names) → HoldSimpleConstants scopes → (view : List Level) (x : Text) → IsSimpleConstant (look scopes view x)
look_simple scopes h view x = look_holds IsSimpleConstant tt (λ m p. simple_of no_blocks (Some m) (plain_sound no_blocks m p)) scopes h view x

pub look_sound : (b : Blocks) → AreSound b → (view : List Level) (x : Text) → IsSound b (look b.scopes view x)
look_sound b h view x = look_holds (IsSound b) tt (plain_sound b) b.scopes h view x
