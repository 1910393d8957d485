-- What a name stands for is sound: a constant is of a simple type, and a sub is one whose heading is whole.
use Rattle.std.proofs.Common.{◌≡◌, ◌≢◌, ℕ, ◌<◌, ◌≤◌, Bool, true, false, not, ◌==◌, cond, [], ◌∷◌, ◌++◌, length, get_or, bytes_eq, Option, Some, None, refl, sym}
use Rattle.std.proofs.Common.{ap, ◌∙◌, subst, arith, length-append, length-set, get_or-set_same, get_or-set_other}
use Rattle.std.proofs.Math.ListN.{get_or-append}
use Rattle.std.proofs.lemmas.Bool.Decides.{nat_tests}
use Rattle.pfc_tree.specs.Symbols.{Text}
use Rattle.pfc_types.specs.Types.{is_simple}
use Rattle.pfc_types.specs.Faulty.{IsSimpleConstant, HoldSimpleConstants}
use Rattle.pfc_types.specs.Scopes.{Names, meaning_in, scope_at, meaning_of}
use Rattle.pfc_types.specs.Blocks.{Blocks, sub_at, no_sub, with_sub, with_export}
use Rattle.pfc_types.specs.declared.scope.Meaning.{Meaning}
use Rattle.pfc_types.specs.declared.scope.Meaning.TheVariants.{Constant, Named, Variable, Sub, Module, Process, Entry, Predeclared, Faulty}
use Rattle.pfc_types.specs.declared.view.Found.{Found}
use Rattle.pfc_types.specs.declared.heads.SubHead.{SubHead}
use Rattle.pfc_types.specs.rules.FaultyNames.{is_whole_head, is_faulty, is_faulty_found, stands_faulty}

-- what a name stands for, where it is declared
abbrev pub IsSound : Blocks → Option Meaning → Type 0
IsSound b (Some (Constant t v)) = is_simple t ≡ true
IsSound b (Some (Sub n)) = (n < length b.subs) × (is_whole_head (sub_at b n) ≡ true)
IsSound b m = Unit {0}

abbrev pub AreSound : Blocks → Type 0
AreSound b = (i : ℕ) (x : Text) → IsSound b (meaning_in (scope_at b.scopes i) x)

-- ## Subs

-- subs are added behind the others, whose headings stay
pub record SubsGrown (b c : Blocks) : Type 0 where
  pub count : length b.subs ≤ length c.subs
  pub same : (n : ℕ) → n < length b.subs → is_whole_head (sub_at c n) ≡ is_whole_head (sub_at b n)

pub subs_same : (b c : Blocks) → c.subs ≡ b.subs → SubsGrown b c
subs_same b c e = record { count = omega (arith, ap length e); same = λ n h. ap (λ l. is_whole_head (get_or l n no_sub)) e }

pub subs_trans : {a b c : Blocks} → SubsGrown a b → SubsGrown b c → SubsGrown a c
subs_trans h k = record { count = omega (arith, h.count, k.count); same = λ n b. k.same n (omega (arith, b, h.count)) ∙ h.same n b }

pub subs_push : (b : Blocks) (head : SubHead) → SubsGrown b (with_sub b head)
subs_push b head = record {
  count = omega (arith, length-append b.subs (head ∷ []));
  same =
      λ n h. ap is_whole_head (get_or-append b.subs (head ∷ []) no_sub n h);
}

pub subs_export : (b : Blocks) (n : ℕ) → SubsGrown b (with_export b n)
subs_export b n = record { count = omega (arith, length-set b.subs n (record (sub_at b n) { exported = true })); same = λ k h. by (k == n) k refl h }
  where
    eq_of : (k : ℕ) → (k == n) ≡ true → k ≡ n
    eq_of k h = grind (arith, nat_tests)

    ne_of : (k : ℕ) → (k == n) ≡ false → k ≢ n
    ne_of k h e = no (sym (same k) ∙ ap (λ m. k == m) e ∙ h)
      where
        same : (m : ℕ) → (m == m) ≡ true
        same m = grind (arith, nat_tests)

        no : true ≡ false → ⊥
        no x = cc

    by : (t : Bool) (k : ℕ) → (k == n) ≡ t → k < length b.subs → is_whole_head (sub_at (with_export b n) k) ≡ is_whole_head (sub_at b k)
    by true k e h = ap (λ m. is_whole_head (sub_at (with_export b n) m)) (eq_of k e) ∙
        ap is_whole_head (get_or-set_same b.subs n (record (sub_at b n) { exported = true }) no_sub (subst (λ m. m < length b.subs) (eq_of k e) h)) ∙
        ap (λ m. is_whole_head (sub_at b m)) (sym (eq_of k e))
    by false k e h = ap is_whole_head (get_or-set_other b.subs n k (record (sub_at b n) { exported = true }) no_sub (ne_of k e))

pub sound_grown : {b c : Blocks} → SubsGrown b c → (m : Option Meaning) → IsSound b m → IsSound c m
sound_grown g None h = tt
sound_grown g (Some (Constant t v)) h = h
sound_grown g (Some (Named t)) h = tt
sound_grown g (Some (Variable t r)) h = tt
sound_grown g (Some (Sub n)) h = (omega (arith, h.0, g.count), g.same n h.0 ∙ h.1)
sound_grown g (Some (Module n)) h = tt
sound_grown g (Some (Process n)) h = tt
sound_grown g (Some (Entry n)) h = tt
sound_grown g (Some (Predeclared k)) h = tt
sound_grown g (Some Faulty) h = tt

-- ## Names

-- one name more
pub sound_push : (b : Blocks) (names : Names) (x y : Text) (m : Meaning) → IsSound b (meaning_in names y) → IsSound b (Some m) →
    IsSound b (meaning_in (names ++ (x, m) ∷ []) y)
sound_push b [] x y m h g = by (bytes_eq y x)
  where
    by : (t : Bool) → IsSound b (cond t (Some m) None)
    by true = g
    by false = tt
sound_push b (e ∷ es) x y m h g = by (bytes_eq y e.0) h (λ k. sound_push b es x y m k g)
  where
    by : (t : Bool) → IsSound b (cond t (Some e.1) (meaning_in es y)) → (IsSound b (meaning_in es y) → IsSound b (meaning_in (es ++ (x, m) ∷ []) y)) →
        IsSound b (cond t (Some e.1) (meaning_in (es ++ (x, m) ∷ []) y))
    by true k others = k
    by false k others = others k

pub simple_of : (b : Blocks) (m : Option Meaning) → IsSound b m → IsSimpleConstant m
simple_of b None h = tt
simple_of b (Some (Constant t v)) h = h
simple_of b (Some (Named t)) h = tt
simple_of b (Some (Variable t r)) h = tt
simple_of b (Some (Sub n)) h = tt
simple_of b (Some (Module n)) h = tt
simple_of b (Some (Process n)) h = tt
simple_of b (Some (Entry n)) h = tt
simple_of b (Some (Predeclared k)) h = tt
simple_of b (Some Faulty) h = tt

pub sound_simple : (b : Blocks) → AreSound b → HoldSimpleConstants b.scopes
sound_simple b h i x = simple_of b (meaning_in (scope_at b.scopes i) x) (h i x)

-- a name is faulty exactly where it stands for nothing that is known
pub sound_faulty : (b : Blocks) (found : Option Found) → IsSound b (meaning_of found) → is_faulty_found b found ≡ stands_faulty (meaning_of found)
sound_faulty b None h = refl
sound_faulty b (Some f) h = at f.meaning h
  where
    at : (m : Meaning) → IsSound b (Some m) → is_faulty b m ≡ stands_faulty (Some m)
    at (Constant t v) h = refl
    at (Named t) h = refl
    at (Variable t r) h = refl
    at (Sub n) h = ap not h.1
    at (Module n) h = refl
    at (Process n) h = refl
    at (Entry n) h = refl
    at (Predeclared k) h = refl
    at Faulty h = refl
