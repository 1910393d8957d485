-- The frames of the accepts of a process.
use Rattle.std.proofs.Common.{◌≡◌, ◌≢◌, ℕ, zero, suc, ◌+◌, ◌<◌, Bool, true, false, ◌&&◌, if◌then◌else◌, length, slice_get, Some, refl, ap, ◌∙◌, arith}
use Rattle.std.specs.Prelude.{nat_lt, nat_le}
use Rattle.pfc_types.specs.Scopes.{scope_at}
use Rattle.pfc_types.specs.Blocks.{Blocks}
use Rattle.pfc_semantics.specs.Layouts.{laid_names}
use Rattle.pfc_semantics.specs.Displays.{main_frame, frame_of, accept_frames}
use Rattle.pfc_semantics.specs.Programs.{Block}
use Rattle.pfc_translation.specs.Sites.{is_accept}
use Rattle.pfc_call_laws.proofs.Displays.{is_other, scopes_in}

some_same : {A : Type 0} (x y : A) → Some x ≡ Some y → x ≡ y
some_same x y h = cc

module _ (blocks : Blocks) (a : ℕ) where
  -- scopes that are none of so many from the first on have no frame there
  frame_outside : (n i : ℕ) (first j : ℕ) → ((k : ℕ) → k < n → i + k ≢ j) → frame_of (accept_frames blocks a n i first) j ≡ main_frame j
  frame_outside zero i first j none = refl
  frame_outside (suc n) i first j none =
      ap (λ (c : Bool). if c then record { scope = i; activation = a; first = first } else frame_of
      (accept_frames blocks a n (i + 1) (first + length (laid_names (scope_at blocks.scopes i)))) j) (is_other i j apart)
      ∙ frame_outside n (i + 1) (first + length (laid_names (scope_at blocks.scopes i))) j (λ k h. further k h)
    where
      apart : i ≢ j
      apart e = none 0 (omega arith) (omega (arith, e))

      further : (k : ℕ) → k < n → (i + 1) + k ≢ j
      further k h e = none (suc k) (omega (arith, h)) (omega (arith, e))

  -- each of them is one of so many
  scope_inside : (n i first k j : ℕ) → slice_get (scopes_in (accept_frames blocks a n i first)) k ≡ Some j → (k < n) × (j ≡ i + k)
  scope_inside zero i first k j h = absurd (cc)
  scope_inside (suc n) i first zero j h = (let same : i ≡ j = some_same i j h in (omega arith, omega (arith, same)))
  scope_inside (suc n) i first (suc k) j h =
      let inner = scope_inside n (i + 1) (first + length (laid_names (scope_at blocks.scopes i))) k j h in
      let few : k < n = inner.0 in
      let is : j ≡ (i + 1) + k = inner.1 in
      (omega (arith, few), omega (arith, is))

  pub frame_of_other : (callee : Block) (first j : ℕ) → is_accept callee j ≡ false → frame_of
      (accept_frames blocks a callee.accepts callee.next first) j ≡ main_frame j
  frame_of_other callee first j none = frame_outside callee.accepts callee.next first j (λ k h e. no callee.next callee.accepts k h e none)
    where
      no : (next accepts k : ℕ) → k < accepts → next + k ≡ j → (nat_le next j && nat_lt j (next + accepts)) ≡ false → ⊥
      no next accepts k h e outside = grind (arith, h, e, outside)

  pub accept_of_scope : (callee : Block) (first k j : ℕ) → slice_get (scopes_in (accept_frames blocks a callee.accepts callee.next first)) k ≡ Some j
      → is_accept callee j ≡ true
  accept_of_scope callee first k j h = (let is = scope_inside callee.accepts callee.next first k j h in yes callee.next callee.accepts is.0 is.1)
    where
      yes : (next accepts : ℕ) → k < accepts → j ≡ next + k → (nat_le next j && nat_lt j (next + accepts)) ≡ true
      yes next accepts h e = grind (arith, h, e)
