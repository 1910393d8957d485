-- Scopes that static links lead to, and their frames in a display.
use Rattle.std.proofs.Common.{◌≡◌, ◌≢◌, ℕ, zero, suc, ◌+◌, ◌<◌, ◌≤◌, Bool, true, false, not, ◌||◌, ◌&&◌, cond, if◌then◌else◌, List, [], ◌∷◌, map, length, drop}
use Rattle.std.proofs.Common.{slice_get, Some, None, refl, sym, ap, ◌∙◌, arith, ◌⊎◌, inl, inr}
use Rattle.std.specs.Prelude.{◌==◌, nat_lt, nat_le, position, unwrap_or}
use Rattle.std.specs.List.{list_any, position_or_len}
use Rattle.std.proofs.lemmas.Option.{slice_get_within}
use Rattle.pfc_types.specs.Blocks.{Blocks}
use Rattle.pfc_types.specs.Scopes.{Level}
use Rattle.pfc_semantics.specs.Displays.{Frame, Display, main_frame, frame_of, outward}
use Rattle.pfc_semantics.specs.Programs.{Block}
use Rattle.pfc_translation.specs.Sites.{is_mains, linked, is_accept}
use Rattle.pfc_call_laws.proofs.Places.{or_cases}

either : (n m : ℕ) → (n ≡ m) ⊎ (n ≢ m)
either n m = grind arith

pub is_same : (n m : ℕ) → n ≡ m → (n == m) ≡ true
is_same n m h = grind (arith, h)

pub is_other : (n m : ℕ) → n ≢ m → (n == m) ≡ false
is_other n m h = grind (arith, h)

pub same_of : (n m : ℕ) → (n == m) ≡ true → n ≡ m
same_of n m h = grind (arith, h)

some_same : {A : Type 0} (x y : A) → Some x ≡ Some y → x ≡ y
some_same x y h = cc

-- ## Scopes

-- the scopes that static links lead to are not main's
pub linked_not_mains : (blocks : Blocks) (view : List Level) (k i : ℕ) → slice_get (linked blocks view) k ≡ Some i → is_mains blocks i ≡ false
linked_not_mains blocks [] k i h = absurd (cc)
linked_not_mains blocks (level ∷ view) k i h = by (λ j there. linked_not_mains blocks view j i there) (is_mains blocks level.scope) refl
  where
    inside : ((j : ℕ) → slice_get (linked blocks view) j ≡ Some i → is_mains blocks i ≡ false) → (j : ℕ) → is_mains blocks level.scope ≡ false
        → slice_get (level.scope ∷ linked blocks view) j ≡ Some i → is_mains blocks i ≡ false
    inside further zero not_mains there = ap (is_mains blocks) (sym (some_same level.scope i there)) ∙ not_mains
    inside further (suc j) not_mains there = further j there

    by : ((j : ℕ) → slice_get (linked blocks view) j ≡ Some i → is_mains blocks i ≡ false) → (c : Bool) → is_mains blocks level.scope ≡ c
        → is_mains blocks i ≡ false
    by further true is = absurd (let there : slice_get [] k ≡ Some i = ap (λ (d : Bool). slice_get (if d then [] else level.scope ∷ linked blocks view) k)
        (sym is) ∙ h in cc)
    by further false is = inside further k is (ap (λ (d : Bool). slice_get (if d then [] else level.scope ∷ linked blocks view) k) (sym is) ∙ h)

pub any_at : (i : ℕ) (xs : List ℕ) → list_any (λ j. j == i) xs ≡ true → (k : ℕ) × (slice_get xs k ≡ Some i)
any_at i [] h = absurd (cc)
any_at i (x ∷ xs) h = elim (or_cases (x == i) (list_any (λ j. j == i) xs) h) [
  | inl e ↦ (zero, ap Some (same_of x i e))
  | inr e ↦
      (let there = any_at i xs e in (suc there.0, there.1))
]

pub at_any : (i : ℕ) (xs : List ℕ) (k : ℕ) → slice_get xs k ≡ Some i → list_any (λ j. j == i) xs ≡ true
at_any i [] k h = absurd (cc)
at_any i (x ∷ xs) zero h = ap (λ c. c || list_any (λ j. j == i) xs) (is_same x i (some_same x i h))
at_any i (x ∷ xs) (suc k) h = or_true (x == i) (at_any i xs k h)
  where
    or_true : (c : Bool) {d : Bool} → d ≡ true → (c || d) ≡ true
    or_true true e = refl
    or_true false e = e

-- ## Places

first_place : (xs : List ℕ) (k i : ℕ) → slice_get xs k ≡ Some i → ((j : ℕ) → slice_get xs j ≡ Some i → k ≤ j) → position_or_len (λ j. j == i) xs ≡ k
first_place [] k i there least = absurd (cc)
first_place (x ∷ xs) zero i there least = ap (λ c. if not c then 1 + position_or_len (λ j. j == i) xs else 0) (is_same x i (some_same x i there))
first_place (x ∷ xs) (suc k) i there least =
    ap (λ c. if not c then 1 + position_or_len (λ j. j == i) xs else 0) (is_other x i (λ e. later e))
    ∙ ap (λ n. 1 + n) (first_place xs k i there (λ j h. (let all : suc k ≤ suc j = least (suc j) h in omega (arith, all))))
    ∙ omega arith
  where
    later : x ≡ i → ⊥
    later e = (let all : suc k ≤ 0 = least 0 (ap Some e) in omega (arith, all))

pub place_of_scope : (xs : List ℕ) (k i : ℕ) → slice_get xs k ≡ Some i → ((j : ℕ) → slice_get xs j ≡ Some i → k ≤ j)
    → unwrap_or (position (λ j. j == i) xs) 0 ≡ k
place_of_scope xs k i there least =
    let is = first_place xs k i there least in
    ap (λ n. unwrap_or (cond (nat_lt n (length xs)) (Some n) None) 0) is
    ∙ ap (λ c. unwrap_or (cond c (Some k) None) 0) (less (slice_get_within xs k i there))
  where
    less : k < length xs → nat_lt k (length xs) ≡ true
    less h = grind (arith, h)

-- a scope that is none of them
no_first_place : (xs : List ℕ) (i : ℕ) → ((k : ℕ) → slice_get xs k ≡ Some i → ⊥) → position_or_len (λ j. j == i) xs ≡ length xs
no_first_place [] i none = refl
no_first_place (x ∷ xs) i none =
    ap (λ c. if not c then 1 + position_or_len (λ j. j == i) xs else 0) (is_other x i (λ e. none 0 (ap Some e)))
    ∙ ap (λ n. 1 + n) (no_first_place xs i (λ k h. none (suc k) h)) ∙ omega arith

pub no_place : (xs : List ℕ) (i : ℕ) → ((k : ℕ) → slice_get xs k ≡ Some i → ⊥) → unwrap_or (position (λ j. j == i) xs) 0 ≡ 0
no_place xs i none =
    ap (λ n. unwrap_or (cond (nat_lt n (length xs)) (Some n) None) 0) (no_first_place xs i none)
    ∙ ap (λ c. unwrap_or (cond c (Some (length xs)) None) 0) (not_less (length xs))
  where
    not_less : (n : ℕ) → nat_lt n n ≡ false
    not_less n = grind arith

-- ## Frames

abbrev pub scopes_in : Display → List ℕ
scopes_in display = map (λ (f : Frame). f.scope) display

module _ (i : ℕ) where
  -- a display without a frame of the scope
  pub no_frame : (display : Display) → ((j : ℕ) → slice_get (scopes_in display) j ≡ Some i → ⊥) → frame_of display i ≡ main_frame i
  no_frame [] none = refl
  no_frame (f ∷ display) none = ap (λ (c : Bool). if c then f else frame_of display i) (is_other f.scope i (λ e. none 0 (ap Some e)))
      ∙ no_frame display (λ j h. none (suc j) h)

  pub no_frame_outward : (o : ℕ) (display : Display) → ((j : ℕ) → slice_get (scopes_in display) j ≡ Some i → ⊥) → frame_of (outward display o) i ≡ main_frame i
  no_frame_outward o [] none = refl
  no_frame_outward o (f ∷ display) none = by (no_frame_outward o display (λ j h. none (suc j) h)) (f.scope == o) refl
    where
      by : frame_of (outward display o) i ≡ main_frame i → (c : Bool) → (f.scope == o) ≡ c
          → frame_of (if f.scope == o then f ∷ display else outward display o) i ≡ main_frame i
      by further true is = ap (λ (c : Bool). frame_of (if c then f ∷ display else outward display o) i) is ∙ no_frame (f ∷ display) none
      by further false is = ap (λ (c : Bool). frame_of (if c then f ∷ display else outward display o) i) is ∙ further

  -- frames of other scopes may be dropped
  pub frame_dropped : (display : Display) (l : ℕ) → ((j : ℕ) → j < l → slice_get (scopes_in display) j ≡ Some i → ⊥)
      → frame_of (drop l display) i ≡ frame_of display i
  frame_dropped display zero none = refl
  frame_dropped [] (suc l) none = refl
  frame_dropped (f ∷ display) (suc l) none =
      frame_dropped display l (λ j h there. none (suc j) (omega (arith, h)) there)
      ∙ sym (ap (λ (c : Bool). if c then f else frame_of display i) (is_other f.scope i (λ e. none 0 (omega arith) (ap Some e))))

  -- what is in view around a block that is declared in the scope
  pub outward_there : (display : Display) (l : ℕ) → slice_get (scopes_in display) l ≡ Some i
      → ((j : ℕ) → j < l → slice_get (scopes_in display) j ≡ Some i → ⊥) → outward display i ≡ drop l display
  outward_there [] l there none = absurd (cc)
  outward_there (f ∷ display) zero there none = ap (λ (c : Bool). if c then f ∷ display else outward display i) (is_same f.scope i (some_same f.scope i there))
  outward_there (f ∷ display) (suc l) there none =
      ap (λ (c : Bool). if c then f ∷ display else outward display i) (is_other f.scope i (λ e. none 0 (omega arith) (ap Some e)))
      ∙ outward_there display l there (λ j h x. none (suc j) (omega (arith, h)) x)

  pub outward_none : (display : Display) → ((j : ℕ) → slice_get (scopes_in display) j ≡ Some i → ⊥) → outward display i ≡ []
  outward_none [] none = refl
  outward_none (f ∷ display) none = ap (λ (c : Bool). if c then f ∷ display else outward display i) (is_other f.scope i (λ e. none 0 (ap Some e)))
      ∙ outward_none display (λ j h. none (suc j) h)

pub scopes_dropped : (l : ℕ) (display : Display) → scopes_in (drop l display) ≡ drop l (scopes_in display)
scopes_dropped zero display = refl
scopes_dropped (suc l) [] = refl
scopes_dropped (suc l) (f ∷ display) = scopes_dropped l display

-- ## Accepts

pub not_accept : (callee : Block) (i : ℕ) → callee.accepts ≡ 0 → is_accept callee i ≡ false
not_accept callee i none = outside callee.next callee.accepts none
  where
    outside : (n k : ℕ) → k ≡ 0 → (nat_le n i && nat_lt i (n + k)) ≡ false
    outside n k e = grind (arith, e)
