-- Blocks by their scopes: whatever has a guard is found by its scope.
use Rattle.std.proofs.Common.{◌≡◌, ℕ, suc, ◌+◌, Bool, true, false, not, cond, if◌then◌else◌, List, [], ◌∷◌, length, Some, None, refl, ap, sym, ◌∙◌, arith}
use Rattle.std.proofs.lemmas.Bool.Decides.{nat_tests}
use Rattle.std.specs.Prelude.{◌==◌, nat_lt, unwrap_or, slice_get}
use Rattle.std.specs.List.{AllByRecursion, position_or_len}
use Rattle.pfc_semantics.specs.Programs.{Block, Guard, Program, found_block, block_at, block_number}

number_equal : (m n : ℕ) → (m == n) ≡ true → m ≡ n
number_equal m n e = grind (arith, nat_tests)

no_guard : (guard : Guard) → None ≡ Some guard → ⊥
no_guard guard e = cc

module _ (i : ℕ) (other : Block) (none : other.guard ≡ None) where
  abbrev pub place : List Block → ℕ
  place bs = position_or_len (λ (b : Block). b.scope == i) bs

  pub record IsFound (bs : List Block) (at : ℕ) (b : Block) : Type 0 where
    pub among : nat_lt at (length bs) ≡ true
    pub there : slice_get bs at ≡ Some b
    pub own : b.scope ≡ i

  next_lt : (m n : ℕ) → nat_lt m n ≡ true → nat_lt (1 + m) (suc n) ≡ true
  next_lt m n e = grind (arith, nat_tests)

  first_lt : (n : ℕ) → nat_lt 0 (suc n) ≡ true
  first_lt n = grind (arith, nat_tests)

  one_more : (n : ℕ) → 1 + n ≡ suc n
  one_more n = omega (arith)

  pub found : (bs : List Block) (guard : Guard) → (found_block bs i other).guard ≡ Some guard → IsFound bs (place bs) (found_block bs i other)
  found [] guard e = absurd (no_guard guard (sym none ∙ e))
  found (b ∷ bs) guard e = by (b.scope == i) refl (found bs guard) e
    where
      by : (t : Bool) → (b.scope == i) ≡ t
          → ((found_block bs i other).guard ≡ Some guard → IsFound bs (place bs) (found_block bs i other))
          → (if t then b else found_block bs i other).guard ≡ Some guard
          → IsFound (b ∷ bs) (cond (not t) (1 + place bs) 0) (if t then b else found_block bs i other)
      by true same rest h = record { among = first_lt (length bs); there = refl; own = number_equal b.scope i same }
      by false same rest h =
          let later = rest h in
          record {
            among = next_lt (place bs) (length bs) later.among;
            there = ap (λ (k : ℕ). slice_get (b ∷ bs) k) (one_more (place bs)) ∙ later.there;
            own = later.own;
          }

  numbered : (bs : List Block) → nat_lt (place bs) (length bs) ≡ true
      → unwrap_or (cond (nat_lt (place bs) (length bs)) (Some (place bs)) None) 0 ≡ place bs
  numbered bs e = ap (λ (r : Bool). unwrap_or (cond r (Some (place bs)) None) 0) e

  pub found_at : (bs : List Block) (guard : Guard) → (found_block bs i other).guard ≡ Some guard
      → slice_get bs (unwrap_or (cond (nat_lt (place bs) (length bs)) (Some (place bs)) None) 0) ≡ Some (found_block bs i other)
  found_at bs guard e =
      let is = found bs guard e in ap (λ (k : ℕ). slice_get bs k) (numbered bs is.among) ∙ is.there

  pub found_own : (bs : List Block) (guard : Guard) → (found_block bs i other).guard ≡ Some guard → (found_block bs i other).scope ≡ i
  found_own bs guard e = (found bs guard e).own

-- the block of a scope, where it has a guard, is the one with its number
pub guarded_there :
    (g : Program) (scope : ℕ) (guard : Guard) → g.main.guard ≡ None → (block_at g scope).guard ≡ Some guard
    → slice_get g.blocks (block_number g (block_at g scope).scope) ≡ Some (block_at g scope)
guarded_there g scope guard none e =
    ap (λ (i : ℕ). slice_get g.blocks (block_number g i)) (found_own scope g.main none g.blocks guard e) ∙ found_at scope g.main none g.blocks guard e

-- what is so of each block is so of the one that is found
pub found_suits :
    (P : Block → Type 0) (bs : List Block) (i : ℕ) (other : Block) → AllByRecursion P bs → P other → P (found_block bs i other)
found_suits P [] i other all one = one
found_suits P (b ∷ bs) i other all one = by (b.scope == i) (found_suits P bs i other all.1 one)
  where
    by : (t : Bool) → P (found_block bs i other) → P (if t then b else found_block bs i other)
    by true later = all.0
    by false later = later
