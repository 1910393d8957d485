-- Numbers that are the same or not.
use Rattle.std.proofs.Common.{◌≡◌, ◌≢◌, ℕ, true, false, arith, ◌⊎◌, inl, inr}
use Rattle.std.specs.Prelude.{◌==◌}

pub data SameOrNot (n m : ℕ) : Type 0 where
  same : n ≡ m → SameOrNot n m
  other : n ≢ m → SameOrNot n m

either : (n m : ℕ) → (n ≡ m) ⊎ (n ≢ m)
either n m = grind arith

pub same_or_not : (n m : ℕ) → SameOrNot n m
same_or_not n m = elim (either n m) [ inl h ↦ same h | inr h ↦ other h ]

pub is_same : (n m : ℕ) → n ≡ m → (n == m) ≡ true
is_same n m h = grind arith

pub is_other : (n m : ℕ) → n ≢ m → (n == m) ≡ false
is_other n m h = grind arith
