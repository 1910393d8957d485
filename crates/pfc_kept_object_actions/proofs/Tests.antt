-- Numbers that are the same or not, and a test that came to nothing.
use Rattle.std.proofs.Common.{◌≡◌, ◌≢◌, ℕ, ◌==◌, true, false, arith, ◌⊎◌}

pub either : (q p : ℕ) → (q ≡ p) ⊎ (q ≢ p)
either q p = grind arith

pub same_numbers : (n k : ℕ) → n ≡ k → (n == k) ≡ true
same_numbers n k h = grind (arith, h)

pub numbers_same : (n k : ℕ) → (n == k) ≡ true → n ≡ k
numbers_same n k h = grind (arith, h)

pub untrue : (A : Type 0) → false ≡ true → A
untrue A h = cc
