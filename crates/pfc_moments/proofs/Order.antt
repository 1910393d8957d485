-- The order of due moments.
use Rattle.std.proofs.Common.{◌≡◌, ◌≢◌, ◌<◌, ◌≤◌, ◌==◌, ◌&&◌, ◌||◌, Bool, true, false, ◌⊎◌, inl, inr, nat_lt, arith, refl, sym, ap, ◌∙◌}
use Rattle.std.proofs.lemmas.Bool.{cases_eq, cases_lt}
use Rattle.std.proofs.lemmas.Bool.Decides.{nat_tests}
use Rattle.pfc_moments.specs.declared.moments.Due.{Due}
use Rattle.pfc_moments.specs.Moments.{is_sooner}

-- what it is to come before another
pub sooner-is : (a b : Due) → is_sooner a b ≡ true → (a.moment < b.moment) ⊎ ((a.moment ≡ b.moment) × (a.process < b.process))
sooner-is a b h = go (nat_lt a.moment b.moment) (a.moment == b.moment) (nat_lt a.process b.process) refl refl refl h
  where
    go : (x y z : Bool) → nat_lt a.moment b.moment ≡ x → (a.moment == b.moment) ≡ y → nat_lt a.process b.process ≡ z → (x || (y && z)) ≡ true
        → (a.moment < b.moment) ⊎ ((a.moment ≡ b.moment) × (a.process < b.process))
    go true y z e f g h = inl (grind (arith, nat_tests, e))
    go false true true e f g h = inr (grind (arith, nat_tests, f), grind (arith, nat_tests, g))
    go false true false e f g h = cc
    go false false z e f g h = cc

pub sooner-made : (a b : Due) → (a.moment < b.moment) ⊎ ((a.moment ≡ b.moment) × (a.process < b.process)) → is_sooner a b ≡ true
sooner-made a b (inl lt) = let e : nat_lt a.moment b.moment ≡ true =
    grind (arith, nat_tests, lt) in ap (λ v. v || ((a.moment == b.moment) && nat_lt a.process b.process)) e
sooner-made a b (inr both) =
    let e : nat_lt a.moment b.moment ≡ false = grind (arith, nat_tests, both.0) in
    let f : (a.moment == b.moment) ≡ true = grind (arith, nat_tests, both.0) in
    let g : nat_lt a.process b.process ≡ true = grind (arith, nat_tests, both.1) in
    ap (λ v. v || ((a.moment == b.moment) && nat_lt a.process b.process)) e ∙ ap (λ v. v && nat_lt a.process b.process) f ∙ g

contrary : (A : Type 0) (b : Bool) → b ≡ true → b ≡ false → A
contrary A true h g = cc
contrary A false h g = cc

-- of two processes, one comes before the other
pub sooner-total : (a b : Due) → a.process ≢ b.process → is_sooner a b ≡ false → is_sooner b a ≡ true
sooner-total a b apart h =
    elim (cases_lt a.moment b.moment) [
      | inl lt ↦ contrary (is_sooner b a ≡ true) (is_sooner a b) (sooner-made a b (inl lt)) h
      | inr ge ↦ elim (cases_eq b.moment a.moment) [
        | inl same ↦ elim (cases_lt a.process b.process) [
          | inl lt ↦ contrary (is_sooner b a ≡ true) (is_sooner a b) (sooner-made a b (inr (sym same, lt))) h
          | inr le ↦ sooner-made b a (inr (same, omega (arith, le, apart)))
        ]
        | inr differs ↦ sooner-made b a (inl (omega (arith, ge, differs)))
      ]
    ]

pub not-itself : (A : Type 0) (a b : Due) → a ≡ b → is_sooner a b ≡ true → A
not-itself A a b e h =
    elim (sooner-is a b h) [
      | inl lt ↦ let same : a.moment ≡ b.moment = ap (λ v. v.moment) e in absurd (omega (arith, lt, same))
      | inr both ↦ let same : a.process ≡ b.process = ap (λ v. v.process) e in let lt : a.process < b.process = both.1 in absurd (omega (arith, lt, same))
    ]

-- who comes before another is due no later
pub sooner-early : (a b : Due) → is_sooner a b ≡ true → a.moment ≤ b.moment
sooner-early a b h =
    elim (sooner-is a b h) [
      | inl lt ↦ omega (arith, lt)
      | inr both ↦ let same : a.moment ≡ b.moment = both.0 in omega (arith, same)
    ]

-- who comes before one that comes before another comes before that one
pub sooner-trans : (a b c : Due) → is_sooner a b ≡ true → is_sooner b c ≡ true → is_sooner a c ≡ true
sooner-trans a b c h g =
    elim (sooner-is a b h) [
      | inl lt ↦ let le : b.moment ≤ c.moment = sooner-early b c g in sooner-made a c (inl (omega (arith, lt, le)))
      | inr both ↦ elim (sooner-is b c g) [
        | inl lt ↦ let same : a.moment ≡ b.moment = both.0 in sooner-made a c (inl (omega (arith, lt, same)))
        | inr more ↦
            let x : a.process < b.process = both.1 in
            let y : b.process < c.process = more.1 in
            sooner-made a c (inr (both.0 ∙ more.0, omega (arith, x, y)))
      ]
    ]
