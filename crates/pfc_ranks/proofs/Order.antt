-- The order of delays.
use Rattle.std.proofs.Common.{◌≡◌, ◌≢◌, ◌<◌, ◌≤◌, ℤ, ◌≤ℤ◌, ◌==◌, ◌&&◌, ◌||◌, Bool, true, false, ◌⊎◌, inl, inr, nat_lt, arith, refl, sym, ap, ◌∙◌}
use Rattle.std.specs.Prelude.{int_lt}
use Rattle.std.specs.Ordering.{int_eq}
use Rattle.std.proofs.lemmas.Bool.{cases_order}
use Rattle.std.proofs.lemmas.Bool.Decides.{nat_tests}
use Rattle.std.proofs.lemmas.Int.{ints}
use Rattle.pfc_ranks.specs.declared.ranks.Delay.{Delay}
use Rattle.pfc_ranks.specs.Delays.{is_before}

-- what it is to come before another
pub data Before (a b : Delay) : Type 0 where
  lower : a.object < b.object → Before a b
  lesser : a.object ≡ b.object → int_lt a.rank b.rank ≡ true → Before a b
  sooner : a.object ≡ b.object → a.rank ≡ b.rank → a.ticket < b.ticket → Before a b

pub before-is : (a b : Delay) → is_before a b ≡ true → Before a b
before-is a b h =
    go (nat_lt a.object b.object) (a.object == b.object) (int_lt a.rank b.rank) (int_eq a.rank b.rank) (nat_lt a.ticket b.ticket) refl refl refl refl refl h
  where
    go : (x y z u v : Bool) → nat_lt a.object b.object ≡ x → (a.object == b.object) ≡ y → int_lt a.rank b.rank ≡ z →
        int_eq a.rank b.rank ≡ u → nat_lt a.ticket b.ticket ≡ v
        → (x || (y && (z || (u && v)))) ≡ true → Before a b
    go true y z u v e f g k l h = lower (grind (arith, nat_tests, e))
    go false true true u v e f g k l h = lesser (grind (arith, nat_tests, f)) g
    go false true false true true e f g k l h = sooner (grind (arith, nat_tests, f)) (grind (arith, ints, k)) (grind (arith, nat_tests, l))
    go false true false true false e f g k l h = cc
    go false true false false v e f g k l h = cc
    go false false z u v e f g k l h = cc

first-made : (x r : Bool) → x ≡ true → (x || r) ≡ true
first-made true r e = refl
first-made false r e = cc

second-made : (x y z r : Bool) → y ≡ true → z ≡ true → (x || (y && (z || r))) ≡ true
second-made true y z r e f = refl
second-made false true true r e f = refl
second-made false true false r e f = cc
second-made false false z r e f = cc

third-made : (x y z u v : Bool) → y ≡ true → u ≡ true → v ≡ true → (x || (y && (z || (u && v)))) ≡ true
third-made true y z u v e f g = refl
third-made false true true u v e f g = refl
third-made false true false true true e f g = refl
third-made false true false true false e f g = cc
third-made false true false false v e f g = cc
third-made false false z u v e f g = cc

pub before-made : (a b : Delay) → Before a b → is_before a b ≡ true
before-made a b (lower lt) = first-made (nat_lt a.object b.object) _ (grind (arith, nat_tests, lt))
before-made a b (lesser same less) =
    second-made (nat_lt a.object b.object) (a.object == b.object) (int_lt a.rank b.rank) _ (grind (arith, nat_tests, same)) less
before-made a b (sooner same level lt) =
    third-made (nat_lt a.object b.object) (a.object == b.object) (int_lt a.rank b.rank) (int_eq a.rank b.rank) (nat_lt a.ticket b.ticket)
    (grind (arith, nat_tests, same)) (grind (arith, ints, level)) (grind (arith, nat_tests, lt))

contrary : (A : Type 0) (b : Bool) → b ≡ true → b ≡ false → A
contrary A true h g = cc
contrary A false h g = cc

level-is : (r s : ℤ) → int_lt r s ≡ false → int_lt s r ≡ false → r ≡ s
level-is r s e f = grind (arith, ints)

-- of two delays with two tickets, one comes before the other
pub before-total : (a b : Delay) → a.ticket ≢ b.ticket → is_before a b ≡ false → is_before b a ≡ true
before-total a b apart h = by_objects (cases_order a.object b.object)
  where
    no : (A : Type 0) → Before a b → A
    no A is = contrary A (is_before a b) (before-made a b is) h

    by_tickets : a.object ≡ b.object → a.rank ≡ b.rank → (a.ticket ≡ b.ticket) ⊎ ((a.ticket < b.ticket) ⊎ (b.ticket < a.ticket)) → is_before b a ≡ true
    by_tickets same level (inl e) = absurd (apart e)
    by_tickets same level (inr (inl lt)) = no (is_before b a ≡ true) (sooner same level lt)
    by_tickets same level (inr (inr lt)) = before-made b a (sooner (sym same) (sym level) lt)

    by_ranks : a.object ≡ b.object → (x y : Bool) → int_lt a.rank b.rank ≡ x → int_lt b.rank a.rank ≡ y → is_before b a ≡ true
    by_ranks same true y e f = no (is_before b a ≡ true) (lesser same e)
    by_ranks same false true e f = before-made b a (lesser (sym same) f)
    by_ranks same false false e f = by_tickets same (level-is a.rank b.rank e f) (cases_order a.ticket b.ticket)

    by_objects : (a.object ≡ b.object) ⊎ ((a.object < b.object) ⊎ (b.object < a.object)) → is_before b a ≡ true
    by_objects (inl same) = by_ranks same (int_lt a.rank b.rank) (int_lt b.rank a.rank) refl refl
    by_objects (inr (inl lt)) = no (is_before b a ≡ true) (lower lt)
    by_objects (inr (inr lt)) = before-made b a (lower lt)

not-less : (A : Type 0) (r s : ℤ) → r ≡ s → int_lt r s ≡ true → A
not-less A r s e h = absurd (grind (arith, ints, e, h))

pub not-itself : (A : Type 0) (a b : Delay) → a ≡ b → is_before a b ≡ true → A
not-itself A a b e h = go (before-is a b h)
  where
    go : Before a b → A
    go (lower lt) = let same : a.object ≡ b.object = ap (λ v. v.object) e in absurd (omega (arith, lt, same))
    go (lesser same less) = not-less A a.rank b.rank (ap (λ v. v.rank) e) less
    go (sooner same level lt) = let equal : a.ticket ≡ b.ticket = ap (λ v. v.ticket) e in absurd (omega (arith, lt, equal))

-- who comes before another is delayed at no greater object
pub before-low : (a b : Delay) → is_before a b ≡ true → a.object ≤ b.object
before-low a b h = go (before-is a b h)
  where
    go : Before a b → a.object ≤ b.object
    go (lower lt) = omega (arith, lt)
    go (lesser same less) = omega (arith, same)
    go (sooner same level lt) = omega (arith, same)

below-is : (r s : ℤ) → int_lt r s ≡ true → r ≤ℤ s
below-is r s h = grind (arith, ints)

level-below : (r s : ℤ) → r ≡ s → r ≤ℤ s
level-below r s e = grind (arith, ints)

-- who comes before another at its object has no greater rank
pub before-rank : (a b : Delay) → is_before a b ≡ true → b.object ≡ a.object → a.rank ≤ℤ b.rank
before-rank a b h same = go (before-is a b h)
  where
    go : Before a b → a.rank ≤ℤ b.rank
    go (lower lt) = absurd (omega (arith, lt, same))
    go (lesser e less) = below-is a.rank b.rank less
    go (sooner e level lt) = level-below a.rank b.rank level

-- who comes before another with its rank has the lesser ticket
pub before-ticket : (a b : Delay) → is_before a b ≡ true → b.object ≡ a.object → b.rank ≡ a.rank → a.ticket ≤ b.ticket
before-ticket a b h same level = go (before-is a b h)
  where
    go : Before a b → a.ticket ≤ b.ticket
    go (lower lt) = absurd (omega (arith, lt, same))
    go (lesser e less) = not-less (a.ticket ≤ b.ticket) a.rank b.rank (sym level) less
    go (sooner e k lt) = omega (arith, lt)

less-trans : (r s t : ℤ) → int_lt r s ≡ true → int_lt s t ≡ true → int_lt r t ≡ true
less-trans r s t e f = grind (arith, ints)

-- who comes before one that comes before another comes before that one
pub before-trans : (a b c : Delay) → is_before a b ≡ true → is_before b c ≡ true → is_before a c ≡ true
before-trans a b c h g = before-made a c (go (before-is a b h) (before-is b c g))
  where
    go : Before a b → Before b c → Before a c
    go (lower lt) (lower lt') = lower (omega (arith, lt, lt'))
    go (lower lt) (lesser same less) = lower (omega (arith, lt, same))
    go (lower lt) (sooner same level before) = lower (omega (arith, lt, same))
    go (lesser same less) (lower lt) = lower (omega (arith, lt, same))
    go (lesser same less) (lesser same' less') = lesser (same ∙ same') (less-trans a.rank b.rank c.rank less less')
    go (lesser same less) (sooner same' level lt) = lesser (same ∙ same') (ap (λ v. int_lt a.rank v) (sym level) ∙ less)
    go (sooner same level lt) (lower lt') = lower (omega (arith, same, lt'))
    go (sooner same level lt) (lesser same' less) = lesser (same ∙ same') (ap (λ v. int_lt v c.rank) level ∙ less)
    go (sooner same level lt) (sooner same' level' lt') = sooner (same ∙ same') (level ∙ level') (omega (arith, lt, lt'))
