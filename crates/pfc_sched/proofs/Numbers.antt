-- The digits of an item.
use Rattle.std.proofs.Math.Seq.{drop-cons}
use Rattle.std.proofs.Common.{◌≡◌, ℕ, suc, length, drop, get_or, sym, ◌+◌, ◌*◌, ◌-◌, ◌≤◌, ◌<◌, nat_le, Bool, true, false, ◌&&◌, cond, List, [], ◌∷◌}
use Rattle.std.proofs.Common.{Some, None, refl, arith}
use Rattle.std.specs.List.{list_all}
use Rattle.std.specs.Char.{is_ascii_digit, digit_value}
use Rattle.std.specs.Str.Parse.{digits_value_after}
use Rattle.std.proofs.lemmas.Bool.Decides.{nat_tests}
use Rattle.pfc_sched.specs.Digits.{number_behind}

-- digits behind a value do not lessen it
grows : (v : ℕ) (bs : List ℕ) → v ≤ digits_value_after 10 v bs
grows v [] = omega arith
grows v (b ∷ rest) = along (digit_value b) (digits_value_after 10 (v * 10 + digit_value b) rest) (grows (v * 10 + digit_value b) rest)
  where
    along : (d n : ℕ) → v * 10 + d ≤ n → v ≤ n
    along d n h = omega arith

-- past the greatest number no digits make one
pub past_greatest : (v : ℕ) (bs : List ℕ) → 4294967295 < v → number_behind v bs ≡ None
past_greatest v bs h = at_value (digits_value_after 10 v bs) (list_all is_ascii_digit bs) (grows v bs)
  where
    at_value : (n : ℕ) (digits : Bool) → v ≤ n → cond (digits && nat_le n 4294967295) (Some n) None ≡ None
    at_value n digits le = grind (arith, nat_tests)

digit : (b : ℕ) → is_ascii_digit b ≡ true → digit_value b ≡ b - 48
digit b e = grind (arith, nat_tests)

-- the same where the value passes it with the digit at a place
pub past_at : (item : List ℕ) (i v : ℕ) → i < length item → 48 ≤ get_or item i 0 →
    4294967295 < v * 10 + (get_or item i 0 - 48) → None ≡ number_behind v (drop i item)
past_at item i v h d big = rw (drop-cons item i 0) (sym (at_digit (get_or item i 0) (drop (suc i) item) d big))
  where
    at_digit : (b : ℕ) (rest : List ℕ) → 48 ≤ b → 4294967295 < v * 10 + (b - 48) → number_behind v (b ∷ rest) ≡ None
    at_digit b rest le big = by_digit (is_ascii_digit b) refl
      where
        by_digit : (t : Bool) → is_ascii_digit b ≡ t →
            cond ((t && list_all is_ascii_digit rest) && nat_le (digits_value_after 10 (v * 10 + digit_value b) rest) 4294967295)
            (Some (digits_value_after 10 (v * 10 + digit_value b) rest)) None ≡ None
        by_digit false e = refl
        by_digit true e = past_greatest (v * 10 + digit_value b) rest (let same : digit_value b ≡ b - 48 = digit b e in omega arith)

pub at_least : (b : ℕ) → is_ascii_digit b ≡ true → 48 ≤ b
at_least b e = grind (arith, nat_tests)
