-- A number that is kept up to a bound while its digits are read.
use Rattle.std.proofs.Common.{◌≡◌, ℕ, ◌+◌, ◌-◌, ◌*◌, ◌<◌, ◌≤◌, ◌⊎◌, inl, inr, min, List, [], ◌∷◌, length, drop, get_or, sym, ap, ◌∙◌, arith}
use Rattle.std.proofs.lemmas.List.{at_drop_more}
use Rattle.std.proofs.lemmas.Bool.{cases_lt}
use Rattle.pfc_values.specs.Inputs.{number_behind}

-- digits make no number smaller
number_behind-le : (n : ℕ) (bytes : List ℕ) → n ≤ number_behind n bytes
number_behind-le n [] = omega arith
number_behind-le n (b ∷ rest) = let later = number_behind-le (n * 10 + (b - 48)) rest in omega arith

-- a number beyond the bound stays beyond it
number_behind-min : (n m bound : ℕ) (bytes : List ℕ) → m ≡ min n bound → min (number_behind m bytes) bound ≡ min (number_behind n bytes) bound
number_behind-min n m bound bytes e = go (cases_lt n bound)
  where
    go : (n < bound) ⊎ (bound ≤ n) → min (number_behind m bytes) bound ≡ min (number_behind n bytes) bound
    go (inl h) = let same : m ≡ n = omega arith in ap (λ k. min (number_behind k bytes) bound) same
    go (inr h) =
        let one = number_behind-le n bytes in
        let two = number_behind-le m bytes in
        omega arith

-- with one more digit
pub number_more : (digits : List ℕ) (i value next bound : ℕ) → i < length digits → next ≡ min (value * 10 + (get_or digits i 0 - 48)) bound
    → min (number_behind next (drop (i + 1) digits)) bound ≡ min (number_behind value (drop i digits)) bound
number_more digits i value next bound h e =
    let later : number_behind value (drop i digits) ≡ number_behind (value * 10 + (get_or digits i 0 - 48)) (drop (i + 1) digits) =
    at_drop_more (number_behind value) digits i 0 h in
    number_behind-min (value * 10 + (get_or digits i 0 - 48)) next bound (drop (i + 1) digits) e ∙ ap (λ k. min k bound) (sym later)
