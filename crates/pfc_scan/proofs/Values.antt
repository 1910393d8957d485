-- The value of digits, read from the left.
use Rattle.std.proofs.Common.{◌≡◌, ℕ, ◌+◌, ◌-◌, ◌*◌, ◌<◌, ◌≤◌, true, List, length, take, get_or, nat_lt, sym, ap, ◌∙◌, arith}
use Rattle.std.specs.Char.{is_ascii_digit, digit_value}
use Rattle.std.specs.Str.Parse.{digits_value}
use Rattle.std.proofs.lemmas.Bool.{cond-true}
use Rattle.std.proofs.lemmas.Bool.Decides.{nat_tests}
use Rattle.std.proofs.lemmas.Int.Digits.{digits_value_more}
use Rattle.std.proofs.lemmas.Str.Parse.{digits_value-take-le}
use Rattle.pfc_scan.specs.declared.piece.Reading.TheVariants.{Refused}
use Rattle.pfc_scan.specs.Pieces.{IsNumber, number_reading}
use Rattle.pfc_scan.proofs.Lists.{passes-at}
use Rattle.pfc_scan.proofs.One.{number_all}

digit_is : (b : ℕ) → is_ascii_digit b ≡ true → digit_value b ≡ b - 48
digit_is b h = grind (arith, nat_tests)

-- with one more digit
pub value_more : (digits : List ℕ) (i value : ℕ) → i < length digits → IsNumber digits → value ≡ digits_value 10 (take i digits) →
    value * 10 + (get_or digits i 0 - 48) ≡ digits_value 10 (take (i + 1) digits)
value_more digits i value h n is =
    let digit : digit_value (get_or digits i 0) ≡ get_or digits i 0 - 48 =
    digit_is (get_or digits i 0) (passes-at is_ascii_digit digits i h (number_all digits n)) in
    let more : digits_value 10 (take (i + 1) digits) ≡ digits_value 10 (take i digits) * 10 + digit_value (get_or digits i 0) =
    digits_value_more 10 digits i h in
    sym (more ∙ ap (λ v. v * 10 + digit_value (get_or digits i 0)) (sym is) ∙ ap (λ d. value * 10 + d) digit)

large_is : (v : ℕ) → 2147483647 < v → nat_lt 2147483647 v ≡ true
large_is v h = grind (arith, nat_tests)

-- a value that is too large stays so
pub too_large : (digits : List ℕ) (i value : ℕ) → i < length digits → IsNumber digits → value ≡ digits_value 10 (take i digits) →
    2147483647 < value * 10 + (get_or digits i 0 - 48)
    → number_reading digits ≡ Refused 104
too_large digits i value h n is large =
    let more = value_more digits i value h n is in
    let least : digits_value 10 (take (i + 1) digits) ≤ digits_value 10 digits = digits_value-take-le 10 digits (i + 1) (omega arith) in
    let all : 2147483647 < digits_value 10 digits = omega arith in
    cond-true _ _ _ (large_is (digits_value 10 digits) all)
