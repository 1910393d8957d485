-- The text of a trace, read as a script.
use Rattle.std.proofs.Common.{◌≡◌, ℕ, ◌+◌, ◌<◌, ◌≤◌, ◌&&◌, Bool, true, false, not, nat_le, List, [], ◌∷◌, ◌++◌, length, decimal, All, Option, Some, None, Ok}
use Rattle.std.proofs.Common.{refl, ap, ap₂, ◌∙◌, arith}
use Rattle.std.specs.Prelude.{if◌then◌else◌}
use Rattle.std.specs.List.{list_all}
use Rattle.std.specs.Char.{is_ascii_digit, digit_value}
use Rattle.std.specs.Int.{IsInRange}
use Rattle.std.specs.Str.Parse.{AllDigits, digits_value}
use Rattle.std.proofs.lemmas.Fmt.{decimal_is_IsNumeral}
use Rattle.std.proofs.lemmas.Str.Parse.{digit_from_value}
use Rattle.std.proofs.lemmas.List.Elements.{All-head, All-tail}
use Rattle.std.proofs.lemmas.Bool.Decides.{nat_tests}
use Rattle.pfc_sched.specs.Script.{is_blank, goes_on, put_before, items_of, number_of, and_numbers, numbers_from, numbers_of}
use Rattle.pfc_traces.specs.Laws.{ReadsBack}
use Rattle.pfc_traces.specs.Traces.{trace_text}

digit_no_blank : (b : ℕ) → 48 ≤ b → b ≤ 57 → is_blank b ≡ false
digit_no_blank b low high = grind (arith, nat_tests)

no_blank : (b : ℕ) → digit_value b < 10 → is_blank b ≡ false
no_blank b h = let range : IsInRange 48 57 b = digit_from_value b h in digit_no_blank b range.0 range.1

in_digits : (b : ℕ) → 48 ≤ b → b ≤ 57 → is_ascii_digit b ≡ true
in_digits b low high = grind (arith, nat_tests)

all_in_digits : (bs : List ℕ) → AllDigits 10 bs → list_all is_ascii_digit bs ≡ true
all_in_digits [] h = refl
all_in_digits (b ∷ bs) h =
    let range : IsInRange 48 57 b = digit_from_value b h.0 in
    ap₂ (λ (x y : Bool). x && y) (in_digits b range.0 range.1) (all_in_digits bs h.1)

-- ## The items of a line

unblank : (b : ℕ) (more : List (List ℕ)) (others : List (List ℕ)) → is_blank b ≡ false → (if is_blank b then others else more) ≡ more
unblank b more others e = ap (λ (t : Bool). if t then others else more) e

-- digits before a line end are an item
line_item : (b : ℕ) (bs rest : List ℕ) → AllDigits 10 (b ∷ bs) → items_of ((b ∷ bs) ++ 10 ∷ rest) ≡ (b ∷ bs) ∷ items_of rest
line_item b [] rest h = unblank b ((b ∷ []) ∷ items_of rest) (items_of (10 ∷ rest)) (no_blank b h.0)
line_item b (c ∷ bs) rest h =
    let behind : List ℕ = (c ∷ bs) ++ 10 ∷ rest in
    unblank b (put_before b (goes_on behind) (items_of behind)) (items_of behind) (no_blank b h.0)
    ∙ ap (λ (t : Bool). put_before b (not t) (items_of behind)) (no_blank c h.1.0)
    ∙ ap (λ (items : List (List ℕ)). put_before b true items) (line_item c bs rest h.1)

line_items : (bs rest : List ℕ) → 0 < length bs → AllDigits 10 bs → items_of (bs ++ 10 ∷ rest) ≡ bs ∷ items_of rest
line_items [] rest some h = absurd (omega (arith, some))
line_items (b ∷ bs) rest some h = line_item b bs rest h

-- ## The numbers

small_number : (item : List ℕ) (n : ℕ) → list_all is_ascii_digit item ≡ true → digits_value 10 item ≡ n → n ≤ 4294967295 → number_of item ≡ Some n
small_number item n digits value small =
    ap₂ (λ (t : Bool) (v : ℕ). (let x : Option ℕ = if t && nat_le v 4294967295 then Some v else None in x)) digits value
    ∙ ap (λ (t : Bool). (let x : Option ℕ = if t then Some n else None in x)) (let e : nat_le n 4294967295 ≡ true = grind (arith, nat_tests) in e)

decimal_number : (n : ℕ) → n ≤ 4294967295 → number_of (decimal n) ≡ Some n
decimal_number n small =
    let (numeral, value) = decimal_is_IsNumeral n (omega (arith, small)) in
    small_number (decimal n) n (all_in_digits (decimal n) numeral.1) value small

decimal_items : (n : ℕ) (rest : List ℕ) → n ≤ 4294967295 → items_of (decimal n ++ 10 ∷ rest) ≡ decimal n ∷ items_of rest
decimal_items n rest small =
    let (numeral, value) = decimal_is_IsNumeral n (omega (arith, small)) in line_items (decimal n) rest numeral.0 numeral.1

read_from : (k : ℕ) (numbers : List ℕ) → All (λ p. p ≤ 4294967295) numbers → numbers_of k (items_of (trace_text numbers)) ≡ Ok numbers
read_from k [] small = refl
read_from k (n ∷ numbers) small =
    let here : n ≤ 4294967295 = All-head (λ p. p ≤ 4294967295) n numbers small in
    let rest : List ℕ = trace_text numbers in
    ap (numbers_of k) (decimal_items n rest here)
    ∙ ap (λ (o : Option ℕ). numbers_from o k (numbers_of (k + 1) (items_of rest))) (decimal_number n here)
    ∙ ap (and_numbers n) (read_from (k + 1) numbers (All-tail (λ p. p ≤ 4294967295) n numbers small))

pub reads_back : ReadsBack
reads_back numbers small = read_from 1 numbers small
