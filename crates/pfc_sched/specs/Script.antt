-- The text of a script: numbers of at most 32 bits in decimal, apart by white space.
use Rattle.std.specs.Prelude.{ℕ, ◌+◌, nat_le, ◌==◌, ◌||◌, ◌&&◌, Bool, true, false, not, if◌then◌else◌, List, [], ◌∷◌, Option, Some, None, Result, Ok, Err}
use Rattle.std.specs.List.{list_all}
use Rattle.std.specs.Char.{is_ascii_digit}
use Rattle.std.specs.Str.Parse.{digits_value}

-- white space: tab, line end, carriage return and space
abbrev pub is_blank : ℕ → Bool
is_blank b = b == 9 || b == 10 || b == 13 || b == 32

-- an item goes on behind a byte
abbrev pub goes_on : List ℕ → Bool
goes_on [] = false
goes_on (b ∷ rest) = not (is_blank b)

-- a byte before the items behind it: the front of the first of them where that one goes on, else an item of its own
abbrev pub put_before : ℕ → Bool → List (List ℕ) → List (List ℕ)
put_before b true [] = (b ∷ []) ∷ []
put_before b true (item ∷ items) = (b ∷ item) ∷ items
put_before b false items = (b ∷ []) ∷ items

-- the items: the longest runs of bytes that are no white space
abbrev pub items_of : List ℕ → List (List ℕ)
items_of [] = []
items_of (b ∷ rest) = if is_blank b then items_of rest else put_before b (goes_on rest) (items_of rest)

-- the number of an item, if it is all digits and no number above 32 bits
abbrev pub number_of : List ℕ → Option ℕ
number_of item = if list_all is_ascii_digit item && nat_le (digits_value 10 item) 4294967295 then Some (digits_value 10 item) else None

-- one more number before the others
abbrev pub and_numbers : ℕ → Result (List ℕ) ℕ → Result (List ℕ) ℕ
and_numbers n (Ok numbers) = Ok (n ∷ numbers)
and_numbers n (Err item) = Err item

abbrev pub numbers_from : Option ℕ → ℕ → Result (List ℕ) ℕ → Result (List ℕ) ℕ
numbers_from None k rest = Err k
numbers_from (Some n) k rest = and_numbers n rest

-- the numbers of items, of which the first has the number k; or the number of the first item that is none
abbrev pub numbers_of : ℕ → List (List ℕ) → Result (List ℕ) ℕ
numbers_of k [] = Ok []
numbers_of k (item ∷ items) = numbers_from (number_of item) k (numbers_of (k + 1) items)

-- the list of a script, or the number, from 1, of its first item that is no number
abbrev pub script : List ℕ → Result (List ℕ) ℕ
script bytes = numbers_of 1 (items_of bytes)
