-- What a name is.
use Rattle.std.specs.Prelude.{◌≡◌, ℕ, ◌≤◌, ◌||◌, ◌&&◌, ◌==◌, Bool, true, false, List, [], ◌∷◌, length}
use Rattle.std.specs.List.{list_all}
use Rattle.std.specs.Char.{is_ascii_digit, is_ascii_lowercase, is_ascii_alphabetic}

-- a letter, of either case
abbrev pub is_letter : ℕ → Bool
is_letter b = is_ascii_alphabetic b

-- what may follow a name's first letter: a letter, a digit or `_`
abbrev pub is_name_part : ℕ → Bool
is_name_part b = is_letter b || is_ascii_digit b || b == 95

-- the shape of a word or a name, whatever its length: a letter, and then letters, digits and `_`
abbrev pub is_word_shaped : List ℕ → Bool
is_word_shaped [] = false
is_word_shaped (b ∷ rest) = is_letter b && list_all is_name_part rest

-- a name as it is written: the shape of a name, of at most 63 bytes
pub record IsName (text : List ℕ) : Type 0 where
  pub shape : is_word_shaped text ≡ true
  pub short : length text ≤ 63

-- no letter of upper case
abbrev pub is_lower_part : ℕ → Bool
is_lower_part b = is_ascii_lowercase b || is_ascii_digit b || b == 95

-- a name as it is kept: 1 to 63 bytes, a lower-case letter and then lower-case letters, digits and `_`
abbrev pub is_lower_shaped : List ℕ → Bool
is_lower_shaped [] = false
is_lower_shaped (b ∷ rest) = is_ascii_lowercase b && list_all is_lower_part rest

pub record IsLowerName (text : List ℕ) : Type 0 where
  pub shape : is_lower_shaped text ≡ true
  pub short : length text ≤ 63
