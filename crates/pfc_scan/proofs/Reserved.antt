-- Reserved words, found among those of one first letter.
use Rattle.std.proofs.Common.{◌≡◌, ℕ, ◌+◌, cond, Some, List, [], ◌∷◌, drop, slice_index, ap, refl, ◌∙◌, sym}
use Rattle.std.specs.List.{position_from}
use Rattle.std.specs.Char.{to_ascii_lowercase}
use Rattle.std.specs.Str.{bytes_eq, str_to_ascii_lowercase}
use Rattle.std.proofs.lemmas.Iterator.Adapters.{position_from-zero}
use Rattle.pfc_scan.specs.Pieces.{IsWord, reserved_words, word_number}
use Rattle.pfc_scan.specs.Finding.{found_from}

found_from-position : (n : ℕ) (words : List (List ℕ)) (bytes : List ℕ) → found_from n words bytes ≡ position_from (λ w. bytes_eq w bytes) n words
found_from-position n [] bytes = refl
found_from-position n (w ∷ words) bytes = ap (cond (bytes_eq w bytes) (Some n)) (found_from-position (n + 1) words bytes)

-- to look through all words from the first on is to look a word up
pub found_from-all : (bytes : List ℕ) → found_from 0 reserved_words bytes ≡ word_number bytes
found_from-all bytes = found_from-position 0 reserved_words bytes ∙ sym (position_from-zero (λ w. bytes_eq w bytes) reserved_words)

-- a word in lower case by its first letter
lower-cons : (piece : List ℕ) → IsWord piece → str_to_ascii_lowercase piece ≡ to_ascii_lowercase (slice_index piece 0) ∷ str_to_ascii_lowercase (drop 1 piece)
lower-cons [] h = cc
lower-cons (b ∷ piece) h = refl

-- the words of the first letter are enough
pub by_letter : (number : ℕ) (words : List (List ℕ)) (letter : ℕ) (piece : List ℕ) → IsWord piece → letter ≡ to_ascii_lowercase (slice_index piece 0)
    → ((rest : List ℕ) → found_from number words (letter ∷ rest) ≡ found_from 0 reserved_words (letter ∷ rest))
    → found_from number words (str_to_ascii_lowercase piece) ≡ word_number (str_to_ascii_lowercase piece)
by_letter number words letter piece h is all =
    let lower : str_to_ascii_lowercase piece ≡ letter ∷ str_to_ascii_lowercase (drop 1 piece) = lower-cons piece h ∙
    ap (λ b. b ∷ str_to_ascii_lowercase (drop 1 piece)) (sym is) in
    ap (found_from number words) lower ∙ all (str_to_ascii_lowercase (drop 1 piece)) ∙ ap (found_from 0 reserved_words) (sym lower) ∙
    found_from-all (str_to_ascii_lowercase piece)
