-- The listing of a text.
use Rattle.std.specs.Prelude.{ℕ, ◌==◌, if◌then◌else◌, List, [], ◌∷◌, ◌++◌, length}
use Rattle.std.specs.List.{flat_map, enumerate_from, slice_split}
use Rattle.std.specs.Fmt.{decimal}
use Rattle.pfc_code.specs.Pages.{at_right}

-- the lines among the parts that stand between line ends: each but the last, and the last where it is not empty
abbrev pub lines_of_parts : List (List ℕ) → List (List ℕ)
lines_of_parts [] = []
lines_of_parts (part ∷ []) = if length part == 0 then [] else part ∷ []
lines_of_parts (part ∷ next ∷ parts) = part ∷ lines_of_parts (next ∷ parts)

-- the lines of a text, without their ends; byte 10 alone ends a line
abbrev pub lines_of : List ℕ → List (List ℕ)
lines_of text = lines_of_parts (slice_split (λ byte. byte == 10) text)

-- a line as it is listed: its number in 5 places, a blank, and its bytes
abbrev pub listed_line : ℕ → List ℕ → List ℕ
listed_line number line = at_right 5 (decimal number) ++ 32 ∷ [] ++ line ++ 10 ∷ []

-- the listing of a text: each of its lines, numbered from 1
abbrev pub listing_text : List ℕ → List ℕ
listing_text text = flat_map (λ numbered. listed_line numbered.0 numbered.1) (enumerate_from 1 (lines_of text))
