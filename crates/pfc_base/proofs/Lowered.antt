-- A name in lower case is a name as it is kept.
use Rattle.std.proofs.Common.{◌≡◌, ℕ, Bool, true, false, ◌&&◌, List, [], ◌∷◌, map, ap, refl, ◌∙◌, arith}
use Rattle.std.proofs.lemmas.List.{length-map}
use Rattle.std.specs.List.{list_all}
use Rattle.std.specs.Char.{to_ascii_lowercase, is_ascii_lowercase}
use Rattle.std.proofs.lemmas.Bool.Decides.{nat_tests}
use Rattle.pfc_base.specs.Names.{IsName, IsLowerName, is_letter, is_name_part, is_lower_part, is_word_shaped, is_lower_shaped}

and_left : (x y : Bool) → (x && y) ≡ true → x ≡ true
and_left true y h = refl
and_left false y h = cc

and_right : (x y : Bool) → (x && y) ≡ true → y ≡ true
and_right true y h = h
and_right false y h = cc

letter : (b : ℕ) → is_letter b ≡ true → is_ascii_lowercase (to_ascii_lowercase b) ≡ true
letter b h = grind (arith, nat_tests)

part : (b : ℕ) → is_name_part b ≡ true → is_lower_part (to_ascii_lowercase b) ≡ true
part b h = grind (arith, nat_tests)

parts : (bs : List ℕ) → list_all is_name_part bs ≡ true → list_all is_lower_part (map to_ascii_lowercase bs) ≡ true
parts [] h = refl
parts (b ∷ rest) h = ap (λ x. x && list_all is_lower_part (map to_ascii_lowercase rest)) (part b (and_left (is_name_part b) (list_all is_name_part rest) h)) ∙
    parts rest (and_right (is_name_part b) (list_all is_name_part rest) h)

lower_shape : (bs : List ℕ) → is_word_shaped bs ≡ true → is_lower_shaped (map to_ascii_lowercase bs) ≡ true
lower_shape [] h = cc
lower_shape (b ∷ rest) h =
    ap (λ x. x && list_all is_lower_part (map to_ascii_lowercase rest)) (letter b (and_left (is_letter b) (list_all is_name_part rest) h)) ∙
    parts rest (and_right (is_letter b) (list_all is_name_part rest) h)

-- a name as it is written, in lower case, is a name as it is kept
pub lowered : (bs : List ℕ) → IsName bs → IsLowerName (map to_ascii_lowercase bs)
lowered bs name = record { shape = lower_shape bs name.shape; short = rw length-map name.short }
