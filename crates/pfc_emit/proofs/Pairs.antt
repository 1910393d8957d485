-- Instructions and their lines, side by side.
use Rattle.std.proofs.Common.{◌≡◌, ◌<◌, ℕ, zero, suc, true, List, [], ◌∷◌, ◌++◌, length, take, get_or, set, refl, ap, arith}
use Rattle.std.specs.List.{zip}
use Rattle.std.proofs.lemmas.Slice.Zip.{length-zip, firsts-zip, seconds-zip}
use Rattle.pfc_code.specs.declared.instructions.Instr.{Instr}
use Rattle.pfc_emit.specs.Addresses.{retargeted}
use Rattle.pfc_emit.specs.Patches.{has_address_at, patched}
use Rattle.pfc_emit.proofs.Patches.{within_code}

-- the instructions and the lines of the pairs
pub ruleset columns = (firsts-zip, seconds-zip)

-- as many pairs as instructions
pub length_pairs :
    {A B : Type 0} (xs : List A) (ys : List B) → length ys ≡ length xs → length (zip xs ys) ≡ length xs
length_pairs xs ys same = omega (arith, length-zip xs ys)

-- a place of the pairs is one of the instructions
pub within_pairs :
    (xs : List Instr) (ys : List ℕ) (at : ℕ)
    → length ys ≡ length xs → has_address_at (zip xs ys) at ≡ true → at < length xs
within_pairs xs ys at same has = omega (arith, within_code (zip xs ys) at has, length_pairs xs ys same)

-- one more at both ends is one more pair
pub pairs_push :
    {A B : Type 0} (xs : List A) (ys : List B) (x : A) (y : B) → length ys ≡ length xs
    → zip (xs ++ x ∷ []) (ys ++ y ∷ []) ≡ zip xs ys ++ (x, y) ∷ []
pairs_push [] [] x y same = refl
pairs_push [] (b ∷ ys) x y same = absurd (omega arith)
pairs_push (a ∷ xs) [] x y same = absurd (omega arith)
pairs_push (a ∷ xs) (b ∷ ys) x y same = ap (λ pairs. (a, b) ∷ pairs) (pairs_push xs ys x y (omega arith))

-- a patch of the instructions is the patch of the pairs
pub pairs_patched :
    (xs : List Instr) (ys : List ℕ) (at target : ℕ) (d : Instr) → length ys ≡ length xs
    → zip (set xs at (retargeted (get_or xs at d) target)) ys ≡ patched (zip xs ys) at target
pairs_patched [] ys at target d same = refl
pairs_patched (x ∷ xs) [] at target d same = absurd (omega arith)
pairs_patched (x ∷ xs) (y ∷ ys) zero target d same = refl
pairs_patched (x ∷ xs) (y ∷ ys) (suc at) target d same =
    ap (λ pairs. (x, y) ∷ pairs) (pairs_patched xs ys at target d (omega arith))

-- fewer at both ends are fewer pairs
pub pairs_cut :
    {A B : Type 0} (count : ℕ) (xs : List A) (ys : List B) → zip (take count xs) (take count ys) ≡ take count (zip xs ys)
pairs_cut zero xs ys = refl
pairs_cut (suc count) [] ys = refl
pairs_cut (suc count) (x ∷ xs) [] = refl
pairs_cut (suc count) (x ∷ xs) (y ∷ ys) = ap (λ pairs. (x, y) ∷ pairs) (pairs_cut count xs ys)
