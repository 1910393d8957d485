-- How bytes end.
use Rattle.std.proofs.Common.{◌≡◌, ℕ, suc, ◌-◌, List, [], ◌∷◌, length, arith}
use Rattle.std.specs.Prelude.{slice_get, Some, ◌==◌}
use Rattle.pfc_values.specs.Inputs.{ends_lines}

-- the last byte tells whether they end with a line end
pub ends_lines-last : (bytes : List ℕ) (b : ℕ) → slice_get bytes (length bytes - 1) ≡ Some b → ends_lines bytes ≡ (b == 10)
ends_lines-last [] b e = cc
ends_lines-last (a ∷ []) b e = cc
ends_lines-last (a ∷ (d ∷ rest)) b e =
    let i : length (a ∷ (d ∷ rest)) - 1 ≡ suc (length (d ∷ rest) - 1) = omega arith in
    ends_lines-last (d ∷ rest) b (rw i at e)
