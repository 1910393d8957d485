-- Parameters side by side, and cells as far as they are counted.
use Rattle.std.proofs.Common.{◌≡◌, ◌≢◌, ℕ, nat_le, suc, false, List, [], ◌∷◌, length, refl, ap, arith}
use Rattle.std.proofs.lemmas.Bool.Decides.{nat_tests}
use Rattle.pfc_types.specs.declared.heads.Formal.{Formal}
use Rattle.pfc_types.specs.rules.Declarations.{same_formals}
use Rattle.pfc_check.specs.Cells.{most}

-- as many on both sides
pub same_formals_length : (fs gs : List Formal) → length fs ≢ length gs → same_formals fs gs ≡ false
same_formals_length [] [] ne = absurd (ne refl)
same_formals_length [] (g ∷ gs) ne = refl
same_formals_length (f ∷ fs) [] ne = refl
same_formals_length (f ∷ fs) (g ∷ gs) ne =
    let rest : same_formals fs gs ≡ false = same_formals_length fs gs (λ e. ne (ap suc e)) in grind (arith, rest)

-- no more are counted where no more are there
pub few : (n : ℕ) → nat_le (most n) 65536 ≡ nat_le n 65536
few n = grind (arith, nat_tests)
