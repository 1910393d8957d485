-- Words that are put behind others one by one.
use Rattle.std.proofs.Common.{◌≡◌, ℤ, List, ◌∷◌, [], ◌++◌, w64, SFits, to_z, of_z, ap, ap₂, ◌∙◌, append_assoc}
use Rattle.std.proofs.lemmas.Int.{to_z-of_z}

-- one more behind those that were put there
pub one_more : (cells before after ys : List ℤ) (x y : ℤ) → SFits w64 x → before ≡ cells ++ ys → after ≡ before ++ to_z w64 (of_z w64 x) ∷ [] → x ≡ y
    → after ≡ cells ++ (ys ++ y ∷ [])
one_more cells before after ys x y fits first next same =
    next ∙ ap₂ (λ (l : List ℤ) (w : ℤ). l ++ w ∷ []) first (to_z-of_z w64 x fits ∙ same) ∙ append_assoc cells ys (y ∷ [])

-- the first of them
pub one : (cells after : List ℤ) (x y : ℤ) → SFits w64 x → after ≡ cells ++ to_z w64 (of_z w64 x) ∷ [] → x ≡ y → after ≡ cells ++ y ∷ []
one cells after x y fits next same = next ∙ ap (λ (w : ℤ). cells ++ w ∷ []) (to_z-of_z w64 x fits ∙ same)
