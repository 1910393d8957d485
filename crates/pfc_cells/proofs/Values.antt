-- What the store gives for a location after another value was stored there, or elsewhere.
use Rattle.std.proofs.Common.{◌≡◌, ◌≢◌, ℕ, zero, suc, ◌<◌, pos, List, [], ◌∷◌, length, get_or, set, refl, sym, ap, ◌∙◌, subst, arith, ◌⊎◌, inl, inr}
use Rattle.std.proofs.lemmas.List.{get_or-set_same, get_or-set_other}
use Rattle.pfc_semantics.specs.Values.{Value, Values, Location, ordinal, compound, points, no_values, more_values, part_at, with_part_at, part_of, with_part_of}
use Rattle.pfc_semantics.specs.Values.{part, with_part, path_of}
use Rattle.pfc_semantics.specs.Store.{Store, values_in, value_at, variable, stored}
use Rattle.pfc_cells.specs.Homes.{AreApart}
use Rattle.pfc_cells.proofs.Numbers.{same, other, same_or_not}
use Rattle.pfc_cells.proofs.Paths.{BeginsPath, begins_behind}
use Rattle.pfc_cells.proofs.Stores.{values_written, values_kept}

-- ## Parts of a value

-- another part keeps its value
part_beside : (vs : Values) (i j : ℕ) (y : Value) → i ≢ j → part_at (with_part_at vs i y) j ≡ part_at vs j
part_beside no_values i j y n = refl
part_beside (more_values v vs) zero zero y n = absurd (n refl)
part_beside (more_values v vs) zero (suc j) y n = refl
part_beside (more_values v vs) (suc i) zero y n = refl
part_beside (more_values v vs) (suc i) (suc j) y n = part_beside vs i j y (λ e. n (ap suc e))

-- the part itself has the new one, or there is none
part_there : (vs : Values) (i : ℕ) (y : Value) → (part_at (with_part_at vs i y) i ≡ y) ⊎ (with_part_at vs i y ≡ vs)
part_there no_values i y = inr refl
part_there (more_values v vs) zero y = inl refl
part_there (more_values v vs) (suc i) y = elim (part_there vs i y) [ inl h ↦ inl h | inr h ↦ inr (ap (more_values v) h) ]

step_beside : (x : Value) (i j : ℕ) (y : Value) → i ≢ j → part_of (with_part_of x i y) j ≡ part_of x j
step_beside (ordinal n) i j y apart = refl
step_beside (compound vs) i j y apart = part_beside vs i j y apart
step_beside (points l) i j y apart = refl

step_there : (x : Value) (i : ℕ) (y : Value) → (part_of (with_part_of x i y) i ≡ y) ⊎ (with_part_of x i y ≡ x)
step_there (ordinal n) i y = inr refl
step_there (compound vs) i y = elim (part_there vs i y) [ inl h ↦ inl h | inr h ↦ inr (ap compound h) ]
step_there (points l) i y = inr refl

-- of two paths of which neither begins the other, the one leads to what it led to when a part at the other is written
part_kept : (p q : List ℕ) (x v : Value) → (BeginsPath p q → ⊥) → (BeginsPath q p → ⊥) → part q (with_part p x v) ≡ part q x
part_kept [] q x v first second = absurd (first (q, refl))
part_kept (i ∷ p) [] x v first second = absurd (second (i ∷ p, refl))
part_kept (i ∷ p) (j ∷ q) x v first second =
    let y : Value = with_part p (part_of x i) v in
    elim (same_or_not i j) [
      | other apart ↦ ap (λ z. part q z) (step_beside x i j y apart)
      | same e ↦
          subst (λ k. part q (part_of (with_part_of x i y) k) ≡ part q (part_of x k)) e
          (elim (step_there x i y) [
            | inl h ↦ ap (λ z. part q z) h ∙ part_kept p q (part_of x i) v (λ b. first (begins_behind i j p q e b)) (λ b. second
                (begins_behind j i q p (sym e) b))
            | inr h ↦ ap (λ z. part q (part_of z i)) h
          ])
    ]

-- ## Locations

-- what is stored at a location of which there is a variable leaves the values of all that are apart from it
pub value_kept : (store : Store) (l m : Location) (v : Value) → l.variable < length (values_in store l.activation) → AreApart l m
    → value_at (stored store l v) m ≡ value_at store m
value_kept store l m v there apart =
    let values : List Value = values_in store l.activation in
    let new : List Value = set values l.variable (with_part (path_of l.selectors) (variable store l) v) in
    let zero_value : Value = ordinal (pos 0) in
    elim (same_or_not m.activation l.activation) [
      | other distinct ↦ ap (λ vs. part (path_of m.selectors) (get_or vs m.variable zero_value)) (values_kept store l.activation new m.activation distinct)
      | same one ↦
          let some : 0 < length values = omega (arith, there) in
          let now : values_in (stored store l v) m.activation ≡ new = ap (λ a. values_in (stored store l v) a) one
          ∙ values_written store l.activation new some in
          let was : values_in store m.activation ≡ values = ap (λ a. values_in store a) one in
          ap (λ vs. part (path_of m.selectors) (get_or vs m.variable zero_value)) now
          ∙ elim (same_or_not m.variable l.variable) [
            | other beside ↦ ap (λ z. part (path_of m.selectors) z) (get_or-set_other values l.variable m.variable (with_part (path_of l.selectors)
                (variable store l) v) zero_value beside)
            | same alike ↦
                ap (λ k. part (path_of m.selectors) (get_or new k zero_value)) alike
                ∙ ap (λ z. part (path_of m.selectors) z) (get_or-set_same values l.variable (with_part (path_of l.selectors)
                (variable store l) v) zero_value there)
                ∙ part_kept (path_of l.selectors) (path_of m.selectors) (variable store l) v (λ b. apart.0 (sym one, sym alike, b)) (λ b. apart.1
                (one, alike, b))
                ∙ ap (λ k. part (path_of m.selectors) (get_or values k zero_value)) (sym alike)
          ]
          ∙ sym (ap (λ vs. part (path_of m.selectors) (get_or vs m.variable zero_value)) was)
    ]
