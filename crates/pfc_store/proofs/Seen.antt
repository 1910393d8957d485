-- How the code's values are seen.
use Rattle.std.proofs.Common.{◌≡◌, ℕ, zero, suc, ℤ, pos, List, [], ◌∷◌, set, get_or, refl, sym, ap, ◌∙◌}
use Rattle.std.proofs.Common.{Vec, Global}
use Rattle.pfc_semantics.specs.Values.{Value, ordinal, compound, points, values_from}
use Rattle.pfc_store.specs.declared.values.Location.{Location as HeldLocation}
use Rattle.pfc_store.specs.declared.values.Value.{Value as Held, fold-roll-Value}
use Rattle.pfc_store.specs.declared.values.Value.TheVariants.{Ordinal, Compound, Points, rolls-Ordinal, rolls-Compound, rolls-Points}
use Rattle.pfc_store.specs.Views.{value_view, value_step, values_view, location_view}

pub ordinal_seen : (n : ℤ) → value_view (Ordinal n) ≡ ordinal n
ordinal_seen n = ap value_view (sym (rolls-Ordinal n)) ∙ fold-roll-Value Value value_step _

pub compound_seen : (vs : Vec Held Global) → value_view (Compound vs) ≡ compound (values_from (values_view vs.items))
compound_seen vs = ap value_view (sym (rolls-Compound vs)) ∙ fold-roll-Value Value value_step _

pub points_seen : (l : HeldLocation) → value_view (Points l) ≡ points (location_view l)
points_seen l = ap value_view (sym (rolls-Points l)) ∙ fold-roll-Value Value value_step _

-- the ordinal 0 that stands for what is not there
abbrev pub nothing : Held
nothing = Ordinal (pos 0)

-- one of many values, and another in its place
pub one_seen : (vs : List Held) (i : ℕ) → get_or (values_view vs) i (ordinal (pos 0)) ≡ value_view (get_or vs i nothing)
one_seen [] i = sym (ordinal_seen (pos 0))
one_seen (v ∷ vs) zero = refl
one_seen (v ∷ vs) (suc i) = one_seen vs i

pub other_seen : (vs : List Held) (i : ℕ) (new : Held) → values_view (set vs i new) ≡ set (values_view vs) i (value_view new)
other_seen [] i new = refl
other_seen (v ∷ vs) zero new = refl
other_seen (v ∷ vs) (suc i) new = ap (λ ws. value_view v ∷ ws) (other_seen vs i new)
