-- The writes of the parameters of an accept, one behind the other.
use Rattle.std.proofs.Common.{◌≡◌, ℕ, ◌+◌, ◌<◌, ◌≤◌, List, [], ◌∷◌, ◌++◌, length, drop, drop-cons, drop_of_length-le, add-one, get_or, refl, sym, ap, ◌∙◌}
use Rattle.pfc_semantics.specs.Values.{Value, ordinal, compound, points}
use Rattle.pfc_semantics.specs.Displays.{Frame}
use Rattle.pfc_store.specs.declared.values.Value.{Value as HeldValue}
use Rattle.pfc_store.specs.Views.{value_view, values_view}
use Rattle.pfc_events.specs.Held.{parameter_write, parameters_of}

first_is : (f : Frame) (i : ℕ) (v : Value) (vs : List Value) → parameters_of f i (v ∷ vs) ≡ parameter_write f i v ++ parameters_of f (i + 1) vs
first_is f i (points l) vs = refl
first_is f i (ordinal n) vs = refl
first_is f i (compound w) vs = refl

pub parameters_step :
    (f : Frame) (values : List HeldValue) (i : ℕ) (d : HeldValue) → i < length values
    → parameters_of f i (values_view (drop i values)) ≡ parameter_write f i (value_view (get_or values i d)) ++ parameters_of f
    (i + 1) (values_view (drop (i + 1) values))
parameters_step f values i d h =
    ap (λ (l : List HeldValue). parameters_of f i (values_view l)) (drop-cons values i d h ∙ ap (λ n. get_or values i d ∷ drop n values) (sym (add-one i)))
    ∙ first_is f i (value_view (get_or values i d)) (values_view (drop (i + 1) values))

pub parameters_end : (f : Frame) (values : List HeldValue) (i : ℕ) → length values ≤ i → parameters_of f i (values_view (drop i values)) ≡ []
parameters_end f values i h = ap (λ (l : List HeldValue). parameters_of f i (values_view l)) (drop_of_length-le values {i = i} h)
