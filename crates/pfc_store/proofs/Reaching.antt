-- What lies where a spot lies, by what its variable holds.
use Rattle.std.proofs.Common.{◌≡◌, ℕ, List, [], ◌∷◌, ◌++◌, refl, ap, ◌∙◌}
use Rattle.std.proofs.lemmas.List.{map-append}
use Rattle.pfc_semantics.specs.Values.{Selector, Location, Value, ordinal, compound, points, part_of, part, path_of}
use Rattle.pfc_semantics.specs.Store.{Store, variable, value_at}
use Rattle.pfc_semantics.specs.Displays.{reached}

pub part_append : (p q : List ℕ) (v : Value) → part (p ++ q) v ≡ part q (part p v)
part_append [] q v = refl
part_append (i ∷ p) q v = part_append p q (part_of v i)

-- behind some steps of what a variable holds, which may be a reference
abbrev pub behind_steps : Store → Value → List Selector → Value
behind_steps store (points l) steps = part (path_of steps) (value_at store l)
behind_steps store (ordinal n) steps = part (path_of steps) (ordinal n)
behind_steps store (compound vs) steps = part (path_of steps) (compound vs)

abbrev pub whole : ℕ → ℕ → Location
whole a k = record { activation = a; variable = k; selectors = [] }

pub value_there : (store : Store) (a k : ℕ) (v : Value) (steps : List Selector) → variable store (whole a k) ≡ v →
    value_at store (reached v (whole a k) steps) ≡ behind_steps store v steps
value_there store a k (points l) steps e =
    ap (λ p. part p (variable store l)) (map-append (λ (s : Selector). s.place) l.selectors steps) ∙
    part_append (path_of l.selectors) (path_of steps) (variable store l)
value_there store a k (ordinal n) steps e = ap (part (path_of steps)) e
value_there store a k (compound vs) steps e = ap (part (path_of steps)) e
