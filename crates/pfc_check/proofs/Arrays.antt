-- Arrays of arrays, from the innermost on.
use Rattle.std.proofs.Common.{◌≡◌, List, [], ◌∷◌, ◌++◌, Option, option_map, refl, ap}
use Rattle.pfc_base.specs.declared.places.Place.{Place}
use Rattle.pfc_types.specs.rules.Constants.{Made, added, array_of, made_arrays}
use Rattle.pfc_phrases.specs.declared.constants.Extent.{Extent as Bounds}
use Rattle.pfc_phrases.specs.Views.{extent_view}
use Rattle.pfc_check.specs.States.{extents_of}

-- the last of the bounds is that of the innermost array
pub arrays_push : (m : Made) (rs : List (Option Bounds)) (r : Option Bounds) (p : Place) →
    made_arrays m (extents_of (rs ++ r ∷ [])) p ≡ made_arrays (added m.state (array_of (option_map extent_view r) m.t) p) (extents_of rs) p
arrays_push m [] r p = refl
arrays_push m (x ∷ rs) r p = ap (λ (inner : Made). added inner.state (array_of (option_map extent_view x) inner.t) p) (arrays_push m rs r p)
