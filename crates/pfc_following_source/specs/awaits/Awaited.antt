-- What it is for code to follow the next action of what waits for a value, or for the address of a variable, that is on top.
use Rattle.std.specs.Prelude.{ℕ, suc, ◌≤◌, ℤ, List, ◌∷◌, ◌++◌, length, reverse, Option}
use Rattle.pfc_types.specs.declared.types.TypeId.{TypeId}
use Rattle.pfc_semantics.specs.Values.{Value}
use Rattle.pfc_semantics.specs.Displays.{TypedSpot}
use Rattle.pfc_semantics.specs.Programs.{Block}
use Rattle.pfc_semantics.specs.Remainders.{Context, AwaitsValue, AwaitsLocation}
use Rattle.pfc_semantics.specs.Rewriting.{from_value, from_location}
use Rattle.pfc_translation.specs.Sites.{forms_of}
use Rattle.pfc_cells.specs.Shapes.{words_of}
use Rattle.pfc_standing_code.specs.Shapes.{Shape, IsShaped}
use Rattle.pfc_standing_code.specs.Settings.{Setting, MayRead, site_of}
use Rattle.pfc_standing_code.specs.Effects.{Arm}
use Rattle.pfc_standing_code.specs.Words.{IsWord, IsChecked, LendsAt}
use Rattle.pfc_standing_code.specs.Awaits.{TakesValue, TakesLocation}
use Rattle.pfc_standing_code.specs.Following.{Follows}

-- the words of the value, the last on top, are operands that fit
abbrev pub ValuesFollow : Setting → Block → Context → Type 0
ValuesFollow g b x =
    IsChecked g b x.env → (u : AwaitsValue) (h : Shape) (v : Value) (at : ℕ) (ops : List ℤ) (arms : List Arm)
    → length arms ≤ g.arms → length (reverse (words_of v) ++ ops) ≤ g.room → IsShaped (forms_of (site_of g b x)) h v → TakesValue g b x at ops arms h u
    → Follows g (from_value x u v) at (reverse (words_of v) ++ ops) arms

abbrev pub LocationsFollow : Setting → Block → Context → Type 0
LocationsFollow g b x =
    IsChecked g b x.env → (goal : AwaitsLocation) (t : Option TypeId) (l : TypedSpot) (w : ℤ) (at : ℕ) (ops : List ℤ) (arms : List Arm)
    → length arms ≤ g.arms → suc (length ops) ≤ g.room → IsWord g.view (site_of g b x) l.spot t w → MayRead g l.spot.scope
    → TakesLocation g b x at ops arms t goal → LendsAt (site_of g b x) l.spot goal → Follows g (from_location x goal l) at (w ∷ ops) arms
