-- Blocks as a call finds them: their parameters, and the first values of their other variables.
use Rattle.std.specs.Prelude.{ℕ, ◌+◌, ◌<◌, ◌==◌, ◌≡◌, pos, Bool, true, false, List, [], ◌∷◌, ◌++◌, length, get_or, replicate, Some}
use Rattle.std.specs.List.{slice_get, list_any}
use Rattle.pfc_code.specs.declared.images.Block.{Block as ImageBlock}
use Rattle.pfc_types.specs.Types.{cells_in}
use Rattle.pfc_types.specs.declared.types.TypeId.{TypeId}
use Rattle.pfc_types.specs.declared.scope.Meaning.{Meaning}
use Rattle.pfc_types.specs.declared.scope.Meaning.TheVariants.{Variable}
use Rattle.pfc_types.specs.declared.heads.Formal.{Formal}
use Rattle.pfc_semantics.specs.Values.{Value, Location, ordinal, points}
use Rattle.pfc_semantics.specs.Layouts.{Layout, is_laid}
use Rattle.pfc_semantics.specs.Objects.{first_of}
use Rattle.pfc_semantics.specs.Displays.{Spot}
use Rattle.pfc_semantics.specs.Programs.{Block, Program, layout_cells}
use Rattle.pfc_translation.specs.Sites.{is_reference, before_accept}
use Rattle.pfc_cells.specs.Shapes.{IsOf, words_of}
use Rattle.pfc_standing_code.specs.Typed.{variables_of}
use Rattle.pfc_views.specs.Views.{block_site}

-- ## First values

-- the first value of each type is of the type, and all its words are 0
pub record HasFirstValues (g : Program) : Type 0 where
  pub typed : (t : TypeId) → IsOf g.state.forms t (first_of g.firsts t)
  pub zero : (t : TypeId) → words_of (first_of g.firsts t) ≡ replicate (cells_in g.state.forms t) (pos 0)

-- ## Parameters

-- each parameter is laid out as a variable of its type
abbrev pub AreLaidAs : List Formal → Layout → Type 0
AreLaidAs [] [] = Unit {0}
AreLaidAs [] (m ∷ layout) = ⊥
AreLaidAs (f ∷ formals) [] = ⊥
AreLaidAs (f ∷ formals) (m ∷ layout) = ((t : TypeId) × (f.t ≡ Some t) × (m ≡ Variable t f.reference)) × AreLaidAs formals layout

-- how many variables the block's own scope has: those of its accepts are not among them
abbrev pub own_variables : Program → Block → ℕ
own_variables g b = variables_of (block_site g b) b.scope

-- The parameters of a block stand first in its layout, as the image counts their cells and all cells. Only they are references, but for the
-- parameters of accepts.
pub record Takes (g : Program) (b : Block) (formals : List Formal) (code : ImageBlock) : Type 0 where
  pub parameters : Layout
  pub others : Layout
  pub layout : b.layout ≡ parameters ++ others
  pub laid : AreLaidAs formals parameters
  pub variables : (k : ℕ) (m : Meaning) → slice_get others k ≡ Some m → is_laid m ≡ true
  pub own : (k : ℕ) (m : Meaning) → slice_get others k ≡ Some m → length parameters + k < own_variables g b → is_reference m ≡ false
  pub params : code.params ≡ layout_cells g.state.forms parameters
  pub cells : code.cells ≡ layout_cells g.state.forms b.layout

-- the own reference parameters of a block stand for locations of activations that are kept
abbrev pub AreLent : Program → (ℕ → Bool) → Block → List Value → Type 0
AreLent g keeps b values =
    (k : ℕ) (t : TypeId) → k < own_variables g b → slice_get b.layout k ≡ Some (Variable t true)
    → (l : Location) × (get_or values k (ordinal (pos 0)) ≡ points l) × (keeps l.activation ≡ true)

-- and so do those of these accepts in it
abbrev pub AreLentTo : Program → (ℕ → Bool) → Block → List ℕ → List Value → Type 0
AreLentTo g keeps b accepts values =
    (v : Spot) (t : TypeId) → list_any (λ i. i == v.scope) accepts ≡ true → v.variable < variables_of (block_site g b) v.scope
    → slice_get b.layout (before_accept (block_site g b) v.scope + v.variable) ≡ Some (Variable t true)
    → (l : Location) × (get_or values (before_accept (block_site g b) v.scope + v.variable) (ordinal (pos 0)) ≡ points l) × (keeps l.activation ≡ true)
