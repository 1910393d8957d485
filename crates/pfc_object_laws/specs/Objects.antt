-- The cells of main's first activation before the first action: its variables with their first values, objects by their addresses.
use Rattle.std.specs.Prelude.{ℕ, ◌+◌, ◌≡◌, ℤ, pos, if◌then◌else◌, Bool, true, List, [], ◌∷◌, ◌++◌, Option, Some, None}
use Rattle.std.specs.List.{slice_get}
use Rattle.std.specs.Ordering.{int_eq}
use Rattle.pfc_code.specs.declared.images.Object.{Object}
use Rattle.pfc_types.specs.declared.types.TypeId.{TypeId}
use Rattle.pfc_types.specs.declared.scope.Meaning.{Meaning}
use Rattle.pfc_semantics.specs.Values.{Value}
use Rattle.pfc_semantics.specs.Programs.{Program}
use Rattle.pfc_stacks.specs.Stacks.{own_cells}
use Rattle.pfc_cells.specs.Shapes.{IsPath, words_of}
use Rattle.pfc_cells.specs.Homes.{cells_before, laid_type}
use Rattle.pfc_standing_code.specs.Shapes.{is_object_type}

-- the words of some variables, one behind the other
abbrev pub all_words : List Value → List ℤ
all_words [] = []
all_words (v ∷ values) = words_of v ++ all_words values

-- the number of the object whose cell has this address in main's first activation, which stands first among the cells of process 0
abbrev pub number_at : List Object → ℤ → Option ℤ
number_at [] w = None
number_at (o ∷ objects) w = if int_eq w (pos (own_cells + o.cell)) then Some (pos o.number) else number_at objects w

-- An object of a variable of main's, or of a part of one, whose cell has this address.
pub record HasObject (g : Program) (w : ℤ) : Type 0 where
  pub variable : ℕ
  pub meaning : Meaning
  pub laid : slice_get g.main.layout variable ≡ Some meaning
  pub path : List ℕ
  pub t : Option TypeId
  pub behind : ℕ
  pub leads : IsPath g.state.forms (laid_type meaning) path t behind
  pub object : is_object_type g.state.forms t ≡ true
  pub word : w ≡ pos (own_cells + (cells_before g.state.forms g.main.layout variable + behind))

-- words of objects alone: where there is none, 0
abbrev pub marked : List Bool → List ℕ → List ℤ
marked [] numbers = []
marked (b ∷ cells) [] = []
marked (b ∷ cells) (n ∷ numbers) = (if b then pos n else pos 0) ∷ marked cells numbers
