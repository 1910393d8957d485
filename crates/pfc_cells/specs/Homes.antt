-- Where the variables of an activation lie.
use Rattle.std.specs.Prelude.{ℕ, ◌+◌, ◌≡◌, ◌≤◌, ◌⊎◌, true, false, List, take, ◌++◌, Option, Some, None}
use Rattle.std.specs.List.{slice_get}
use Rattle.pfc_types.specs.Types.{Forms}
use Rattle.pfc_types.specs.declared.types.TypeId.{TypeId}
use Rattle.pfc_types.specs.declared.scope.Meaning.{Meaning}
use Rattle.pfc_types.specs.declared.scope.Meaning.TheVariants.{Variable}
use Rattle.pfc_semantics.specs.Layouts.{Layout, is_laid}
use Rattle.pfc_semantics.specs.Programs.{Program, layout_cells, block_at}
use Rattle.pfc_semantics.specs.Values.{Location, path_of}
use Rattle.pfc_translation.specs.Sites.{is_reference}
use Rattle.pfc_stacks.specs.declared.refs.Ref.{Ref}
use Rattle.pfc_stacks.specs.Stacks.{own_cells}
use Rattle.pfc_cells.specs.Shapes.{IsPath}

-- The home of an activation: the process on whose stack it stands, the place there of the first of its own cells, and the scope of its
-- block.
pub record Home : Type 0 where
  pub process : ℕ
  pub cell : ℕ
  pub scope : ℕ

-- By the number of the activation. One that has ended keeps its home, since a reference to its variables may be left in a cell that
-- nobody reads any more.
abbrev pub Homes : Type 0
Homes = ℕ → Option Home

abbrev pub layout_at : Program → Home → Layout
layout_at g home = (block_at g home.scope).layout

-- how many cells the variables take that stand before the k-th
abbrev pub cells_before : Forms → Layout → ℕ → ℕ
cells_before forms layout k = layout_cells forms (take k layout)

-- the type of what is laid out; a single process has none
abbrev pub laid_type : Meaning → Option TypeId
laid_type (Variable t reference) = Some t
laid_type m = None

-- ## Locations

-- The location is that of a variable, or of a part of one, and what lies there is of type t. Its cells are the variable's, so many
-- behind the first. A reference parameter's own cell is nowhere a location: it is where its location is remembered.
pub record IsLocation (g : Program) (homes : Homes) (l : Location) (t : Option TypeId) (home : Home) (behind : ℕ) : Type 0 where
  pub at : homes l.activation ≡ Some home
  pub meaning : Meaning
  pub laid : slice_get (layout_at g home) l.variable ≡ Some meaning
  pub variable : is_laid meaning ≡ true
  pub own : is_reference meaning ≡ false
  pub path : IsPath g.state.forms (laid_type meaning) (path_of l.selectors) t behind

-- the address of the k-th variable's first cell
abbrev pub variable_at : Program → Home → ℕ → Ref
variable_at g home k = record { process = home.process; cell = home.cell + own_cells + cells_before g.state.forms (layout_at g home) k }

-- The first cell of the location has this address.
pub record Lies (g : Program) (homes : Homes) (l : Location) (t : Option TypeId) (r : Ref) : Type 0 where
  pub home : Home
  pub behind : ℕ
  pub is : IsLocation g homes l t home behind
  pub place : r ≡ record { process = home.process; cell = home.cell + own_cells + cells_before g.state.forms (layout_at g home) l.variable + behind }

-- ## Locations that have nothing in common

-- a location begins another where that lies in it
abbrev pub Begins : Location → Location → Type 0
Begins l m =
    (l.activation ≡ m.activation) × (l.variable ≡ m.variable) × ((rest : List ℕ) × (path_of m.selectors ≡ path_of l.selectors ++ rest))

abbrev pub AreApart : Location → Location → Type 0
AreApart l m = (Begins l m → ⊥) × (Begins m l → ⊥)

-- the m cells from one address on and the n cells from another on are different cells
abbrev pub SharesNone : Ref → ℕ → Ref → ℕ → Type 0
SharesNone r m s n = r.process ≡ s.process → (r.cell + m ≤ s.cell) ⊎ (s.cell + n ≤ r.cell)
