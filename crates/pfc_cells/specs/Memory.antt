-- How the stacks of all processes hold a store.
use Rattle.std.specs.Prelude.{ℕ, ◌≡◌, ◌⊎◌, ℤ, pos, Bool, true, false, List, [], ◌∷◌, ◌++◌, length, Some, None}
use Rattle.pfc_types.specs.declared.types.TypeId.{TypeId}
use Rattle.pfc_types.specs.declared.scope.Meaning.{Meaning}
use Rattle.pfc_types.specs.declared.scope.Meaning.TheVariants.{Variable, Process}
use Rattle.pfc_semantics.specs.Layouts.{Layout}
use Rattle.pfc_semantics.specs.Programs.{Program}
use Rattle.pfc_semantics.specs.Values.{Value, Location, points}
use Rattle.pfc_semantics.specs.Store.{Store, values_in}
use Rattle.pfc_stacks.specs.declared.refs.Ref.{Ref}
use Rattle.pfc_stacks.specs.Refs.{word_of}
use Rattle.pfc_stacks.specs.Stacks.{Stacks, own_cells, cells_of}
use Rattle.pfc_cells.specs.Shapes.{Fits, words_of}
use Rattle.pfc_cells.specs.Homes.{Home, Homes, Lies, layout_at}

-- ## One activation

abbrev pub is_pointer : Value → Bool
is_pointer (points l) = true
is_pointer v = false

-- The cell of a reference parameter of type t holds the address of the location that it stands for. An accept's is 0 before its first
-- meeting, and stands for nothing. The location may have ended: its activation keeps its home.
pub data Refers (g : Program) (homes : Homes) (t : TypeId) : Value → ℤ → Type 0 where
  to_nothing : (v : Value) → is_pointer v ≡ false → Refers g homes t v (pos 0)
  to_location : (l : Location) (r : Ref) → Lies g homes l (Some t) r → Refers g homes t (points l) (word_of r)

-- the words of one variable: those of its value, or of a reference
abbrev pub IsHeld : Program → Homes → Meaning → Value → List ℤ → Type 0
IsHeld g homes (Variable t false) v words = Fits g.state.forms (Some t) v × (words ≡ words_of v)
IsHeld g homes (Variable t true) v words = (w : ℤ) × (words ≡ w ∷ []) × Refers g homes t v w
IsHeld g homes (Process n) v words = Fits g.state.forms None v × (words ≡ words_of v)
IsHeld g homes m v words = ⊥

-- the cells hold the values of the variables, one behind the other
abbrev pub AreCells : Program → Homes → Layout → List Value → List ℤ → Type 0
AreCells g homes [] [] cells = cells ≡ []
AreCells g homes [] (v ∷ values) cells = ⊥
AreCells g homes (m ∷ layout) [] cells = ⊥
AreCells g homes (m ∷ layout) (v ∷ values) cells =
    (words : List ℤ) × (rest : List ℤ) × (cells ≡ words ++ rest) × IsHeld g homes m v words × AreCells g homes layout values rest

-- ## The activations of one process

-- a living activation, with what its own cells hold
pub record Entry : Type 0 where
  pub activation : ℕ
  pub own : List ℤ

-- the activation stands over the cells of those below it, and all end with its own
pub record StandsOver (g : Program) (homes : Homes) (store : Store) (q : ℕ) (e : Entry) (lower cells : List ℤ) : Type 0 where
  pub home : Home
  pub at : homes e.activation ≡ Some home
  pub process : home.process ≡ q
  pub place : home.cell ≡ length lower
  pub size : length e.own ≡ own_cells
  pub block : List ℤ
  pub holds : AreCells g homes (layout_at g home) (values_in store e.activation) block
  pub is : cells ≡ lower ++ (e.own ++ block)

-- the cells of process q are those of its living activations, the latest first
abbrev pub CellsAre : Program → Homes → Store → ℕ → List Entry → List ℤ → Type 0
CellsAre g homes store q [] cells = cells ≡ []
CellsAre g homes store q (e ∷ below) cells =
    (lower : List ℤ) × CellsAre g homes store q below lower × StandsOver g homes store q e lower cells

-- ## All processes

-- by the number of the process
abbrev pub Entries : Type 0
Entries = ℕ → List Entry

abbrev pub IsAmong : ℕ → List Entry → Type 0
IsAmong a [] = ⊥
IsAmong a (e ∷ entries) = (e.activation ≡ a) ⊎ IsAmong a entries

-- the activation stands on some process's stack
abbrev pub Lives : Entries → ℕ → Type 0
Lives entries a = (q : ℕ) × IsAmong a (entries q)

-- A process without a living activation may have cells left of one that has ended: no location lies there.
abbrev pub ProcessIs : Program → Homes → Store → ℕ → List Entry → List ℤ → Type 0
ProcessIs g homes store q [] cells = Unit {0}
ProcessIs g homes store q (e ∷ below) cells = CellsAre g homes store q (e ∷ below) cells

-- the stacks of all processes hold the store
abbrev pub MemoryIs : Program → Homes → Entries → Store → Stacks → Type 0
MemoryIs g homes entries store stacks = (q : ℕ) → ProcessIs g homes store q (entries q) (cells_of stacks q)
