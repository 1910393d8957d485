-- What an activation sees: cells by static links, and variables by their names.
--
-- It is said over the living activations and the store, and not over the stacks: these hold both, as the store law has it.
use Rattle.std.specs.Prelude.{ℕ, ◌+◌, ◌*◌, ◌^◌, ◌<◌, ◌≤◌, ◌≡◌, ℤ, pos, Bool, true, List, [], ◌∷◌, length, get_or, Option, Some}
use Rattle.std.specs.List.{slice_get}
use Rattle.pfc_types.specs.declared.types.TypeId.{TypeId}
use Rattle.pfc_types.specs.declared.scope.Meaning.{Meaning}
use Rattle.pfc_types.specs.declared.scope.Meaning.TheVariants.{Variable}
use Rattle.pfc_semantics.specs.Values.{Location, ordinal, points}
use Rattle.pfc_semantics.specs.Store.{Store, values_in, variable, value_at}
use Rattle.pfc_semantics.specs.Layouts.{is_laid}
use Rattle.pfc_semantics.specs.Displays.{Spot, Display, frame_of, own_location, located}
use Rattle.pfc_semantics.specs.Programs.{Block, Program}
use Rattle.pfc_translation.specs.Sites.{Site, links_to, layout_with, place_of, cell_of, is_reference}
use Rattle.pfc_stacks.specs.declared.refs.Ref.{Ref}
use Rattle.pfc_stacks.specs.Refs.{word_of}
use Rattle.pfc_stacks.specs.Stacks.{Stacks, own_cells, link_place, cells_of}
use Rattle.pfc_cells.specs.Homes.{Home, Homes, Lies, layout_at, cells_before}
use Rattle.pfc_cells.specs.Memory.{Entry, Entries, Lives}
use Rattle.pfc_standing_code.specs.Shapes.{is_object_type}
use Rattle.pfc_standing_code.specs.Settings.{View}
use Rattle.pfc_standing_code.specs.Typed.{variables_of}
use Rattle.pfc_standing_code.specs.Words.{is_known}

-- ## Static links

-- the address of the first own cell of an activation, and the number in the word of the first cell of its block
abbrev pub own_place : Home → Ref
own_place home = record { process = home.process; cell = home.cell }

abbrev pub first_number : Home → ℕ
first_number home = home.process * 2 ^ 32 + (home.cell + own_cells)

-- the activation lives, and this is what its own cells hold
pub data IsLiving (e : Entry) : List Entry → Type 0 where
  latest : (below : List Entry) → IsLiving e (e ∷ below)
  earlier : (other : Entry) (below : List Entry) → IsLiving e below → IsLiving e (other ∷ below)

-- An activation that is kept, and its own cells: the word of the first of them is this.
pub record IsKept (homes : Homes) (entries : Entries) (keeps : ℕ → Bool) (w : ℤ) (a : ℕ) : Type 0 where
  pub home : Home
  pub at : homes a ≡ Some home
  pub process : ℕ
  pub entry : Entry
  pub living : IsLiving entry (entries process)
  pub number : entry.activation ≡ a
  pub kept : keeps a ≡ true
  pub word : w ≡ word_of (own_place home)

-- The first own cell of an activation has this word, its static link leads to the next activation of the list, and so on.
abbrev pub AreLinked : Homes → Entries → (ℕ → Bool) → ℤ → List ℕ → Type 0
AreLinked homes entries keeps w [] = Unit {0}
AreLinked homes entries keeps w (a ∷ chain) =
    (is : IsKept homes entries keeps w a) × AreLinked homes entries keeps (get_or is.entry.own link_place (pos 0)) chain

-- ## Cells

-- a variable of an activation whose cells begin at this place of its block
pub record IsCell (g : Program) (homes : Homes) (a d : ℕ) : Type 0 where
  pub home : Home
  pub at : homes a ≡ Some home
  pub place : ℕ
  pub meaning : Meaning
  pub laid : slice_get (layout_at g home) place ≡ Some meaning
  pub first : cells_before g.state.forms (layout_at g home) place ≡ d

-- A reference parameter, the cell of which lies there: it stands for a location, whose first cell has this number as its word.
pub record IsReferenceCell (g : Program) (homes : Homes) (store : Store) (a d n : ℕ) : Type 0 where
  pub home : Home
  pub at : homes a ≡ Some home
  pub place : ℕ
  pub t : TypeId
  pub laid : slice_get (layout_at g home) place ≡ Some (Variable t true)
  pub first : cells_before g.state.forms (layout_at g home) place ≡ d
  pub target : Location
  pub holds : get_or (values_in store a) place (ordinal (pos 0)) ≡ points target
  pub word : Ref
  pub lies : Lies g homes target (Some t) word
  pub number : word_of word ≡ pos n

-- ## Names

-- phrases of a block stand so, whatever names are in view and whichever line they have
abbrev pub block_site : Program → Block → Site
block_site g b = record { program = g; block = b; env = b.env; line = 0 }

-- The variable that a spot names belongs to the activation so many static links up, and has that place in its block; a reference parameter stands for a
-- location of an activation that is kept, where the view has it.
pub record IsNamed (g : Program) (homes : Homes) (store : Store) (keeps : ℕ → Bool) (display : Display) (b : Block) (chain : List ℕ) (view : View)
    (v : Spot) (meaning : Meaning) : Type 0 where
  pub linked : slice_get chain (links_to (block_site g b) v.scope) ≡ Some (frame_of display v.scope).activation
  pub home : Home
  pub at : homes (frame_of display v.scope).activation ≡ Some home
  pub place : (frame_of display v.scope).first + v.variable ≡ place_of (block_site g b) v
  pub layout : layout_at g home ≡ layout_with (block_site g b) v.scope
  pub reached : view.reaches (links_to (block_site g b) v.scope) (cell_of (block_site g b) v) ≡ true
  pub refers : is_reference meaning ≡ true → view.refers (links_to (block_site g b) v.scope) (cell_of (block_site g b) v) ≡ true
  pub target : (t : TypeId) → meaning ≡ Variable t true
      → (l : Location) × (word : Ref) × (variable store (own_location display v) ≡ points l) × (keeps l.activation ≡ true) × Lies g homes l (Some t) word
      × (word_of word ≡ pos (view.held (links_to (block_site g b) v.scope) (cell_of (block_site g b) v)))

-- ## What is seen

-- An activation of block b whose first own cell has the word w, in which the parameters of these accepts are in view, sees this. It keeps
-- some activations: these do not end before it does.
pub record Sees (g : Program) (homes : Homes) (entries : Entries) (store : Store) (keeps : ℕ → Bool) (display : Display) (b : Block) (accepts : List ℕ) (w : ℤ)
    (chain : List ℕ) (view : View) : Type 0 where
  pub live : (a : ℕ) → keeps a ≡ true → Lives entries a
  pub links : AreLinked homes entries keeps w chain
  pub firsts : (l a : ℕ) (home : Home) → slice_get chain l ≡ Some a → homes a ≡ Some home → view.first l ≡ first_number home
  -- addresses have 42 bits
  pub cells : (l d : ℕ) → view.reaches l d ≡ true → (a : ℕ) × (slice_get chain l ≡ Some a) × IsCell g homes a d × (view.first l + d < 2 ^ 42)
  pub references : (l d : ℕ) → view.reaches l d ≡ true → view.refers l d ≡ true
      → (a : ℕ) × (slice_get chain l ≡ Some a) × IsReferenceCell g homes store a d (view.held l d)
  pub names : (v : Spot) (meaning : Meaning) → is_known g.state.blocks b accepts v.scope ≡ true
      → v.variable < variables_of (block_site g b) v.scope
      → slice_get (layout_with (block_site g b) v.scope) (place_of (block_site g b) v) ≡ Some meaning → is_laid meaning ≡ true
      → IsNamed g homes store keeps display b chain view v meaning

-- the variable that a spot names lies where this word leads, in an activation that is kept
pub record LiesAt (g : Program) (homes : Homes) (store : Store) (keeps : ℕ → Bool) (display : Display) (v : Spot) (t : Option TypeId) (w : ℤ) : Type 0 where
  pub place : Ref
  pub lies : Lies g homes (located store display v) t place
  pub word : w ≡ word_of place
  pub kept : keeps (located store display v).activation ≡ true

-- ## Objects

-- an object's number lies there, in an activation that lives
pub record IsObjectAt (g : Program) (homes : Homes) (entries : Entries) (w : ℤ) : Type 0 where
  pub location : Location
  pub t : Option TypeId
  pub place : Ref
  pub lies : Lies g homes location t place
  pub object : is_object_type g.state.forms t ≡ true
  pub word : w ≡ word_of place
  pub lives : Lives entries location.activation

-- Each object is known by its address as the number that lies there, and nothing else is known so.
pub record AreObjects (g : Program) (homes : Homes) (entries : Entries) (store : Store) (number : ℤ → Option ℤ) : Type 0 where
  pub known : (l : Location) (t : Option TypeId) (r : Ref) → Lies g homes l t r → is_object_type g.state.forms t ≡ true
      → (n : ℤ) × (number (word_of r) ≡ Some n) × (value_at store l ≡ ordinal n)
  pub only : (w n : ℤ) → number w ≡ Some n → IsObjectAt g homes entries w

-- ## Sizes

-- addresses of cells have 32 bits, and numbers of processes ten
pub record AreFew (stacks : Stacks) : Type 0 where
  pub cells : (q : ℕ) → length (cells_of stacks q) < 2 ^ 32
  pub processes : length stacks ≤ 1024
