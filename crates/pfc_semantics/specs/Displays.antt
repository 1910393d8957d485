-- Activations and names in view.
--
-- A place of the text names a variable by the scope that declares it: a spot. Where that variable lives depends on who runs there: the
-- display of an activation says, for each scope in view, to which activation the scope's variables belong.
use Rattle.std.specs.Prelude.{ℕ, ◌+◌, zero, suc, ◌==◌, if◌then◌else◌, List, [], ◌∷◌, ◌++◌, length, Option}
use Rattle.pfc_types.specs.Scopes.{scope_at}
use Rattle.pfc_types.specs.Blocks.{Blocks}
use Rattle.pfc_types.specs.declared.types.TypeId.{TypeId}
use Rattle.pfc_semantics.specs.Values.{Selector, Location, Value, points}
use Rattle.pfc_semantics.specs.Store.{Store, variable, inside}
use Rattle.pfc_semantics.specs.Layouts.{laid_names}

-- A variable's part in the text: the scope that declares the variable, its place there, and the steps to the part, outermost first.
pub record Spot : Type 0 where
  pub scope : ℕ
  pub variable : ℕ
  pub selectors : List Selector

-- with the type of what lies there
pub record TypedSpot : Type 0 where
  pub spot : Spot
  pub t : Option TypeId

-- one step further
abbrev pub within : Spot → Selector → Spot
within s selector = record s { selectors = s.selectors ++ selector ∷ [] }

-- ## Displays

-- A scope in view, the activation in which its variables live, and the place of the first of them in the layout of that activation's
-- block.
pub record Frame : Type 0 where
  pub scope : ℕ
  pub activation : ℕ
  pub first : ℕ

-- Innermost first. A scope without a frame is the program's, or that of a monitor or resource: its variables are main's.
abbrev pub Display : Type 0
Display = List Frame

abbrev pub main_frame : ℕ → Frame
main_frame i = record { scope = i; activation = 0; first = 0 }

abbrev pub frame_of : Display → ℕ → Frame
frame_of [] i = main_frame i
frame_of (f ∷ display) i = if f.scope == i then f else frame_of display i

-- what is in view around a block that is declared in the scope i
abbrev pub outward : Display → ℕ → Display
outward [] i = []
outward (f ∷ display) i = if f.scope == i then f ∷ display else outward display i

-- ## Locations

-- where the variable itself lies
abbrev pub own_location : Display → Spot → Location
own_location display s = let f = frame_of display s.scope in record { activation = f.activation; variable = f.first + s.variable; selectors = [] }

-- A reference parameter is the variable that it stands for, so a step from it is a step from there.
abbrev pub reached : Value → Location → List Selector → Location
reached (points l) own selectors = inside l selectors
reached v own selectors = inside own selectors

-- where a spot lies
abbrev pub located : Store → Display → Spot → Location
located store display s = let own = own_location display s in reached (variable store own) own s.selectors

-- ## The display of a process

-- the frames of the scopes of accepts, of which so many are left: they are numbered behind one another, and their variables are laid out
-- so, too
abbrev pub accept_frames : Blocks → ℕ → ℕ → ℕ → ℕ → Display
accept_frames b a zero i first = []
accept_frames b a (suc n) i first =
    record { scope = i; activation = a; first = first } ∷ accept_frames b a n (i + 1) (first + length (laid_names (scope_at b.scopes i)))
