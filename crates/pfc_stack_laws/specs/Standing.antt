-- Where a process stands on the stacks.
use Rattle.std.specs.Prelude.{ℕ, ◌≡◌, ◌≤◌, ◌<◌, ℤ, Bool, List, length, None}
use Rattle.pfc_types.specs.Types.{Forms, form_of}
use Rattle.pfc_types.specs.declared.types.TypeId.{TypeId}
use Rattle.pfc_semantics.specs.Displays.{Display}
use Rattle.pfc_semantics.specs.Programs.{Block}
use Rattle.pfc_semantics.specs.Store.{Store}
use Rattle.pfc_stacks.specs.Refs.{word_of}
use Rattle.pfc_stacks.specs.Stacks.{Stacks, stack_of, first_in_view}
use Rattle.pfc_cells.specs.Shapes.{AreCounted}
use Rattle.pfc_cells.specs.Homes.{Homes}
use Rattle.pfc_cells.specs.Memory.{Entries, MemoryIs}
use Rattle.pfc_standing_code.specs.Shapes.{IsSound}
use Rattle.pfc_standing_code.specs.Settings.{Setting}
use Rattle.pfc_views.specs.Views.{Sees, AreObjects, AreFew}

-- Process p is at an address with these operands, has room for so many, and counts static links from the activation whose first own cell has this
-- word.
pub record StandsAt (stacks : Stacks) (p at : ℕ) (ops : List ℤ) (room : ℕ) (w : ℤ) : Type 0 where
  pub process : p < length stacks
  pub address : (stack_of stacks p).at ≡ at
  pub operands : (stack_of stacks p).operands ≡ ops
  pub has_room : room ≤ (stack_of stacks p).room
  pub from : word_of (first_in_view stacks p) ≡ w

-- what is true of the types of a checked program: predeclared ones are made of nothing
pub record AreTypes (forms : Forms) : Type 0 where
  pub counted : AreCounted forms
  pub sound : IsSound forms
  pub predeclared : (t : TypeId) → t.place < 6 → form_of forms t ≡ None

-- The stacks hold the store of a checked program, whose objects are numbered.
pub record HoldStore (g : Setting) (homes : Homes) (entries : Entries) (store : Store) (stacks : Stacks) : Type 0 where
  pub types : AreTypes g.program.state.forms
  pub memory : MemoryIs g.program homes entries store stacks
  pub few : AreFew stacks
  pub objects : AreObjects g.program homes entries store g.number

-- an activation at hand: what it sees
pub record IsAtHand (g : Setting) (homes : Homes) (entries : Entries) (store : Store) (b : Block) (w : ℤ) : Type 0 where
  pub keeps : ℕ → Bool
  pub display : Display
  pub chain : List ℕ
  pub sees : Sees g.program homes entries store keeps display b g.accepts w chain g.view
