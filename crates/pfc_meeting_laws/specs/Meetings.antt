-- What a process sees in the statements of its accepts, and where their parameters lie.
use Rattle.std.specs.Prelude.{ℕ, ◌≡◌, ◌∷◌, ◌++◌, length}
use Rattle.pfc_types.specs.Scopes.{scope_at}
use Rattle.pfc_semantics.specs.Layouts.{Layout, laid_names}
use Rattle.pfc_semantics.specs.Displays.{Display, accept_frames}
use Rattle.pfc_semantics.specs.Programs.{Block, Program}

-- the display of a process whose first activation has this number
abbrev pub display_of : Program → ℕ → Block → Display
display_of g a b =
    let own = length (laid_names (scope_at g.state.blocks.scopes b.scope)) in
    record { scope = b.scope; activation = a; first = 0 } ∷ accept_frames g.state.blocks a b.accepts b.next own

-- these stand in a layout behind so many others
pub record StandIn (layout parameters : Layout) (first : ℕ) : Type 0 where
  pub before : Layout
  pub behind : Layout
  pub is : layout ≡ before ++ (parameters ++ behind)
  pub place : length before ≡ first
