-- Requeues: an activation in place of the innermost.
use Rattle.std.specs.Prelude.{◌≡◌, ℕ, nat_le, false, List, [], ◌∷◌, drop}
use Rattle.pfc_program.specs.declared.blocks.Block.{Block as HeldBlock}
use Rattle.pfc_program.specs.declared.tables.Tables.{Tables}
use Rattle.pfc_program.specs.Views.{block_view}
use Rattle.pfc_semantics.specs.Store.{with_room, without}
use Rattle.pfc_semantics.specs.Programs.{Program, Block, block_at}
use Rattle.pfc_semantics.specs.Remainders as remainders
use Rattle.pfc_semantics.specs.Remainders.{Action, Remainder}
use Rattle.pfc_semantics.specs.Resources.{requeues}
use Rattle.pfc_semantics.specs.Rewriting.{from_remainder, going}
use Rattle.pfc_semantics.specs.Configurations.{Activation, Config, Mark, activity_of, with_activity, at_work, all_passed}
use Rattle.pfc_semantics.specs.Calls.{cells_above, most_cells, new_number, new_values, new_display}
use Rattle.pfc_semantics.specs.Steps.{effect, line_of}
use Rattle.pfc_pending.specs.declared.pending.Argument.{Argument}
use Rattle.pfc_pending.specs.Waiting.{given_view}
use Rattle.pfc_activities.specs.declared.activities.Activity.{Activity}
use Rattle.pfc_activities.specs.declared.activities.Doing.{Doing}
use Rattle.pfc_activities.specs.declared.changes.Done.{Done}
use Rattle.pfc_activities.specs.declared.source.Source.{Source}
use Rattle.pfc_activities.specs.declared.state.State.{State}
use Rattle.pfc_activities.specs.Programs.{IsProgram}
use Rattle.pfc_activities.specs.Relation.{IsIn, IsAt, Ends, Mirrors}
use Rattle.pfc_activities.specs.Views.{doing_ahead, activations_view}

-- ## The innermost activation

-- there is one, with this number and this mark
pub record IsInnermost (number : ℕ) (mark : Mark) (activations : List Activation) : Type 0 where
  pub first : Activation
  pub is : activations ≡ first ∷ drop 1 activations
  pub number_is : first.number ≡ number
  pub mark_is : first.mark ≡ mark

-- that of process p has them
abbrev pub IsInnermostOf : State → ℕ → ℕ → Mark → Type 0
IsInnermostOf s p number mark =
    (a : Activity) → IsIn s.activities.items p a → (t : Tables) → IsInnermost number mark (activations_view t a.activations.items)

-- with another number, block and cells; the caller, the mark and the display behind it stay
abbrev pub instead : ℕ → ℕ → ℕ → List Activation → List Activation
instead number scope cells [] = []
instead number scope cells (a ∷ below) = record a { number = number; scope = scope; cells = cells } ∷ below

-- ## Cells

-- with one of this block in place of the innermost process p has so many, or too many
abbrev pub HasCellsInstead : State → ℕ → HeldBlock → ℕ → Type 0
HasCellsInstead s p block n =
    (a : Activity) → IsIn s.activities.items p a → (t : Tables) → cells_above (drop 1 (activations_view t a.activations.items)) (block_view t block) ≡ n

abbrev pub IsFullInstead : State → ℕ → HeldBlock → Type 0
IsFullInstead s p block =
    (a : Activity) → IsIn s.activities.items p a → (t : Tables)
    → nat_le (cells_above (drop 1 (activations_view t a.activations.items)) (block_view t block)) (most_cells p) ≡ false

-- ## The requeue

-- the process is at this in another activation of the block in place of the first of its
abbrev pub instead_of : Program → Config → ℕ → Block → List remainders.Argument → Activation → List Activation → Remainder → Config
instead_of g c p b args a below k =
    let old = activity_of g c p in
    let values = new_values g b (all_passed g c p args) in
    with_activity (record c { store = with_room (without c.store a.number) (new_number c) values }) p
    (record (at_work old (going b.env k)) {
      display = new_display c b old.display;
      activations = record a { number = new_number c; scope = b.scope; cells = cells_above below b } ∷ below;
    })

abbrev pub GivesWay : Source → State → State → ℕ → HeldBlock → ℕ → Mark → Doing → List Argument → Type 0
GivesWay source old new p block number mark doing args =
    let t : Tables = source.program.tables in
    (g : Program) (c : Config) (a : Activity) (n : Action) (k : Remainder) (innermost : IsInnermost number mark (activations_view t a.activations.items))
    → IsProgram source g → IsAt source old c p a n → doing_ahead t doing ≡ from_remainder (block_view t block).env k
    → (y : Activity) × IsIn new.activities.items p y
    × Mirrors source new (instead_of g c p (block_view t block) (given_view args) innermost.first (drop 1 (activations_view t a.activations.items)) k)

-- process p requeues to the procedure of this scope with these arguments
abbrev pub Requeues : Source → State → State → ℕ → ℕ → List Argument → Done → Type 0
Requeues source old new p scope args d =
    (g : Program) (c : Config) (choice : ℕ) (a : Activity) (n : Action)
    → IsProgram source g → IsAt source old c p a n
    → effect g c p choice n ≡ requeues g c p (block_at g scope) (given_view args) (activity_of g c p).activations
    → line_of n ≡ a.doing.line → Ends source g new c p choice n [] d
