-- The beginning of an activation.
use Rattle.std.specs.Prelude.{◌≡◌, ℕ, List, ◌∷◌, ◌++◌, length, map, drop}
use Rattle.pfc_types.specs.declared.scope.Meaning.{Meaning}
use Rattle.pfc_types.specs.Types.{Forms}
use Rattle.pfc_program.specs.declared.blocks.Block.{Block}
use Rattle.pfc_program.specs.declared.tables.Tables.{Tables}
use Rattle.pfc_program.specs.Views.{names_view, block_view}
use Rattle.pfc_semantics.specs.Values.{Value}
use Rattle.pfc_semantics.specs.Objects.{all_first, first_laid}
use Rattle.pfc_semantics.specs.Displays.{Display}
use Rattle.pfc_semantics.specs.Programs.{Program}
use Rattle.pfc_semantics.specs.Remainders.{Action, Remainder}
use Rattle.pfc_semantics.specs.Rewriting.{from_remainder}
use Rattle.pfc_semantics.specs.Configurations as configurations
use Rattle.pfc_semantics.specs.Configurations.{Config, of_remainder, of_value, empty_hand}
use Rattle.pfc_semantics.specs.Calls.{activated}
use Rattle.pfc_pending.specs.declared.pending.Argument.{Argument}
use Rattle.pfc_pending.specs.Waiting.{remainder_of, awaits_of, given_view}
use Rattle.pfc_activities.specs.declared.activities.Activity.{Activity}
use Rattle.pfc_activities.specs.declared.activities.Doing.{Doing}
use Rattle.pfc_activities.specs.declared.source.Source.{Source}
use Rattle.pfc_activities.specs.declared.state.State.{State}
use Rattle.pfc_activities.specs.Programs.{IsProgram}
use Rattle.pfc_activities.specs.Relation.{IsIn, IsAt, Mirrors}
use Rattle.pfc_activities.specs.Shown.{Shown, activity_shown}
use Rattle.pfc_activities.specs.Views.{context_of, pending_of, doing_ahead, activations_view, mark_view}
use Rattle.pfc_activating.specs.declared.entering.Entry.{Entry}
use Rattle.pfc_activating.specs.declared.entering.Waits.{Waits}
use Rattle.pfc_activating.specs.declared.entering.Waits.TheVariants as waits

-- what waits for the end of a call
abbrev pub caller_of : Tables → Doing → Waits → configurations.Caller
caller_of t d waits.Statement = of_remainder (names_view t d.names) (remainder_of (pending_of t d))
caller_of t d waits.Value = of_value (context_of t d) (awaits_of (pending_of t d))

-- the variables of a new activation
abbrev pub values_in : Forms → List Meaning → List Value → List Value
values_in types layout args = args ++ drop (length args) (map (first_laid (all_first types)) layout)

-- what a process shows in a new activation, with this number and of a block of this scope
abbrev pub entered : Tables → Activity → ℕ → ℕ → Entry → Doing → Display → Shown
entered t a number scope entry doing display =
    record {
      next = doing_ahead t doing;
      display = display;
      activations =
          record {
            number = number;
            scope = scope;
            mark = mark_view entry.mark;
            caller = caller_of t a.doing entry.waits;
            display = a.display;
            cells = entry.cells;
          }
          ∷ activations_view t a.activations.items;
      hand = empty_hand;
      line = a.line;
    }

-- there is no difference to be seen, and the process is at the same
pub record IsAlike (old new : Activity) : Type 0 where
  pub doing : new.doing ≡ old.doing
  pub display : new.display ≡ old.display
  pub seen : (t : Tables) → activity_shown t new ≡ activity_shown t old
  pub activations : new.activations.items ≡ old.activations.items
  pub line : new.line ≡ old.line

-- Process p has this at hand in a new activation of the block: the state shows the configuration in which it is activated so.
abbrev pub Activates : Source → State → State → ℕ → Block → Entry → Doing → List Argument → Type 0
Activates source old new p block entry doing args =
    let t : Tables = source.program.tables in
    (g : Program) (c : Config) (a : Activity) (n : Action) (k : Remainder)
    → IsProgram source g → IsAt source old c p a n → doing_ahead t doing ≡ from_remainder (block_view t block).env k
    → (y : Activity) × IsIn new.activities.items p y
    × Mirrors source new (activated g c p (block_view t block) (mark_view entry.mark) (caller_of t a.doing entry.waits) (given_view args) k)

-- all but the processes and the store is as it was
pub record KeepsOthers (old new : State) : Type 0 where
  pub count : length new.activities.items ≡ length old.activities.items
  pub world : new.world ≡ old.world
  pub monitors : new.monitors ≡ old.monitors
  pub resources : new.resources ≡ old.resources
