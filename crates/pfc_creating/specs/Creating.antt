-- The activation of a process.
use Rattle.std.specs.Prelude.{◌≡◌, ℕ, ◌-◌, Bool, true, false, List, [], length, get_or}
use Rattle.pfc_state.specs.declared.standings.State.{State as Standing}
use Rattle.pfc_state.specs.declared.standings.State.TheVariants.{Idle, Done as Finished}
use Rattle.pfc_types.specs.Blocks.{process_at}
use Rattle.pfc_program.specs.declared.blocks.Block.{Block as HeldBlock}
use Rattle.pfc_program.specs.Views.{block_view, blocks_view}
use Rattle.pfc_store.specs.declared.spots.Spot.{Spot}
use Rattle.pfc_store.specs.Views.{spot_view}
use Rattle.pfc_semantics.specs.Processes.{created, creates}
use Rattle.pfc_semantics.specs.Programs.{Block, Program, found_block}
use Rattle.pfc_semantics.specs.Remainders.{Action}
use Rattle.pfc_semantics.specs.Configurations.{Config, all_passed}
use Rattle.pfc_semantics.specs.Steps.{effect, line_of}
use Rattle.pfc_pending.specs.declared.pending.Argument.{Argument}
use Rattle.pfc_pending.specs.Waiting.{remainder_of, given_view}
use Rattle.pfc_activities.specs.declared.activities.Activity.{Activity}
use Rattle.pfc_activities.specs.declared.changes.Done.{Done}
use Rattle.pfc_activities.specs.declared.source.Source.{Source}
use Rattle.pfc_activities.specs.declared.state.State.{State}
use Rattle.pfc_activities.specs.Programs.{IsProgram}
use Rattle.pfc_activities.specs.Relation.{IsAt, IsBefore, Ends}
use Rattle.pfc_activities.specs.Views.{context_of, pending_of}

-- a process that was activated, and has not finished since, has this state
abbrev pub is_under_way : Standing → Bool
is_under_way Idle = false
is_under_way Finished = false
is_under_way state = true

-- the block of the process with this number, from 1
abbrev pub block_in : Source → ℕ → Block
block_in source n =
    found_block (blocks_view source.program.tables source.program.blocks.items)
    (process_at source.program.tables.scopes.now (get_or source.objects.processes.items (n - 1) 0)).scope
    (block_view source.program.tables source.program.main)

-- Process n is created by process p, which stands where it stood.
abbrev pub Begins : Source → State → State → ℕ → ℕ → HeldBlock → List Argument → Type 0
Begins source old new p n block args =
    (g : Program) (c : Config) (a : Activity) (m : Action)
    → IsProgram source g → IsAt source old c p a m
    → IsBefore source new (created g c n (block_view source.program.tables block) (all_passed g c p (given_view args))) p a m

-- there are as many processes, and as many actions were done
pub record KeepsCount (old new : State) : Type 0 where
  pub count : length new.activities.items ≡ length old.activities.items
  pub done : new.world.done ≡ old.world.done
  pub moment : new.world.moment ≡ old.world.moment

-- process p activates the process that a spot names, with these arguments
abbrev pub Creates : Source → State → State → ℕ → Spot → List Argument → Done → Type 0
Creates source old new p spot args d =
    (g : Program) (c : Config) (choice : ℕ) (a : Activity) (n : Action)
    → IsProgram source g → IsAt source old c p a n
    → effect g c p choice n
    ≡ creates g c p (context_of source.program.tables a.doing) (spot_view spot) (given_view args) (remainder_of (pending_of source.program.tables a.doing))
    → line_of n ≡ a.doing.line → Ends source g new c p choice n [] d
