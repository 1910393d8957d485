-- What an action leaves that perhaps waits.
use Rattle.std.specs.Prelude.{◌≡◌, ◌<◌, ◌*◌, ◌^◌, ℕ, unsigned_abs, List, ◌++◌, length, None, Ok}
use Rattle.pfc_pending.specs.declared.at_hand.At.{At}
use Rattle.pfc_store.specs.declared.spots.Spot.{Spot}
use Rattle.pfc_store.specs.Views.{spot_view, store_view}
use Rattle.pfc_world.specs.Tables.{Table}
use Rattle.pfc_semantics.specs.Values.{ordinal_of}
use Rattle.pfc_semantics.specs.Store.{value_at}
use Rattle.pfc_semantics.specs.Displays.{located}
use Rattle.pfc_semantics.specs.Programs.{Program}
use Rattle.pfc_semantics.specs.Remainders.{Action}
use Rattle.pfc_semantics.specs.Rewriting.{Doing, next}
use Rattle.pfc_semantics.specs.Configurations.{Config, doing_next}
use Rattle.pfc_semantics.specs.Steps.{effect, line_of}
use Rattle.pfc_activities.specs.declared.activities.Activity.{Activity}
use Rattle.pfc_activities.specs.declared.changes.Done.{Done}
use Rattle.pfc_activities.specs.declared.source.Source.{Source}
use Rattle.pfc_activities.specs.declared.state.State.{State}
use Rattle.pfc_activities.specs.Views.{ahead_of}
use Rattle.pfc_activities.specs.Relation.{IsIn, IsBefore, Ends}

-- ## Numbers of objects

-- the number where a spot lies for a process
abbrev pub held_number : State → Activity → Spot → ℕ
held_number s a spot = unsigned_abs (ordinal_of (value_at (store_view s.store) (located (store_view s.store) a.display (spot_view spot))))

-- this is the number of the object that a spot names for process p
abbrev pub IsNumber : State → ℕ → Spot → ℕ → Type 0
IsNumber s p spot n = (a : Activity) → IsIn s.activities.items p a → n ≡ held_number s a spot

-- ## The table

-- a process has acted or waits, and its action is not yet counted
pub record HasActed (old new : Table) : Type 0 where
  pub acting : new.acting ≡ None
  pub done : new.done ≡ old.done
  pub moment : new.moment ≡ old.moment
  pub count : length new.rows ≡ length old.rows

-- ## The end of an action

-- there may be one more action, of this process
pub record MayEnd (s : State) (p : ℕ) : Type 0 where
  pub within : p < length s.activities.items
  pub done : s.world.done < 10 ^ 18
  pub moment : s.world.moment < 2 * 10 ^ 18

-- The process goes on with this at hand when it is ready: the configuration is the one at which the state stood before its action is
-- counted, where the process perhaps waits.
abbrev pub GoesOnWhenReady : State → State → ℕ → At → Done → Type 0
GoesOnWhenReady old new p at d =
    (source : Source) (g : Program) (c k : Config) (choice : ℕ) (a : Activity) (n : Action) (doing : Doing) (bytes : List ℕ)
    → IsBefore source old k p a n → k.table.acting ≡ None → k.fault ≡ None → effect g c p choice n ≡ Ok (doing_next g k p doing)
    → next doing ≡ ahead_of source.program.tables a.doing at → line_of n ≡ a.doing.line → k.output ≡ c.output ++ bytes
    → Ends source g new c p choice n bytes d
