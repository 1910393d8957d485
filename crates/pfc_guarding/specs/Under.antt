-- How a process goes on with one more that is pending.
use Rattle.std.specs.Prelude.{◌≡◌, ℕ, List, [], Ok}
use Rattle.pfc_semantics.specs.Programs.{Program}
use Rattle.pfc_semantics.specs.Remainders.{Action}
use Rattle.pfc_semantics.specs.Configurations.{Config, goes_on}
use Rattle.pfc_semantics.specs.Steps.{effect, line_of}
use Rattle.pfc_pending.specs.declared.pending.Pending.{Pending}
use Rattle.pfc_pending.specs.Waiting.{remainder_of, over}
use Rattle.pfc_activities.specs.declared.activities.Activity.{Activity}
use Rattle.pfc_activities.specs.declared.changes.Done.{Done}
use Rattle.pfc_activities.specs.declared.source.Source.{Source}
use Rattle.pfc_activities.specs.declared.state.State.{State}
use Rattle.pfc_activities.specs.Views.{context_of, pending_of}
use Rattle.pfc_activities.specs.Relation.{IsAt, Ends}

-- the same process, for which this is pending
pub record IsLike (old new : Activity) (items : List Pending) : Type 0 where
  pub names : new.doing.names ≡ old.doing.names
  pub at_line : new.doing.line ≡ old.doing.line
  pub pending : new.doing.pending.items ≡ items
  pub display : new.display ≡ old.display
  pub activations : new.activations ≡ old.activations
  pub line : new.line ≡ old.line

-- the process goes on with one more before what is pending
abbrev pub GoesUnder : State → State → ℕ → Pending → Done → Type 0
GoesUnder old new p part d =
    (source : Source) (g : Program) (c : Config) (choice : ℕ) (a : Activity) (n : Action)
    → IsAt source old c p a n
    → effect g c p choice n
    ≡ Ok (goes_on g c p (context_of source.program.tables a.doing) (remainder_of (over source.program.tables (pending_of source.program.tables a.doing) part)))
    → line_of n ≡ a.doing.line → Ends source g new c p choice n [] d
