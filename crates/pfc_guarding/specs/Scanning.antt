-- The end of a scan behind a return.
use Rattle.std.specs.Prelude.{◌≡◌, ℕ, [], Ok}
use Rattle.pfc_world.specs.Resources.{given_up}
use Rattle.pfc_semantics.specs.Programs.{Program}
use Rattle.pfc_semantics.specs.Remainders.{Action}
use Rattle.pfc_semantics.specs.Configurations.{Config, goes_on, resources_held, with_resources}
use Rattle.pfc_semantics.specs.Steps.{effect, line_of}
use Rattle.pfc_pending.specs.Waiting.{remainder_of}
use Rattle.pfc_activities.specs.declared.activities.Activity.{Activity}
use Rattle.pfc_activities.specs.declared.changes.Done.{Done}
use Rattle.pfc_activities.specs.declared.source.Source.{Source}
use Rattle.pfc_activities.specs.declared.state.State.{State}
use Rattle.pfc_activities.specs.Views.{context_of, pending_of}
use Rattle.pfc_activities.specs.Relation.{IsAt, Ends}

-- the resource is given up, where that is what the process's action comes to, and it goes on
abbrev pub GivesUp : State → State → ℕ → ℕ → Done → Type 0
GivesUp old new p r d =
    (source : Source) (g : Program) (c : Config) (choice : ℕ) (a : Activity) (n : Action)
    → IsAt source old c p a n
    → effect g c p choice n
    ≡ Ok (with_resources (goes_on g c p (context_of source.program.tables a.doing) (remainder_of (pending_of source.program.tables a.doing)))
    (given_up (resources_held c) r))
    → line_of n ≡ a.doing.line → Ends source g new c p choice n [] d
