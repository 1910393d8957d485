-- How a process waits that is barred.
use Rattle.std.specs.Prelude.{◌≡◌, ℕ, [], None, Ok}
use Rattle.pfc_semantics.specs.Programs.{Program}
use Rattle.pfc_semantics.specs.Remainders.{Action}
use Rattle.pfc_semantics.specs.Configurations.{Config, barred_at, goes_on, showing}
use Rattle.pfc_semantics.specs.Steps.{effect, line_of}
use Rattle.pfc_pending.specs.declared.pending.Bar.{Bar}
use Rattle.pfc_pending.specs.Waiting.{remainder_of, bar_view}
use Rattle.pfc_activities.specs.declared.activities.Activity.{Activity}
use Rattle.pfc_activities.specs.declared.changes.Done.{Done}
use Rattle.pfc_activities.specs.declared.hands.Hand.TheVariants as hand
use Rattle.pfc_activities.specs.declared.source.Source.{Source}
use Rattle.pfc_activities.specs.declared.state.State.{State}
use Rattle.pfc_activities.specs.Views.{context_of, pending_of}
use Rattle.pfc_activities.specs.Relation.{IsBefore, Ends}

-- it shows the guard
abbrev pub showing_bar : Activity → Bar → Activity
showing_bar a bar = record a { hand = hand.Barred bar }

-- The process waits, and shows the guard: the configuration is the one at which the state stood before its action is counted.
abbrev pub WaitsBarred : State → State → ℕ → Bar → Done → Type 0
WaitsBarred old new p bar d =
    (source : Source) (g : Program) (c k : Config) (choice : ℕ) (a : Activity) (n : Action)
    → IsBefore source old k p a n → k.table.acting ≡ None → k.fault ≡ None
    → effect g c p choice n
    ≡ Ok (showing g (goes_on g k p (context_of source.program.tables a.doing) (remainder_of (pending_of source.program.tables a.doing))) p
    (barred_at (bar_view source.program.tables bar)))
    → line_of n ≡ a.doing.line → k.output ≡ c.output → Ends source g new c p choice n [] d
