-- What the end of a body leaves.
use Rattle.std.specs.Prelude.{◌≡◌, ℕ, List, [], ◌∷◌, None, Some, Ok}
use Rattle.pfc_program.specs.declared.tables.Tables.{Tables}
use Rattle.pfc_types.specs.declared.heads.SubHead.{SubHead}
use Rattle.pfc_semantics.specs.Values.{Value, Location}
use Rattle.pfc_semantics.specs.Layouts.{sub_with}
use Rattle.pfc_semantics.specs.Displays.{Display}
use Rattle.pfc_semantics.specs.Programs.{Program}
use Rattle.pfc_semantics.specs.Remainders.{finishes}
use Rattle.pfc_semantics.specs.Rewriting.{Doing, next}
use Rattle.pfc_semantics.specs.Configurations.{Activation, Config, empty_hand}
use Rattle.pfc_semantics.specs.Calls.{left_by, formals_of}
use Rattle.pfc_semantics.specs.Processes.{ended_process}
use Rattle.pfc_semantics.specs.Steps.{effect}
use Rattle.pfc_activities.specs.declared.activities.Activity.{Activity}
use Rattle.pfc_activities.specs.declared.changes.Done.{Done}
use Rattle.pfc_activities.specs.declared.source.Source.{Source}
use Rattle.pfc_activities.specs.declared.state.State.{State}
use Rattle.pfc_activities.specs.Shown.{Shown, activity_shown}
use Rattle.pfc_activities.specs.Views.{activations_view}
use Rattle.pfc_activities.specs.Relation.{IsBefore, IsAt, Ends}
use Rattle.pfc_returning.specs.Ways.{doing_back}

-- ## Returns

-- what a process shows that went back from an activation
abbrev pub shown_back : Doing → Display → List Activation → ℕ → Shown
shown_back doing display below line = record { next = next doing; display = display; activations = below; hand = empty_hand; line = line }

-- it went back from its innermost one, with this value for an expression
abbrev pub IsBack : Tables → Activity → Activity → Value → ℕ → Type 0
IsBack t old new v line =
    (a : Activation) (below : List Activation) (doing : Doing)
    → activations_view t old.activations.items ≡ a ∷ below → doing_back a.caller v ≡ Some doing
    → activity_shown t new ≡ shown_back doing a.display below line

-- The process goes back when it is ready: the configuration is the one at which the state stood before its action is counted.
abbrev pub GoesBack : State → State → ℕ → ℕ → Value → ℕ → Done → Type 0
GoesBack old new p number v line d =
    (source : Source) (g : Program) (c k : Config) (choice : ℕ) (b : Activity) (a : Activation) (below : List Activation) (doing : Doing)
    → IsBefore source old k p b (finishes line) → k.table.acting ≡ None → k.fault ≡ None
    → activations_view source.program.tables b.activations.items ≡ a ∷ below → number ≡ a.number → doing_back a.caller v ≡ Some doing
    → effect g c p choice (finishes line) ≡ Ok (left_by g k p a below doing) → k.output ≡ c.output → Ends source g new c p choice (finishes line) [] d

-- the variable of a function's result, by the activation and the scope of its block
abbrev pub result_place : List SubHead → ℕ → ℕ → Location
result_place subs number scope = record { activation = number; variable = formals_of (sub_with subs scope); selectors = [] }

-- ## The end of a process

-- it has no activation, and its action is the end of its body
abbrev pub HasEnded : Tables → Activity → ℕ → Type 0
HasEnded t a line = activity_shown t a ≡ record { next = finishes line; display = []; activations = []; hand = empty_hand; line = line }

-- the process ends, where that is what the end of its body comes to
abbrev pub EndsProcess : State → State → ℕ → ℕ → Done → Type 0
EndsProcess old new p line d =
    (source : Source) (g : Program) (c : Config) (choice : ℕ) (b : Activity)
    → IsAt source old c p b (finishes line) → effect g c p choice (finishes line) ≡ Ok (ended_process g c p)
    → Ends source g new c p choice (finishes line) [] d
