-- What the actions of a rendezvous leave.
use Rattle.std.specs.Prelude.{◌≡◌, ℕ, List, [], if◌then◌else◌, None, Ok, Err}
use Rattle.pfc_base.specs.declared.faults.RunFault.TheVariants.{NotActive}
use Rattle.pfc_state.specs.declared.waits.Arm.TheVariants.{Accept as Entry}
use Rattle.pfc_world.specs.Partners.{is_accepting}
use Rattle.pfc_world.specs.Rendezvous.{is_uncalled, called}
use Rattle.pfc_program.specs.declared.tables.Tables.{Tables}
use Rattle.pfc_program.specs.Views.{names_view}
use Rattle.pfc_store.specs.Views.{spot_view, values_view}
use Rattle.pfc_store.specs.declared.spots.Spot.{Spot}
use Rattle.pfc_store.specs.declared.values.Value.{Value}
use Rattle.pfc_semantics.specs.Values.{Value as ValueSeen}
use Rattle.pfc_semantics.specs.Programs.{Program}
use Rattle.pfc_semantics.specs.Remainders as remainders
use Rattle.pfc_semantics.specs.Remainders.{Context, Remainder, Action, to_accept}
use Rattle.pfc_semantics.specs.Alternatives.{context}
use Rattle.pfc_semantics.specs.Channels.{Side, side_of}
use Rattle.pfc_semantics.specs.Rendezvous.{accepts_from, met_by, called_at, enters}
use Rattle.pfc_semantics.specs.Configurations.{Config, Effect, asking, goes_on, showing, with_table}
use Rattle.pfc_semantics.specs.Steps.{effect, line_of}
use Rattle.pfc_pending.specs.Selects.{accepting_view}
use Rattle.pfc_pending.specs.Waiting.{remainder_of, given_view}
use Rattle.pfc_pending.specs.declared.pending.Argument.{Argument}
use Rattle.pfc_pending.specs.declared.select.Accepting.{Accepting}
use Rattle.pfc_activities.specs.declared.activities.Activity.{Activity}
use Rattle.pfc_activities.specs.declared.changes.Done.{Done}
use Rattle.pfc_activities.specs.declared.hands.Hand.{Hand}
use Rattle.pfc_activities.specs.declared.source.Source.{Source}
use Rattle.pfc_activities.specs.declared.state.State.{State}
use Rattle.pfc_activities.specs.Relation.{IsIn, IsBefore, IsAt, Ends}
use Rattle.pfc_activities.specs.Views.{context_of, pending_of, hand_view}
use Rattle.pfc_meeting.specs.declared.onward.Onward.{Onward}
use Rattle.pfc_meeting.specs.Going.{left_of}
use Rattle.pfc_accepting.specs.declared.meetings.Meeting.{Meeting}
use Rattle.pfc_accepting.specs.declared.owners.Owner.{Owner}
use Rattle.pfc_accepting.specs.Meetings.{opened, IsMeetingAt}

-- Process p, whose action is not yet counted, takes a caller at an alternative: the meeting begins. By the table it is already in it.
abbrev pub IsTaken : State → State → ℕ → ℕ → Meeting → Done → Type 0
IsTaken old new p caller m d =
    (source : Source) (g : Program) (c k : Config) (choice : ℕ) (a : Activity) (n : Action) (accepting : Accepting) (way : Onward) (offer : remainders.Offer)
    → IsBefore source old k p a n → k.table.acting ≡ None → k.fault ≡ None → IsMeetingAt source.program.tables a.doing.names accepting way m
    → effect g c p choice n
    ≡ Ok (accepts_from g k p (context_of source.program.tables a.doing) (accepting_view accepting) (opened offer way) caller
    (left_of source.program.tables a way.kept))
    → line_of n ≡ a.doing.line → k.output ≡ c.output → Ends source g new c p choice n [] d

-- Process p calls an entry that process q waits to accept: the meeting begins.
abbrev pub IsMet : State → State → ℕ → ℕ → List Value → Meeting → Done → Type 0
IsMet old new p q values m d =
    (source : Source) (g : Program) (c k : Config) (choice : ℕ) (a b : Activity) (n : Action) (accepting : Accepting)
    (way : Onward) (offer : remainders.Offer) (line : ℕ)
    → IsBefore source old k p a n → k.table.acting ≡ None → k.fault ≡ None → IsIn old.activities.items q b
    → IsMeetingAt source.program.tables b.doing.names accepting way m
    → effect g c p choice n
    ≡ Ok (met_by g (goes_on g k p (context_of source.program.tables a.doing) (remainder_of (pending_of source.program.tables a.doing))) q
    (context (names_view source.program.tables b.doing.names) line) (accepting_view accepting) (opened offer way) p (values_view values)
    (left_of source.program.tables b way.kept))
    → line_of n ≡ a.doing.line → k.output ≡ c.output → Ends source g new c p choice n [] d

-- Process p goes on behind its statement when it is ready, and shows this while it waits. By the table it waits already.
abbrev pub IsShown : State → State → ℕ → Hand → Done → Type 0
IsShown old new p hand d =
    (source : Source) (g : Program) (c k : Config) (choice : ℕ) (a : Activity) (n : Action)
    → IsBefore source old k p a n → k.table.acting ≡ None → k.fault ≡ None
    → effect g c p choice n
    ≡ Ok (showing g (goes_on g k p (context_of source.program.tables a.doing) (remainder_of (pending_of source.program.tables a.doing))) p
    (hand_view source.program.tables a.doing hand))
    → line_of n ≡ a.doing.line → k.output ≡ c.output → Ends source g new c p choice n [] d

-- what the owner of an entry offers, where it waits to accept it
abbrev pub owner_side : Tables → Activity → Owner → Side
owner_side t b o =
    record {
      context = context (names_view t b.doing.names) o.line;
      at = opened (to_accept (accepting_view o.accepting)) o.way;
      left = left_of t b o.way.kept;
    }

-- ## Calls of entries

-- a call of an entry of process q, with the values that are passed
abbrev pub enters_process : Program → Config → ℕ → Context → ℕ → ℕ → List ValueSeen → Remainder → Effect
enters_process g c p x q entry values k =
    let waiting = with_table (goes_on g c p x k) (called c.table p q entry) in
    if is_uncalled c.table q
    then Err NotActive
    else if is_accepting c.table.rows q entry
    then Ok (called_at g waiting p q values (side_of g c q (Entry entry)))
    else Ok (showing g waiting p (asking values))

-- process p calls an entry of the process that a spot names
abbrev pub IsEntered : Source → State → State → ℕ → Spot → ℕ → List Argument → Done → Type 0
IsEntered source old new p spot entry args d =
    (g : Program) (c : Config) (choice : ℕ) (a : Activity) (n : Action)
    → IsAt source old c p a n
    → effect g c p choice n
    ≡ enters g c p (context_of source.program.tables a.doing) (spot_view spot) entry (given_view args) (remainder_of (pending_of source.program.tables a.doing))
    → line_of n ≡ a.doing.line → Ends source g new c p choice n [] d

-- the same, of process q and of the values
abbrev pub IsEnteredBy : Source → State → State → ℕ → ℕ → ℕ → List Value → Done → Type 0
IsEnteredBy source old new p q entry values d =
    (g : Program) (c : Config) (choice : ℕ) (a : Activity) (n : Action)
    → IsAt source old c p a n
    → effect g c p choice n
    ≡ enters_process g c p (context_of source.program.tables a.doing) q entry (values_view values) (remainder_of (pending_of source.program.tables a.doing))
    → line_of n ≡ a.doing.line → Ends source g new c p choice n [] d
