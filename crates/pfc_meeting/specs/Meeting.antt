-- What a process offers to its partner, and how both go on.
use Rattle.std.specs.Prelude.{◌≡◌, ◌≢◌, ℕ, List, [], ◌∷◌, get_or, length, Option, Some, None, option_map, Ok}
use Rattle.pfc_state.specs.declared.waits.Arm.{Arm}
use Rattle.pfc_state.specs.declared.waits.Arm.TheVariants.{Send as To, Receive as From}
use Rattle.pfc_state.specs.declared.waits.Why.{Why}
use Rattle.pfc_state.specs.Stands.{Is_ready}
use Rattle.pfc_world.specs.Transitions.{placed, blocked}
use Rattle.pfc_program.specs.declared.tables.Tables.{Tables}
use Rattle.pfc_program.specs.Views.{names_view}
use Rattle.pfc_store.specs.Views.{location_view, value_view, spot_view}
use Rattle.pfc_store.specs.declared.spots.Spot.{Spot as HeldSpot}
use Rattle.pfc_store.specs.declared.values.Value.{Value as HeldValue}
use Rattle.pfc_store.specs.declared.values.Location.{Location as HeldLocation}
use Rattle.pfc_semantics.specs.Values.{Value}
use Rattle.pfc_semantics.specs.Store.{Store, stored}
use Rattle.pfc_semantics.specs.Programs.{Program}
use Rattle.pfc_semantics.specs.Remainders.{Action}
use Rattle.pfc_semantics.specs.Rewriting.{Doing, going, next}
use Rattle.pfc_semantics.specs.Alternatives.{context}
use Rattle.pfc_semantics.specs.Channels.{Side, side_of, sent_to, received_from}
use Rattle.pfc_semantics.specs.Statements.{plain_open}
use Rattle.pfc_semantics.specs.Configurations.{Config, doing_next, goes_on, showing, offering, with_table}
use Rattle.pfc_semantics.specs.Steps.{effect, line_of}
use Rattle.pfc_pending.specs.Selects.{offer_view, open_view, opens_view}
use Rattle.pfc_pending.specs.Waiting.{remainder_of}
use Rattle.pfc_pending.specs.declared.select.Offer.{Offer}
use Rattle.pfc_pending.specs.declared.select.Open.{Open}
use Rattle.pfc_activities.specs.declared.activities.Activity.{Activity}
use Rattle.pfc_activities.specs.declared.changes.Done.{Done}
use Rattle.pfc_activities.specs.declared.hands.Hand.{Hand}
use Rattle.pfc_activities.specs.declared.hands.Hand.TheVariants as hand
use Rattle.pfc_activities.specs.declared.source.Source.{Source}
use Rattle.pfc_activities.specs.declared.state.State.{State}
use Rattle.pfc_activities.specs.Relation.{IsIn, IsAt, Ends}
use Rattle.pfc_activities.specs.Shown.{Shown, activity_shown}
use Rattle.pfc_activities.specs.Views.{context_of, pending_of, ahead_of}
use Rattle.pfc_pending.specs.declared.at_hand.At.TheVariants as at
use Rattle.pfc_meeting.specs.declared.onward.Onward.{Onward}
use Rattle.pfc_meeting.specs.declared.partners.Met.{Met}
use Rattle.pfc_meeting.specs.Going.{HasRoom, left_of, onward}
use Rattle.pfc_meeting.specs.Opens.{first_met}

-- ## What is offered

-- an alternative at which a process is met, with what is left behind it
abbrev pub met_side : Tables → Activity → Met → Side
met_side t b m = record { context = context (names_view t b.doing.names) m.line; at = open_view m.offered.now; left = left_of t b m.kept }

-- the first that is open to this
abbrev pub side_shown : Tables → Store → Activity → Arm → Hand → Option Side
side_shown t store b arm (hand.Offering o) =
    option_map (λ x. record { context = context (names_view t b.doing.names) o.line; at = x; left = left_of t b o.kept })
    (first_met store b.display arm (opens_view o.opens.items))
side_shown t store b arm _ = None

abbrev pub side_held : Tables → Store → Activity → Arm → Option Side
side_held t store b arm = side_shown t store b arm b.hand

-- ## How both go on

abbrev pub onward_of : Met → Onward
onward_of m = record { kept = m.kept; replica = m.offered.now.replica; next = m.offered.now.next; stmts = m.offered.now.stmts }

-- what the partner does
abbrev pub doing_onward : Tables → Activity → Onward → Doing
doing_onward t b way = going (names_view t b.doing.names) (onward way (left_of t b way.kept))

-- a value is written there, where there is a place for it
abbrev pub delivered_into : Config → Option HeldLocation → Value → Config
delivered_into c None v = c
delivered_into c (Some l) v = record c { store = stored c.store (location_view l) v }

-- there is room at the process with this number
abbrev pub HasRoomAt : List Activity → ℕ → Type 0
HasRoomAt activities q = (d : Activity) → HasRoom (get_or activities q d) 2

-- Process p goes on behind its action, and process q behind the alternative at which it was met.
abbrev pub BothGoOn : State → State → ℕ → ℕ → Onward → Done → Type 0
BothGoOn old new p q way d =
    (source : Source) (g : Program) (c k : Config) (choice : ℕ) (a b : Activity) (n : Action) (one : Doing)
    → IsAt source old k p a n → IsIn old.activities.items q b
    → effect g c p choice n ≡ Ok (doing_next g (doing_next g k p one) q (doing_onward source.program.tables b way))
    → next one ≡ ahead_of source.program.tables a.doing at.Rest → line_of n ≡ a.doing.line → k.output ≡ c.output → Ends source g new c p choice n [] d

-- only process q is another, and there is no difference to be seen
pub record IsRoomier (old new : State) (q : ℕ) : Type 0 where
  pub same : (source : Source) (c : Config) (p : ℕ) (a : Activity) (n : Action) → q ≢ p → IsAt source old c p a n → IsAt source new c p a n
  pub world : new.world ≡ old.world
  pub store : new.store ≡ old.store
  pub count : length new.activities.items ≡ length old.activities.items

-- ## Messages

abbrev pub stored_into : Store → Option HeldLocation → Value → Store
stored_into store None v = store
stored_into store (Some l) v = stored store (location_view l) v

-- A message passes: it lies in its place, process q is ready, and both go on.
abbrev pub IsPassed : State → State → ℕ → ℕ → Option HeldLocation → HeldValue → Onward → Done → Type 0
IsPassed old new p q into v way d =
    (source : Source) (g : Program) (c : Config) (choice : ℕ) (a b : Activity) (n : Action) (one : Doing)
    → IsAt source old c p a n → IsIn old.activities.items q b
    → effect g c p choice n
    ≡ Ok (with_table (doing_next g (delivered_into (doing_next g c p one) into (value_view v)) q
    (doing_onward source.program.tables b way)) (placed c.table q Is_ready))
    → next one ≡ ahead_of source.program.tables a.doing at.Rest → line_of n ≡ a.doing.line → Ends source g new c p choice n [] d

-- a message is sent on the channel with this number, to process q
abbrev pub IsSent : State → State → ℕ → ℕ → ℕ → HeldValue → Done → Type 0
IsSent old new p q channel v d =
    (source : Source) (g : Program) (c : Config) (choice : ℕ) (a : Activity) (n : Action)
    → IsAt source old c p a n
    → effect g c p choice n
    ≡ Ok (with_table
    (sent_to g (goes_on g c p (context_of source.program.tables a.doing) (remainder_of (pending_of source.program.tables a.doing))) q (value_view v)
    (side_of g c q (From channel)))
    (placed c.table q Is_ready))
    → line_of n ≡ a.doing.line → Ends source g new c p choice n [] d

-- one is received from process q
abbrev pub IsReceived : State → State → ℕ → ℕ → ℕ → Option HeldSpot → Done → Type 0
IsReceived old new p q channel target d =
    (source : Source) (g : Program) (c : Config) (choice : ℕ) (a : Activity) (n : Action)
    → IsAt source old c p a n
    → effect g c p choice n
    ≡ Ok (with_table
    (received_from g (goes_on g c p (context_of source.program.tables a.doing) (remainder_of (pending_of source.program.tables a.doing))) p
    (option_map spot_view target) q (side_of g c q (To channel)))
    (placed c.table q Is_ready))
    → line_of n ≡ a.doing.line → Ends source g new c p choice n [] d

-- The process waits for this, and shows what it offers.
abbrev pub IsShowing : State → State → ℕ → Why → Offer → Done → Type 0
IsShowing old new p why offer d =
    (source : Source) (g : Program) (c : Config) (choice : ℕ) (a : Activity) (n : Action)
    → IsAt source old c p a n
    → effect g c p choice n
    ≡ Ok (with_table
    (showing g (goes_on g c p (context_of source.program.tables a.doing) (remainder_of (pending_of source.program.tables a.doing))) p
    (offering (context_of source.program.tables a.doing) (plain_open (offer_view offer) ∷ []) (remainder_of (pending_of source.program.tables a.doing))))
    (blocked c.table p why []))
    → line_of n ≡ a.doing.line → Ends source g new c p choice n [] d

-- what a process shows that waits with these
abbrev pub waits_with : Tables → Activity → List Open → Shown
waits_with t a opens =
    record (activity_shown t a) {
      next = ahead_of t a.doing at.Rest;
      hand = offering (context_of t a.doing) (opens_view opens) (remainder_of (pending_of t a.doing));
    }
