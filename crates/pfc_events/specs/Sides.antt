-- What passes between a process and its partner, by what is held of both.
use Rattle.std.specs.Prelude.{◌≡◌, ℕ, List, [], Option, Some, None}
use Rattle.pfc_hb.specs.declared.accesses.Access.{Access as AccessSeen}
use Rattle.pfc_program.specs.declared.tables.Tables.{Tables}
use Rattle.pfc_state.specs.declared.waits.Arm.{Arm}
use Rattle.pfc_state.specs.declared.waits.Arm.TheVariants.{Send as To, Receive as From, Accept as Entry}
use Rattle.pfc_store.specs.Views.{spot_view}
use Rattle.pfc_store.specs.declared.spots.Spot.{Spot as HeldSpot}
use Rattle.pfc_semantics.specs.Values.{Value}
use Rattle.pfc_semantics.specs.Store.{Store}
use Rattle.pfc_semantics.specs.Displays.{Display}
use Rattle.pfc_semantics.specs.Programs.{Program}
use Rattle.pfc_semantics.specs.Remainders.{Action, Offer, Open, Remainder, to_send, to_receive, to_accept, to_wait, to_end, to_entry}
use Rattle.pfc_semantics.specs.Configurations.{Config}
use Rattle.pfc_semantics.specs.Channels.{Side}
use Rattle.pfc_semantics.specs.Rendezvous.{asked}
use Rattle.pfc_semantics.specs.Events.{call_writes, open_writes}
use Rattle.pfc_races.specs.Seen.{accesses_seen}
use Rattle.pfc_pending.specs.Selects.{offer_view}
use Rattle.pfc_pending.specs.Waiting.{given_view}
use Rattle.pfc_pending.specs.declared.pending.Argument.{Argument}
use Rattle.pfc_pending.specs.declared.select.Offer.{Offer as HeldOffer}
use Rattle.pfc_activities.specs.declared.activities.Activity.{Activity}
use Rattle.pfc_activities.specs.declared.source.Source.{Source}
use Rattle.pfc_activities.specs.declared.state.State.{State}
use Rattle.pfc_activities.specs.Relation.{IsBefore}
use Rattle.pfc_activities.specs.Views.{hand_view}
use Rattle.pfc_meeting.specs.Meeting.{side_held}
use Rattle.pfc_events.specs.Held.{beside_in, message_in, parameters_in}

-- ## By what is held

-- what the alternative has written at which a process is met
abbrev pub written_in : Store → Display → List Value → Option Side → List AccessSeen
written_in store display args None = []
written_in store display args (Some s) = beside_in store display args s.at.offer

-- the communication of a process with its partner
abbrev pub between : Tables → Store → Activity → Activity → Offer → Arm → List AccessSeen
between t store own partner (to_send channel v) (To n) = written_in store partner.display [] (side_held t store partner (From n))
between t store own partner (to_send channel v) (From n) = []
between t store own partner (to_send channel v) (Entry n) = []
between t store own partner (to_receive channel target) arm = message_in store own.display target
between t store own partner (to_accept a) arm = parameters_in own.display a (asked (hand_view t partner.doing partner.hand))
between t store own partner (to_wait n) arm = []
between t store own partner to_end arm = []

-- ## By the definitions

-- process p writes this by an open alternative with this offer
abbrev pub AreWritten : State → ℕ → HeldOffer → List AccessSeen → Type 0
AreWritten s p offer accesses =
    (source : Source) (g : Program) (c : Config) (a : Activity) (n : Action) (o : Open)
    → IsBefore source s c p a n → o.offer ≡ offer_view offer → accesses ≡ accesses_seen (open_writes g c p (Some o))

-- and this by a call of an entry
abbrev pub AreCalled : State → ℕ → HeldSpot → ℕ → List Argument → List AccessSeen → Type 0
AreCalled s p spot entry args accesses =
    (source : Source) (g : Program) (c : Config) (a : Activity) (n : Action) (k : Remainder)
    → IsBefore source s c p a n → accesses ≡ accesses_seen (call_writes g c p (to_entry (spot_view spot) entry k) (given_view args))
