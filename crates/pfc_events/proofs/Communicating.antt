-- What passes between a process and its partner, on both sides.
use Rattle.std.proofs.Common.{◌≡◌, ◌≢◌, ℕ, ◌<◌, Bool, true, false, List, [], ◌∷◌, length, map, get_or, Option, Some, None, refl, sym, ap, ◌∙◌}
use Rattle.std.specs.Prelude.{unsigned_abs, if◌then◌else◌}
use Rattle.std.proofs.lemmas.List.{get_or_read_under}
use Rattle.pfc_hb.specs.declared.accesses.Access.{Access as AccessSeen}
use Rattle.pfc_program.specs.declared.tables.Tables.{Tables}
use Rattle.pfc_state.specs.declared.waits.Arm.{Arm}
use Rattle.pfc_state.specs.declared.waits.Arm.TheVariants.{Send as To, Receive as From, Accept as Entry}
use Rattle.pfc_state.specs.Stands.{Is_ready, IsWaiting}
use Rattle.pfc_world.specs.Partners.{is_accepting, partner}
use Rattle.pfc_world.specs.Tables.{Table, at}
use Rattle.pfc_store.specs.declared.spots.Spot.{Spot as HeldSpot}
use Rattle.pfc_store.specs.declared.values.Value.{Value as HeldValue}
use Rattle.pfc_store.specs.Views.{spot_view, store_view, values_view}
use Rattle.pfc_semantics.specs.Values.{Location, Value, ordinal_of}
use Rattle.pfc_semantics.specs.Store.{Store}
use Rattle.pfc_semantics.specs.Displays.{Display, Spot, located}
use Rattle.pfc_semantics.specs.Programs.{Program}
use Rattle.pfc_semantics.specs.Remainders.{Action, Offer, Open, to_send, to_receive, to_accept, to_wait, to_end}
use Rattle.pfc_semantics.specs.Configurations.{Config, Hand, activity_of, all_passed, number_for}
use Rattle.pfc_semantics.specs.Channels.{Side, arm_of, side_of}
use Rattle.pfc_semantics.specs.Rendezvous.{asked}
use Rattle.pfc_semantics.specs.Selects.{partner_at}
use Rattle.pfc_semantics.specs.Events.{Access, communication_writes, met_writes, message_write, written_at, written_beside}
use Rattle.pfc_races.specs.Seen.{accesses_seen}
use Rattle.pfc_pending.specs.Selects.{offer_view}
use Rattle.pfc_pending.specs.Waiting.{given_view}
use Rattle.pfc_pending.specs.declared.pending.Argument.{Argument}
use Rattle.pfc_pending.specs.declared.select.Offer.{Offer as HeldOffer}
use Rattle.pfc_activities.specs.declared.activities.Activity.{Activity}
use Rattle.pfc_activities.specs.declared.source.Source.{Source}
use Rattle.pfc_activities.specs.declared.state.State.{State}
use Rattle.pfc_activities.specs.Relation.{IsBefore, IsIn}
use Rattle.pfc_activities.specs.Shown.{Shown, shown, activity_shown}
use Rattle.pfc_activities.specs.Views.{hand_view}
use Rattle.pfc_activities.proofs.Acting.{display_is, located_is, value_is}
use Rattle.pfc_activating.specs.Passing.{passed_in}
use Rattle.pfc_activating.proofs.Activated.{passed_are}
use Rattle.pfc_meeting.specs.Meeting.{side_held}
use Rattle.pfc_meeting.specs.Opens.{arm_in, number_in}
use Rattle.pfc_meeting.proofs.Both.{other_is}
use Rattle.pfc_meeting.proofs.BothPass.{another}
use Rattle.pfc_meeting.proofs.Sides.{arm_is, side_is}
use Rattle.pfc_events.specs.Held.{access_to, beside_in, message_in, parameters_in}
use Rattle.pfc_events.specs.Sides.{AreCalled, AreWritten, between, written_in}

-- the process that was found
there_is : (ys : List Activity) (q : ℕ) (found : Activity) → q < length ys → found ≡ get_or ys q found → IsIn ys q found
there_is ys q found within is = record { within = within; is = λ d. sym (get_or_read_under ys q (length ys) found d is within refl) }

-- ## By the display of the partner

beside_is :
    (g : Program) (c : Config) (q : ℕ) (display : Display) (args : List Value) (o : Offer)
    → (activity_of g c q).display ≡ display → accesses_seen (written_beside g c q args o) ≡ beside_in c.store display args o
beside_is g c q display args (to_send channel v) h = refl
beside_is g c q display args (to_receive channel None) h = refl
beside_is g c q display args (to_receive channel (Some target)) h = ap (λ (d : Display). access_to true (located c.store d target) ∷ []) h
beside_is g c q display args (to_accept a) h = ap (λ (d : Display). parameters_in d a args) h
beside_is g c q display args (to_wait n) h = refl
beside_is g c q display args to_end h = refl

side_writes_are :
    (g : Program) (c : Config) (q : ℕ) (display : Display) (args : List Value) (o : Option Side)
    → (activity_of g c q).display ≡ display → accesses_seen (written_at g c q args o) ≡ written_in c.store display args o
side_writes_are g c q display args None h = refl
side_writes_are g c q display args (Some s) h = beside_is g c q display args s.at.offer h

-- ## With a partner

module _ (source : Source) (g : Program) (s : State) (c : Config) (p q : ℕ) (a b : Activity) (n : Action) (before : IsBefore source s c p a n) (other : q ≢ p)
    (there : IsIn s.activities.items q b) where
  abbrev t : Tables
  t = source.program.tables

  abbrev store : Store
  store = store_view s.store

  shows : shown (activity_of g c q) ≡ activity_shown t b
  shows = other_is source g s c p q a b n before other there

  pub written_is : (args : List Value) (arm : Arm) →
      accesses_seen (written_at g c q args (side_of g c q arm)) ≡ written_in store b.display args (side_held t store b arm)
  written_is args arm =
      side_writes_are g c q b.display args (side_of g c q arm) (ap (λ (x : Shown). x.display) shows)
      ∙ ap (written_in c.store b.display args) (side_is t g c q arm store b shows before.agrees.store)
      ∙ ap (λ (k : Store). written_in k b.display args (side_held t store b arm)) (sym before.agrees.store)

  message_is : (target : Option Spot) → accesses_seen (message_write g c p target) ≡ message_in store a.display target
  message_is None = refl
  message_is (Some target) = ap (λ (l : Location). access_to true l ∷ []) (sym (located_is source g s c p a n before target))

  pub between_is : (o : Offer) (arm : Arm) → accesses_seen (communication_writes g c p q o (Some arm)) ≡ between t store a b o arm
  between_is (to_send channel v) (To k) = written_is [] (From k)
  between_is (to_send channel v) (From k) = refl
  between_is (to_send channel v) (Entry k) = refl
  between_is (to_receive channel target) arm = message_is target
  between_is (to_accept x) arm =
      ap (λ (h : Hand). parameters_in (activity_of g c p).display x (asked h)) (ap (λ (y : Shown). y.hand) shows)
      ∙ ap (λ (d : Display). parameters_in d x (asked (hand_view t b.doing b.hand))) (display_is source g s c p a n before)
  between_is (to_wait k) arm = refl
  between_is to_end arm = refl

-- ## By an open alternative

-- what it is in the table
arm_held :
    (source : Source) (g : Program) (s : State) (c : Config) (p : ℕ) (a own : Activity) (n : Action) (o : Open) (offer : HeldOffer) (found : Option Arm)
    → IsBefore source s c p a n → own ≡ get_or s.activities.items p own → o.offer ≡ offer_view offer
    → found ≡ arm_in (store_view s.store) own.display (offer_view offer) → arm_of g c p o.offer ≡ found
arm_held source g s c p a own n o offer found before is same held =
    ap (arm_of g c p) same ∙ arm_is g c p (offer_view offer)
    ∙ ap (λ (k : Store). arm_in k (activity_of g c p).display (offer_view offer)) (sym before.agrees.store)
    ∙ ap (λ (d : Display). arm_in (store_view s.store) d (offer_view offer))
    (display_is source g s c p a n before ∙ ap (λ (x : Activity). x.display) (sym (is ∙ before.there.is own)))
    ∙ sym held

-- it does not communicate
pub written_apart :
    (s : State) (p : ℕ) (own : Activity) (offer : HeldOffer) (accesses : List AccessSeen)
    → own ≡ get_or s.activities.items p own → None ≡ arm_in (store_view s.store) own.display (offer_view offer) → accesses ≡ [] → AreWritten s p offer accesses
written_apart s p own offer accesses is held none source g c a n o before same =
    none ∙ sym (ap (λ (x : Option Arm). accesses_seen (met_writes g c p o (partner_at c p x)))
    (arm_held source g s c p a own n o offer None before is same held))

abbrev seen_with : Program → Config → ℕ → Open → Option ℕ → List AccessSeen
seen_with g c p o q = accesses_seen (met_writes g c p o q)

-- whom it meets
met_held :
    (source : Source) (g : Program) (s : State) (c : Config) (p : ℕ) (a own : Activity) (n : Action) (o : Open) (offer : HeldOffer) (arm : Arm) (q : Option ℕ)
    → IsBefore source s c p a n → own ≡ get_or s.activities.items p own → o.offer ≡ offer_view offer
    → Some arm ≡ arm_in (store_view s.store) own.display (offer_view offer) → q ≡ partner s.world.rows p arm
    → seen_with g c p o (partner_at c p (arm_of g c p o.offer)) ≡ seen_with g c p o q
met_held source g s c p a own n o offer arm q before is same held met =
    ap (λ (x : Option Arm). seen_with g c p o (partner_at c p x)) (arm_held source g s c p a own n o offer (Some arm) before is same held)
    ∙ ap (λ (w : Table). seen_with g c p o (partner w.rows p arm)) (sym before.agrees.table) ∙ ap (seen_with g c p o) (sym met)

-- nobody
pub written_alone :
    (s : State) (p : ℕ) (own : Activity) (offer : HeldOffer) (arm : Arm) (accesses : List AccessSeen)
    → own ≡ get_or s.activities.items p own → Some arm ≡ arm_in (store_view s.store) own.display (offer_view offer)
    → None ≡ partner s.world.rows p arm → accesses ≡ [] → AreWritten s p offer accesses
written_alone s p own offer arm accesses is held met none source g c a n o before same =
    none ∙ sym (met_held source g s c p a own n o offer arm None before is same held met)

-- a process
pub written_with :
    (s : State) (p q : ℕ) (own b : Activity) (offer : HeldOffer) (arm : Arm) (accesses : List AccessSeen)
    → own ≡ get_or s.activities.items p own → q < length s.activities.items → b ≡ get_or s.activities.items q b
    → at s.world.rows p ≡ Is_ready → IsWaiting (at s.world.rows q)
    → Some arm ≡ arm_in (store_view s.store) own.display (offer_view offer) → Some q ≡ partner s.world.rows p arm
    → ((t : Tables) → accesses ≡ between t (store_view s.store) own b (offer_view offer) arm) → AreWritten s p offer accesses
written_with s p q own b offer arm accesses is within there ready waits held met written source g c a n o before same =
    let t : Tables = source.program.tables in
    let other : q ≢ p = another s.world.rows p q ready waits in
    written t
    ∙ ap (λ (x : Activity). between t (store_view s.store) x b (offer_view offer) arm) (is ∙ before.there.is own)
    ∙ sym (between_is source g s c p q a b n before other (there_is s.activities.items q b within there) (offer_view offer) arm)
    ∙ sym (ap (λ (x : Offer). accesses_seen (communication_writes g c p q x (Some arm))) same)
    ∙ sym (ap (λ (x : Option Arm). accesses_seen (communication_writes g c p q o.offer x))
    (arm_held source g s c p a own n o offer (Some arm) before is same held))
    ∙ sym (met_held source g s c p a own n o offer arm (Some q) before is same held met)

-- ## By a call of an entry

abbrev writes_where : Bool → List Access → List Access
writes_where accepting writes = if accepting then writes else []

-- as the state tells it
called_held :
    (source : Source) (g : Program) (s : State) (c : Config) (p q entry : ℕ) (a own : Activity) (n : Action) (spot : HeldSpot)
    (args : List Argument) (accepting : Bool)
    → IsBefore source s c p a n → own ≡ get_or s.activities.items p own → q ≡ number_in (store_view s.store) own.display (spot_view spot)
    → accepting ≡ is_accepting s.world.rows q entry
    → accesses_seen (writes_where accepting (written_at g c q (all_passed g c p (given_view args)) (side_of g c q (Entry entry))))
    ≡ (let k : ℕ = number_for g c p (spot_view spot) in
    accesses_seen (writes_where (is_accepting c.table.rows k entry) (written_at g c k (all_passed g c p (given_view args)) (side_of g c k (Entry entry)))))
called_held source g s c p q entry a own n spot args accepting before is number accepts =
    let values : List Value = all_passed g c p (given_view args) in
    ap (λ (z : Bool). accesses_seen (writes_where z (written_at g c q values (side_of g c q (Entry entry))))) accepts
    ∙ ap (λ (w : Table). accesses_seen (writes_where (is_accepting w.rows q entry) (written_at g c q values (side_of g c q (Entry entry))))) before.agrees.table
    ∙ ap (λ (k : ℕ). accesses_seen (writes_where (is_accepting c.table.rows k entry) (written_at g c k values (side_of g c k (Entry entry)))))
    (number ∙ ap (λ (x : Activity). number_in (store_view s.store) x.display (spot_view spot)) (is ∙ before.there.is own)
    ∙ ap (λ (v : Value). unsigned_abs (ordinal_of v)) (value_is source g s c p a n before (spot_view spot)))

pub called_apart :
    (s : State) (p q entry : ℕ) (own : Activity) (spot : HeldSpot) (args : List Argument) (accesses : List AccessSeen)
    → own ≡ get_or s.activities.items p own → q ≡ number_in (store_view s.store) own.display (spot_view spot)
    → false ≡ is_accepting s.world.rows q entry → accesses ≡ [] → AreCalled s p spot entry args accesses
called_apart s p q entry own spot args accesses is number accepts none source g c a n k before =
    none ∙ called_held source g s c p q entry a own n spot args false before is number accepts

pub called_there :
    (s : State) (p q entry : ℕ) (own b : Activity) (spot : HeldSpot) (args : List Argument) (values : List HeldValue) (accesses : List AccessSeen)
    → own ≡ get_or s.activities.items p own → q < length s.activities.items → b ≡ get_or s.activities.items q b
    → at s.world.rows p ≡ Is_ready → IsWaiting (at s.world.rows q) → q ≡ number_in (store_view s.store) own.display (spot_view spot)
    → true ≡ is_accepting s.world.rows q entry → values_view values ≡ map (passed_in (store_view s.store) own.display) (given_view args)
    → ((t : Tables) → accesses ≡ written_in (store_view s.store) b.display (values_view values) (side_held t (store_view s.store) b (Entry entry)))
    → AreCalled s p spot entry args accesses
called_there s p q entry own b spot args values accesses is within there ready waits number accepts passed written source g c a n k before =
    let t : Tables = source.program.tables in
    let other : q ≢ p = another s.world.rows p q ready waits in
    let given : values_view values ≡ all_passed g c p (given_view args)
    = passed ∙ ap (λ (x : Store). map (passed_in x own.display) (given_view args)) before.agrees.store
    ∙ ap (λ (d : Display). map (passed_in c.store d) (given_view args))
    (ap (λ (x : Activity). x.display) (is ∙ before.there.is own) ∙ sym (display_is source g s c p a n before))
    ∙ passed_are g c p (given_view args) in
    written t
    ∙ sym (written_is source g s c p q a b n before other (there_is s.activities.items q b within there) (values_view values) (Entry entry))
    ∙ ap (λ (vs : List Value). accesses_seen (written_at g c q vs (side_of g c q (Entry entry)))) given
    ∙ called_held source g s c p q entry a own n spot args true before is number accepts
