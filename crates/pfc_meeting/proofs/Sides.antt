-- What a partner offers, on both sides.
use Rattle.std.proofs.Common.{◌≡◌, ℕ, Bool, true, false, List, [], ◌∷◌, Option, Some, None, refl, sym, ap, ◌∙◌}
use Rattle.std.specs.Prelude.{option_map, if◌then◌else◌}
use Rattle.pfc_state.specs.declared.waits.Arm.{Arm}
use Rattle.pfc_state.specs.declared.waits.Arm.TheVariants.{Send as To, Receive as From}
use Rattle.pfc_program.specs.declared.tables.Tables.{Tables}
use Rattle.pfc_program.specs.Views.{names_view}
use Rattle.pfc_store.specs.declared.spots.Spot.{Spot as HeldSpot}
use Rattle.pfc_store.specs.declared.values.Location.{Location as HeldLocation}
use Rattle.pfc_store.specs.declared.values.Value.{Value as HeldValue}
use Rattle.pfc_store.specs.Views.{location_view, spot_view, value_view}
use Rattle.pfc_semantics.specs.Values.{Value, Location}
use Rattle.pfc_semantics.specs.Store.{Store, stored}
use Rattle.pfc_semantics.specs.Displays.{Spot, Display, located}
use Rattle.pfc_semantics.specs.Programs.{Program}
use Rattle.pfc_semantics.specs.Remainders.{Context, Offer, Open, Remainder, to_send, to_receive, to_accept, to_wait, to_end}
use Rattle.pfc_semantics.specs.Channels.{Side, arm_of, is_arm, first_open, side_in, side_of, delivered, sent_to, sent_into, received_from, received_out}
use Rattle.pfc_semantics.specs.Configurations.{Config, activity_of, doing_next}
use Rattle.pfc_pending.specs.Selects.{offer_view, opens_view}
use Rattle.pfc_pending.specs.declared.select.Offer.{Offer as HeldOffer}
use Rattle.pfc_pending.specs.declared.select.Offer.TheVariants as offer
use Rattle.pfc_activities.specs.declared.activities.Activity.{Activity}
use Rattle.pfc_activities.specs.declared.hands.Hand.{Hand}
use Rattle.pfc_activities.specs.declared.hands.Hand.TheVariants as hand
use Rattle.pfc_activities.specs.Shown.{Shown, shown, activity_shown}
use Rattle.pfc_activities.specs.Views.{hand_view}
use Rattle.pfc_meeting.specs.declared.partners.Met.{Met}
use Rattle.pfc_meeting.specs.Opens.{arm_in, first_met}
use Rattle.pfc_meeting.specs.Going.{left_of}
use Rattle.pfc_meeting.specs.Meeting.{met_side, side_shown, side_held, onward_of, doing_onward, delivered_into}

-- ## What is open

pub arm_is : (g : Program) (c : Config) (q : ℕ) (o : Offer) → arm_of g c q o ≡ arm_in c.store (activity_of g c q).display o
arm_is g c q (to_send channel v) = refl
arm_is g c q (to_receive channel target) = refl
arm_is g c q (to_accept a) = refl
arm_is g c q (to_wait n) = refl
arm_is g c q to_end = refl

if_mapped :
    (b : Bool) (f : Open → Side) (o : Open) (rest : Option Side) (others : Option Open)
    → rest ≡ option_map f others → (if b then Some (f o) else rest) ≡ option_map f (if b then Some o else others)
if_mapped true f o rest others h = refl
if_mapped false f o rest others h = h

first_open_is :
    (g : Program) (c : Config) (q : ℕ) (arm : Arm) (x : Context) (os : List Open) (k : Remainder)
    → first_open g c q arm x os k
    ≡ option_map (λ (o : Open). (let s : Side = record { context = x; at = o; left = k } in s)) (first_met c.store (activity_of g c q).display arm os)
first_open_is g c q arm x [] k = refl
first_open_is g c q arm x (o ∷ os) k =
    let f : Open → Side = λ (y : Open). record { context = x; at = y; left = k } in
    ap (λ (a : Option Arm). (let r : Option Side = if is_arm arm a then Some (f o) else first_open g c q arm x os k in r)) (arm_is g c q o.offer)
    ∙ if_mapped (is_arm arm (arm_in c.store (activity_of g c q).display o.offer)) f o (first_open g c q arm x os k)
    (first_met c.store (activity_of g c q).display arm os) (first_open_is g c q arm x os k)

side_in_is :
    (t : Tables) (g : Program) (c : Config) (q : ℕ) (arm : Arm) (b : Activity) (h : Hand)
    → (activity_of g c q).display ≡ b.display → side_in g c q arm (hand_view t b.doing h) ≡ side_shown t c.store b arm h
side_in_is t g c q arm b hand.Empty display = refl
side_in_is t g c q arm b (hand.Asking args) display = refl
side_in_is t g c q arm b (hand.Barred bar) display = refl
side_in_is t g c q arm b (hand.Offering o) display =
    let x : Context = record { env = names_view t b.doing.names; line = o.line } in
    let k : Remainder = left_of t b o.kept in
    first_open_is g c q arm x (opens_view o.opens.items) k
    ∙ ap (λ (d : Display). option_map (λ (y : Open). (let s : Side = record { context = x; at = y; left = k } in s))
    (first_met c.store d arm (opens_view o.opens.items))) display

-- what a process offers in the definitions
pub side_is :
    (t : Tables) (g : Program) (c : Config) (q : ℕ) (arm : Arm) (store : Store) (b : Activity)
    → shown (activity_of g c q) ≡ activity_shown t b → store ≡ c.store → side_of g c q arm ≡ side_held t store b arm
side_is t g c q arm store b is same =
    ap (λ (x : Shown). side_in g c q arm x.hand) is ∙ side_in_is t g c q arm b b.hand (ap (λ (x : Shown). x.display) is)
    ∙ ap (λ (z : Store). side_held t z b arm) (sym same)

-- ## Messages

abbrev some_or : Location → Option Location → Location
some_or l None = l
some_or l (Some m) = m

pub delivered_is :
    (g : Program) (c : Config) (q : ℕ) (store : Store) (display : Display) (target : Option HeldSpot) (into : Option HeldLocation) (v : Value)
    → c.store ≡ store → (activity_of g c q).display ≡ display
    → option_map location_view into ≡ option_map (λ s. located store display (spot_view s)) target
    → delivered g c q (option_map spot_view target) v ≡ delivered_into c into v
delivered_is g c q store display None None v same in_view h = refl
delivered_is g c q store display None (Some l) v same in_view h = absurd cc
delivered_is g c q store display (Some s) None v same in_view h = absurd cc
delivered_is g c q store display (Some s) (Some l) v same in_view h =
    ap (λ (z : Location). (let d : Config = record c { store = stored c.store z v } in d))
    (ap (λ (z : Store). located z (activity_of g c q).display (spot_view s)) same ∙ ap (λ (d : Display). located store d (spot_view s)) in_view
    ∙ sym (ap (some_or (location_view l)) h))

pub receiver_so :
    (t : Tables) (g : Program) (c : Config) (q n : ℕ) (v : Value) (store : Store) (b : Activity) (m : Met) (channel : HeldSpot) (target : Option HeldSpot)
    (into : Option HeldLocation)
    → side_held t store b (From n) ≡ Some (met_side t b m) → m.offered.now.offer ≡ offer.Receive channel target
    → option_map location_view into ≡ option_map (λ s. located store b.display (spot_view s)) target
    → c.store ≡ store → (activity_of g c q).display ≡ b.display
    → sent_to g c q v (side_held t store b (From n)) ≡ doing_next g (delivered_into c into v) q (doing_onward t b (onward_of m))
receiver_so t g c q n v store b m channel target into side is place same in_view =
    let s : Side = met_side t b m in
    ap (sent_to g c q v) side ∙ ap (λ (o : HeldOffer). sent_into g c q v s (offer_view o)) is
    ∙ ap (λ (d : Config). doing_next g d q (doing_onward t b (onward_of m))) (delivered_is g c q store b.display target into v same in_view place)

pub sender_so :
    (t : Tables) (g : Program) (c : Config) (p q n : ℕ) (target : Option Spot) (store : Store) (b : Activity) (m : Met) (channel : HeldSpot) (v w : HeldValue)
    → side_held t store b (To n) ≡ Some (met_side t b m) → m.offered.now.offer ≡ offer.Send channel v → value_view w ≡ value_view v
    → received_from g c p target q (side_held t store b (To n)) ≡ doing_next g (delivered g c p target (value_view w)) q (doing_onward t b (onward_of m))
sender_so t g c p q n target store b m channel v w side is same =
    let s : Side = met_side t b m in
    ap (received_from g c p target q) side ∙ ap (λ (o : HeldOffer). received_out g c p target q s (offer_view o)) is
    ∙ ap (λ (x : Value). doing_next g (delivered g c p target x) q (doing_onward t b (onward_of m))) (sym same)
