-- A message of a select passes, on both sides.
use Rattle.std.proofs.Common.{◌≡◌, ◌≢◌, ◌<◌, ℕ, length, get_or, Option, Ok, refl, sym, ap, ◌∙◌, subst}
use Rattle.std.specs.Prelude.{option_map}
use Rattle.pfc_state.specs.declared.waits.Arm.TheVariants.{Send as To, Receive as From}
use Rattle.pfc_state.specs.Stands.{Is_ready}
use Rattle.pfc_world.specs.Transitions.{placed}
use Rattle.pfc_program.specs.declared.tables.Tables.{Tables}
use Rattle.pfc_program.specs.declared.names.Names.{Names}
use Rattle.pfc_program.specs.Views.{names_view}
use Rattle.pfc_store.specs.declared.spots.Spot.{Spot as HeldSpot}
use Rattle.pfc_store.specs.declared.values.Location.{Location as HeldLocation}
use Rattle.pfc_store.specs.declared.values.Value.{Value as HeldValue}
use Rattle.pfc_store.specs.Views.{store_view, location_view, spot_view, value_view}
use Rattle.pfc_semantics.specs.Values.{Value}
use Rattle.pfc_semantics.specs.Store.{Store}
use Rattle.pfc_semantics.specs.Displays.{Spot, Display, located}
use Rattle.pfc_semantics.specs.Programs.{Program}
use Rattle.pfc_semantics.specs.Remainders.{Remainder}
use Rattle.pfc_semantics.specs.Rewriting.{going}
use Rattle.pfc_semantics.specs.Channels.{side_of, sent_to, received_from, delivered}
use Rattle.pfc_semantics.specs.Configurations.{Config, Effect, activity_of, doing_next, with_table}
use Rattle.pfc_pending.specs.Waiting.{remainder_of}
use Rattle.pfc_activities.specs.declared.activities.Activity.{Activity}
use Rattle.pfc_activities.specs.declared.changes.Done.{Done}
use Rattle.pfc_activities.specs.declared.source.Source.{Source}
use Rattle.pfc_activities.specs.declared.state.State.{State}
use Rattle.pfc_activities.specs.Relation.{IsIn, IsAt}
use Rattle.pfc_activities.specs.Views.{context_of, pending_of}
use Rattle.pfc_activities.proofs.Acting.{display_is}
use Rattle.pfc_meeting.specs.declared.onward.Onward.{Onward}
use Rattle.pfc_meeting.specs.Meeting.{side_held, doing_onward, delivered_into, IsRoomier, IsPassed, IsSent, IsReceived}
use Rattle.pfc_meeting.proofs.BothPass.{sent_so, received_so}
use Rattle.pfc_deciding.specs.declared.own.Behind.{Behind}
use Rattle.pfc_deciding.proofs.Ways.{there_is}
use Rattle.pfc_deciding.specs.Coming.{ComesTo, IsOnWay, IsUnderWay, left_behind, sends_it, receives_it}

-- nothing more was taken
same_room : (s : State) (q : ℕ) → IsRoomier s s q
same_room s q = record { same = λ source c p a n other is_at. is_at; world = refl; store = refl; count = refl }

-- the own way is the same for both
own_way :
    (t : Tables) (g : Program) (c : Config) (p : ℕ) (a b : Activity) (k : Remainder) (f : Config → Effect)
    → b.doing.names ≡ a.doing.names → remainder_of (pending_of t b.doing) ≡ k
    → f (doing_next g c p (going (context_of t a.doing).env k)) ≡ f (doing_next g c p (going (context_of t b.doing).env (remainder_of (pending_of t b.doing))))
own_way t g c p a b k f names left =
    ap (λ (m : Names). f (doing_next g c p (going (names_view t m) k))) (sym names)
    ∙ ap (λ (y : Remainder). f (doing_next g c p (going (names_view t b.doing.names) y))) (sym left)

-- ## `c ! e`

pub sends_own :
    (s mid under new : State) (p q channel : ℕ) (way : Behind) (v message : HeldValue) (into : Option HeldLocation)
    (other_way : Onward) (found : Activity) (d : Done)
    → q ≢ p → IsRoomier s mid q → IsUnderWay mid under p way → q < length mid.activities.items → found ≡ get_or mid.activities.items q found
    → ((t : Tables) (g : Program) (c : Config) (q : ℕ) (v : Value) → c.store ≡ store_view mid.store → (activity_of g c q).display ≡ found.display
    → sent_to g c q v (side_held t (store_view mid.store) found (From channel)) ≡ doing_next g (delivered_into c into v) q (doing_onward t found other_way))
    → value_view message ≡ value_view v → IsPassed under new p q into message other_way d
    → (source : Source) → ComesTo source s new p (sends_it way p q channel v) d
sends_own s mid under new p q channel way v message into other_way found d other roomier goes within is meets same passes
    source g c choice a n program is_at e lines =
    let t : Tables = source.program.tables in
    let k : Remainder = left_behind way (remainder_of (pending_of t a.doing)) in
    let at_mid : IsAt source mid c p a n = roomier.same source c p a n other is_at in
    let own : (b : Activity) × IsOnWay source under c p a b n way = goes.same source c a n at_mid in
    let there : IsIn under.activities.items q found = goes.others q found other (there_is mid.activities.items q found within is) in
    let store : store_view mid.store ≡ store_view under.store = ap (λ (x : State). store_view x.store) (sym goes.alike.rest) in
    let sent : IsSent under new p q channel message d
    = sent_so under under new p q channel message into other_way found d other (same_room under q) there.within (sym (there.is found))
    (subst
    (λ (st : Store). ((t : Tables) (g : Program) (c : Config) (q : ℕ) (v : Value) → c.store ≡ st → (activity_of g c q).display ≡ found.display
    → sent_to g c q v (side_held t st found (From channel)) ≡ doing_next g (delivered_into c into v) q (doing_onward t found other_way)))
    store meets)
    passes in
    sent source g c choice own.0 n own.1.at
    (e
    ∙ own_way t g c p a own.0 k (λ (y : Config). Ok (with_table (sent_to g y q (value_view v) (side_of g c q (From channel))) (placed c.table q Is_ready)))
    own.1.names own.1.left
    ∙ ap
    (λ (w : Value). (let r : Effect =
    Ok (with_table (sent_to g (doing_next g c p (going (context_of t own.0.doing).env (remainder_of (pending_of t own.0.doing)))) q w
    (side_of g c q (From channel))) (placed c.table q Is_ready)) in r))
    (sym same))
    (lines ∙ sym own.1.line)

-- ## `c ? v`

pub receives_own :
    (s mid under new : State) (p q channel : ℕ) (way : Behind) (target : Option HeldSpot) (v : HeldValue) (into : Option HeldLocation) (other_way : Onward)
    (found acting : Activity) (d : Done)
    → q ≢ p → IsRoomier s mid q → IsUnderWay mid under p way → q < length mid.activities.items → found ≡ get_or mid.activities.items q found
    → acting ≡ get_or mid.activities.items p acting
    → ((t : Tables) (g : Program) (c : Config) (p q : ℕ) (target : Option Spot)
    → received_from g c p target q (side_held t (store_view mid.store) found (To channel)) ≡ doing_next g
    (delivered g c p target (value_view v)) q (doing_onward t found other_way))
    → option_map location_view into ≡ option_map (λ s. located (store_view mid.store) acting.display (spot_view s)) target
    → IsPassed under new p q into v other_way d
    → (source : Source) → ComesTo source s new p (receives_it way p q channel target) d
receives_own s mid under new p q channel way target v into other_way found acting d other roomier goes within is acting_is meets place passes
    source g c choice a n program is_at e lines =
    let t : Tables = source.program.tables in
    let k : Remainder = left_behind way (remainder_of (pending_of t a.doing)) in
    let at_mid : IsAt source mid c p a n = roomier.same source c p a n other is_at in
    let own : (b : Activity) × IsOnWay source under c p a b n way = goes.same source c a n at_mid in
    let there : IsIn under.activities.items q found = goes.others q found other (there_is mid.activities.items q found within is) in
    let store : store_view mid.store ≡ store_view under.store = ap (λ (x : State). store_view x.store) (sym goes.alike.rest) in
    let display : acting.display ≡ own.0.display
    = ap (λ (b : Activity). b.display) (acting_is ∙ at_mid.before.there.is acting) ∙ sym (display_is source g mid c p a n at_mid.before)
    ∙ display_is source g under c p own.0 n own.1.at.before in
    let received : IsReceived under new p q channel target d
    = received_so under under new p q channel target v into other_way found own.0 d other (same_room under q) there.within (sym (there.is found))
    (sym (own.1.at.before.there.is own.0))
    (subst
    (λ (st : Store). ((t : Tables) (g : Program) (c : Config) (p q : ℕ) (target : Option Spot)
    → received_from g c p target q (side_held t st found (To channel)) ≡ doing_next g
    (delivered g c p target (value_view v)) q (doing_onward t found other_way)))
    store meets)
    (place ∙ ap (λ (st : Store). option_map (λ s. located st acting.display (spot_view s)) target) store
    ∙ ap (λ (ds : Display). option_map (λ s. located (store_view under.store) ds (spot_view s)) target) display)
    passes in
    received source g c choice own.0 n own.1.at
    (e
    ∙ own_way t g c p a own.0 k
    (λ (y : Config). Ok (with_table (received_from g y p (option_map spot_view target) q (side_of g c q (To channel))) (placed c.table q Is_ready)))
    own.1.names own.1.left)
    (lines ∙ sym own.1.line)
