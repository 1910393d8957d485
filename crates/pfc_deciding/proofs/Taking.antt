-- The alternative that is taken, on both sides.
use Rattle.std.proofs.Common.{◌≡◌, ℕ, suc, zero, ◌+◌, ◌<◌, List, [], ◌∷◌, length, drop, drop-cons, get_or, Option, Some, None, Result, Ok, Err, refl, sym, ap}
use Rattle.std.proofs.Common.{◌∙◌, cond}
use Rattle.std.specs.Prelude.{is_some, slice_get, if◌then◌else◌, IfOk}
use Rattle.std.proofs.lemmas.Option.{slice_get-get_or}
use Rattle.pfc_base.specs.declared.memory_error.Memory.{Memory}
use Rattle.pfc_state.specs.declared.waits.Arm.{Arm}
use Rattle.pfc_state.specs.declared.waits.Arm.TheVariants.{Send as To, Receive as From}
use Rattle.pfc_state.specs.Stands.{Stand}
use Rattle.pfc_world.specs.declared.partners.Partner.{Partner}
use Rattle.pfc_world.specs.Partnering.{met_at}
use Rattle.pfc_world.specs.Partners.{partner}
use Rattle.pfc_world.specs.Tables.{Table}
use Rattle.pfc_world.specs.Selects.{matched, matched_from, communicated_with, committed, committed_at, committed_to}
use Rattle.pfc_store.specs.declared.spots.Spot.{Spot as HeldSpot}
use Rattle.pfc_store.specs.declared.values.Value.{Value as HeldValue}
use Rattle.pfc_store.specs.Views.{store_view}
use Rattle.pfc_semantics.specs.Store.{Store}
use Rattle.pfc_semantics.specs.Displays.{Display}
use Rattle.pfc_semantics.specs.Programs.{Program}
use Rattle.pfc_semantics.specs.Remainders as remainders
use Rattle.pfc_semantics.specs.Remainders.{Context, Remainder, Action, to_send, to_receive, to_accept, to_wait, to_end}
use Rattle.pfc_semantics.specs.Channels.{arm_of, arms_of_all, listed_arm, communications, is_communication}
use Rattle.pfc_semantics.specs.Selects.{communicates, communicates_by, takes, open_at, partner_at, matched_places}
use Rattle.pfc_semantics.specs.Configurations.{Config, Effect, activity_of, with_table}
use Rattle.pfc_pending.specs.Selects.{offer_view, open_view, opens_view, select_view}
use Rattle.pfc_pending.specs.Waiting.{remainder_of}
use Rattle.pfc_pending.specs.declared.select.Offer.{Offer as HeldOffer}
use Rattle.pfc_pending.specs.declared.select.Offer.TheVariants as offer
use Rattle.pfc_pending.specs.declared.select.Open.{Open}
use Rattle.pfc_pending.specs.declared.select.Selecting.{Selecting}
use Rattle.pfc_activities.specs.declared.activities.Activity.{Activity}
use Rattle.pfc_activities.specs.declared.changes.Done.{Done}
use Rattle.pfc_activities.specs.declared.source.Source.{Source}
use Rattle.pfc_activities.specs.declared.state.State.{State}
use Rattle.pfc_activities.specs.Relation.{IsAt}
use Rattle.pfc_activities.specs.Views.{context_of, pending_of}
use Rattle.pfc_activities.proofs.Acting.{display_is}
use Rattle.pfc_meeting.specs.Opens.{arm_in, arms_in}
use Rattle.pfc_meeting.proofs.Sides.{arm_is}
use Rattle.pfc_deciding.specs.declared.matching.Matched.{Matched}
use Rattle.pfc_deciding.specs.declared.own.Behind.{Behind}
use Rattle.pfc_deciding.specs.Coming.{ComesTo, sends_it, receives_it}
use Rattle.pfc_deciding.specs.Matching.{AreArms, IsMatched, takes_open_in, takes_in}

-- ## The walk to a matched alternative

-- the walk stands at the k-th where no matched alternative is left before it
pub matched_here : (rows : List Stand) (p place : ℕ) (arms : List Arm) (d : Arm) (left k q : ℕ) → place < length arms
    → slice_get (matched_from place rows p (drop place arms)) left ≡ slice_get (matched rows p arms) k → left ≡ 0 →
    partner rows p (get_or arms place d) ≡ Some q
    → IsMatched rows p arms k (record { place = place; arm = get_or arms place d; partner = q })
matched_here rows p place arms d left k q lt h zero_left meets =
    record {
      kth = sym h
          ∙ ap (λ n. slice_get (matched_from place rows p (drop place arms)) n) zero_left
          ∙ ap (λ rest. slice_get (matched_from place rows p rest) 0) (drop-cons arms place d lt)
          ∙ ap (λ (o : Option ℕ). slice_get (cond (is_some o) (place ∷ matched_from (place + 1) rows p (drop (suc place) arms))
          (matched_from (place + 1) rows p (drop (suc place) arms))) 0) meets;
      own = slice_get-get_or arms place d lt;
      meets = meets;
    }

abbrev process_in : Option Partner → Option ℕ
process_in None = None
process_in (Some m) = Some m.process

pub met_is : (rows : List Stand) (arm : Arm) (o : Option ℕ) → process_in (met_at rows arm o) ≡ o
met_is rows arm (Some q) = refl
met_is rows arm None = refl

pub met_some : (rows : List Stand) (arm : Arm) (o : Option ℕ) (m : Partner) → met_at rows arm o ≡ Some m → Some m.process ≡ o
met_some rows arm o m h = sym (ap process_in h) ∙ met_is rows arm o

pub met_none : (rows : List Stand) (arm : Arm) (o : Option ℕ) → met_at rows arm o ≡ None → None ≡ o
met_none rows arm o h = sym (ap process_in h) ∙ met_is rows arm o

-- ## Alternatives and arms

pub arms_are :
    (g : Program) (c : Config) (p : ℕ) (os : List remainders.Open)
    → arms_of_all g c p os ≡ arms_in c.store (activity_of g c p).display os
arms_are g c p [] = refl
arms_are g c p (o ∷ os) =
    ap (λ (x : Option Arm). listed_arm x (arms_of_all g c p os)) (arm_is g c p o.offer)
    ∙ ap (λ (l : List Arm). listed_arm (arm_in c.store (activity_of g c p).display o.offer) l) (arms_are g c p os)

-- the arms of the configuration are those of the code
pub arms_here :
    (source : Source) (g : Program) (s : State) (c : Config) (p : ℕ) (a : Activity) (n : Action) (os : List Open) (arms : List Arm)
    → IsAt source s c p a n → AreArms s p os arms → arms_of_all g c p (opens_view os) ≡ arms
arms_here source g s c p a n os arms is_at are =
    arms_are g c p (opens_view os)
    ∙ ap (λ (st : Store). arms_in st (activity_of g c p).display (opens_view os)) (sym is_at.before.agrees.store)
    ∙ ap (λ (d : Display). arms_in (store_view s.store) d (opens_view os)) (display_is source g s c p a n is_at.before)
    ∙ sym (are a is_at.before.there)

pub matched_is :
    (source : Source) (g : Program) (s : State) (c : Config) (p : ℕ) (a : Activity) (n : Action) (select : Selecting) (arms : List Arm)
    → IsAt source s c p a n → AreArms s p select.offered.items arms → matched_places g c p (select_view select) ≡ matched s.world.rows p arms
matched_is source g s c p a n select arms is_at are =
    ap (λ (l : List Arm). matched c.table.rows p l) (arms_here source g s c p a n select.offered.items arms is_at are)
    ∙ ap (λ (w : Table). matched w.rows p arms) (sym is_at.before.agrees.table)

-- the arm at a place is that of the alternative at this place among those that communicate
arm_head :
    (store : Store) (display : Display) (x : remainders.Open) (f : remainders.Offer) (os : List remainders.Open) (i : ℕ) (arm : Arm) (o : remainders.Open)
    → ((j : ℕ) → slice_get (arms_in store display os) j ≡ Some arm → slice_get (communications os) j ≡ Some o → arm_in store display o.offer ≡ Some arm)
    → slice_get (listed_arm (arm_in store display f) (arms_in store display os)) i ≡ Some arm
    → slice_get (if is_communication f then record x { offer = f } ∷ communications os else communications os) i ≡ Some o →
    arm_in store display o.offer ≡ Some arm
arm_head store display x (to_send ch v) os zero arm o rest h e =
    let same : record x { offer = to_send ch v } ≡ o = cc in ap (λ (y : remainders.Open). arm_in store display y.offer) (sym same) ∙ h
arm_head store display x (to_receive ch v) os zero arm o rest h e =
    let same : record x { offer = to_receive ch v } ≡ o = cc in ap (λ (y : remainders.Open). arm_in store display y.offer) (sym same) ∙ h
arm_head store display x (to_accept a) os zero arm o rest h e =
    let same : record x { offer = to_accept a } ≡ o = cc in ap (λ (y : remainders.Open). arm_in store display y.offer) (sym same) ∙ h
arm_head store display x (to_send ch v) os (suc i) arm o rest h e = rest i h e
arm_head store display x (to_receive ch v) os (suc i) arm o rest h e = rest i h e
arm_head store display x (to_accept a) os (suc i) arm o rest h e = rest i h e
arm_head store display x (to_wait n) os i arm o rest h e = rest i h e
arm_head store display x to_end os i arm o rest h e = rest i h e

pub arm_at :
    (store : Store) (display : Display) (os : List remainders.Open) (i : ℕ) (arm : Arm) (o : remainders.Open)
    → slice_get (arms_in store display os) i ≡ Some arm → slice_get (communications os) i ≡ Some o → arm_in store display o.offer ≡ Some arm
arm_at store display [] i arm o h e = absurd cc
arm_at store display (x ∷ os) i arm o h e =
    arm_head store display x x.offer os i arm o (λ j hj ej. arm_at store display os j arm o hj ej) h e

-- ## The alternative is taken

pub takes_so :
    (source : Source) (s new : State) (p : ℕ) (select : Selecting) (arms : List Arm) (place : ℕ) (found : Open) (m : Matched) (d : Done)
    → AreArms s p select.offered.items arms → IsMatched s.world.rows p arms place m
    → slice_get (communications (opens_view select.offered.items)) m.place ≡ Some (open_view found)
    → ComesTo source s new p (takes_open_in found m p) d → ComesTo source s new p (takes_in select place p) d
takes_so source s new p select arms place found m d are is at_place comes g c choice a n program is_at e lines =
    let x : Context = context_of source.program.tables a.doing in
    let k : Remainder = remainder_of (pending_of source.program.tables a.doing) in
    let sv : remainders.Selecting = select_view select in
    let o : remainders.Open = open_view found in
    let all : List Arm = arms_of_all g c p sv.offered in
    let all_is : all ≡ arms = arms_here source g s c p a n select.offered.items arms is_at are in
    let kth : slice_get (matched_places g c p sv) place ≡ Some m.place
    = ap (λ (l : List ℕ). slice_get l place) (matched_is source g s c p a n select arms is_at are) ∙ is.kth in
    let opened : open_at sv.offered (slice_get (matched_places g c p sv) place) ≡ Some o = ap (open_at sv.offered) kth ∙ at_place in
    let own : slice_get all m.place ≡ Some m.arm = ap (λ (l : List Arm). slice_get l m.place) all_is ∙ is.own in
    let arm : arm_of g c p o.offer ≡ Some m.arm
    = arm_is g c p o.offer
    ∙ arm_at c.store (activity_of g c p).display sv.offered m.place m.arm o
    (ap (λ (l : List Arm). slice_get l m.place) (sym (arms_are g c p sv.offered)) ∙ own) at_place in
    let meets : partner c.table.rows p m.arm ≡ Some m.partner
    = ap (λ (w : Table). partner w.rows p m.arm) (sym is_at.before.agrees.table) ∙ is.meets in
    let taken : takes g c p x k (open_at sv.offered (slice_get (matched_places g c p sv) place)) ≡ communicates_by g c p x o k m.partner o.offer (Some m.arm)
    = ap (takes g c p x k) opened ∙ ap (λ (r : Option Arm). communicates g c p x o k (partner_at c p r)) arm ∙ ap (communicates g c p x o k) meets
    ∙ ap (communicates_by g c p x o k m.partner o.offer) arm in
    let table : committed c.table p all place ≡ communicated_with (Some m.partner) c.table p m.arm
    = ap (λ (r : Option ℕ). committed_at r c.table p all) kth ∙ ap (λ (r : Option Arm). committed_to r c.table p) own
    ∙ ap (λ (r : Option ℕ). communicated_with r c.table p m.arm) meets in
    comes g c choice a n program is_at
    (e ∙ ap (λ (y : Config). (let r : Effect = Ok (with_table y (committed c.table p all place)) in r)) taken
    ∙ ap (λ (w : Table). (let r : Effect = Ok (with_table (communicates_by g c p x o k m.partner o.offer (Some m.arm)) w) in r)) table)
    lines

-- ## What it communicates

pub sends_ok :
    (source : Source) (s new : State) (p : ℕ) (found : Open) (m : Matched) (way : Behind) (r : Result Done Memory)
    (spot : HeldSpot) (v : HeldValue) (channel : ℕ)
    → found.offer ≡ offer.Send spot v → m.arm ≡ To channel
    → way ≡ record { replica = found.replica; next = found.next; stmts = found.stmts }
    → IfOk r (λ d. (source : Source) → ComesTo source s new p (sends_it way p m.partner channel v) d)
    → IfOk r (λ d. ComesTo source s new p (takes_open_in found m p) d)
sends_ok source s new p found m way (Ok d) spot v channel is arm way_is h =
    λ g c choice a n program is_at e lines.
    let x : Context = context_of source.program.tables a.doing in
    let k : Remainder = remainder_of (pending_of source.program.tables a.doing) in
    h source g c choice a n program is_at
    (e
    ∙ ap (λ (f : HeldOffer). (let y : Effect =
    Ok (with_table (communicates_by g c p x (open_view found) k m.partner (offer_view f) (Some m.arm))
    (communicated_with (Some m.partner) c.table p m.arm)) in y)) is
    ∙ ap (λ (b : Arm). (let y : Effect = Ok (with_table (communicates_by g c p x (open_view found) k m.partner (offer_view (offer.Send spot v)) (Some b))
    (communicated_with (Some m.partner) c.table p b)) in y)) arm
    ∙ ap (λ (w : Behind). sends_it w p m.partner channel v g c x k) (sym way_is))
    lines
sends_ok source s new p found m way (Err given) spot v channel is arm way_is h = h

pub receives_ok :
    (source : Source) (s new : State) (p : ℕ) (found : Open) (m : Matched) (way : Behind) (r : Result Done Memory) (spot : HeldSpot)
    (target : Option HeldSpot) (channel : ℕ)
    → found.offer ≡ offer.Receive spot target → m.arm ≡ From channel
    → way ≡ record { replica = found.replica; next = found.next; stmts = found.stmts }
    → IfOk r (λ d. (source : Source) → ComesTo source s new p (receives_it way p m.partner channel target) d)
    → IfOk r (λ d. ComesTo source s new p (takes_open_in found m p) d)
receives_ok source s new p found m way (Ok d) spot target channel is arm way_is h =
    λ g c choice a n program is_at e lines.
    let x : Context = context_of source.program.tables a.doing in
    let k : Remainder = remainder_of (pending_of source.program.tables a.doing) in
    h source g c choice a n program is_at
    (e
    ∙ ap (λ (f : HeldOffer). (let y : Effect =
    Ok (with_table (communicates_by g c p x (open_view found) k m.partner (offer_view f) (Some m.arm))
    (communicated_with (Some m.partner) c.table p m.arm)) in y)) is
    ∙ ap (λ (b : Arm). (let y : Effect =
    Ok (with_table (communicates_by g c p x (open_view found) k m.partner (offer_view (offer.Receive spot target)) (Some b))
    (communicated_with (Some m.partner) c.table p b)) in y)) arm
    ∙ ap (λ (w : Behind). receives_it w p m.partner channel target g c x k) (sym way_is))
    lines
receives_ok source s new p found m way (Err given) spot target channel is arm way_is h = h

pub takes_ok :
    (source : Source) (s new : State) (p : ℕ) (select : Selecting) (arms : List Arm) (place : ℕ) (found : Open) (m : Matched) (r : Result Done Memory)
    → AreArms s p select.offered.items arms → IsMatched s.world.rows p arms place m
    → slice_get (communications (opens_view select.offered.items)) m.place ≡ Some (open_view found)
    → IfOk r (λ d. ComesTo source s new p (takes_open_in found m p) d) → IfOk r (λ d. ComesTo source s new p (takes_in select place p) d)
takes_ok source s new p select arms place found m (Ok d) are is at_place h = takes_so source s new p select arms place found m d are is at_place h
takes_ok source s new p select arms place found m (Err given) are is at_place h = h
