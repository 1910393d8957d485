-- Plain `!` and `?`, on both sides.
use Rattle.std.proofs.Common.{◌≡◌, ℕ, ◌+◌, List, [], ◌∷◌, set, get_or, Option, Some, None, Result, Ok, Err, refl, sym, ap, ◌∙◌, subst}
use Rattle.std.specs.Prelude.{option_map, unsigned_abs, IfOk}
use Rattle.std.proofs.lemmas.List.{length-set}
use Rattle.pfc_state.specs.declared.waits.Arm.{Arm}
use Rattle.pfc_state.specs.declared.waits.Arm.TheVariants.{Send as To, Receive as From}
use Rattle.pfc_state.specs.declared.waits.Why.{Why}
use Rattle.pfc_state.specs.declared.waits.Why.TheVariants.{Send, Receive}
use Rattle.pfc_state.specs.Stands.{Stand, Is_ready, Waits}
use Rattle.pfc_world.specs.declared.partners.Partner.{Partner}
use Rattle.pfc_world.specs.Firsts.{first}
use Rattle.pfc_world.specs.Partners.{receiver, sender, ticket_open_to}
use Rattle.pfc_world.specs.Partnering.{met_at}
use Rattle.pfc_world.specs.Channels.{passed_with}
use Rattle.pfc_world.specs.Tables.{Table}
use Rattle.pfc_world.specs.Tickets.{IsNew}
use Rattle.pfc_world.specs.Transitions.{placed, blocked, begun, ticked}
use Rattle.pfc_program.specs.declared.tables.Tables.{Tables}
use Rattle.pfc_store.specs.declared.spots.Spot.{Spot as HeldSpot}
use Rattle.pfc_store.specs.declared.values.Value.{Value as HeldValue}
use Rattle.pfc_store.specs.Views.{store_view, spot_view, value_view}
use Rattle.pfc_semantics.specs.Values.{Value, ordinal_of}
use Rattle.pfc_semantics.specs.Displays.{Spot}
use Rattle.pfc_semantics.specs.Programs.{Program}
use Rattle.pfc_semantics.specs.Remainders.{Context, Remainder, Action, to_send, to_receive}
use Rattle.pfc_semantics.specs.Remainders as remainders
use Rattle.pfc_semantics.specs.Statements.{plain_open}
use Rattle.pfc_semantics.specs.Channels.{side_of, sent_to, received_from}
use Rattle.pfc_semantics.specs.Selects.{meets_or_waits}
use Rattle.pfc_semantics.specs.Configurations as configurations
use Rattle.pfc_semantics.specs.Configurations.{Config, Effect, goes_on, showing, offering, with_table, number_for}
use Rattle.pfc_semantics.specs.Steps.{effect}
use Rattle.pfc_pending.specs.Selects.{offer_view, opens_view}
use Rattle.pfc_pending.specs.Waiting.{remainder_of}
use Rattle.pfc_pending.specs.declared.actions.Deed.TheVariants as deed
use Rattle.pfc_pending.specs.declared.at_hand.At.TheVariants as at
use Rattle.pfc_pending.specs.declared.select.Offer.{Offer}
use Rattle.pfc_pending.specs.declared.select.Offer.TheVariants as offer
use Rattle.pfc_pending.specs.declared.select.Open.{Open}
use Rattle.pfc_activities.specs.declared.activities.Activity.{Activity}
use Rattle.pfc_activities.specs.declared.changes.Done.{Done}
use Rattle.pfc_activities.specs.declared.changes.Done.TheVariants.{Stepped}
use Rattle.pfc_activities.specs.declared.source.Source.{Source}
use Rattle.pfc_activities.specs.declared.state.State.{State}
use Rattle.pfc_activities.specs.Relation.{IsIn, IsBefore, IsAt, IsKept, IsPerformed, StaysAt}
use Rattle.pfc_activities.specs.Shown.{Shown, activity_shown}
use Rattle.pfc_activities.specs.Views.{context_of, pending_of, deed_of, ahead_of, at_line}
use Rattle.pfc_activities.proofs.Acting.{value_is}
use Rattle.pfc_meeting.specs.Opens.{number_in}
use Rattle.pfc_meeting.specs.Meeting.{IsSent, IsReceived, IsShowing, waits_with}
use Rattle.pfc_meeting.proofs.Both.{now_in}
use Rattle.pfc_messages.proofs.Showing.{shown_so}

-- ## Who is met

abbrev process_or : ℕ → Option Partner → ℕ
process_or q None = q
process_or q (Some m) = m.process

pub met_first : (rows : List Stand) (arm : Arm) (o : Option ℕ) (m : Partner) → Some m ≡ met_at rows arm o → o ≡ Some m.process
met_first rows arm (Some q) m h = ap (λ (k : ℕ). Some k) (sym (ap (process_or q) h))
met_first rows arm None m h = absurd cc

pub met_nobody : (rows : List Stand) (arm : Arm) (o : Option ℕ) → None ≡ met_at rows arm o → o ≡ None
met_nobody rows arm (Some q) h = absurd cc
met_nobody rows arm None h = refl

-- the number that the code found is the one of the definitions
number_is :
    (source : Source) (g : Program) (s : State) (c : Config) (p : ℕ) (a own : Activity) (n : Action) (spot : Spot) (number : ℕ)
    → IsAt source s c p a n → own ≡ get_or s.activities.items p own → number ≡ number_in (store_view s.store) own.display spot
    → number_for g c p spot ≡ number
number_is source g s c p a own n spot number is_at own_is held =
    sym (held ∙ ap (λ (b : Activity). number_in (store_view s.store) b.display spot) (own_is ∙ is_at.before.there.is own)
    ∙ ap (λ (v : Value). unsigned_abs (ordinal_of v)) (value_is source g s c p a n is_at.before spot))

-- nothing was changed
pub same_stays : (s : State) (p : ℕ) → StaysAt s s p
same_stays s p source c a n is_at = (a, is_at, record { names = refl; line = refl; pending = refl })

-- ## Nobody is met

pub shows_so :
    (s mid new : State) (p : ℕ) (why : Why) (offer : Offer) (opens : List Open) (items : List Activity) (found z : Activity) (line r : ℕ)
    → found ≡ get_or s.activities.items p found → ((t : Tables) → activity_shown t z ≡ waits_with t found opens)
    → opens_view opens ≡ plain_open (offer_view offer) ∷ []
    → ((y : Activity) → IsIn s.activities.items p y → line ≡ y.doing.line)
    → r ≡ p → mid ≡ record s { store = mid.store; world = mid.world } → store_view mid.store ≡ store_view s.store →
    mid.world ≡ blocked (begun s.world p) r why []
    → items ≡ set s.activities.items p z
    → ((y : Activity) → IsIn items p y → new.activities.items ≡ set items p (at_line y line))
    → IsKept mid new → new.world ≡ ticked mid.world → IsNew new.world.rows new.world.done → IsShowing s new p why offer Stepped
shows_so s mid new p why offer opens items found z line r is shows offers of_line same_process mid_is store world first last kept ticks
    fresh source g c choice a n is_at e lines =
    let t : Tables = source.program.tables in
    let before : IsBefore source s c p a n = is_at.before in
    let table : Table = blocked c.table p why [] in
    let hand : configurations.Hand
    = offering (context_of t a.doing) (plain_open (offer_view offer) ∷ []) (remainder_of (pending_of t a.doing)) in
    let in_table : mid.world ≡ table
    = world ∙ ap (λ (i : ℕ). blocked (begun s.world p) i why []) same_process ∙ ap (λ (b : Table). blocked b p why []) before.agrees.table in
    let same : activity_shown t z ≡ record (activity_shown t a) { next = ahead_of t a.doing at.Rest; hand = hand }
    = shows t ∙ ap (λ (b : Activity). waits_with t b opens) (is ∙ before.there.is found)
    ∙ ap (λ (l : List remainders.Open). (let y : Shown = record (activity_shown t a) {
      next = ahead_of t a.doing at.Rest;
      hand =
          offering (context_of t a.doing) l (remainder_of (pending_of t a.doing));
    } in y)) offers in
    shown_so source g s mid new c p choice a z n table hand items line is_at same e (lines ∙ sym (of_line a before.there)) mid_is store in_table refl
    (length-set c.table.rows p (Waits why (c.table.done + 1) [])) first
    (last z (subst (λ (l : List Activity). IsIn l p z) (sym first) (now_in s.activities.items p a z before.there))) kept ticks fresh

-- ## `c ! e`

pub sends_met :
    (s new : State) (p q number : ℕ) (spot : HeldSpot) (v : HeldValue) (own : Activity) (m : Partner) (d : Done)
    → own ≡ get_or s.activities.items p own → number ≡ number_in (store_view s.store) own.display (spot_view spot)
    → Some m ≡ met_at s.world.rows (From number) (first (ticket_open_to (From number)) s.world.rows) → m.process ≡ q
    → IsSent s new p q number v d → IsPerformed s new p (deed.Meets (offer.Send spot v)) [] d
sends_met s new p q number spot v own m d own_is held found is_q sent source g c choice a program is_at =
    let t : Tables = source.program.tables in
    let x : Context = context_of t a.doing in
    let k : Remainder = remainder_of (pending_of t a.doing) in
    let act : Action = deed_of t a.doing (deed.Meets (offer.Send spot v)) in
    let o : remainders.Open = plain_open (to_send (spot_view spot) (value_view v)) in
    let many : ℕ = number_for g c p (spot_view spot) in
    let is : many ≡ number = number_is source g s c p a own act (spot_view spot) number is_at own_is held in
    let met : receiver c.table.rows many ≡ Some q
    = ap (receiver c.table.rows) is ∙ ap (λ (w : Table). receiver w.rows number) (sym is_at.before.agrees.table)
    ∙ met_first s.world.rows (From number) (first (ticket_open_to (From number)) s.world.rows) m found ∙ ap (λ (i : ℕ). Some i) is_q in
    let e : effect g c p choice act
    ≡ Ok (with_table (sent_to g (goes_on g c p x k) q (value_view v) (side_of g c q (From number))) (placed c.table q Is_ready))
    = ap (λ (f : Option ℕ). (let r : Effect = Ok (with_table (meets_or_waits g c p x o k f) (passed_with f c.table p (Send many))) in r)) met
    ∙ ap (λ (i : ℕ). (let r : Effect =
    Ok (with_table (sent_to g (goes_on g c p x k) q (value_view v) (side_of g c q (From i))) (placed c.table q Is_ready)) in r)) is in
    sent source g c choice a act is_at e refl

pub sends_alone :
    (s new : State) (p number : ℕ) (spot : HeldSpot) (v : HeldValue) (own : Activity) (d : Done)
    → own ≡ get_or s.activities.items p own → number ≡ number_in (store_view s.store) own.display (spot_view spot)
    → None ≡ met_at s.world.rows (From number) (first (ticket_open_to (From number)) s.world.rows)
    → IsShowing s new p (Send number) (offer.Send spot v) d → IsPerformed s new p (deed.Meets (offer.Send spot v)) [] d
sends_alone s new p number spot v own d own_is held found waits source g c choice a program is_at =
    let t : Tables = source.program.tables in
    let x : Context = context_of t a.doing in
    let k : Remainder = remainder_of (pending_of t a.doing) in
    let act : Action = deed_of t a.doing (deed.Meets (offer.Send spot v)) in
    let o : remainders.Open = plain_open (to_send (spot_view spot) (value_view v)) in
    let many : ℕ = number_for g c p (spot_view spot) in
    let is : many ≡ number = number_is source g s c p a own act (spot_view spot) number is_at own_is held in
    let met : receiver c.table.rows many ≡ None
    = ap (receiver c.table.rows) is ∙ ap (λ (w : Table). receiver w.rows number) (sym is_at.before.agrees.table)
    ∙ met_nobody s.world.rows (From number) (first (ticket_open_to (From number)) s.world.rows) found in
    let e : effect g c p choice act ≡ Ok (with_table (showing g (goes_on g c p x k) p (offering x (o ∷ []) k)) (blocked c.table p (Send number) []))
    = ap (λ (f : Option ℕ). (let r : Effect = Ok (with_table (meets_or_waits g c p x o k f) (passed_with f c.table p (Send many))) in r)) met
    ∙ ap (λ (i : ℕ). (let r : Effect = Ok (with_table (showing g (goes_on g c p x k) p (offering x (o ∷ []) k)) (blocked c.table p (Send i) [])) in r)) is in
    waits source g c choice a act is_at e refl

-- ## `c ? v`

pub receives_met :
    (s new : State) (p q number : ℕ) (spot : HeldSpot) (target : Option HeldSpot) (own : Activity) (m : Partner) (d : Done)
    → own ≡ get_or s.activities.items p own → number ≡ number_in (store_view s.store) own.display (spot_view spot)
    → Some m ≡ met_at s.world.rows (To number) (first (ticket_open_to (To number)) s.world.rows) → m.process ≡ q
    → IsReceived s new p q number target d → IsPerformed s new p (deed.Meets (offer.Receive spot target)) [] d
receives_met s new p q number spot target own m d own_is held found is_q received source g c choice a program is_at =
    let t : Tables = source.program.tables in
    let x : Context = context_of t a.doing in
    let k : Remainder = remainder_of (pending_of t a.doing) in
    let act : Action = deed_of t a.doing (deed.Meets (offer.Receive spot target)) in
    let into : Option Spot = option_map spot_view target in
    let o : remainders.Open = plain_open (to_receive (spot_view spot) into) in
    let many : ℕ = number_for g c p (spot_view spot) in
    let is : many ≡ number = number_is source g s c p a own act (spot_view spot) number is_at own_is held in
    let met : sender c.table.rows many ≡ Some q
    = ap (sender c.table.rows) is ∙ ap (λ (w : Table). sender w.rows number) (sym is_at.before.agrees.table)
    ∙ met_first s.world.rows (To number) (first (ticket_open_to (To number)) s.world.rows) m found ∙ ap (λ (i : ℕ). Some i) is_q in
    let e : effect g c p choice act
    ≡ Ok (with_table (received_from g (goes_on g c p x k) p into q (side_of g c q (To number))) (placed c.table q Is_ready))
    = ap (λ (f : Option ℕ). (let r : Effect = Ok (with_table (meets_or_waits g c p x o k f) (passed_with f c.table p (Receive many))) in r)) met
    ∙ ap (λ (i : ℕ). (let r : Effect =
    Ok (with_table (received_from g (goes_on g c p x k) p into q (side_of g c q (To i))) (placed c.table q Is_ready)) in r)) is in
    received source g c choice a act is_at e refl

pub receives_alone :
    (s new : State) (p number : ℕ) (spot : HeldSpot) (target : Option HeldSpot) (own : Activity) (d : Done)
    → own ≡ get_or s.activities.items p own → number ≡ number_in (store_view s.store) own.display (spot_view spot)
    → None ≡ met_at s.world.rows (To number) (first (ticket_open_to (To number)) s.world.rows)
    → IsShowing s new p (Receive number) (offer.Receive spot target) d → IsPerformed s new p (deed.Meets (offer.Receive spot target)) [] d
receives_alone s new p number spot target own d own_is held found waits source g c choice a program is_at =
    let t : Tables = source.program.tables in
    let x : Context = context_of t a.doing in
    let k : Remainder = remainder_of (pending_of t a.doing) in
    let act : Action = deed_of t a.doing (deed.Meets (offer.Receive spot target)) in
    let o : remainders.Open = plain_open (to_receive (spot_view spot) (option_map spot_view target)) in
    let many : ℕ = number_for g c p (spot_view spot) in
    let is : many ≡ number = number_is source g s c p a own act (spot_view spot) number is_at own_is held in
    let met : sender c.table.rows many ≡ None
    = ap (sender c.table.rows) is ∙ ap (λ (w : Table). sender w.rows number) (sym is_at.before.agrees.table)
    ∙ met_nobody s.world.rows (To number) (first (ticket_open_to (To number)) s.world.rows) found in
    let e : effect g c p choice act ≡ Ok (with_table (showing g (goes_on g c p x k) p (offering x (o ∷ []) k)) (blocked c.table p (Receive number) []))
    = ap (λ (f : Option ℕ). (let r : Effect = Ok (with_table (meets_or_waits g c p x o k f) (passed_with f c.table p (Receive many))) in r)) met
    ∙ ap (λ (i : ℕ). (let r : Effect = Ok (with_table (showing g (goes_on g c p x k) p (offering x (o ∷ []) k)) (blocked c.table p (Receive i) [])) in r)) is in
    waits source g c choice a act is_at e refl

pub sends_alone_ok :
    (s new : State) (p number : ℕ) (spot : HeldSpot) (v : HeldValue) (own : Activity) (r : Result Done Offer)
    → own ≡ get_or s.activities.items p own → number ≡ number_in (store_view s.store) own.display (spot_view spot)
    → None ≡ met_at s.world.rows (From number) (first (ticket_open_to (From number)) s.world.rows)
    → IfOk r (λ d. IsShowing s new p (Send number) (offer.Send spot v) d)
    → IfOk r (λ d. IsPerformed s new p (deed.Meets (offer.Send spot v)) [] d)
sends_alone_ok s new p number spot v own (Ok d) own_is held found h = sends_alone s new p number spot v own d own_is held found h
sends_alone_ok s new p number spot v own (Err given) own_is held found h = h

pub receives_alone_ok :
    (s new : State) (p number : ℕ) (spot : HeldSpot) (target : Option HeldSpot) (own : Activity) (r : Result Done Offer)
    → own ≡ get_or s.activities.items p own → number ≡ number_in (store_view s.store) own.display (spot_view spot)
    → None ≡ met_at s.world.rows (To number) (first (ticket_open_to (To number)) s.world.rows)
    → IfOk r (λ d. IsShowing s new p (Receive number) (offer.Receive spot target) d)
    → IfOk r (λ d. IsPerformed s new p (deed.Meets (offer.Receive spot target)) [] d)
receives_alone_ok s new p number spot target own (Ok d) own_is held found h = receives_alone s new p number spot target own d own_is held found h
receives_alone_ok s new p number spot target own (Err given) own_is held found h = h
