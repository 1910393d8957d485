-- A call of an entry, on both sides.
use Rattle.std.proofs.Common.{◌≡◌, ◌≢◌, ℕ, ◌<◌, Bool, true, false, is_some, List, [], length, map, get_or, Option, Some, Ok, Err, refl, sym, ap, ◌∙◌}
use Rattle.std.specs.declared.alloc.Global.{Global}
use Rattle.std.specs.declared.vec.Vec.{Vec}
use Rattle.std.specs.Prelude.{if◌then◌else◌, unsigned_abs}
use Rattle.pfc_base.specs.declared.faults.RunFault.TheVariants.{NotActive}
use Rattle.pfc_state.specs.declared.waits.Arm.TheVariants.{Accept as Entry}
use Rattle.pfc_state.specs.Stands.{Stand, Is_idle, Is_created, Is_ready, Waits, Is_done, IsWaiting}
use Rattle.pfc_world.specs.Partners.{is_accepting, ticket_open_to}
use Rattle.pfc_world.specs.Rendezvous.{is_uncalled, called}
use Rattle.pfc_world.specs.Tables.{Table, at}
use Rattle.pfc_program.specs.declared.tables.Tables.{Tables}
use Rattle.pfc_program.specs.Views.{names_view}
use Rattle.pfc_store.specs.Views.{store_view, spot_view, values_view}
use Rattle.pfc_store.specs.declared.spots.Spot.{Spot}
use Rattle.pfc_store.specs.declared.values.Value.{Value as HeldValue}
use Rattle.pfc_semantics.specs.Values.{Value, ordinal_of}
use Rattle.pfc_semantics.specs.Store.{Store}
use Rattle.pfc_semantics.specs.Displays.{Display}
use Rattle.pfc_semantics.specs.Programs.{Program}
use Rattle.pfc_semantics.specs.Remainders as remainders
use Rattle.pfc_semantics.specs.Remainders.{Context, Remainder, Action, to_accept}
use Rattle.pfc_semantics.specs.Alternatives.{context}
use Rattle.pfc_semantics.specs.Channels.{Side, side_of}
use Rattle.pfc_semantics.specs.Rendezvous.{called_at, met_by, enters}
use Rattle.pfc_semantics.specs.Configurations.{Config, Effect, activity_of, asking, goes_on, showing, with_table, number_for, all_passed}
use Rattle.pfc_semantics.specs.Steps.{effect}
use Rattle.pfc_pending.specs.Selects.{accepting_view}
use Rattle.pfc_pending.specs.Waiting.{remainder_of, given_view}
use Rattle.pfc_pending.specs.declared.actions.Deed.TheVariants as deed
use Rattle.pfc_pending.specs.declared.pending.Argument.{Argument}
use Rattle.pfc_pending.specs.declared.pending.Callee.TheVariants as callee
use Rattle.pfc_activities.specs.declared.activities.Activity.{Activity}
use Rattle.pfc_activities.specs.declared.changes.Done.{Done}
use Rattle.pfc_activities.specs.declared.hands.Hand.TheVariants as hand
use Rattle.pfc_activities.specs.declared.source.Source.{Source}
use Rattle.pfc_activities.specs.declared.state.State.{State}
use Rattle.pfc_activities.specs.Relation.{IsBefore, IsAt, IsFault, Performs}
use Rattle.pfc_activities.specs.Shown.{shown, activity_shown}
use Rattle.pfc_activities.specs.Views.{context_of, pending_of, deed_of}
use Rattle.pfc_activities.proofs.Acting.{value_is, display_is}
use Rattle.pfc_meeting.specs.Going.{left_of}
use Rattle.pfc_meeting.specs.Meeting.{IsRoomier, side_held}
use Rattle.pfc_meeting.specs.Opens.{number_in}
use Rattle.pfc_meeting.proofs.Both.{other_is}
use Rattle.pfc_meeting.proofs.Sides.{side_is}
use Rattle.pfc_waiting.specs.Waiting.{HasActed}
use Rattle.pfc_accepting.specs.declared.meetings.Meeting.{Meeting}
use Rattle.pfc_accepting.specs.declared.owners.Owner.{Owner}
use Rattle.pfc_accepting.specs.Meetings.{opened, IsMeetingAt}
use Rattle.pfc_activating.specs.Passing.{passed_in}
use Rattle.pfc_activating.proofs.Activated.{passed_are}
use Rattle.pfc_accepting.specs.Acting.{IsMet, IsShown, owner_side, enters_process, IsEntered, IsEnteredBy}
use Rattle.pfc_accepting.proofs.Accepting.{other_table}
use Rattle.pfc_accepting.proofs.Pairs.{there_is}

-- ## The process that is called, and the arguments

pub entered_so :
    (source : Source) (s new : State) (p q entry : ℕ) (spot : Spot) (args : List Argument) (values : List HeldValue) (own : Activity) (d : Done)
    → own ≡ get_or s.activities.items p own → q ≡ number_in (store_view s.store) own.display (spot_view spot)
    → values_view values ≡ map (passed_in (store_view s.store) own.display) (given_view args)
    → IsEnteredBy source s new p q entry values d → IsEntered source s new p spot entry args d
entered_so source s new p q entry spot args values own d own_is number passed entered g c choice a n is_at e lines =
    let t : Tables = source.program.tables in
    let x : Context = context_of t a.doing in
    let k : Remainder = remainder_of (pending_of t a.doing) in
    let before : IsBefore source s c p a n = is_at.before in
    let same : own ≡ a = own_is ∙ before.there.is own in
    let number_is : number_for g c p (spot_view spot) ≡ q
    = sym (number ∙ ap (λ (b : Activity). number_in (store_view s.store) b.display (spot_view spot)) same
    ∙ ap (λ (v : Value). unsigned_abs (ordinal_of v)) (value_is source g s c p a n before (spot_view spot))) in
    let values_are : all_passed g c p (given_view args) ≡ values_view values
    = sym (passed ∙ ap (λ (b : Store). map (passed_in b own.display) (given_view args)) before.agrees.store
    ∙ ap (λ (b : Display). map (passed_in c.store b) (given_view args)) (ap (λ (b : Activity). b.display) same ∙ sym (display_is source g s c p a n before))
    ∙ passed_are g c p (given_view args)) in
    entered g c choice a n is_at
    (e ∙ ap (λ (i : ℕ). enters_process g c p x i entry (all_passed g c p (given_view args)) k) number_is
    ∙ ap (λ (vs : List Value). enters_process g c p x q entry vs k) values_are)
    lines

-- where only the other process has more room
pub entered_in_room :
    (source : Source) (s mid new : State) (p q entry : ℕ) (values : List HeldValue) (d : Done)
    → q ≢ p → IsRoomier s mid q → IsEnteredBy source mid new p q entry values d → IsEnteredBy source s new p q entry values d
entered_in_room source s mid new p q entry values d other roomier entered g c choice a n is_at e lines =
    entered g c choice a n (roomier.same source c p a n other is_at) e lines

-- ## What the call comes to

-- by whether it is a fault, and whether the owner waits to accept the entry
abbrev enters_where : Bool → Bool → Program → Config → ℕ → Context → ℕ → ℕ → List Value → Remainder → Effect
enters_where uncalled accepting g c p x q entry values k =
    let waiting = with_table (goes_on g c p x k) (called c.table p q entry) in
    if uncalled
    then Err NotActive
    else if accepting
    then Ok (called_at g waiting p q values (side_of g c q (Entry entry)))
    else Ok (showing g waiting p (asking values))

pub entered_stop :
    (source : Source) (s new : State) (p q entry : ℕ) (values : List HeldValue) (d : Done)
    → is_uncalled s.world q ≡ true → IsFault s new p NotActive d → IsEnteredBy source s new p q entry values d
entered_stop source s new p q entry values d uncalled ends g c choice a n is_at e lines =
    let t : Tables = source.program.tables in
    let is : is_uncalled c.table q ≡ true = ap (λ (w : Table). is_uncalled w q) (sym is_at.before.agrees.table) ∙ uncalled in
    ends source g c choice a n is_at
    (e ∙ ap (λ (z : Bool). enters_where z (is_accepting c.table.rows q entry) g c p (context_of t a.doing) q entry (values_view values)
    (remainder_of (pending_of t a.doing))) is)
    lines

-- as it was found in the table
enters_so :
    (source : Source) (g : Program) (s : State) (c : Config) (p q entry : ℕ) (a : Activity) (n : Action) (x : Context)
    (values : List Value) (k : Remainder) (accepting : Bool)
    → IsAt source s c p a n → is_uncalled s.world q ≡ false → is_accepting s.world.rows q entry ≡ accepting
    → enters_process g c p x q entry values k ≡ enters_where false accepting g c p x q entry values k
enters_so source g s c p q entry a n x values k accepting is_at active accepts =
    ap (λ (z : Bool). enters_where z (is_accepting c.table.rows q entry) g c p x q entry values k)
    (ap (λ (w : Table). is_uncalled w q) (sym is_at.before.agrees.table) ∙ active)
    ∙ ap (λ (z : Bool). enters_where false z g c p x q entry values k)
    (ap (λ (w : Table). is_accepting w.rows q entry) (sym is_at.before.agrees.table) ∙ accepts)

pub owner_met :
    (source : Source) (s new : State) (w : Table) (p q entry : ℕ) (values : List HeldValue) (found : Activity) (owner : Owner) (m : Meeting) (d : Done)
    → q ≢ p → q < length s.activities.items → is_uncalled s.world q ≡ false → is_accepting s.world.rows q entry ≡ true
    → found ≡ get_or s.activities.items q found
    → ((t : Tables) → side_held t (store_view s.store) found (Entry entry) ≡ Some (owner_side t found owner))
    → IsMeetingAt source.program.tables found.doing.names owner.accepting owner.way m → w ≡ called s.world p q entry → HasActed s.world w
    → IsMet (record s { world = w }) new p q values m d → IsEnteredBy source s new p q entry values d
owner_met source s new w p q entry values found owner m d other within active accepts is offers at_meeting rule acted meets g c choice a n is_at e lines =
    let t : Tables = source.program.tables in
    let x : Context = context_of t a.doing in
    let k : Remainder = remainder_of (pending_of t a.doing) in
    let vs : List Value = values_view values in
    let acc : remainders.Accepting = accepting_view owner.accepting in
    let table : Table = called c.table p q entry in
    let c1 : Config = with_table c table in
    let table_is : w ≡ table = rule ∙ ap (λ (b : Table). called b p q entry) is_at.before.agrees.table in
    let there = there_is s.activities.items q found within is in
    let partner : shown (activity_of g c q) ≡ activity_shown t found = other_is source g s c p q a found n is_at.before other there in
    let side : side_of g c q (Entry entry) ≡ Some (owner_side t found owner)
    = side_is t g c q (Entry entry) (store_view s.store) found partner is_at.before.agrees.store ∙ offers t in
    let comes : effect g c p choice n
    ≡ Ok (met_by g (goes_on g c1 p x k) q (context (names_view t found.doing.names) owner.line) acc
    (opened (to_accept acc) owner.way) p vs (left_of t found owner.way.kept))
    = e ∙ enters_so source g s c p q entry a n x vs k true is_at active accepts
    ∙ ap (λ (o : Option Side). (let r : Effect = Ok (called_at g (with_table (goes_on g c p x k) table) p q vs o) in r)) side in
    meets source g c c1 choice a found n owner.accepting owner.way (to_accept acc) owner.line (other_table source s w table c p a n is_at acted table_is)
    (ap (λ (b : Table). b.acting) (sym table_is) ∙ acted.acting) is_at.quiet.sound there at_meeting comes lines refl

pub owner_elsewhere :
    (source : Source) (s new : State) (w : Table) (p q entry : ℕ) (values : Vec HeldValue Global) (d : Done)
    → is_uncalled s.world q ≡ false → is_accepting s.world.rows q entry ≡ false → w ≡ called s.world p q entry → HasActed s.world w
    → IsShown (record s { world = w }) new p (hand.Asking values) d → IsEnteredBy source s new p q entry values.items d
owner_elsewhere source s new w p q entry values d active accepts rule acted shows g c choice a n is_at e lines =
    let x : Context = context_of source.program.tables a.doing in
    let k : Remainder = remainder_of (pending_of source.program.tables a.doing) in
    let table : Table = called c.table p q entry in
    let table_is : w ≡ table = rule ∙ ap (λ (b : Table). called b p q entry) is_at.before.agrees.table in
    shows source g c (with_table c table) choice a n (other_table source s w table c p a n is_at acted table_is)
    (ap (λ (b : Table). b.acting) (sym table_is) ∙ acted.acting) is_at.quiet.sound
    (e ∙ enters_so source g s c p q entry a n x (values_view values.items) k false is_at active accepts) lines refl

-- ## The owner waits

open_waits : (stand : Stand) (entry : ℕ) → is_some (ticket_open_to (Entry entry) stand) ≡ true → IsWaiting stand
open_waits Is_idle entry h = absurd cc
open_waits Is_created entry h = absurd cc
open_waits Is_ready entry h = absurd cc
open_waits (Waits why ticket arms) entry h = tt
open_waits Is_done entry h = absurd cc

pub accepting_waits : (rows : List Stand) (q entry : ℕ) → is_accepting rows q entry ≡ true → IsWaiting (at rows q)
accepting_waits rows q entry accepts = open_waits (at rows q) entry accepts

-- ## The action

pub enters_performed :
    (source : Source) (s new : State) (p entry : ℕ) (spot : Spot) (args : Vec Argument Global) (list : List Argument) (d : Done)
    → list ≡ args.items → IsEntered source s new p spot entry list d → Performs source s new p (deed.Calls (callee.Entry spot entry) args) [] d
enters_performed source s new p entry spot args list d same entered g c choice a program is_at =
    let t : Tables = source.program.tables in
    entered g c choice a (deed_of t a.doing (deed.Calls (callee.Entry spot entry) args)) is_at
    (ap (λ (l : List Argument). enters g c p (context_of t a.doing) (spot_view spot) entry (given_view l)
    (remainder_of (pending_of t a.doing))) (sym same)) refl
