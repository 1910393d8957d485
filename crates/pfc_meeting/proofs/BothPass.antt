-- A message passes, on both sides.
use Rattle.std.proofs.Common.{◌≡◌, ◌≢◌, ℕ, ◌<◌, List, length, set, get_or, Option, Some, None, Ok, refl, sym, ap, ◌∙◌, subst}
use Rattle.std.specs.Prelude.{option_map}
use Rattle.std.proofs.lemmas.List.{get_or-set_same, get_or-set_other, get_or_read_under, length-set}
use Rattle.pfc_state.specs.declared.waits.Arm.TheVariants.{Send as To, Receive as From}
use Rattle.pfc_state.specs.Stands.{Stand, Is_ready, IsWaiting}
use Rattle.pfc_world.specs.Tables.{Table, at}
use Rattle.pfc_world.specs.Tickets.{IsNew}
use Rattle.pfc_world.specs.Transitions.{placed}
use Rattle.pfc_program.specs.declared.tables.Tables.{Tables}
use Rattle.pfc_store.specs.declared.spots.Spot.{Spot as HeldSpot}
use Rattle.pfc_store.specs.declared.values.Location.{Location as HeldLocation}
use Rattle.pfc_store.specs.declared.values.Value.{Value as HeldValue}
use Rattle.pfc_store.specs.Views.{store_view, location_view, spot_view, value_view}
use Rattle.pfc_semantics.specs.Values.{Value}
use Rattle.pfc_semantics.specs.Store.{Store}
use Rattle.pfc_semantics.specs.Displays.{Spot, located}
use Rattle.pfc_semantics.specs.Programs.{Program}
use Rattle.pfc_semantics.specs.Remainders.{Context, Remainder, Action}
use Rattle.pfc_semantics.specs.Rewriting.{Doing, going}
use Rattle.pfc_semantics.specs.Channels.{side_of, sent_to, received_from, delivered}
use Rattle.pfc_semantics.specs.Configurations as configurations
use Rattle.pfc_semantics.specs.Configurations.{Config, activity_of, nobody, doing_next, goes_on, with_table}
use Rattle.pfc_pending.specs.Waiting.{remainder_of}
use Rattle.pfc_activities.specs.declared.activities.Activity.{Activity}
use Rattle.pfc_activities.specs.declared.changes.Done.{Done}
use Rattle.pfc_activities.specs.declared.source.Source.{Source}
use Rattle.pfc_activities.specs.declared.state.State.{State}
use Rattle.pfc_activities.specs.Relation.{Agrees, IsIn, IsBefore, IsAt, StaysAt, shown_before}
use Rattle.pfc_activities.specs.Shown.{Shown, shown, activity_shown, activities_shown}
use Rattle.pfc_activities.specs.Views.{context_of, pending_of}
use Rattle.pfc_activities.proofs.Acting.{display_is, here}
use Rattle.pfc_meeting.specs.declared.onward.Onward.{Onward}
use Rattle.pfc_meeting.specs.Meeting.{side_held, doing_onward, delivered_into, stored_into, BothGoOn, IsRoomier, IsPassed, IsSent, IsReceived}
use Rattle.pfc_meeting.proofs.Both.{other_is}
use Rattle.pfc_meeting.proofs.Sides.{side_is, delivered_is}

-- ## Variables and standings on the way

pub agrees_world :
    (source : Source) (s mid : State) (c : Config) (store : Store) (table : Table)
    → Agrees source s c → mid ≡ record s { store = mid.store; world = mid.world } → store_view mid.store ≡ store → mid.world ≡ table
    → length table.rows ≡ length c.table.rows → Agrees source mid (record c { store = store; table = table })
agrees_world source s mid c store table agrees is store_is table_is many =
    record {
      table = table_is;
      counts = ap (λ (x : State). x.semaphores) is ∙ agrees.counts;
      monitors = ap (λ (x : State). x.monitors.holders) is ∙ agrees.monitors;
      resources = ap (λ (x : State). x.resources) is ∙ agrees.resources;
      store = store_is;
      input = ap (λ (x : State). x.input) is ∙ agrees.input;
      words = ap (λ (x : State). x.draws) is ∙ agrees.words;
      count = ap (λ (x : State). length x.activities.items) is ∙ agrees.count ∙ sym many;
      conditions = ap (λ (x : State). x.monitors.owners) is ∙ agrees.conditions;
    }

-- the process that acts is where it was, where variables and standings were changed on both sides
pub other_world :
    (source : Source) (s mid : State) (c : Config) (p : ℕ) (a : Activity) (n : Action) (store : Store) (table : Table)
    → IsAt source s c p a n → mid ≡ record s { store = mid.store; world = mid.world } → store_view mid.store ≡ store → mid.world ≡ table
    → length table.rows ≡ length c.table.rows → table.acting ≡ None → IsNew table.rows table.done
    → IsAt source mid (record c { store = store; table = table }) p a n
other_world source s mid c p a n store table is_at is store_is table_is many acting fresh =
    let before : IsBefore source s c p a n = is_at.before in
    let same : mid.activities.items ≡ s.activities.items = ap (λ (x : State). x.activities.items) is in
    record {
      before = record {
        hand = before.hand;
        there = subst (λ (ys : List Activity). IsIn ys p a) (sym same) before.there;
        activities = before.activities ∙
            ap (λ (ys : List Activity). set (activities_shown source.program.tables ys) p (shown_before source a n before.hand)) (sym same);
        agrees = agrees_world source s mid c store table before.agrees is store_is table_is many;
      };
      quiet = record { acting = acting; fresh = fresh; sound = is_at.quiet.sound };
    }

-- ## Both go on

both_after :
    (g : Program) (c : Config) (p q : ℕ) (one other : Doing) (into : Option HeldLocation) (v : Value) (table : Table)
    → with_table (doing_next g (delivered_into (doing_next g c p one) into v) q other) table
    ≡ doing_next g (doing_next g (record c { store = stored_into c.store into v; table = table }) p one) q other
both_after g c p q one other None v table = refl
both_after g c p q one other (Some l) v table = refl

pub passed_so :
    (s mid new : State) (p q : ℕ) (into : Option HeldLocation) (v : HeldValue) (way : Onward) (d : Done)
    → mid ≡ record s { store = mid.store; world = mid.world } → store_view mid.store ≡ stored_into (store_view s.store) into (value_view v)
    → mid.world ≡ placed s.world q Is_ready → (IsNew s.world.rows s.world.done → IsNew mid.world.rows mid.world.done)
    → BothGoOn mid new p q way d → IsPassed s new p q into v way d
passed_so s mid new p q into v way d is store world fresh goes source g c choice a b n one is_at there e nexts lines =
    let w : Table = placed c.table q Is_ready in
    let before : IsBefore source s c p a n = is_at.before in
    let table : mid.world ≡ w = world ∙ ap (λ (x : Table). placed x q Is_ready) before.agrees.table in
    let stored : store_view mid.store ≡ stored_into c.store into (value_view v)
    = store ∙ ap (λ (x : Store). stored_into x into (value_view v)) before.agrees.store in
    let k : Config = record c { store = stored_into c.store into (value_view v); table = w } in
    let many : length w.rows ≡ length c.table.rows = length-set c.table.rows q Is_ready in
    let new_there : IsNew w.rows w.done
    = subst (λ (x : Table). IsNew x.rows x.done) table
    (fresh (subst (λ (x : Table). IsNew x.rows x.done) (sym before.agrees.table) is_at.quiet.fresh)) in
    let at_mid : IsAt source mid k p a n
    = other_world source s mid c p a n (stored_into c.store into (value_view v)) w is_at is stored table many is_at.quiet.acting new_there in
    goes source g c k choice a b n one at_mid
    (subst (λ (l : List Activity). IsIn l q b) (ap (λ (x : State). x.activities.items) (sym is)) there)
    (e ∙ ap (λ (x : Config). Ok x) (both_after g c p q one (doing_onward source.program.tables b way) into (value_view v) w)) nexts lines refl

-- ## Messages

-- a process that waits is another than the one that acts
pub another : (rows : List Stand) (p q : ℕ) → at rows p ≡ Is_ready → IsWaiting (at rows q) → q ≢ p
another rows p q ready waits same =
    subst IsWaiting (ap (at rows) same ∙ ready) waits

there_is : (ys : List Activity) (q : ℕ) (found : Activity) → q < length ys → found ≡ get_or ys q found → IsIn ys q found
there_is ys q found within is = record { within = within; is = λ d. sym (get_or_read_under ys q (length ys) found d is within refl) }

pub sent_so :
    (s mid new : State) (p q channel : ℕ) (v : HeldValue) (into : Option HeldLocation) (way : Onward) (found : Activity) (d : Done)
    → q ≢ p → IsRoomier s mid q → q < length mid.activities.items → found ≡ get_or mid.activities.items q found
    → ((t : Tables) (g : Program) (c : Config) (q : ℕ) (v : Value) → c.store ≡ store_view mid.store → (activity_of g c q).display ≡ found.display
    → sent_to g c q v (side_held t (store_view mid.store) found (From channel)) ≡ doing_next g (delivered_into c into v) q (doing_onward t found way))
    → IsPassed mid new p q into v way d → IsSent s new p q channel v d
sent_so s mid new p q channel v into way found d other roomier within is meets passes source g c choice a n is_at e lines =
    let t : Tables = source.program.tables in
    let x : Context = context_of t a.doing in
    let k : Remainder = remainder_of (pending_of t a.doing) in
    let at_mid : IsAt source mid c p a n = roomier.same source c p a n other is_at in
    let there : IsIn mid.activities.items q found = there_is mid.activities.items q found within is in
    let partner : shown (activity_of g c q) ≡ activity_shown t found = other_is source g mid c p q a found n at_mid.before other there in
    let c1 : Config = goes_on g c p x k in
    let in_view : (activity_of g c1 q).display ≡ found.display
    = ap (λ (b : configurations.Activity). b.display)
    (get_or-set_other c.activities p q (configurations.at_work (activity_of g c p) (going x.env k)) (nobody g) other)
    ∙ ap (λ (y : Shown). y.display) partner in
    let side : side_of g c q (From channel) ≡ side_held t (store_view mid.store) found (From channel)
    = side_is t g c q (From channel) (store_view mid.store) found partner at_mid.before.agrees.store in
    let passing : sent_to g c1 q (value_view v) (side_of g c q (From channel)) ≡ doing_next g
    (delivered_into c1 into (value_view v)) q (doing_onward t found way)
    = ap (sent_to g c1 q (value_view v)) side ∙ meets t g c1 q (value_view v) (sym at_mid.before.agrees.store) in_view in
    passes source g c choice a found n (going x.env k) at_mid there
    (e ∙ ap (λ (y : Config). Ok (with_table y (placed c.table q Is_ready))) passing) refl lines

pub received_so :
    (s mid new : State) (p q channel : ℕ) (target : Option HeldSpot) (v : HeldValue) (into : Option HeldLocation)
    (way : Onward) (found own : Activity) (d : Done)
    → q ≢ p → IsRoomier s mid q → q < length mid.activities.items → found ≡ get_or mid.activities.items q found → own ≡ get_or mid.activities.items p own
    → ((t : Tables) (g : Program) (c : Config) (p q : ℕ) (target : Option Spot)
    → received_from g c p target q (side_held t (store_view mid.store) found (To channel)) ≡ doing_next g
    (delivered g c p target (value_view v)) q (doing_onward t found way))
    → option_map location_view into ≡ option_map (λ s. located (store_view mid.store) own.display (spot_view s)) target
    → IsPassed mid new p q into v way d → IsReceived s new p q channel target d
received_so s mid new p q channel target v into way found own d other roomier within is own_is meets place passes source g c choice a n is_at e lines =
    let t : Tables = source.program.tables in
    let x : Context = context_of t a.doing in
    let k : Remainder = remainder_of (pending_of t a.doing) in
    let at_mid : IsAt source mid c p a n = roomier.same source c p a n other is_at in
    let there : IsIn mid.activities.items q found = there_is mid.activities.items q found within is in
    let partner : shown (activity_of g c q) ≡ activity_shown t found = other_is source g mid c p q a found n at_mid.before other there in
    let c1 : Config = goes_on g c p x k in
    let in_view : (activity_of g c1 p).display ≡ own.display
    = ap (λ (b : configurations.Activity). b.display)
    (get_or-set_same c.activities p (configurations.at_work (activity_of g c p) (going x.env k)) (nobody g) (here source g mid c p a n at_mid.before))
    ∙ display_is source g mid c p a n at_mid.before ∙ ap (λ (b : Activity). b.display) (sym (own_is ∙ at_mid.before.there.is own)) in
    let side : side_of g c q (To channel) ≡ side_held t (store_view mid.store) found (To channel)
    = side_is t g c q (To channel) (store_view mid.store) found partner at_mid.before.agrees.store in
    let seen : Option Spot = option_map spot_view target in
    let passing : received_from g c1 p seen q (side_of g c q (To channel)) ≡ doing_next g (delivered_into c1 into (value_view v)) q (doing_onward t found way)
    = ap (received_from g c1 p seen q) side ∙ meets t g c1 p q seen
    ∙ ap (λ (y : Config). doing_next g y q (doing_onward t found way))
    (delivered_is g c1 p (store_view mid.store) own.display target into (value_view v) (sym at_mid.before.agrees.store) in_view place) in
    passes source g c choice a found n (going x.env k) at_mid there
    (e ∙ ap (λ (y : Config). Ok (with_table y (placed c.table q Is_ready))) passing) refl lines

-- nothing to be seen was changed
pub roomier_stays : (s mid : State) (p q : ℕ) → q ≢ p → IsRoomier s mid q → StaysAt s mid p
roomier_stays s mid p q other roomier source c a n is_at = (a, roomier.same source c p a n other is_at, record { names = refl; line = refl; pending = refl })
