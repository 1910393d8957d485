-- The own way of the process that acts, on both sides.
use Rattle.std.proofs.Common.{◌≡◌, ◌≢◌, ◌<◌, ◌*◌, ◌^◌, ℕ, List, [], length, set, get_or, refl, sym, ap, ◌∙◌, subst}
use Rattle.std.specs.Prelude.{take}
use Rattle.std.proofs.lemmas.List.{append-nil, map-set, set-set, length-set, get_or_read_under}
use Rattle.pfc_state.specs.Stands.{IsWaiting}
use Rattle.pfc_world.specs.Tables.{Table, at}
use Rattle.pfc_world.specs.Tickets.{IsNew}
use Rattle.pfc_program.specs.declared.tables.Tables.{Tables}
use Rattle.pfc_program.specs.declared.names.Names.{Names}
use Rattle.pfc_program.specs.Views.{names_view}
use Rattle.pfc_store.specs.Views.{store_view}
use Rattle.pfc_semantics.specs.Remainders.{Context, Remainder, Action}
use Rattle.pfc_semantics.specs.Rewriting.{going, from_remainder}
use Rattle.pfc_semantics.specs.Configurations.{Config, Hand}
use Rattle.pfc_pending.specs.Waiting.{remainder_of, waiting}
use Rattle.pfc_pending.specs.declared.at_hand.At.TheVariants as at_hand
use Rattle.pfc_activities.specs.declared.activities.Activity.{Activity}
use Rattle.pfc_activities.specs.declared.changes.Done.{Done}
use Rattle.pfc_activities.specs.declared.source.Source.{Source}
use Rattle.pfc_activities.specs.declared.state.State.{State}
use Rattle.pfc_activities.specs.Relation.{IsIn, IsBefore, IsAt, MayAct, GoesOn, IsSameDoing, StaysAt, shown_before}
use Rattle.pfc_activities.specs.Shown.{Shown, activity_shown, activities_shown}
use Rattle.pfc_activities.specs.Views.{context_of, pending_of}
use Rattle.pfc_meeting.specs.Going.{HasRoom, gone_on, left_of, onward}
use Rattle.pfc_meeting.specs.Meeting.{HasRoomAt, IsRoomier}
use Rattle.pfc_meeting.specs.declared.onward.Onward.{Onward}
use Rattle.pfc_meeting.proofs.Both.{kept_in, now_in}
use Rattle.pfc_deciding.specs.declared.own.Behind.{Behind}
use Rattle.pfc_deciding.specs.Coming.{ComesTo, IsAlike, IsOnWay, IsUnderWay, left_behind, on_behind}

-- ## The process that acts is another one

at_changed :
    (source : Source) (s new : State) (c : Config) (p : ℕ) (a z : Activity) (n : Action)
    → IsAt source s c p a n → ((h : Hand) → shown_before source z n h ≡ shown_before source a n h) → new ≡ record s { activities = new.activities }
    → new.activities.items ≡ set s.activities.items p z → IsAt source new c p z n
at_changed source s new c p a z n is_at shows new_is items =
    let t : Tables = source.program.tables in
    let ys : List Activity = s.activities.items in
    let before : IsBefore source s c p a n = is_at.before in
    let old : Shown = shown_before source a n before.hand in
    let many : length new.activities.items ≡ length ys = ap length items ∙ length-set ys p z in
    record {
      before = record {
        hand = before.hand;
        there = subst (λ (l : List Activity). IsIn l p z) (sym items) (now_in ys p a z before.there);
        activities =
            before.activities ∙ ap (λ (x : Shown). set (activities_shown t ys) p x) (sym (shows before.hand))
            ∙ sym (set-set (activities_shown t ys) p (activity_shown t z) (shown_before source z n before.hand))
            ∙ ap (λ (l : List Shown). set l p (shown_before source z n before.hand)) (sym (map-set (activity_shown t) ys p z))
            ∙ ap (λ (l : List Activity). set (activities_shown t l) p (shown_before source z n before.hand)) (sym items);
        agrees = record {
          table = ap (λ (x : State). x.world) new_is ∙ before.agrees.table;
          counts = ap (λ (x : State). x.semaphores) new_is ∙ before.agrees.counts;
          monitors = ap (λ (x : State). x.monitors.holders) new_is ∙ before.agrees.monitors;
          resources = ap (λ (x : State). x.resources) new_is ∙ before.agrees.resources;
          store = ap (λ (x : State). store_view x.store) new_is ∙ before.agrees.store;
          input = ap (λ (x : State). x.input) new_is ∙ before.agrees.input;
          words = ap (λ (x : State). x.draws) new_is ∙ before.agrees.words;
          count = many ∙ before.agrees.count;
          conditions = ap (λ (x : State). x.monitors.owners) new_is ∙ before.agrees.conditions;
        };
      };
      quiet = is_at.quiet;
    }

-- ## Room

pub room_stays :
    (s new : State) (p : ℕ) (found z : Activity)
    → found ≡ get_or s.activities.items p found → ((t : Tables) → activity_shown t z ≡ activity_shown t found) → IsSameDoing found.doing z.doing
    → new ≡ record s { activities = new.activities } → new.activities.items ≡ set s.activities.items p z → StaysAt s new p
room_stays s new p found z is seen same new_is items source c a n is_at =
    let t : Tables = source.program.tables in
    let found_is : found ≡ a = is ∙ is_at.before.there.is found in (
      z,
      at_changed source s new c p a z n is_at
          (λ h. ap (λ (x : Shown). (let y : Shown = record x { next = n; hand = h } in y)) (seen t ∙ ap (activity_shown t) found_is)) new_is items,
      subst (λ (b : Activity). IsSameDoing b.doing z.doing) found_is same,
    )

pub may_alike : (s new : State) (p : ℕ) → MayAct s p → IsAlike s new → MayAct new p
may_alike s new p may alike =
    let world : new.world ≡ s.world = ap (λ (x : State). x.world) alike.rest in
    record {
      within = subst (λ n. p < n) (sym alike.count) may.within;
      ready = ap (λ (w : Table). at w.rows p) world ∙ may.ready;
      alone = ap (λ (w : Table). w.acting) world ∙ may.alone;
      fresh = subst (λ (w : Table). IsNew w.rows w.done) (sym world) may.fresh;
      done = subst (λ (w : Table). w.done < 10 ^ 18) (sym world) may.done;
      moment = subst (λ (w : Table). w.moment < 2 * 10 ^ 18) (sym world) may.moment;
    }

-- ## The own way

as_onward : (t : Tables) (found : Activity) (way : Behind) (gone : Onward) (n : ℕ)
    → gone ≡ record { kept = n; replica = way.replica; next = way.next; stmts = way.stmts } → take n found.doing.pending.items ≡ found.doing.pending.items
    → onward gone (left_of t found gone.kept) ≡ left_behind way (remainder_of (pending_of t found.doing))
as_onward t found way gone n is all =
    ap (λ (o : Onward). onward o (left_of t found o.kept)) is
    ∙ ap (λ l. left_behind way (remainder_of (waiting t l))) all

pub under_way :
    (s new : State) (p : ℕ) (way : Behind) (gone : Onward) (found z : Activity) (n : ℕ)
    → found ≡ get_or s.activities.items p found → gone ≡ record { kept = n; replica = way.replica; next = way.next; stmts = way.stmts }
    → n ≡ length found.doing.pending.items → take n found.doing.pending.items ≡ found.doing.pending.items
    → ((t : Tables) → activity_shown t z ≡ gone_on t found gone)
    → ((t : Tables) → remainder_of (waiting t z.doing.pending.items) ≡ onward gone (left_of t found gone.kept))
    → take gone.kept z.doing.pending.items ≡ take gone.kept found.doing.pending.items
    → z.doing.names ≡ found.doing.names → z.doing.line ≡ found.doing.line
    → new ≡ record s { activities = new.activities } → new.activities.items ≡ set s.activities.items p z → IsUnderWay s new p way
under_way s new p way gone found z n is gone_is many all shows left below names line new_is items =
    record {
      alike = record { rest = new_is; count = ap length items ∙ length-set s.activities.items p z };
      others = λ q b other there.
          subst (λ (l : List Activity). IsIn l q b) (sym items) (kept_in s.activities.items q p b z other there);
      same = λ source c a m is_at.
          let t : Tables = source.program.tables in
          let found_is : found ≡ a = is ∙ is_at.before.there.is found in
          let kept : gone.kept ≡ n = ap (λ (o : Onward). o.kept) gone_is in (
            z,
            record {
              at = at_changed source s new c p a z m is_at
                  (λ h. ap (λ (x : Shown). (let y : Shown = record x { next = m; hand = h } in y)) (shows t)
                  ∙ ap (λ (b : Activity). shown_before source b m h) found_is) new_is items;
              names = names ∙ ap (λ (b : Activity). b.doing.names) found_is;
              line = line ∙ ap (λ (b : Activity). b.doing.line) found_is;
              left = left t ∙ as_onward t found way gone n gone_is all
                  ∙ ap (λ (b : Activity). left_behind way (remainder_of (pending_of t b.doing))) found_is;
              below = ap (λ (b : Activity). take (length b.doing.pending.items) z.doing.pending.items) (sym found_is)
                  ∙ ap (λ k. take k z.doing.pending.items) (sym many ∙ sym kept) ∙ below ∙ ap (λ k. take k found.doing.pending.items) kept ∙ all
                  ∙ ap (λ (b : Activity). b.doing.pending.items) found_is;
            },
          );
    }

-- where the process goes on behind it
pub going_is :
    (t : Tables) (a b : Activity) (k : Remainder)
    → b.doing.names ≡ a.doing.names → remainder_of (pending_of t b.doing) ≡ k
    → from_remainder (context_of t a.doing).env k ≡ from_remainder (context_of t b.doing).env (remainder_of (pending_of t b.doing))
going_is t a b k names left =
    ap (λ (m : Names). from_remainder (names_view t m) k) (sym names) ∙ ap (λ (y : Remainder). from_remainder (names_view t b.doing.names) y) (sym left)

pub goes_so :
    (s mid new : State) (p : ℕ) (way : Behind) (d : Done)
    → IsUnderWay s mid p way → GoesOn mid new p at_hand.Rest d → (source : Source) → ComesTo source s new p (on_behind way p) d
goes_so s mid new p way d under goes source g c choice a n program is_at e lines =
    let t : Tables = source.program.tables in
    let x : Context = context_of t a.doing in
    let k : Remainder = left_behind way (remainder_of (pending_of t a.doing)) in
    let found : (b : Activity) × IsOnWay source mid c p a b n way = under.same source c a n is_at in
    goes source g c c choice found.0 n (going x.env k) [] found.1.at e (going_is t a found.0 k found.1.names found.1.left) (lines ∙ sym found.1.line)
    (sym (append-nil c.output))

pub room_under : (s mid : State) (p q : ℕ) (way : Behind) (b : Activity) → IsUnderWay s mid p way → q ≢ p → IsIn s.activities.items q b →
    HasRoomAt s.activities.items q → HasRoomAt mid.activities.items q
room_under s mid p q way b under other there room d =
    subst (λ (x : Activity). HasRoom x 2) (there.is d ∙ sym ((under.others q b other there).is d)) (room d)

-- a process waits still
pub waits_under :
    (s mid under : State) (p q : ℕ) (way : Behind) → IsRoomier s mid q → IsUnderWay mid under p way →
    IsWaiting (at s.world.rows q) → IsWaiting (at under.world.rows q)
waits_under s mid under p q way roomier goes waits =
    subst (λ (w : Table). IsWaiting (at w.rows q)) (sym (ap (λ (x : State). x.world) goes.alike.rest ∙ roomier.world)) waits

pub there_is : (ys : List Activity) (q : ℕ) (found : Activity) → q < length ys → found ≡ get_or ys q found → IsIn ys q found
there_is ys q found within is = record { within = within; is = λ d. sym (get_or_read_under ys q (length ys) found d is within refl) }
