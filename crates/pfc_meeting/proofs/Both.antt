-- A change of two processes, on both sides.
use Rattle.std.proofs.Common.{◌≡◌, ◌≢◌, ℕ, ◌<◌, List, [], length, map, set, get_or, None, refl, sym, ap, ◌∙◌, subst}
use Rattle.std.proofs.lemmas.List.{append-nil, map-set, set-get_or, set_comm, get_or-map, get_or-set_same, get_or-set_other, length-map, length-set}
use Rattle.pfc_program.specs.declared.tables.Tables.{Tables}
use Rattle.pfc_world.specs.Tables.{Table}
use Rattle.pfc_world.specs.Tickets.{IsNew}
use Rattle.pfc_world.specs.Transitions.{ticked}
use Rattle.pfc_store.specs.Views.{store_view}
use Rattle.pfc_semantics.specs.Programs.{Program}
use Rattle.pfc_semantics.specs.Remainders.{Action}
use Rattle.pfc_semantics.specs.Rewriting.{Doing, next}
use Rattle.pfc_semantics.specs.Configurations as configurations
use Rattle.pfc_semantics.specs.Configurations.{Config, activity_of, nobody, doing_next, done_at, empty_hand}
use Rattle.pfc_pending.specs.declared.at_hand.At.TheVariants as at
use Rattle.pfc_activities.specs.declared.activities.Activity.{Activity}
use Rattle.pfc_activities.specs.declared.changes.Done.TheVariants.{Stepped}
use Rattle.pfc_activities.specs.declared.source.Source.{Source}
use Rattle.pfc_activities.specs.declared.state.State.{State}
use Rattle.pfc_activities.specs.Relation.{Agrees, IsIn, IsBefore, IsKept, Stands, shown_before}
use Rattle.pfc_activities.specs.Shown.{Shown, shown, activity_shown, activities_shown}
use Rattle.pfc_activities.specs.Views.{at_work, at_line}
use Rattle.pfc_activities.proofs.Acting.{as_many, acting_is, change_one, kept_agrees, ends_so}
use Rattle.pfc_meeting.specs.declared.onward.Onward.{Onward}
use Rattle.pfc_meeting.specs.Going.{HasRoom, gone_on}
use Rattle.pfc_meeting.specs.Meeting.{doing_onward, BothGoOn, HasRoomAt, IsRoomier}

-- ## One of many

-- a process is replaced on both sides by one that shows the same
pub change_any :
    (t : Tables) (xs : List configurations.Activity) (ys : List Activity) (q : ℕ) (x : configurations.Activity) (y : Activity)
    → map shown xs ≡ activities_shown t ys → shown x ≡ activity_shown t y → map shown (set xs q x) ≡ activities_shown t (set ys q y)
change_any t xs ys q x y h e =
    map-set shown xs q x ∙ ap (λ (l : List Shown). set l q (shown x)) h ∙ ap (λ (z : Shown). set (activities_shown t ys) q z) e
    ∙ sym (map-set (activity_shown t) ys q y)

-- what another process than the one that acts shows in the definitions
pub other_is :
    (source : Source) (g : Program) (s : State) (c : Config) (p q : ℕ) (a b : Activity) (n : Action)
    → IsBefore source s c p a n → q ≢ p → IsIn s.activities.items q b → shown (activity_of g c q) ≡ activity_shown source.program.tables b
other_is source g s c p q a b n before other there =
    let t : Tables = source.program.tables in
    let old : Shown = shown_before source a n before.hand in
    let ys : List Activity = s.activities.items in
    let here : q < length c.activities = subst (λ k. q < k) (sym (as_many t c.activities ys p old before.activities)) there.within in
    sym (get_or-map shown c.activities q (nobody g) old here) ∙ ap (λ (l : List Shown). get_or l q old) before.activities
    ∙ get_or-set_other (activities_shown t ys) p q old old other ∙ get_or-map (activity_shown t) ys q b old there.within
    ∙ ap (activity_shown t) (there.is b)

-- where nothing was taken from anybody
pub each_is :
    (t : Tables) (xs : List configurations.Activity) (ys : List Activity) (p : ℕ) (d : configurations.Activity) (y : Activity) (old : Shown)
    → map shown xs ≡ activities_shown t ys → IsIn ys p y → shown (get_or xs p d) ≡ activity_shown t y
each_is t xs ys p d y old h there =
    let many : length xs ≡ length ys = sym (length-map xs shown) ∙ ap length h ∙ length-map ys (activity_shown t) in
    sym (get_or-map shown xs p d old (subst (λ k. p < k) (sym many) there.within)) ∙ ap (λ (l : List Shown). get_or l p old) h
    ∙ get_or-map (activity_shown t) ys p y old there.within ∙ ap (activity_shown t) (there.is y)

-- a process is the same where another was changed
pub kept_in : (ys : List Activity) (p q : ℕ) (a z : Activity) → p ≢ q → IsIn ys p a → IsIn (set ys q z) p a
kept_in ys p q a z other there =
    record {
      within = subst (λ k. p < k) (sym (length-set ys q z)) there.within;
      is = λ d. get_or-set_other ys q p z d other ∙ there.is d;
    }

-- it is where it was put
pub now_in : (ys : List Activity) (p : ℕ) (a y : Activity) → IsIn ys p a → IsIn (set ys p y) p y
now_in ys p a y there =
    record {
      within = subst (λ k. p < k) (sym (length-set ys p y)) there.within;
      is = λ d. get_or-set_same ys p y d there.within;
    }

-- ## The end of an action

-- where the processes of both sides show the same, and then the process that acted has its line
pub stands_then :
    (source : Source) (g : Program) (s new : State) (k : Config) (cs : List configurations.Activity) (mid : List Activity) (p : ℕ) (y : Activity) (line : ℕ)
    → map shown cs ≡ activities_shown source.program.tables mid → Agrees source s k →
    length mid ≡ length s.activities.items → k.table.acting ≡ None → k.fault ≡ None
    → IsIn mid p y → new.activities.items ≡ set mid p (at_line y line) → IsKept s new → new.world ≡ ticked s.world
    → IsNew new.world.rows new.world.done → Stands source new (done_at g (record k { activities = cs }) p line)
stands_then source g s new k cs mid p y line same agrees many acting sound there items kept world fresh =
    let t : Tables = source.program.tables in
    let d : Config = record k { activities = cs } in
    let x : configurations.Activity = activity_of g d p in
    let is : shown x ≡ activity_shown t y = each_is t cs mid p (nobody g) y (activity_shown t y) same there in
    record {
      mirrors = record {
        activities =
            change_any t cs mid p (record x { line = line }) (at_line y line) same
            (ap (λ (z : Shown). (let v : Shown = record z { line = line } in v)) is)
            ∙ ap (activities_shown t) (sym items);
        agrees = kept_agrees source s new k (done_at g d p line) (set mid p (at_line y line)) agrees kept items
            (length-set mid p (at_line y line) ∙ many) world refl;
      };
      quiet = record {
        acting = acting;
        fresh = subst (λ (w : Table). IsNew w.rows w.done) (world ∙ ap ticked agrees.table) fresh;
        sound = sound;
      };
    }

-- ## Two processes

pub both_so :
    (s new : State) (p q : ℕ) (way : Onward) (one_done both_done : List Activity) (found z : Activity) (line : ℕ)
    → q ≢ p → found ≡ get_or s.activities.items q found → ((t : Tables) → activity_shown t z ≡ gone_on t found way)
    → ((y : Activity) → IsIn s.activities.items p y → line ≡ y.doing.line)
    → one_done ≡ set s.activities.items q z
    → ((y : Activity) → IsIn one_done p y → both_done ≡ set one_done p (at_work y at.Rest))
    → ((y : Activity) → IsIn both_done p y → new.activities.items ≡ set both_done p (at_line y line))
    → IsKept s new → new.world ≡ ticked s.world → IsNew new.world.rows new.world.done → BothGoOn s new p q way Stepped
both_so s new p q way one_done both_done found z line other is shows of_line first then_so last kept world fresh source g c k choice a b
    n one is_at there e nexts lines output =
    let t : Tables = source.program.tables in
    let ys : List Activity = s.activities.items in
    let before : IsBefore source s k p a n = is_at.before in
    let back : p ≢ q = λ h. other (sym h) in
    let went : Activity = at_work a at.Rest in
    let in_one : IsIn one_done p a = subst (λ (l : List Activity). IsIn l p a) (sym first) (kept_in ys p q a z back before.there) in
    let second : both_done ≡ set one_done p went = then_so a in_one in
    let in_both : IsIn both_done p went = subst (λ (l : List Activity). IsIn l p went) (sym second) (now_in one_done p a went in_one) in
    let same_line : line ≡ a.doing.line = of_line a before.there in
    let other_doing : Doing = doing_onward t b way in
    let w : configurations.Activity = configurations.at_work (activity_of g k p) one in
    let k1 : Config = doing_next g k p one in
    let v : configurations.Activity = configurations.at_work (activity_of g k1 q) other_doing in
    let d : Config = doing_next g k1 q other_doing in
    let acts : shown w ≡ activity_shown t went
    = ap (λ (x : Shown). (let y : Shown = record x { next = next one; hand = empty_hand } in y)) (acting_is source g s k p a n before)
    ∙ ap (λ (m : Action). (let y : Shown = record (activity_shown t a) { next = m; hand = empty_hand } in y)) nexts in
    let once : map shown k1.activities ≡ activities_shown t (set ys p went)
    = change_one t k.activities ys p w went (shown_before source a n before.hand) before.activities acts in
    let partner : shown (activity_of g k1 q) ≡ activity_shown t b
    = ap shown (get_or-set_other k.activities p q w (nobody g) other) ∙ other_is source g s k p q a b n before other there in
    let meets : shown v ≡ activity_shown t z
    = ap (λ (x : Shown). (let y : Shown = record x { next = next other_doing; hand = empty_hand } in y)) partner
    ∙ ap (λ (x : Activity). gone_on t x way) (sym (is ∙ there.is found)) ∙ sym (shows t) in
    let same : map shown d.activities ≡ activities_shown t both_done
    = change_any t k1.activities (set ys p went) q v z once meets
    ∙ ap (activities_shown t) (set_comm ys p q went z back ∙ ap (λ (l : List Activity). set l p went) (sym first) ∙ sym second) in
    let many : length both_done ≡ length ys = ap length second ∙ length-set one_done p went ∙ ap length first ∙ length-set ys q z in
    ends_so source g new c d p choice n [] e
    (subst (λ (l : ℕ). Stands source new (done_at g d p l)) (same_line ∙ sym lines)
    (stands_then source g s new k d.activities both_done p went line same before.agrees many is_at.quiet.acting is_at.quiet.sound
    in_both (last went in_both) kept world fresh))
    (output ∙ sym (append-nil c.output))

-- ## More room

-- only another process than the one that acts has more room
pub roomier_so :
    (s new : State) (q : ℕ) (found z : Activity)
    → found ≡ get_or s.activities.items q found → ((t : Tables) → activity_shown t z ≡ activity_shown t found)
    → new ≡ record s { activities = new.activities } → new.activities.items ≡ set s.activities.items q z → IsRoomier s new q
roomier_so s new q found z is seen new_is items =
    record {
      same = λ source c p a n other is_at.
          let t : Tables = source.program.tables in
          let ys : List Activity = s.activities.items in
          let before : IsBefore source s c p a n = is_at.before in
          let old : Shown = shown_before source a n before.hand in
          let back : p ≢ q = λ h. other (sym h) in
          let many : length new.activities.items ≡ length ys = ap length items ∙ length-set ys q z in
          record {
            before = record {
              hand = before.hand;
              there = subst (λ (l : List Activity). IsIn l p a) (sym items) (kept_in ys p q a z back before.there);
              activities =
                  before.activities
                  ∙ ap (λ (l : List Shown). set l p old)
                  (ap (activities_shown t) (sym (set-get_or ys q found)) ∙ map-set (activity_shown t) ys q (get_or ys q found)
                  ∙ ap (λ (x : Activity). set (activities_shown t ys) q (activity_shown t x)) (sym is)
                  ∙ ap (λ (x : Shown). set (activities_shown t ys) q x) (sym (seen t)) ∙ sym (map-set (activity_shown t) ys q z)
                  ∙ ap (activities_shown t) (sym items));
              agrees = record {
                table = ap (λ (x : State). x.world) new_is ∙ before.agrees.table;
                counts = ap (λ (x : State). x.semaphores) new_is ∙ before.agrees.counts;
                monitors = ap (λ (x : State). x.monitors.holders) new_is ∙ before.agrees.monitors;
                resources = ap (λ (x : State). x.resources) new_is ∙ before.agrees.resources;
                store = ap (λ (x : State). store_view x.store) new_is ∙ before.agrees.store;
                input = ap (λ (x : State). x.input) new_is ∙ before.agrees.input;
                words = ap (λ (x : State). x.draws) new_is ∙ before.agrees.words;
                count = many ∙ before.agrees.count;
                conditions = ap (λ (x : State). x.monitors.owners) new_is ∙ before.agrees.conditions;
              };
            };
            quiet = is_at.quiet;
          };
      world = ap (λ (x : State). x.world) new_is;
      store = ap (λ (x : State). x.store) new_is;
      count = ap length items ∙ length-set s.activities.items q z;
    }

-- the others have the room that they had
pub rooms_kept : (ys : List Activity) (q x : ℕ) (z : Activity) → x ≢ q → HasRoomAt ys x → HasRoomAt (set ys q z) x
rooms_kept ys q x z other room d = subst (λ (b : Activity). HasRoom b 2) (sym (get_or-set_other ys q x z d other)) (room d)
