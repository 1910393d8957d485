-- A process before an action, on both sides.
use Rattle.std.proofs.Common.{◌≡◌, ℕ, ◌<◌, ◌*◌, ◌^◌, List, [], ◌∷◌, length, map, set, get_or, sym, ap, ◌∙◌, subst, arith}
use Rattle.std.proofs.lemmas.List.{map-set, set-set, get_or-set_same, get_or_default, length-set}
use Rattle.pfc_program.specs.declared.tables.Tables.{Tables}
use Rattle.pfc_program.specs.declared.names.Names.{Names}
use Rattle.pfc_pending.specs.declared.actions.Deed.{Deed}
use Rattle.pfc_pending.specs.declared.pending.Pending.{Pending}
use Rattle.pfc_pending.specs.Ahead.{deed_ahead}
use Rattle.pfc_pending.specs.Waiting.{waiting}
use Rattle.pfc_program.specs.Views.{names_view}
use Rattle.pfc_sched.specs.Picks.{Picking}
use Rattle.pfc_store.specs.Views.{store_view}
use Rattle.pfc_semantics.specs.Alternatives.{context}
use Rattle.pfc_semantics.specs.Remainders.{Action}
use Rattle.pfc_semantics.specs.Configurations.{Config, Hand}
use Rattle.pfc_world.specs.Tables.{Table, at}
use Rattle.pfc_world.specs.Tickets.{IsNew}
use Rattle.pfc_activities.specs.declared.activities.Activity.{Activity}
use Rattle.pfc_activities.specs.declared.activities.Doing.{Doing}
use Rattle.pfc_activities.specs.declared.changes.Done.{Done}
use Rattle.pfc_activities.specs.declared.source.Source.{Source}
use Rattle.pfc_activities.specs.declared.state.State.{State}
use Rattle.pfc_activities.specs.Shown.{Shown, activity_shown, activities_shown}
use Rattle.pfc_activities.specs.Views.{doing_ahead, deed_of, hand_view}
use Rattle.pfc_activities.specs.Relation.{Agrees, Stands, IsIn, shown_before, IsAt, MayAct, StaysAt, IsSameDoing}
use Rattle.pfc_activities.proofs.Acting.{as_put, next_is}
use Rattle.pfc_performing.specs.Performing.{IsAction, IsDone}
use Rattle.pfc_acting.specs.Acting.{StandsBefore, IsBeforeDeed, IsActed}

-- ## One of many

put_there : (xs mid : List Activity) (p : ℕ) (b : Activity) → p < length xs → mid ≡ set xs p b → IsIn mid p b
put_there xs mid p b within is =
    record {
      within = subst (λ k. p < k) (sym (ap length is ∙ length-set xs p b)) within;
      is = λ d. ap (λ (l : List Activity). get_or l p d) is ∙ get_or-set_same xs p b d within;
    }

-- whatever stands in its place
over_place : (t : Tables) (xs mid : List Activity) (p : ℕ) (b : Activity) (x : Shown) → mid ≡ set xs p b →
    set (activities_shown t xs) p x ≡ set (activities_shown t mid) p x
over_place t xs mid p b x is =
    sym (ap (λ (l : List Activity). set (activities_shown t l) p x) is ∙ ap (λ (l : List Shown). set l p x) (map-set (activity_shown t) xs p b)
    ∙ set-set (activities_shown t xs) p (activity_shown t b) x)

-- ## The state

agrees_so :
    (source : Source) (s new : State) (c : Config) (p : ℕ) (b : Activity)
    → Agrees source s c → new ≡ record s { activities = new.activities } → new.activities.items ≡ set s.activities.items p b → Agrees source new c
agrees_so source s new c p b agrees is items =
    record {
      table = ap (λ (x : State). x.world) is ∙ agrees.table;
      counts = ap (λ (x : State). x.semaphores) is ∙ agrees.counts;
      monitors = ap (λ (x : State). x.monitors.holders) is ∙ agrees.monitors;
      resources = ap (λ (x : State). x.resources) is ∙ agrees.resources;
      store = ap (λ (x : State). store_view x.store) is ∙ agrees.store;
      input = ap (λ (x : State). x.input) is ∙ agrees.input;
      words = ap (λ (x : State). x.draws) is ∙ agrees.words;
      count = ap length items ∙ length-set s.activities.items p b ∙ agrees.count;
      conditions = ap (λ (x : State). x.monitors.owners) is ∙ agrees.conditions;
    }

-- the process is at something else, before the same action
pub moved_on :
    (source : Source) (s new : State) (c : Config) (p : ℕ) (a : Activity) (d : Doing) (m n : Action)
    → IsAt source s c p a n → m ≡ n → new ≡ record s { activities = new.activities }
    → new.activities.items ≡ set s.activities.items p (record a { doing = d }) → IsAt source new c p (record a { doing = d }) m
moved_on source s new c p a d m n is_at same is items =
    let t : Tables = source.program.tables in
    let ys : List Activity = s.activities.items in
    let b : Activity = record a { doing = d } in
    let hand : Hand = is_at.before.hand in
    record {
      before = record {
        hand = hand;
        there = put_there ys new.activities.items p b is_at.before.there.within items;
        activities =
            is_at.before.activities
            ∙ ap (λ (k : Action). (let x : Shown = record (activity_shown t a) { next = k; hand = hand } in set (activities_shown t ys) p x)) (sym same)
            ∙ over_place t ys new.activities.items p b (shown_before source b m hand) items;
        agrees = agrees_so source s new c p b is_at.before.agrees is items;
      };
      quiet = is_at.quiet;
    }

-- the process that was found there
pub found_at :
    (source : Source) (s : State) (c : Config) (p : ℕ) (found : Activity)
    → found ≡ get_or s.activities.items p found → StandsBefore source s c p → IsAt source s c p found (doing_ahead source.program.tables found.doing)
found_at source s c p found found_is (a, is_at) =
    subst (λ (b : Activity). IsAt source s c p b (doing_ahead source.program.tables b.doing)) (sym (found_is ∙ is_at.before.there.is found)) is_at

-- before its action
pub deed_at :
    (source : Source) (s : State) (c : Config) (p : ℕ) (found : Activity) (x : Deed)
    → found ≡ get_or s.activities.items p found → IsBeforeDeed source s c p x → IsAt source s c p found (deed_of source.program.tables found.doing x)
deed_at source s c p found x found_is (a, is_at) =
    subst (λ (b : Activity). IsAt source s c p b (deed_of source.program.tables b.doing x)) (sym (found_is ∙ is_at.before.there.is found)) is_at

-- one of some
some_of : (xs : List Activity) (p : ℕ) → p < length xs → Activity
some_of [] p within = absurd (omega (arith, within))
some_of (x ∷ xs) p within = x

-- what any process showed may be left uncompared
pub before_any : (source : Source) (s : State) (c : Config) (p : ℕ) → p < length s.activities.items → Stands source s c → StandsBefore source s c p
before_any source s c p within stands =
    let t : Tables = source.program.tables in
    let ys : List Activity = s.activities.items in
    let d : Activity = some_of ys p within in
    let a : Activity = get_or ys p d in
    let there : IsIn ys p a = record { within = within; is = λ e. get_or_default ys p e d within } in (
      a,
      record {
        before = record {
          hand = hand_view t a.doing a.hand;
          there = there;
          activities = stands.mirrors.activities ∙ as_put t ys p a there;
          agrees = stands.mirrors.agrees;
        };
        quiet = stands.quiet;
      },
    )

-- ## Behind the action

-- the same action over the same that is pending
deed_same : (t : Tables) (d e : Doing) (x : Deed) → IsSameDoing d e → deed_of t e x ≡ deed_of t d x
deed_same t d e x same =
    ap (λ (names : Names). deed_ahead t (context (names_view t names) e.line) (waiting t e.pending.items) x) same.names
    ∙ ap (λ (line : ℕ). deed_ahead t (context (names_view t d.names) line) (waiting t e.pending.items) x) same.line
    ∙ ap (λ (ps : List Pending). deed_ahead t (context (names_view t d.names) d.line) (waiting t ps) x) same.pending

-- it was not done, and is at hand still
pub still_before :
    (source : Source) (s mid : State) (c : Config) (p : ℕ) (x : Deed)
    → IsBeforeDeed source s c p x → StaysAt s mid p → IsBeforeDeed source mid c p x
still_before source s mid c p x (a, is_at) stays =
    let t : Tables = source.program.tables in
    let (b, at_b, same) = stays source c a (deed_of t a.doing x) is_at in
    (b, subst (λ (n : Action). IsAt source mid c p b n) (sym (deed_same t a.doing b.doing x same)) at_b)

pub acted_so :
    (source : Source) (s mid new : State) (p : ℕ) (x : Deed) (picking picking' : Picking) (out out' : List ℕ) (d : Done)
    → ((c : Config) → StandsBefore source s c p → IsBeforeDeed source mid c p x) → IsDone source mid new p x picking picking' out out' d
    → IsActed source s new p picking picking' out out' d
acted_so source s mid new p x picking picking' out out' d before done = λ g c program stands.
    let (a, is_at) = before c stands in
    let n : Action = deed_of source.program.tables a.doing x in
    subst (λ (m : Action). IsAction source g new c p m picking picking' out out' d) (sym (next_is source g mid c p a n is_at.before))
    (done g c a program is_at)

-- a process may still act where rewriting has changed no standing
pub may_act_still :
    (s new : State) (p : ℕ) → MayAct s p → length new.activities.items ≡ length s.activities.items → new.world ≡ s.world → MayAct new p
may_act_still s new p may count world =
    record {
      within = subst (λ (n : ℕ). p < n) (sym count) may.within;
      ready = ap (λ (w : Table). at w.rows p) world ∙ may.ready;
      alone = ap (λ (w : Table). w.acting) world ∙ may.alone;
      fresh = subst (λ (w : Table). IsNew w.rows w.done) (sym world) may.fresh;
      done = subst (λ (w : Table). w.done < 10 ^ 18) (sym world) may.done;
      moment = subst (λ (w : Table). w.moment < 2 * 10 ^ 18) (sym world) may.moment;
    }
