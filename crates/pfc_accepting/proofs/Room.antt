-- Room for a meeting, of which there is nothing to be seen.
use Rattle.std.proofs.Common.{◌≡◌, ℕ, List, length, set, get_or, Result, Ok, Err, refl, sym, ap, ◌∙◌, subst}
use Rattle.std.specs.Prelude.{OnErr}
use Rattle.std.proofs.lemmas.List.{map-set, set-set, length-set}
use Rattle.pfc_program.specs.InView.{InView}
use Rattle.pfc_program.specs.declared.tables.Tables.{Tables}
use Rattle.pfc_program.specs.Views.{names_view}
use Rattle.pfc_store.specs.Views.{store_view}
use Rattle.pfc_semantics.specs.Alternatives.{context}
use Rattle.pfc_semantics.specs.Remainders.{Action}
use Rattle.pfc_pending.specs.Ahead.{deed_ahead}
use Rattle.pfc_pending.specs.Waiting.{waiting}
use Rattle.pfc_pending.specs.declared.actions.Deed.{Deed}
use Rattle.pfc_pending.specs.declared.pending.Pending.{Pending}
use Rattle.pfc_activities.specs.declared.activities.Activity.{Activity}
use Rattle.pfc_activities.specs.declared.activities.Doing.{Doing}
use Rattle.pfc_activities.specs.declared.changes.Done.{Done}
use Rattle.pfc_activities.specs.declared.source.Source.{Source}
use Rattle.pfc_activities.specs.declared.state.State.{State}
use Rattle.pfc_activities.specs.Relation.{IsIn, IsBefore, IsAt, Performs, StaysAt, IsSameDoing, Ends, shown_before}
use Rattle.pfc_activities.specs.Shown.{Shown, activity_shown, activities_shown}
use Rattle.pfc_activities.specs.Views.{deed_of}
use Rattle.pfc_meeting.proofs.Both.{now_in}

-- only this process has more room
pub own_room_so :
    (s new : State) (q : ℕ) (found z : Activity)
    → found ≡ get_or s.activities.items q found → ((t : Tables) → activity_shown t z ≡ activity_shown t found) → IsSameDoing found.doing z.doing
    → new ≡ record s { activities = new.activities } → new.activities.items ≡ set s.activities.items q z → StaysAt s new q
own_room_so s new q found z is seen doing new_is items source c a n is_at =
    let t : Tables = source.program.tables in
    let ys : List Activity = s.activities.items in
    let before : IsBefore source s c q a n = is_at.before in
    let same : found ≡ a = is ∙ before.there.is found in
    let shows : activity_shown t z ≡ activity_shown t a = seen t ∙ ap (activity_shown t) same in
    let kept : shown_before source z n before.hand ≡ shown_before source a n before.hand
    = ap (λ (x : Shown). (let y : Shown = record x { next = n; hand = before.hand } in y)) shows in
    let others : set (activities_shown t new.activities.items) q (shown_before source z n before.hand) ≡ set
    (activities_shown t ys) q (shown_before source a n before.hand)
    = ap (λ (l : List Activity). set (activities_shown t l) q (shown_before source z n before.hand)) items
    ∙ ap (λ (l : List Shown). set l q (shown_before source z n before.hand)) (map-set (activity_shown t) ys q z)
    ∙ set-set (activities_shown t ys) q (activity_shown t z) (shown_before source z n before.hand)
    ∙ ap (set (activities_shown t ys) q) kept in (
      z,
      record {
        before = record {
          hand = before.hand;
          there = subst (λ (l : List Activity). IsIn l q z) (sym items) (now_in ys q a z before.there);
          activities = before.activities ∙ sym others;
          agrees = record {
            table = ap (λ (x : State). x.world) new_is ∙ before.agrees.table;
            counts = ap (λ (x : State). x.semaphores) new_is ∙ before.agrees.counts;
            monitors = ap (λ (x : State). x.monitors.holders) new_is ∙ before.agrees.monitors;
            resources = ap (λ (x : State). x.resources) new_is ∙ before.agrees.resources;
            store = ap (λ (x : State). store_view x.store) new_is ∙ before.agrees.store;
            input = ap (λ (x : State). x.input) new_is ∙ before.agrees.input;
            words = ap (λ (x : State). x.draws) new_is ∙ before.agrees.words;
            count = ap length items ∙ length-set ys q z ∙ before.agrees.count;
            conditions = ap (λ (x : State). x.monitors.owners) new_is ∙ before.agrees.conditions;
          };
        };
        quiet = is_at.quiet;
      },
      subst (λ (x : Activity). IsSameDoing x.doing z.doing) same doing,
    )

-- the same action comes next where the same is pending
same_deed : (t : Tables) (old new : Doing) (deed : Deed) → IsSameDoing old new → deed_of t new deed ≡ deed_of t old deed
same_deed t old new deed same =
    ap (λ (i : InView). deed_ahead t (context (names_view t i) new.line) (waiting t new.pending.items) deed) same.names
    ∙ ap (λ (l : ℕ). deed_ahead t (context (names_view t old.names) l) (waiting t new.pending.items) deed) same.line
    ∙ ap (λ (l : List Pending). deed_ahead t (context (names_view t old.names) old.line) (waiting t l) deed) same.pending

-- what a process performs in its room it performs
pub performs_in_room :
    (source : Source) (s mid new : State) (p : ℕ) (deed : Deed) (bytes : List ℕ) (d : Done)
    → StaysAt s mid p → Performs source mid new p deed bytes d → Performs source s new p deed bytes d
performs_in_room source s mid new p deed bytes d stays performs g c choice a program is_at =
    let t : Tables = source.program.tables in
    let roomy = stays source c a (deed_of t a.doing deed) is_at in
    let is : deed_of t roomy.0.doing deed ≡ deed_of t a.doing deed = same_deed t a.doing roomy.0.doing deed roomy.2 in
    subst (λ (n : Action). Ends source g new c p choice n bytes d) is
    (performs g c choice roomy.0 program (subst (λ (n : Action). IsAt source mid c p roomy.0 n) (sym is) roomy.1))

pub stays_still : (s new : State) (p : ℕ) → new ≡ s → StaysAt s new p
stays_still s new p is source c a n is_at =
    (a, subst (λ (x : State). IsAt source x c p a n) (sym is) is_at, record { names = refl; line = refl; pending = refl })

pub stays_so : (s mid new : State) (p : ℕ) → StaysAt s mid p → new ≡ mid → StaysAt s new p
stays_so s mid new p stays is = subst (λ (x : State). StaysAt s x p) (sym is) stays

-- where something is refused it holds whatever the refusal is
pub at_refusal : {T E : Type 0} (r : Result T E) (P : Type 0) → P → OnErr r P
at_refusal (Ok x) P h = tt
at_refusal (Err e) P h = h
