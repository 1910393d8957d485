-- What is told of a step, on both sides.
use Rattle.std.proofs.Common.{◌≡◌, ℕ, Bool, List, Ok, Err, refl, sym, ap, ◌∙◌}
use Rattle.std.specs.Prelude.{◌==◌, ◌&&◌, if◌then◌else◌}
use Rattle.pfc_sched.specs.Picks.{Picking}
use Rattle.pfc_state.specs.Stands.{is_at_coend}
use Rattle.pfc_world.specs.Tables.{Table, at}
use Rattle.pfc_semantics.specs.Programs.{Program}
use Rattle.pfc_semantics.specs.Remainders.{Action}
use Rattle.pfc_semantics.specs.Configurations.{Config, Effect}
use Rattle.pfc_semantics.specs.Selects.{choices}
use Rattle.pfc_semantics.specs.Steps.{effect, next_of}
use Rattle.pfc_semantics.specs.Events.{Step, event_of}
use Rattle.pfc_semantics.specs.Runs.{choice_among}
use Rattle.pfc_races.specs.Seen.{event_seen}
use Rattle.pfc_pending.specs.declared.actions.Deed.{Deed}
use Rattle.pfc_activities.specs.declared.source.Source.{Source}
use Rattle.pfc_activities.specs.declared.state.State.{State}
use Rattle.pfc_activities.specs.Views.{deed_of}
use Rattle.pfc_activities.proofs.Acting.{next_is}
use Rattle.pfc_performing.specs.Performing.{IsAction, IsDone}
use Rattle.pfc_acting.specs.Acting.{IsActed, IsBeforeDeed, StandsBefore}
use Rattle.pfc_events.specs.Events.{IsComing, event_meant}
use Rattle.pfc_events.specs.declared.events.Coming.{Coming}
use Rattle.pfc_watching.specs.Watching.{IsEventBehind, IsEventOf, IsHappened, IsWatched, TellsEvent, done_of, step_by}
use Rattle.pfc_watching.specs.declared.acting.Walked.{Walked}
use Rattle.pfc_watching.specs.declared.acting.Walked.TheVariants.{Stepped, Faulted}

-- ## The event

pub told_so :
    (source : Source) (s mid new : State) (p : ℕ) (x : Deed) (picking picking' : Picking) (out out' : List ℕ) (joins : Bool) (coming : Coming) (w : Walked)
    → ((c : Config) → StandsBefore source s c p → IsBeforeDeed source mid c p x) → IsComing source mid p x picking coming
    → IsDone source mid new p x picking picking' out out' (done_of w) → IsHappened new p joins coming w → TellsEvent source s p joins picking w
told_so source s mid new p x picking picking' out out' joins coming (Stepped event) before comes done happened g c program stands =
    let (a, is_at) = before c stands in
    let n : Action = deed_of source.program.tables a.doing x in
    let action = done g c a program is_at in
    happened source g c (choice_among picking (choices g c p n)) n action.bytes (comes g c a program is_at.before) action.ends
    ∙ ap (λ (m : Action). event_meant g c p (choice_among picking (choices g c p m)) m joins) (sym (next_is source g mid c p a n is_at.before))
told_so source s mid new p x picking picking' out out' joins coming (Faulted line fault) before comes done happened g c program stands = tt

-- ## Behind a wait of main

process_is : (g : Program) (c : Config) (p choice : ℕ) (n : Action) (e : Effect) → (event_of g c p choice n e).process ≡ p
process_is g c p choice n (Ok d) = refl
process_is g c p choice n (Err f) = refl

-- whose step it was, tells whether it joins
event_is :
    (t : Step) (p : ℕ) (waited joins : Bool) (w : Walked) → t.event.process ≡ p → joins ≡ ((p == 0) && waited) → IsEventOf joins t w → IsEventBehind waited t w
event_is t p waited joins (Stepped event) same joined told =
    told ∙ ap (λ (b : Bool). event_seen b t.event) joined ∙ ap (λ (q : ℕ). event_seen ((q == 0) && waited) t.event) (sym same)
event_is t p waited joins (Faulted line fault) same joined told = tt

pub watched_so :
    (source : Source) (s new : State) (p : ℕ) (picking picking' : Picking) (out out' : List ℕ) (waited waited' joins : Bool) (w : Walked)
    → joins ≡ ((p == 0) && waited) → IsActed source s new p picking picking' out out' (done_of w) → TellsEvent source s p joins picking w
    → waited' ≡ (if p == 0 then is_at_coend (at new.world.rows 0) else waited) → IsWatched source s p picking waited waited' w
watched_so source s new p picking picking' out out' waited waited' joins w joined acted told waits g c program before =
    let t : Step = step_by g c p picking in
    let n : Action = next_of g c p in
    let choice : ℕ = choice_among picking (choices g c p n) in
    let action : IsAction source g new c p n picking picking' out out' (done_of w) = acted g c program before in
    let same : t.event.process ≡ p = process_is g c p choice n (effect g c p choice n) in
    record {
      event = event_is t p waited joins w same joined (told g c program before);
      waits =
          waits ∙ ap (λ (x : Table). if p == 0 then is_at_coend (at x.rows 0) else waited) action.ends.reports.table
          ∙ ap (λ (q : ℕ). if q == 0 then is_at_coend (at t.config.table.rows 0) else waited) (sym same);
    }
