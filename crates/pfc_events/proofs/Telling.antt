-- What is told of an action, on both sides.
use Rattle.std.proofs.Common.{◌≡◌, ℕ, Bool, List, map, get_or, Some, None, Result, Ok, Err, refl, ap, ◌∙◌}
use Rattle.pfc_base.specs.declared.faults.RunFault.{RunFault}
use Rattle.pfc_hb.specs.declared.accesses.Access.{Access as AccessSeen}
use Rattle.pfc_hb.specs.declared.events.Event.{Event as EventSeen}
use Rattle.pfc_hb.specs.declared.objects.Thing.{Thing as ThingSeen}
use Rattle.pfc_program.specs.declared.tables.Tables.{Tables}
use Rattle.pfc_sched.specs.Picks.{Picking}
use Rattle.pfc_state.specs.Stands.{is_ready}
use Rattle.pfc_values.specs.Pieces.{piece}
use Rattle.pfc_world.specs.Tables.{Table}
use Rattle.pfc_semantics.specs.Programs.{Program}
use Rattle.pfc_semantics.specs.Remainders.{Action, Context, Remainder}
use Rattle.pfc_semantics.specs.Statements.{from_piece}
use Rattle.pfc_semantics.specs.Configurations.{Config, Effect, after}
use Rattle.pfc_semantics.specs.Events.{event_of}
use Rattle.pfc_semantics.specs.Steps.{effect, line_of}
use Rattle.pfc_races.specs.Seen.{event_seen, things_seen}
use Rattle.pfc_pending.specs.Ahead.{deed_ahead}
use Rattle.pfc_pending.specs.Pieces.{piece_bytes}
use Rattle.pfc_pending.specs.Waiting.{Waiting, remainder_of}
use Rattle.pfc_pending.specs.declared.actions.Deed.{Deed}
use Rattle.pfc_pending.specs.declared.actions.Deed.TheVariants as deed
use Rattle.pfc_activities.specs.declared.activities.Activity.{Activity}
use Rattle.pfc_activities.specs.declared.changes.Done.TheVariants.{Stepped}
use Rattle.pfc_activities.specs.declared.source.Source.{Source}
use Rattle.pfc_activities.specs.declared.state.State.{State}
use Rattle.pfc_activities.specs.Relation.{Ends}
use Rattle.pfc_activities.specs.Views.{context_of, pending_of}
use Rattle.pfc_events.specs.Accesses.{AreAccesses}
use Rattle.pfc_events.specs.Events.{Foretells, IsComing, event_held, event_meant, line_in}
use Rattle.pfc_events.specs.Things.{things_held}
use Rattle.pfc_events.specs.Wakes.{woken_by}
use Rattle.pfc_events.specs.declared.events.Coming.{Coming}
use Rattle.pfc_events.proofs.Objects.{things_are}
use Rattle.pfc_events.proofs.Waking.{woken_is}

-- ## Its line

of_piece : (x : Context) (k : Remainder) (r : Result (List ℕ) RunFault) → x.line ≡ line_of (from_piece x k r)
of_piece x k (Ok bytes) = refl
of_piece x k (Err f) = refl

line_is : (t : Tables) (x : Context) (w : Waiting) (d : Deed) → line_in x.line d ≡ line_of (deed_ahead t x w d)
line_is t x w (deed.Reads at) = refl
line_is t x w (deed.Writes at v) = refl
line_is t x w deed.Turns = refl
line_is t x w (deed.Calls called args) = refl
line_is t x w (deed.Finishes line) = refl
line_is t x w (deed.Prints bytes width) = of_piece x (remainder_of w) (piece width (piece_bytes bytes))
line_is t x w (deed.Inputs simple at) = refl
line_is t x w deed.Skips = refl
line_is t x w deed.AsksEof = refl
line_is t x w deed.AsksEoln = refl
line_is t x w deed.AsksClock = refl
line_is t x w (deed.AsksEmpty at) = refl
line_is t x w (deed.Draws i) = refl
line_is t x w deed.Joins = refl
line_is t x w (deed.Initials at i) = refl
line_is t x w (deed.Waits at) = refl
line_is t x w (deed.Signals at) = refl
line_is t x w (deed.Delays at rank) = refl
line_is t x w (deed.Resumes at) = refl
line_is t x w (deed.Sleeps i) = refl
line_is t x w (deed.Meets offer) = refl
line_is t x w (deed.Decides select) = refl
line_is t x w (deed.Parts caller) = refl
line_is t x w (deed.Scans scan) = refl
line_is t x w (deed.Bars b) = refl
line_is t x w (deed.Passes tried scan) = refl
line_is t x w (deed.Faults fault) = refl

-- ## Before it

pub coming_so :
    (source : Source) (s : State) (p : ℕ) (d : Deed) (picking : Picking) (own : Activity) (coming : Coming)
    → own ≡ get_or s.activities.items p own → coming.line ≡ line_in own.doing.line d
    → coming.things.items ≡ things_seen (things_held source s own p d) → AreAccesses s p d picking coming.accesses.items
    → coming.standings.ready.items ≡ map is_ready s.world.rows → IsComing source s p d picking coming
coming_so source s p d picking own coming is line things accesses ready g c a program before =
    let t : Tables = source.program.tables in
    let same : own ≡ a = is ∙ before.there.is own in
    record {
      line = line ∙ ap (λ (x : Activity). line_in x.doing.line d) same ∙ line_is t (context_of t a.doing) (pending_of t a.doing) d;
      things =
          things ∙ ap (λ (x : Activity). things_seen (things_held source s x p d)) same
          ∙ ap things_seen (things_are source g s c p a _ program before d);
      accesses = accesses source g c a before;
      ready = ready ∙ ap (λ (w : Table). map is_ready w.rows) before.agrees.table;
    }

-- ## Behind it

module _ (source : Source) (g : Program) (c : Config) (p choice : ℕ) (n : Action) (bytes : List ℕ) (coming : Coming) (new : State) (joins : Bool)
    (told : Foretells g c p choice n coming) (ends : Ends source g new c p choice n bytes Stepped) where
  event_by : (e : Effect) → effect g c p choice n ≡ e → event_held coming new p joins ≡ event_seen joins (event_of g c p choice n e)
  event_by (Ok d) is =
      let seen : EventSeen = event_seen joins (event_of g c p choice n (Ok d)) in
      let rows : new.world.rows ≡ d.table.rows
      = ap (λ (w : Table). w.rows) ends.reports.table ∙ ap (λ (e : Effect). (after g c p (line_of n) e).table.rows) is in
      ap (λ (l : ℕ). record (event_held coming new p joins) { line = l }) told.line
      ∙ ap (λ (l : List ThingSeen). record (event_held coming new p joins) { line = line_of n; things = l }) told.things
      ∙ ap (λ (l : List AccessSeen). record (event_held coming new p joins) { line = line_of n; things = seen.things; accesses = l }) told.accesses
      ∙ ap (λ (l : List ℕ). record seen { wakes = l })
      (ap (λ (l : List Bool). woken_by 0 l new.world.rows) told.ready ∙ ap (woken_by 0 (map is_ready c.table.rows)) rows
      ∙ woken_is 0 c.table.rows d.table.rows)
  event_by (Err f) is =
      let none : (after g c p (line_of n) (effect g c p choice n)).fault ≡ None = ends.tells in
      let some : (after g c p (line_of n) (effect g c p choice n)).fault ≡ Some (record { process = p; line = line_of n; fault = f })
      = ap (λ (e : Effect). (after g c p (line_of n) e).fault) is in
      absurd cc

  pub event_is : event_held coming new p joins ≡ event_meant g c p choice n joins
  event_is = event_by (effect g c p choice n) refl
