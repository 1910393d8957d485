-- A run that is watched, event by event.
use Rattle.std.proofs.Common.{◌≡◌, ℕ, ◌+◌, Bool, List, [], ◌∷◌, ◌++◌, Option, append_assoc, append-nil, refl, sym, ap, ◌∙◌}
use Rattle.pfc_hb.specs.declared.events.Event.{Event as EventSeen}
use Rattle.pfc_state.specs.declared.endings.Ending.TheVariants.{Fault}
use Rattle.pfc_sched.specs.Picks.{Picking}
use Rattle.pfc_semantics.specs.Programs.{Program}
use Rattle.pfc_semantics.specs.Configurations.{Config, FaultAt}
use Rattle.pfc_semantics.specs.Time.{settled_config}
use Rattle.pfc_semantics.specs.Events.{Step}
use Rattle.pfc_semantics.specs.Steps.{next_of}
use Rattle.pfc_races.specs.Ordered.{event_behind, ordered, unless_fault, waited_behind}
use Rattle.pfc_activities.specs.declared.source.Source.{Source}
use Rattle.pfc_activities.specs.declared.state.State.{State}
use Rattle.pfc_acting.specs.Acting.{IsAction}
use Rattle.pfc_watching.specs.Watching.{Watches, done_of, step_by}
use Rattle.pfc_watching.specs.declared.acting.Walked.{Walked}
use Rattle.pfc_watching.specs.declared.acting.Walked.TheVariants.{Stepped, Faulted}
use Rattle.pfc_walker.specs.Courses.{IsPick}
use Rattle.pfc_walker.specs.Telling.{behind_step}
use Rattle.pfc_walker.specs.Watching.{IsFirstEvent, IsNextEvent, Watched, event_in, events_from}
use Rattle.pfc_walker.proofs.OneTurn.{ended_steps, ends_in_fault, settled_fault}

-- ## The action of the process that was picked

module _
    (source : Source) (g : Program) (limit left : ℕ) (picking behind : Picking) (c d : Config) (p : ℕ)
    (pick : IsPick g limit left picking behind c d p)
  where
    abbrev t : Step
    t = step_by g d p behind

    -- the events behind its step
    abbrev later : Bool → List EventSeen
    later waited = events_from g left (behind_step g d p behind) waited t.config

    from_pick : (waited : Bool) → events_from g (left + 1) picking waited c ≡ unless_fault t.config.fault
        (event_behind waited t) ++ later (waited_behind waited t)
    from_pick waited = ap (λ (ts : List Step). ordered waited ts) pick.steps

    -- its event is the next one, unless it is a fault
    pub next_event_so :
        (new : State) (picking' : Picking) (out out' : List ℕ) (waited waited' : Bool) (w : Walked)
        → IsAction source g new d p (next_of g d p) behind picking' out out' (done_of w) → Watches t waited waited' w
        → IsNextEvent source g (left + 1) picking picking' waited waited' c new (event_in w)
    next_event_so new picking' out out' waited waited' (Stepped event) action watched =
        record {
          config = t.config;
          rest = left;
          one = refl;
          stands = action.ends.stands refl;
          events =
              from_pick waited
              ∙ ap (λ (f : Option FaultAt). unless_fault f (event_behind waited t) ++ later (waited_behind waited t)) action.ends.tells
              ∙ ap (λ (e : EventSeen). e ∷ later (waited_behind waited t)) (sym watched.event) ∙ ap (λ (b : Bool). event ∷ later b) (sym watched.waits)
              ∙ ap (λ (x : Picking). event ∷ events_from g left x waited' t.config) (sym action.picked);
        }
    next_event_so new picking' out out' waited waited' (Faulted line fault) action watched =
        from_pick waited ∙ ap (λ (f : Option FaultAt). unless_fault f (event_behind waited t) ++ later (waited_behind waited t)) action.ends.tells
        ∙ ap (λ (ts : List Step). ordered (waited_behind waited t) ts)
        (ended_steps g (behind_step g d p behind) t.config (Fault p line fault)
        (ends_in_fault (settled_config t.config) (record { process = p; line = line; fault = fault }) (settled_fault t.config ∙ action.ends.tells)) left)

-- ## One event behind the others

pub watched_more :
    (source : Source) (g : Program) (left : ℕ) (picking picking' : Picking) (waited waited' : Bool) (s new : State)
    (events all : List EventSeen) (event : EventSeen) (n : ℕ)
    → (w : Watched source g left picking waited s events all) → (next : IsFirstEvent source g left picking picking' waited waited' w.config new event)
    → next.rest ≡ n → Watched source g n picking' waited' new (events ++ event ∷ []) all
watched_more source g left picking picking' waited waited' s new events all event n w next rest =
    record {
      config = next.config;
      stands = next.stands;
      both =
          ap (λ (k : ℕ). (events ++ event ∷ []) ++ events_from g k picking' waited' next.config) (sym rest)
          ∙ append_assoc events (event ∷ []) (events_from g next.rest picking' waited' next.config)
          ∙ ap (λ (l : List EventSeen). events ++ l) (sym next.events) ∙ w.both;
    }

pub watched_all :
    (source : Source) (g : Program) (left : ℕ) (picking : Picking) (waited : Bool) (s : State) (events all : List EventSeen)
    → (w : Watched source g left picking waited s events all) → events_from g left picking waited w.config ≡ [] → events ≡ all
watched_all source g left picking waited s events all w none = sym (ap (λ (l : List EventSeen). events ++ l) none ∙ append-nil events) ∙ w.both
