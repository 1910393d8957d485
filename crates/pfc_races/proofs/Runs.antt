-- The steps of a run.
use Rattle.std.proofs.Common.{◌≡◌, ℕ, zero, suc, ◌≤◌, Bool, List, [], ◌∷◌, ◌++◌, length, map, append_assoc, append-nil, Option, Some, None, refl, sym, ap, ◌∙◌}
use Rattle.std.proofs.Common.{arith}
use Rattle.pfc_hb.specs.declared.events.Event.{Event as EventSeen}
use Rattle.pfc_state.specs.declared.endings.Ending.{Ending}
use Rattle.pfc_state.specs.declared.endings.Ending.TheVariants.{Limit}
use Rattle.pfc_sched.specs.Picks.{Picking, picked, after_pick}
use Rattle.pfc_sched.specs.declared.picking.Pick.{Pick}
use Rattle.pfc_sched.specs.declared.picking.Pick.TheVariants.{Process, Nobody, NotReady, NoProcess, ScriptEnd}
use Rattle.pfc_semantics.specs.Configurations.{Config, FaultAt}
use Rattle.pfc_semantics.specs.Time.{settled_config}
use Rattle.pfc_semantics.specs.Selects.{choices}
use Rattle.pfc_semantics.specs.Steps.{next_of}
use Rattle.pfc_semantics.specs.Events.{Event, Step, step}
use Rattle.pfc_semantics.specs.Runs.{Run, ending_at, ended_with, behind_event, choice_among, behind_choice, by_pick, unless_ended, run_from}
use Rattle.pfc_races.specs.Laws.{AreFew, AreItsActions, AreKept, what_it_was}
use Rattle.pfc_races.specs.Ordered.{Kept, event_behind, kept_behind, ordered, unless_fault, waited_behind}
use Rattle.pfc_races.specs.RunSteps.{of_process, steps_behind, steps_from, unless_over}

-- ## They are its actions

unless_same :
    (s : Config) (steps : List Step) (go : Run) (ending : Option Ending)
    → map what_it_was steps ≡ go.events → map what_it_was (unless_over steps ending) ≡ (unless_ended s go ending).events
unless_same s steps go (Some ending) same = refl
unless_same s steps go None same = same

by_pick_same :
    (s : Config) (behind : Picking) (steps : ℕ → List Step) (go : ℕ → Run) (pick : Pick) → ((p : ℕ) → map what_it_was (steps p) ≡ (go p).events)
    → map what_it_was (of_process steps pick) ≡ (by_pick s behind go pick).events
by_pick_same s behind steps go (Process p) same = same p
by_pick_same s behind steps go Nobody same = refl
by_pick_same s behind steps go (NotReady p) same = refl
by_pick_same s behind steps go (NoProcess p) same = refl
by_pick_same s behind steps go ScriptEnd same = refl

none_same : (s : Config) (last : Ending) (ending : Option Ending) → [] ≡ (unless_ended s (ended_with s last) ending).events
none_same s last (Some ending) = refl
none_same s last None = refl

pub its_actions : AreItsActions
its_actions g limit zero picking c = none_same (settled_config c) (Limit limit) (ending_at (settled_config c))
its_actions g limit (suc left) picking c =
    let s : Config = settled_config c in
    let behind : Picking = after_pick picking s.table.rows in
    let steps : ℕ → List Step = λ p. steps_behind g behind s p (steps_from g left) in
    let go : ℕ → Run
    = λ p. let m : ℕ = choices g s p (next_of g s p) in
    let t : Step = step g s p (choice_among behind m) in behind_event t.event (run_from g limit left (behind_choice behind m) t.config) in
    unless_same s (of_process steps (picked picking s.table.rows)) (by_pick s behind go (picked picking s.table.rows)) (ending_at s)
    (by_pick_same s behind steps go (picked picking s.table.rows)
    (λ p.
    let m : ℕ = choices g s p (next_of g s p) in
    let t : Step = step g s p (choice_among behind m) in
    ap (λ (l : List Event). t.event ∷ l) (its_actions g limit left (behind_choice behind m) t.config)))

-- ## They are few

unless_few :
    (n : ℕ) (e : EventSeen) (es : List EventSeen) (fault : Option FaultAt) → length es ≤ n → length (unless_fault fault e ++ es) ≤ suc n
unless_few n e es (Some f) few = omega (arith, few)
unless_few n e es None few = omega (arith, few)

over_few :
    (n : ℕ) (waited : Bool) (steps : List Step) (ending : Option Ending)
    → length (ordered waited steps) ≤ n → length (ordered waited (unless_over steps ending)) ≤ n
over_few n waited steps (Some ending) few = omega arith
over_few n waited steps None few = few

picked_few :
    (n : ℕ) (waited : Bool) (steps : ℕ → List Step) (pick : Pick) → ((p : ℕ) → length (ordered waited (steps p)) ≤ n)
    → length (ordered waited (of_process steps pick)) ≤ n
picked_few n waited steps (Process p) few = few p
picked_few n waited steps Nobody few = omega arith
picked_few n waited steps (NotReady p) few = omega arith
picked_few n waited steps (NoProcess p) few = omega arith
picked_few n waited steps ScriptEnd few = omega arith

pub few : AreFew
few g zero picking c waited = omega arith
few g (suc left) picking c waited =
    let s : Config = settled_config c in
    let behind : Picking = after_pick picking s.table.rows in
    let steps : ℕ → List Step = λ p. steps_behind g behind s p (steps_from g left) in
    over_few (suc left) waited (of_process steps (picked picking s.table.rows)) (ending_at s)
    (picked_few (suc left) waited steps (picked picking s.table.rows)
    (λ p.
    let m : ℕ = choices g s p (next_of g s p) in
    let t : Step = step g s p (choice_among behind m) in
    unless_few left (event_behind waited t) (ordered (waited_behind waited t) (steps_from g left (behind_choice behind m) t.config)) t.config.fault
    (few g left (behind_choice behind m) t.config (waited_behind waited t))))

-- ## They are kept step by step

pub kept : AreKept
kept k [] = sym (append-nil k.events)
kept k (t ∷ ts) =
    kept (kept_behind k t) ts ∙ append_assoc k.events (unless_fault t.config.fault (event_behind k.waited t)) (ordered (waited_behind k.waited t) ts)
