-- Runs: which process acts, action by action, and how a run ends.
use Rattle.std.specs.Prelude.{ℕ, ◌+◌, zero, suc, ◌==◌, Bool, true, false, if◌then◌else◌, List, [], ◌∷◌, Option, Some, None}
use Rattle.pfc_state.specs.Stands.{Stand, Is_done, state_of}
use Rattle.pfc_state.specs.declared.endings.Ending.{Ending}
use Rattle.pfc_state.specs.declared.endings.Ending.TheVariants.{Finished, Fault, Deadlock, Limit, Script}
use Rattle.pfc_state.specs.declared.endings.ScriptWhy.TheVariants.{NotReady as Not_ready, NoProcess as No_process, Ended}
use Rattle.pfc_state.specs.declared.standings.Standing.{Standing}
use Rattle.pfc_tree.specs.trees.Parts.{ProgramTree}
use Rattle.pfc_world.specs.Tables.{at, some_ready}
use Rattle.pfc_sched.specs.Picks.{Picking, picked, after_pick, chosen, after_choice, item_of}
use Rattle.pfc_sched.specs.declared.picking.Pick.{Pick}
use Rattle.pfc_sched.specs.declared.picking.Pick.TheVariants.{Process, Nobody, NotReady, NoProcess, ScriptEnd}
use Rattle.pfc_semantics.specs.Programs.{Program, program_of}
use Rattle.pfc_semantics.specs.Configurations.{Activity, Config, FaultAt, start}
use Rattle.pfc_semantics.specs.Time.{settled_config}
use Rattle.pfc_semantics.specs.Selects.{choices}
use Rattle.pfc_semantics.specs.Steps.{next_of}
use Rattle.pfc_semantics.specs.Events.{Event, step}

-- ## How a run ends

abbrev pub is_done : Stand → Bool
is_done Is_done = true
is_done stand = false

-- The first of these that holds, of a configuration that is settled: the last action was a fault; main has finished; no process is ready. They come
-- before the limit and before the pick.
abbrev pub ending_at : Config → Option Ending
ending_at c = after_fault c.fault
  where
    after_fault : Option FaultAt → Option Ending
    after_fault (Some f) = Some (Fault f.process f.line f.fault)
    after_fault None =
        if is_done (at c.table.rows 0) then Some Finished else if some_ready c.table.rows then None else Some Deadlock

-- ## Runs

-- how a run ended, the configuration at its end, which is settled, and what each action was, in order
pub record Run : Type 0 where
  pub ending : Ending
  pub config : Config
  pub events : List Event

abbrev pub ended_with : Config → Ending → Run
ended_with c ending = record { ending = ending; config = c; events = [] }

abbrev pub behind_event : Event → Run → Run
behind_event event run = record run { events = event ∷ run.events }

-- the choice of a step, which takes a word only where there is something to choose among; and who picks behind it
abbrev pub choice_among : Picking → ℕ → ℕ
choice_among picking m = if m == 0 then 0 else chosen picking m

abbrev pub behind_choice : Picking → ℕ → Picking
behind_choice picking m = if m == 0 then picking else after_choice picking

-- a pick goes on with its process, or ends the run
abbrev pub by_pick : Config → Picking → (ℕ → Run) → Pick → Run
by_pick c behind go (Process p) = go p
by_pick c behind go Nobody = ended_with c Deadlock
by_pick c behind go (NotReady p) = ended_with c (Script (item_of behind) (Not_ready p))
by_pick c behind go (NoProcess p) = ended_with c (Script (item_of behind) (No_process p))
by_pick c behind go ScriptEnd = ended_with c (Script (item_of behind) Ended)

abbrev pub unless_ended : Config → Run → Option Ending → Run
unless_ended c go (Some ending) = ended_with c ending
unless_ended c go None = go

-- The run from a configuration on, of which so many actions of the limit are left.
abbrev pub run_from : Program → ℕ → ℕ → Picking → Config → Run
run_from g limit zero picking c =
    let s = settled_config c in unless_ended s (ended_with s (Limit limit)) (ending_at s)
run_from g limit (suc left) picking c =
    let s = settled_config c in
    let behind = after_pick picking s.table.rows in
    unless_ended s
    (by_pick s behind
    (λ p.
    let m = choices g s p (next_of g s p) in
    let t = step g s p (choice_among behind m) in
    behind_event t.event (run_from g limit left (behind_choice behind m) t.config))
    (picked picking s.table.rows))
    (ending_at s)

-- the run of a program, over an input, a seed of `random`, a way of picking, and at most so many actions
abbrev pub run : ProgramTree → List ℕ → ℕ → Picking → ℕ → Run
run t input seed picking limit = let g = program_of t in run_from g limit limit picking (start g input seed)

-- ## What a report tells

-- the standing of each process with its line, in the order of their numbers
abbrev pub standings_from : ℕ → List Stand → List Activity → List Standing
standings_from n (stand ∷ rows) (a ∷ activities) = record { process = n; state = state_of stand; line = a.line } ∷ standings_from (n + 1) rows activities
standings_from n rows activities = []

abbrev pub standings : Config → List Standing
standings c = standings_from 0 c.table.rows c.activities
