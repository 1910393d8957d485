-- Runs of the machine: which process acts, action by action, and how a run ends.
use Rattle.std.specs.Prelude.{ℕ, zero, suc, ◌≡◌, ◌^◌, nat_le, Bool, true, false, ◌||◌, if◌then◌else◌, List, [], ◌++◌, Option, Some, None}
use Rattle.pfc_code.specs.Images.{PlainImage}
use Rattle.pfc_sched.specs.Picks.{Picking, picked, after_pick, item_of}
use Rattle.pfc_sched.specs.declared.picking.Pick.{Pick}
use Rattle.pfc_sched.specs.declared.picking.Pick.TheVariants.{Process, Nobody, NotReady, NoProcess, ScriptEnd}
use Rattle.pfc_state.specs.Stands.{Stand, Is_done}
use Rattle.pfc_state.specs.declared.endings.Ending.{Ending}
use Rattle.pfc_state.specs.declared.endings.Ending.TheVariants.{Finished, Fault, Deadlock, Limit, Script, Memory}
use Rattle.pfc_state.specs.declared.endings.ScriptWhy.TheVariants.{NotReady as Not_ready, NoProcess as No_process, Ended}
use Rattle.pfc_world.specs.Tables.{at, some_ready}
use Rattle.pfc_machines.specs.declared.machine.Machine.{Machine}
use Rattle.pfc_machine_acts.specs.Acting.{MayAct}
use Rattle.pfc_machine_acts.specs.Settling.{machine_settled}
use Rattle.pfc_sessions.specs.Steps.{FaultAt, Step, begins, step}

-- ## How a run ends

abbrev pub is_done : Stand → Bool
is_done Is_done = true
is_done stand = false

-- The first of these that holds, of a machine that is settled, where the last action was no fault: main has finished; no process is ready. They
-- come before the limit and before the pick.
abbrev pub ending_at : Machine → Option Ending
ending_at m = if is_done (at m.world.rows 0) then Some Finished else if some_ready m.world.rows then None else Some Deadlock

-- So many actions were done, or the clock is so far, that the machine counts no more. It never comes, and is as want of memory.
abbrev pub is_worn_out : Machine → Bool
is_worn_out m = nat_le (10 ^ 18) m.world.done || nat_le (10 ^ 18) m.world.moment

-- ## Runs

-- how a run ended, the machine at its end, which is settled, and what it printed
pub record Run : Type 0 where
  pub ending : Ending
  pub machine : Machine
  pub printed : List ℕ

abbrev pub ended_with : Machine → Ending → Run
ended_with m ending = record { ending = ending; machine = m; printed = [] }

abbrev pub behind_bytes : List ℕ → Run → Run
behind_bytes bytes run = record run { printed = bytes ++ run.printed }

-- a pick goes on with its process, or ends the run
abbrev pub by_pick : Machine → Picking → (ℕ → Run) → Pick → Run
by_pick m behind go (Process p) = go p
by_pick m behind go Nobody = ended_with m Deadlock
by_pick m behind go (NotReady p) = ended_with m (Script (item_of behind) (Not_ready p))
by_pick m behind go (NoProcess p) = ended_with m (Script (item_of behind) (No_process p))
by_pick m behind go ScriptEnd = ended_with m (Script (item_of behind) Ended)

abbrev pub unless_ended : Machine → Run → Option Ending → Run
unless_ended m go (Some ending) = ended_with m ending
unless_ended m go None = go

-- an action that is not counted is not done
abbrev pub unless_worn_out : Machine → Run → Bool → Run
unless_worn_out m go true = ended_with m Memory
unless_worn_out m go false = go

-- a fault ends the run, before all other endings, with the machine behind it, settled
abbrev pub unless_fault : Machine → Run → Option FaultAt → Run
unless_fault m go (Some f) = ended_with (machine_settled m) (Fault f.process f.line f.fault)
unless_fault m go None = go

abbrev pub behind_step : Step → Run → Run
behind_step t go = behind_bytes t.printed (unless_fault t.machine go t.fault)

-- The run from a machine on, of which so many actions of the limit are left.
abbrev pub run_from : PlainImage → ℕ → ℕ → Picking → Machine → Run
run_from image limit zero picking m = let s = machine_settled m in unless_ended s (ended_with s (Limit limit)) (ending_at s)
run_from image limit (suc left) picking m =
    let s = machine_settled m in
    let behind = after_pick picking s.world.rows in
    unless_ended s
    (unless_worn_out s
    (by_pick s behind (λ p. let t = step image p behind s in behind_step t (run_from image limit left t.picking t.machine))
    (picked picking s.world.rows))
    (is_worn_out s))
    (ending_at s)

-- ## Who may act in a run

-- the process that is picked in a settled machine, where the run goes on
pub record IsPicked (picking : Picking) (m : Machine) (p : ℕ) : Type 0 where
  pub goes : ending_at m ≡ None
  pub counts : is_worn_out m ≡ false
  pub picks : picked picking m.world.rows ≡ Process p

-- the step of process p in a machine that settles first, where this picks
abbrev pub step_of : PlainImage → Picking → Machine → ℕ → Step
step_of image picking m p = step image p (after_pick picking (machine_settled m).world.rows) (machine_settled m)

-- Who is picked may act, and this holds behind its step, where that is no fault.
pub record MayTurn (image : PlainImage) (picking : Picking) (m : Machine) (later : Picking → Machine → Type 0) : Type 0 where
  pub alone : m.world.acting ≡ None
  pub may : (p : ℕ) → IsPicked picking (machine_settled m) p
      → MayAct image (after_pick picking (machine_settled m).world.rows) p (begins p (machine_settled m))
  pub onward : (p : ℕ) → IsPicked picking (machine_settled m) p → (step_of image picking m p).fault ≡ None
      → later (step_of image picking m p).picking (step_of image picking m p).machine

-- In each of so many actions who is picked may act. It is a fact about the run alone, which code that follows its source gives.
abbrev pub MayRun : PlainImage → ℕ → Picking → Machine → Type 0
MayRun image zero picking m = m.world.acting ≡ None
MayRun image (suc left) picking m = MayTurn image picking m (MayRun image left)
