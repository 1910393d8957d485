-- Where a run stands after some actions.
use Rattle.std.specs.Prelude.{ℕ, zero, suc, ◌+◌, ◌≡◌, ◌<◌, true, None, List, [], ◌++◌}
use Rattle.pfc_code.specs.Images.{PlainImage}
use Rattle.pfc_sched.specs.Picks.{Picking, picked}
use Rattle.pfc_sched.specs.declared.picking.Pick.{Pick}
use Rattle.pfc_sched.specs.declared.picking.Pick.TheVariants.{Process}
use Rattle.pfc_machines.specs.declared.machine.Machine.{Machine}
use Rattle.pfc_machines.specs.Actions.{at_rest}
use Rattle.pfc_machine_acts.specs.Settling.{machine_settled}
use Rattle.pfc_machine_acts.specs.Quietly.{next_instr}
use Rattle.pfc_sessions.specs.Steps.{before_action, may_want}
use Rattle.pfc_sessions.specs.Runs.{Run, run_from, step_of, IsPicked}

-- who picks, the machine, and what was printed so far
pub record Stage : Type 0 where
  pub picking : Picking
  pub machine : Machine
  pub printed : List ℕ

-- before the first action
abbrev pub first_stage : Picking → Machine → Stage
first_stage picking m = record { picking = picking; machine = m; printed = [] }

-- behind an action of process p
abbrev pub behind_action : PlainImage → Stage → ℕ → Stage
behind_action image s p = let t = step_of image s.picking s.machine p in record { picking = t.picking; machine = t.machine; printed = s.printed ++ t.printed }

abbrev pub by_process : Stage → (ℕ → Stage) → Pick → Stage
by_process s go (Process p) = go p
by_process s go pick = s

-- behind the action of who is picked
abbrev pub next_stage : PlainImage → Stage → Stage
next_stage image s = by_process s (behind_action image s) (picked s.picking (machine_settled s.machine).world.rows)

-- after so many actions
abbrev pub stage_after : PlainImage → ℕ → Stage → Stage
stage_after image zero s = s
stage_after image (suc n) s = next_stage image (stage_after image n s)

-- ## Stages of a run

-- the run h is one that prints these bytes and then is the run f: both end with the same ending, with the same machine
pub record GoesOn (bytes : List ℕ) (f h : Run) : Type 0 where
  pub ending : f.ending ≡ h.ending
  pub machine : f.machine ≡ h.machine
  pub printed : h.printed ≡ bytes ++ f.printed

-- who is picked at a stage acts, and its action is no fault
pub record Passes (image : PlainImage) (s : Stage) : Type 0 where
  pub process : ℕ
  pub picked : IsPicked s.picking (machine_settled s.machine) process
  pub sound : (step_of image s.picking s.machine process).fault ≡ None

-- The run f passes so many stages. So many actions are left at the next, from which it goes on to its end.
pub record IsOnTheWay (image : PlainImage) (limit count left : ℕ) (f : Run) (first : Stage) : Type 0 where
  pub sum : left + count ≡ limit
  pub passed : (k : ℕ) → k < count → Passes image (stage_after image k first)
  pub goes :
      GoesOn (stage_after image count first).printed
      (run_from image limit left (stage_after image count first).picking (stage_after image count first).machine) f

-- The machine stands before the action of who is picked at a stage, whose instruction may want memory.
pub record IsUntried (image : PlainImage) (s : Stage) (new : Machine) : Type 0 where
  pub process : ℕ
  pub picked : IsPicked s.picking (machine_settled s.machine) process
  pub machine : new ≡ at_rest (before_action image process (machine_settled s.machine))
  pub wants : may_want (next_instr image process (before_action image process (machine_settled s.machine))) ≡ true
