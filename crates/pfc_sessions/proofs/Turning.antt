-- The run from a machine on, by its first turn.
use Rattle.std.proofs.Common.{◌≡◌, ◌-◌, ◌<◌, arith, ℕ, suc, true, false, List, ◌++◌, Option, Some, None, refl, sym, ap, ◌∙◌, subst, append-nil}
use Rattle.pfc_base.specs.declared.faults.RunFault.{RunFault}
use Rattle.pfc_code.specs.Images.{PlainImage}
use Rattle.pfc_sched.specs.Picks.{Picking, picked, after_pick}
use Rattle.pfc_sched.specs.declared.picking.Pick.{Pick}
use Rattle.pfc_sched.specs.declared.picking.Pick.TheVariants.{Process}
use Rattle.pfc_sched.proofs.PickLaws.{picks_ready}
use Rattle.pfc_state.specs.Stands.{Stand, Is_idle, Is_created, Is_ready, Waits, Is_done, is_ready}
use Rattle.pfc_state.specs.declared.endings.Ending.TheVariants.{Fault}
use Rattle.pfc_world.specs.Tables.{at}
use Rattle.pfc_machines.specs.declared.machine.Machine.{Machine}
use Rattle.pfc_machines.specs.Actions.{at_rest}
use Rattle.pfc_machine_acts.specs.Acting.{MayAct}
use Rattle.pfc_machine_acts.specs.Quietly.{next_instr}
use Rattle.pfc_machine_acts.specs.Settling.{machine_settled}
use Rattle.pfc_machine_acts.specs.declared.acts.ActionEnd.TheVariants.{Faulted}
use Rattle.pfc_sessions.specs.Courses.{IsPick, Ends}
use Rattle.pfc_sessions.specs.Runs.{Run, ending_at, ended_with, behind_bytes, by_pick, unless_ended, unless_fault, unless_worn_out, is_worn_out, behind_step}
use Rattle.pfc_sessions.specs.Runs.{run_from, step_of, IsPicked, MayRun}
use Rattle.pfc_sessions.specs.Stages.{first_stage, IsUntried}
use Rattle.pfc_sessions.specs.Steps.{FaultAt, begins, before_action, may_want, Step, step, IsStep}

-- ## The first turn

module _ (image : PlainImage) (limit : ℕ) (picking : Picking) (m : Machine) where
  abbrev behind_pick : ℕ → ℕ → Run
  behind_pick left p = let t = step_of image picking m p in behind_step t (run_from image limit left t.picking t.machine)

  abbrev by_picking : ℕ → Pick → Run
  by_picking left pick = by_pick (machine_settled m) (after_pick picking (machine_settled m).world.rows) (behind_pick left) pick

  by_a_pick :
      (left : ℕ) (pick : Pick) → ending_at (machine_settled m) ≡ None → is_worn_out (machine_settled m) ≡ false
      → pick ≡ picked picking (machine_settled m).world.rows → run_from image limit (suc left) picking m ≡ by_picking left pick
  by_a_pick left pick e counts is =
      ap (unless_ended (machine_settled m) _) e
      ∙ ap (unless_worn_out (machine_settled m) (by_picking left (picked picking (machine_settled m).world.rows))) counts
      ∙ ap (by_picking left) (sym is)

  one_more : (left : ℕ) → 0 < left → run_from image limit left picking m ≡ run_from image limit (suc (left - 1)) picking m
  one_more left some = let one : left ≡ suc (left - 1) = omega (arith, some) in ap (λ (n : ℕ). run_from image limit n picking m) one

  run_picked :
      (left : ℕ) (pick : Pick) → 0 < left → ending_at (machine_settled m) ≡ None → is_worn_out (machine_settled m) ≡ false
      → pick ≡ picked picking (machine_settled m).world.rows → run_from image limit left picking m ≡ by_picking (left - 1) pick
  run_picked left pick some e counts is = one_more left some ∙ by_a_pick (left - 1) pick e counts is

  -- where a process is picked
  run_on : (left p : ℕ) → 0 < left → IsPicked picking (machine_settled m) p → run_from image limit left picking m ≡ behind_pick (left - 1) p
  run_on left p some pick = run_picked left (Process p) some pick.goes pick.counts (sym pick.picks)

  module _ (left p : ℕ) where
    abbrev pub act : Step
    act = step_of image picking m p

    abbrev by_fault : Option FaultAt → Run
    by_fault o = behind_bytes act.printed (unless_fault act.machine (run_from image limit (left - 1) act.picking act.machine) o)

    -- and its action was no fault
    pub run_goes_on : 0 < left → IsPicked picking (machine_settled m) p → act.fault ≡ None
        → run_from image limit left picking m ≡ behind_bytes act.printed (run_from image limit (left - 1) act.picking act.machine)
    run_goes_on some pick sound = run_on left p some pick ∙ ap by_fault sound

    -- or was one
    run_faults : (f : FaultAt) → 0 < left → IsPicked picking (machine_settled m) p → act.fault ≡ Some f
        → run_from image limit left picking m ≡ behind_bytes act.printed (ended_with (machine_settled act.machine) (Fault f.process f.line f.fault))
    run_faults f some pick is = run_on left p some pick ∙ ap by_fault is

-- ## Who may act

pub may_act :
    (image : PlainImage) (left : ℕ) (picking behind : Picking) (m s : Machine) (p : ℕ)
    → 0 < left → MayRun image left picking m → IsPick picking behind m s p → MayAct image behind p (begins p s)
may_act image left picking behind m s p some may pick =
    let one : left ≡ suc (left - 1) = omega (arith, some) in
    let turn = subst (λ (n : ℕ). MayRun image n picking m) one may in
    let acts = turn.may p (subst (λ (x : Machine). IsPicked picking x p) pick.machine pick.picked) in
    subst (λ (x : Picking). MayAct image x p (begins p s)) (sym pick.behind)
    (subst (λ (x : Machine). MayAct image (after_pick picking x.world.rows) p (begins p x)) (sym pick.machine) acts)

-- ## Behind an action

ready_is : (stand : Stand) → is_ready stand ≡ true → stand ≡ Is_ready
ready_is Is_ready e = refl
ready_is Is_idle e = absurd cc
ready_is Is_created e = absurd cc
ready_is (Waits why ticket arms) e = absurd cc
ready_is Is_done e = absurd cc

module _ (picking behind : Picking) (m s : Machine) (p : ℕ) (pick : IsPick picking behind m s p) where
  pub pick_ready : at s.world.rows p ≡ Is_ready
  pick_ready = let (within, ready) = picks_ready picking s.world.rows p pick.picked.picks in ready_is (at s.world.rows p) ready

  there : IsPicked picking (machine_settled m) p
  there = subst (λ (x : Machine). IsPicked picking x p) pick.machine pick.picked

  module _ (image : PlainImage) where
    same_step : step image p behind s ≡ step_of image picking m p
    same_step =
        ap (λ (x : Picking). step image p x s) pick.behind
        ∙ ap (λ (x : Machine). step image p (after_pick picking x.world.rows) x) pick.machine

    -- memory was refused
    pub refused : (new : Machine) → new ≡ at_rest (before_action image p s) → may_want (next_instr image p (before_action image p s)) ≡ true
        → IsUntried image (first_stage picking m) new
    refused new is wants = record {
      process = p;
      picked = there;
      machine = is ∙ ap (λ (x : Machine). at_rest (before_action image p x)) pick.machine;
      wants = subst (λ (x : Machine). may_want (next_instr image p (before_action image p x)) ≡ true) pick.machine wants;
    }

    module _ (new : Machine) (picking' : Picking) (out out' : List ℕ) where
      pub faulted :
          (limit left line : ℕ) (fault : RunFault) (end : Machine) → 0 < left → IsStep (step image p behind s) p new picking' out out' (Faulted line fault)
          → end ≡ machine_settled new → Ends (run_from image limit left picking m) end (Fault p line fault) out out'
      faulted limit left line fault end some h settles =
          let t : IsStep (step_of image picking m p) p new picking' out out' (Faulted line fault)
          = subst (λ (x : Step). IsStep x p new picking' out out' (Faulted line fault)) same_step h in
          let f : FaultAt = record { process = p; line = line; fault = fault } in
          let run = run_faults image limit picking m left p f some there t.tells in
          record {
            ends = sym (ap (λ (x : Run). x.ending) run);
            machine = settles ∙ ap machine_settled t.machine ∙ sym (ap (λ (x : Run). x.machine) run);
            written =
                t.written ∙ ap (λ (x : List ℕ). out ++ x) (sym (append-nil (step_of image picking m p).printed) ∙ sym (ap (λ (x : Run). x.printed) run));
          }
