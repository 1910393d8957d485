-- The steps of a run, one for each action that was done, in order.
use Rattle.std.specs.Prelude.{ℕ, zero, suc, List, [], ◌∷◌, Option, Some, None}
use Rattle.pfc_state.specs.declared.endings.Ending.{Ending}
use Rattle.pfc_sched.specs.Picks.{Picking, picked, after_pick}
use Rattle.pfc_sched.specs.declared.picking.Pick.{Pick}
use Rattle.pfc_sched.specs.declared.picking.Pick.TheVariants.{Process, Nobody, NotReady, NoProcess, ScriptEnd}
use Rattle.pfc_semantics.specs.Programs.{Program}
use Rattle.pfc_semantics.specs.Configurations.{Config}
use Rattle.pfc_semantics.specs.Time.{settled_config}
use Rattle.pfc_semantics.specs.Selects.{choices}
use Rattle.pfc_semantics.specs.Steps.{next_of}
use Rattle.pfc_semantics.specs.Events.{Step, step}
use Rattle.pfc_semantics.specs.Runs.{ending_at, choice_among, behind_choice}

-- no further step is made where the run has ended
abbrev pub unless_over : List Step → Option Ending → List Step
unless_over steps (Some ending) = []
unless_over steps None = steps

-- nor where no process is picked
abbrev pub of_process : (ℕ → List Step) → Pick → List Step
of_process steps (Process p) = steps p
of_process steps Nobody = []
of_process steps (NotReady p) = []
of_process steps (NoProcess p) = []
of_process steps ScriptEnd = []

-- the step of a process that is picked, with the choice that is made in it, and those behind it
abbrev pub steps_behind : Program → Picking → Config → ℕ → (Picking → Config → List Step) → List Step
steps_behind g behind c p more =
    let m = choices g c p (next_of g c p) in let t = step g c p (choice_among behind m) in t ∷ more (behind_choice behind m) t.config

-- The steps of the run from a configuration on, of which so many actions of the limit are left.
abbrev pub steps_from : Program → ℕ → Picking → Config → List Step
steps_from g zero picking c = []
steps_from g (suc left) picking c =
    let s = settled_config c in
    unless_over (of_process (λ p. steps_behind g (after_pick picking s.table.rows) s p (steps_from g left)) (picked picking s.table.rows)) (ending_at s)
