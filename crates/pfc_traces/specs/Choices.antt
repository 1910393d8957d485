-- What is chosen in a run.
use Rattle.std.specs.Prelude.{◌≡◌, ℕ, zero, suc, ◌==◌, if◌then◌else◌, List, [], ◌∷◌, ◌++◌, All, Option, Some, None}
use Rattle.pfc_state.specs.declared.endings.Ending.{Ending}
use Rattle.pfc_sched.specs.Picks.{Picking, picked, after_pick, chosen}
use Rattle.pfc_sched.specs.declared.picking.Pick.{Pick}
use Rattle.pfc_sched.specs.declared.picking.Pick.TheVariants.{Process, Nobody, NotReady, NoProcess, ScriptEnd}
use Rattle.pfc_semantics.specs.Programs.{Program}
use Rattle.pfc_semantics.specs.Configurations.{Config}
use Rattle.pfc_semantics.specs.Time.{settled_config}
use Rattle.pfc_semantics.specs.Selects.{choices}
use Rattle.pfc_semantics.specs.Steps.{next_of}
use Rattle.pfc_semantics.specs.Events.{step}
use Rattle.pfc_semantics.specs.Runs.{ending_at, choice_among, behind_choice}

-- one where there is something to choose among
abbrev pub choice_made : Picking → ℕ → List ℕ
choice_made picking m = if m == 0 then [] else chosen picking m ∷ []

-- no further choice is made where the run has ended
abbrev pub unless_over : List ℕ → Option Ending → List ℕ
unless_over further (Some ending) = []
unless_over further None = further

abbrev pub of_process : (ℕ → List ℕ) → Pick → List ℕ
of_process further (Process p) = further p
of_process further Nobody = []
of_process further (NotReady p) = []
of_process further (NoProcess p) = []
of_process further ScriptEnd = []

-- All choices of the run from a configuration on, of which so many actions of the limit are left: one for each action that is the deciding one
-- of a plain select with some alternatives that are matched.
abbrev pub choices_from : Program → ℕ → Picking → Config → List ℕ
choices_from g zero picking c = []
choices_from g (suc left) picking c =
    let s = settled_config c in
    let behind = after_pick picking s.table.rows in
    unless_over
    (of_process
    (λ p.
    let m = choices g s p (next_of g s p) in
    choice_made behind m ++ choices_from g left (behind_choice behind m) (step g s p (choice_among behind m)).config)
    (picked picking s.table.rows))
    (ending_at s)

-- every choice was the first of what there was
abbrev pub AreFirst : List ℕ → Type 0
AreFirst choices = All (λ k. k ≡ 0) choices
