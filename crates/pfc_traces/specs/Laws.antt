-- The laws of traces.
use Rattle.std.specs.Prelude.{◌≡◌, ℕ, ◌≤◌, ◌<◌, List, length, All, Ok}
use Rattle.pfc_state.specs.declared.endings.Ending.{Ending}
use Rattle.pfc_state.specs.declared.endings.Ending.TheVariants.{Finished, Fault, Deadlock, Limit, Script, SinkFailed, Memory}
use Rattle.pfc_sched.specs.Picks.{Picking, by_list}
use Rattle.pfc_sched.specs.Script.{script}
use Rattle.pfc_semantics.specs.Programs.{Program}
use Rattle.pfc_semantics.specs.Configurations.{Config}
use Rattle.pfc_semantics.specs.Runs.{run_from}
use Rattle.pfc_traces.specs.Choices.{AreFirst, choices_from}
use Rattle.pfc_traces.specs.Traces.{trace_of, trace_text}

-- the run came to its end by itself or at its limit: no script stopped it
abbrev pub IsUnstopped : Ending → Type 0
IsUnstopped Finished = Unit {0}
IsUnstopped (Fault process line fault) = Unit {0}
IsUnstopped Deadlock = Unit {0}
IsUnstopped (Limit n) = Unit {0}
IsUnstopped (Script item why) = ⊥
IsUnstopped SinkFailed = ⊥
IsUnstopped Memory = ⊥

-- the trace of a run, as a script, gives the same run: the ending, the configuration at its end, and what each action was
abbrev pub Replays : Type 0
Replays =
    (g : Program) (limit left : ℕ) (picking : Picking) (c : Config)
    → IsUnstopped (run_from g limit left picking c).ending → AreFirst (choices_from g left picking c)
    → run_from g limit left (by_list (trace_of (run_from g limit left picking c)) 0) c ≡ run_from g limit left picking c

-- numbers of 32 bits come back from their text
abbrev pub ReadsBack : Type 0
ReadsBack = (numbers : List ℕ) → All (λ p. p ≤ 4294967295) numbers → script (trace_text numbers) ≡ Ok numbers

abbrev pub ActsWithin : Type 0
ActsWithin =
    (g : Program) (limit left : ℕ) (picking : Picking) (c : Config) → All (λ p. p < length c.table.rows) (trace_of (run_from g limit left picking c))
