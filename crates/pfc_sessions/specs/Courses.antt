-- What runs, and turns of runs, come to.
use Rattle.std.specs.Prelude.{ℕ, ◌≡◌, ◌≢◌, List, ◌++◌, Option, Some, None}
use Rattle.std.specs.Io.KnownBytes.{Appends}
use Rattle.pfc_code.specs.Images.{PlainImage}
use Rattle.pfc_io.specs.Writes.{AppendsFront}
use Rattle.pfc_sched.specs.Picks.{Picking, after_pick}
use Rattle.pfc_state.specs.declared.endings.Ending.{Ending}
use Rattle.pfc_state.specs.declared.endings.Ending.TheVariants.{Finished, Fault, Deadlock, Limit, Script, SinkFailed, Memory}
use Rattle.pfc_machines.specs.declared.machine.Machine.{Machine}
use Rattle.pfc_machine_acts.specs.Settling.{machine_settled}
use Rattle.pfc_sessions.specs.Runs.{Run, ended_with, run_from, step_of, IsPicked}
use Rattle.pfc_sessions.specs.Stages.{Stage, stage_after, first_stage, IsOnTheWay, IsUntried}

-- ## Runs

-- the run came to this ending with this machine, and what it prints is written
pub record Completes (f : Run) (new : Machine) (ending : Ending) (before after : Option (List ℕ)) : Type 0 where
  pub ends : ending ≡ f.ending
  pub machine : new ≡ f.machine
  pub written : Appends before after f.printed

-- The run was broken off after some of its actions, where this holds of what stands there: a front of what these print is written.
pub record IsBrokenOff (image : PlainImage) (limit : ℕ) (f : Run) (first : Stage) (stage_is : Stage → Type 0) (before after : Option (List ℕ)) : Type 0 where
  pub count : ℕ
  pub left : ℕ
  pub way : IsOnTheWay image limit count left f first
  pub stands : stage_is (stage_after image count first)
  pub front : AppendsFront before after (stage_after image count first).printed

-- The sink took no more: behind an action, or at the run's end.
pub data IsCut (image : PlainImage) (limit : ℕ) (f : Run) (first : Stage) (new : Machine) (before after : Option (List ℕ)) : Type 0 where
  on_the_way : IsBrokenOff image limit f first (λ s. new ≡ s.machine) before after → IsCut image limit f first new before after
  at_the_end : new ≡ f.machine → AppendsFront before after f.printed → IsCut image limit f first new before after

-- Memory was wanting: before an action of the run that may want it; or the machine counts no more.
pub data IsWanting (image : PlainImage) (limit : ℕ) (f : Run) (first : Stage) (new : Machine) (before after : Option (List ℕ)) : Type 0 where
  refused : IsBrokenOff image limit f first (λ s. IsUntried image s new) before after → IsWanting image limit f first new before after
  worn_out : f.ending ≡ Memory → new ≡ f.machine → AppendsFront before after f.printed → IsWanting image limit f first new before after

-- this is what a run from a stage on came to: a sink that takes no more bytes and want of memory break it off
abbrev pub IsCourse : PlainImage → ℕ → Run → Stage → Machine → Ending → Option (List ℕ) → Option (List ℕ) → Type 0
IsCourse image limit f first new Finished before after = Completes f new Finished before after
IsCourse image limit f first new (Fault process line fault) before after = Completes f new (Fault process line fault) before after
IsCourse image limit f first new Deadlock before after = Completes f new Deadlock before after
IsCourse image limit f first new (Limit n) before after = Completes f new (Limit n) before after
IsCourse image limit f first new (Script item why) before after = Completes f new (Script item why) before after
IsCourse image limit f first new SinkFailed before after = IsCut image limit f first new before after
IsCourse image limit f first new Memory before after = IsWanting image limit f first new before after

-- ## Who acts next

-- Process p is picked in a machine that has settled, and who picks behind that.
pub record IsPick (picking picking' : Picking) (m new : Machine) (p : ℕ) : Type 0 where
  pub machine : new ≡ machine_settled m
  pub picked : IsPicked picking new p
  pub behind : picking' ≡ after_pick picking new.world.rows

-- the run from a machine on comes to this ending before its first action
abbrev pub IsOver : ℕ → ℕ → Picking → Machine → Machine → Ending → Type 0
IsOver limit left picking m new ending = (image : PlainImage) → run_from image limit left picking m ≡ ended_with new ending

-- ## Turns

-- an action of who is picked was done, and no fault: the run goes on behind it
pub record Continues (image : PlainImage) (picking picking' : Picking) (m new : Machine) (out out' : List ℕ) : Type 0 where
  pub process : ℕ
  pub picked : IsPicked picking (machine_settled m) process
  pub sound : (step_of image picking m process).fault ≡ None
  pub machine : new ≡ (step_of image picking m process).machine
  pub picks : picking' ≡ (step_of image picking m process).picking
  pub written : out' ≡ out ++ (step_of image picking m process).printed

-- The run from a machine on ends in this turn, and prints so much in it.
pub record Ends (f : Run) (new : Machine) (ending : Ending) (out out' : List ℕ) : Type 0 where
  pub ends : ending ≡ f.ending
  pub machine : new ≡ f.machine
  pub written : out' ≡ out ++ f.printed

-- memory was wanting in a turn, in which nothing is printed
pub data IsHalted (image : PlainImage) (f : Run) (picking : Picking) (m new : Machine) (out out' : List ℕ) : Type 0 where
  untried : IsUntried image (first_stage picking m) new → out' ≡ out → IsHalted image f picking m new out out'
  uncounted : Ends f new Memory out out' → IsHalted image f picking m new out out'

-- a turn came to this ending, or to none, and the run goes on
abbrev pub IsTurn : PlainImage → ℕ → ℕ → Picking → Picking → Machine → Machine → Option Ending → List ℕ → List ℕ → Type 0
IsTurn image limit left picking picking' m new None out out' = Continues image picking picking' m new out out'
IsTurn image limit left picking picking' m new (Some SinkFailed) out out' = ⊥
IsTurn image limit left picking picking' m new (Some Memory) out out' = IsHalted image (run_from image limit left picking m) picking m new out out'
IsTurn image limit left picking picking' m new (Some ending) out out' = Ends (run_from image limit left picking m) new ending out out'

-- ## Gathered output

-- Turns led from the first stage to this one, from which the run goes on to its end: of what they print the first bytes were sent to the sink, and
-- the others are held.
pub record Gathers (image : PlainImage) (limit left : ℕ) (f : Run) (first : Stage) (picking : Picking) (now : Machine) (held : List ℕ)
    (before after : Option (List ℕ)) : Type 0 where
  pub count : ℕ
  pub way : IsOnTheWay image limit count left f first
  pub machine : (stage_after image count first).machine ≡ now
  pub picks : (stage_after image count first).picking ≡ picking
  pub sent : List ℕ
  pub printed : (stage_after image count first).printed ≡ sent ++ held
  pub written : Appends before after sent

-- the sink was handed the first of the bytes that were held, and the others are still held
pub record IsSent (old new : List ℕ) (before after : Option (List ℕ)) : Type 0 where
  pub sent : List ℕ
  pub both : old ≡ sent ++ new
  pub written : Appends before after sent

-- The sink was handed all bytes that are held, unless memory was refused; or it took no more.
pub data IsHandedOver (held : List ℕ) (before after : Option (List ℕ)) (ending : Ending) : Ending → Type 0 where
  whole : Appends before after held → IsHandedOver held before after ending ending
  dropped : ending ≡ Memory → AppendsFront before after held → IsHandedOver held before after ending ending
  failed : ending ≢ Memory → AppendsFront before after held → IsHandedOver held before after ending SinkFailed
