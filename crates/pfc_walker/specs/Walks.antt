-- What a walker stands for.
use Rattle.std.specs.Prelude.{ℕ, ◌≡◌, ◌<◌, ◌*◌, ◌^◌, Bool, List, ◌++◌, length}
use Rattle.pfc_values.specs.Outputs.{is_open_line}
use Rattle.pfc_state.specs.Stands.{Is_ready}
use Rattle.pfc_world.specs.Tables.{at}
use Rattle.pfc_sched.specs.Picks.{Picking}
use Rattle.pfc_semantics.specs.Programs.{Program}
use Rattle.pfc_semantics.specs.Configurations.{Config}
use Rattle.pfc_activities.specs.declared.changes.Done.TheVariants.{Stepped}
use Rattle.pfc_activities.specs.Programs.{IsProgram}
use Rattle.pfc_activities.specs.Relation.{Reports, Stands, Tells}
use Rattle.pfc_acting.specs.Acting.{StandsBefore}
use Rattle.pfc_watching.specs.Watching.{Watches, done_of}
use Rattle.pfc_watching.specs.declared.acting.Walked.{Walked}
use Rattle.pfc_walker.specs.Telling.{behind_step, step_by}
use Rattle.pfc_walker.specs.declared.walker.Walker.{Walker}

-- It runs this program, stands for this configuration, and knows whether the output so far ends inside a line.
pub record Walks (w : Walker) (g : Program) (c : Config) : Type 0 where
  pub program : IsProgram w.source.now g
  pub stands : Stands w.source.now w.state c
  pub line : w.in_line ≡ is_open_line c.output

-- The same, but what process p showed while it waited is not compared, at which nobody looks any more who is ready: so it stands before an action of
-- this process, and where one was tried and memory was wanting.
pub record WalksBefore (w : Walker) (g : Program) (c : Config) (p : ℕ) : Type 0 where
  pub program : IsProgram w.source.now g
  pub stands : StandsBefore w.source.now w.state c p
  pub line : w.in_line ≡ is_open_line c.output

-- the process is ready, and there may be one more action
pub record IsReadyToAct (c : Config) (p : ℕ) : Type 0 where
  pub within : p < length c.table.rows
  pub ready : at c.table.rows p ≡ Is_ready
  pub done : c.table.done < 10 ^ 18
  pub moment : c.table.moment < 2 * 10 ^ 18

-- The step of the process was done, with the choice that the picker makes: it is the fault that is answered, or the walker is behind it, and its event
-- is answered, where this says whether main's last action before it began a wait at `coend`; and what it prints stands behind the other bytes.
pub record IsStep (waited : Bool) (new : Walker) (g : Program) (c : Config) (p : ℕ) (picking picking' : Picking) (out out' : List ℕ) (w : Walked) : Type 0 where
  pub walks : done_of w ≡ Stepped → Walks new g (step_by g c p picking).config
  pub reports : Reports new.state (step_by g c p picking).config
  pub tells : Tells p (done_of w) (step_by g c p picking).config.fault
  pub watched : Watches (step_by g c p picking) waited new.waited w
  pub picked : picking' ≡ behind_step g c p picking
  pub bytes : List ℕ
  pub output : (step_by g c p picking).config.output ≡ c.output ++ bytes
  pub written : out' ≡ out ++ bytes
