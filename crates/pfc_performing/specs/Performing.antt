-- An action that is performed, or given back.
use Rattle.std.specs.Prelude.{◌≡◌, ℕ, Bool, true, false, List, [], ◌++◌, Result, IfOk, IfErr, OnErr}
use Rattle.pfc_pending.specs.declared.actions.Deed.{Deed}
use Rattle.pfc_pending.specs.declared.actions.Deed.TheVariants as deed
use Rattle.pfc_sched.specs.Picks.{Picking}
use Rattle.pfc_semantics.specs.Programs.{Program}
use Rattle.pfc_semantics.specs.Remainders.{Action}
use Rattle.pfc_semantics.specs.Configurations.{Config}
use Rattle.pfc_semantics.specs.Selects.{choices}
use Rattle.pfc_semantics.specs.Runs.{choice_among, behind_choice}
use Rattle.pfc_activities.specs.declared.activities.Activity.{Activity}
use Rattle.pfc_activities.specs.declared.changes.Done.{Done}
use Rattle.pfc_activities.specs.declared.source.Source.{Source}
use Rattle.pfc_activities.specs.declared.state.State.{State}
use Rattle.pfc_activities.specs.Programs.{IsProgram}
use Rattle.pfc_activities.specs.Views.{deed_of}
use Rattle.pfc_activities.specs.Relation.{IsAt, Performs, StaysAt, Ends}

-- ## An action without output and without a choice

-- it is the deciding action of a select
abbrev pub is_choosing : Deed → Bool
is_choosing (deed.Decides select) = true
is_choosing d = false

-- It was performed; or it is given back, and nothing was done.
pub record IsTried (source : Source) (old new : State) (p : ℕ) (d : Deed) (r : Result Done Deed) : Type 0 where
  pub ok : IfOk r (λ done. Performs source old new p d [] done)
  pub err : OnErr r (StaysAt old new p)
  pub given : IfErr r (λ given. given ≡ d)

-- ## Any action

-- Action n of process p was done, with the choice that the picker makes where there is something to choose among, and its bytes stand behind the
-- others.
pub record IsAction (source : Source) (g : Program) (new : State) (c : Config) (p : ℕ) (n : Action) (picking picking' : Picking)
    (out out' : List ℕ) (d : Done) : Type 0 where
  pub bytes : List ℕ
  pub written : out' ≡ out ++ bytes
  pub ends : Ends source g new c p (choice_among picking (choices g c p n)) n bytes d
  pub picked : picking' ≡ behind_choice picking (choices g c p n)

-- the process does this over what is pending for it
abbrev pub IsDone : Source → State → State → ℕ → Deed → Picking → Picking → List ℕ → List ℕ → Done → Type 0
IsDone source old new p deed picking picking' out out' d =
    (g : Program) (c : Config) (a : Activity)
    → IsProgram source g → IsAt source old c p a (deed_of source.program.tables a.doing deed)
    → IsAction source g new c p (deed_of source.program.tables a.doing deed) picking picking' out out' d
