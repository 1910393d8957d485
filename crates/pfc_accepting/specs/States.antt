-- What of a state is another where a meeting begins.
use Rattle.std.specs.Prelude.{◌≡◌, ℕ, List, set}
use Rattle.pfc_program.specs.declared.tables.Tables.{Tables}
use Rattle.pfc_store.specs.Views.{store_view, values_view}
use Rattle.pfc_store.specs.declared.values.Value.{Value}
use Rattle.pfc_activities.specs.declared.activities.Activity.{Activity}
use Rattle.pfc_activities.specs.declared.state.State.{State}
use Rattle.pfc_activities.specs.Relation.{IsIn}
use Rattle.pfc_activities.specs.Shown.{activity_shown}
use Rattle.pfc_accepting.specs.declared.meetings.Meeting.{Meeting}
use Rattle.pfc_accepting.specs.Meetings.{met, parameters_in}

-- Process q is in the meeting with a caller, and the accept's parameters have taken these values.
pub record IsBegun (old new : State) (q caller : ℕ) (args : List Value) (m : Meeting) : Type 0 where
  pub now : Activity
  pub items : new.activities.items ≡ set old.activities.items q now
  pub shows : (t : Tables) (b : Activity) → IsIn old.activities.items q b → activity_shown t now ≡ met t b m caller
  pub store : (b : Activity) → IsIn old.activities.items q b → store_view new.store ≡ parameters_in (store_view old.store) b.display m.scope (values_view args)
  pub rest : new ≡ record old { activities = new.activities; store = new.store }
