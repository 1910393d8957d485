-- What an action was.
use Rattle.std.specs.Prelude.{◌≡◌, ℕ, Bool, map}
use Rattle.pfc_hb.specs.declared.events.Event.{Event as EventSeen}
use Rattle.pfc_state.specs.Stands.{is_ready}
use Rattle.pfc_sched.specs.Picks.{Picking}
use Rattle.pfc_semantics.specs.Programs.{Program}
use Rattle.pfc_semantics.specs.Remainders.{Action}
use Rattle.pfc_semantics.specs.Configurations.{Config}
use Rattle.pfc_semantics.specs.Events.{accesses_of, event_of, things_of}
use Rattle.pfc_semantics.specs.Runs.{choice_among}
use Rattle.pfc_semantics.specs.Selects.{choices}
use Rattle.pfc_semantics.specs.Steps.{effect, line_of}
use Rattle.pfc_races.specs.Seen.{accesses_seen, event_seen, things_seen}
use Rattle.pfc_pending.specs.declared.actions.Deed.{Deed}
use Rattle.pfc_pending.specs.declared.actions.Deed.TheVariants as deed
use Rattle.pfc_activities.specs.declared.activities.Activity.{Activity}
use Rattle.pfc_activities.specs.declared.source.Source.{Source}
use Rattle.pfc_activities.specs.declared.state.State.{State}
use Rattle.pfc_activities.specs.Programs.{IsProgram}
use Rattle.pfc_activities.specs.Relation.{IsBefore}
use Rattle.pfc_activities.specs.Views.{deed_of}
use Rattle.pfc_events.specs.Wakes.{woken_by}
use Rattle.pfc_events.specs.declared.events.Coming.{Coming}

-- ## Before the action

-- the line of an action, by that of the statement
abbrev pub line_in : ℕ → Deed → ℕ
line_in line (deed.Finishes end) = end
line_in line _ = line

-- this is what the definitions say of action n of process p, with this choice, but for what it does to the table
pub record Foretells (g : Program) (c : Config) (p choice : ℕ) (n : Action) (coming : Coming) : Type 0 where
  pub line : coming.line ≡ line_of n
  pub things : coming.things.items ≡ things_seen (things_of g c p n)
  pub accesses : coming.accesses.items ≡ accesses_seen (accesses_of g c p choice n)
  pub ready : coming.standings.ready.items ≡ map is_ready c.table.rows

abbrev pub IsComing : Source → State → ℕ → Deed → Picking → Coming → Type 0
IsComing source s p deed picking coming =
    (g : Program) (c : Config) (a : Activity)
    → IsProgram source g → IsBefore source s c p a (deed_of source.program.tables a.doing deed)
    → Foretells g c p (choice_among picking (choices g c p (deed_of source.program.tables a.doing deed))) (deed_of source.program.tables a.doing deed) coming

-- ## Behind it

-- the event, by the table behind the action
abbrev pub event_held : Coming → State → ℕ → Bool → EventSeen
event_held coming s p joins =
    record {
      process = p;
      line = coming.line;
      joins = joins;
      wakes = woken_by 0 coming.standings.ready.items s.world.rows;
      things = coming.things.items;
      accesses = coming.accesses.items;
    }

-- what the definitions say that action n of process p was, with this choice
abbrev pub event_meant : Program → Config → ℕ → ℕ → Action → Bool → EventSeen
event_meant g c p choice n joins = event_seen joins (event_of g c p choice n (effect g c p choice n))
