-- What the decision of a select comes to.
use Rattle.std.specs.Prelude.{◌≡◌, ◌≢◌, ℕ, [], length, take, Option, option_map, Ok}
use Rattle.pfc_state.specs.declared.waits.Arm.TheVariants.{Send as To, Receive as From}
use Rattle.pfc_state.specs.Stands.{Is_ready}
use Rattle.pfc_sched.specs.Picks.{Picking}
use Rattle.pfc_world.specs.Transitions.{placed}
use Rattle.pfc_store.specs.Views.{value_view, spot_view}
use Rattle.pfc_store.specs.declared.spots.Spot.{Spot as HeldSpot}
use Rattle.pfc_store.specs.declared.values.Value.{Value as HeldValue}
use Rattle.pfc_semantics.specs.Remainders.{Context, Remainder, Action}
use Rattle.pfc_semantics.specs.Statements.{behind}
use Rattle.pfc_semantics.specs.Channels.{behind_replica, side_of, sent_to, received_from}
use Rattle.pfc_semantics.specs.Selects.{choices}
use Rattle.pfc_semantics.specs.Runs.{choice_among, behind_choice}
use Rattle.pfc_semantics.specs.Programs.{Program}
use Rattle.pfc_semantics.specs.Configurations.{Config, Effect, goes_on, with_table}
use Rattle.pfc_semantics.specs.Steps.{effect, line_of}
use Rattle.pfc_pending.specs.Selects.{replica_view}
use Rattle.pfc_pending.specs.Texts.{stmts_left}
use Rattle.pfc_pending.specs.Waiting.{remainder_of}
use Rattle.pfc_pending.specs.declared.actions.Deed.TheVariants as deed
use Rattle.pfc_pending.specs.declared.select.Selecting.{Selecting}
use Rattle.pfc_activities.specs.declared.activities.Activity.{Activity}
use Rattle.pfc_activities.specs.declared.changes.Done.{Done}
use Rattle.pfc_activities.specs.declared.source.Source.{Source}
use Rattle.pfc_activities.specs.declared.state.State.{State}
use Rattle.pfc_activities.specs.Programs.{IsProgram}
use Rattle.pfc_activities.specs.Relation.{IsIn, IsAt, Ends}
use Rattle.pfc_activities.specs.Views.{context_of, pending_of, deed_of}
use Rattle.pfc_deciding.specs.declared.own.Behind.{Behind}

-- ## A choice

-- The process decides the select, by the choice that the picker gives: none is asked for where there is nothing to choose among.
abbrev pub PerformsChosen : Source → State → State → Picking → Picking → ℕ → Selecting → Done → Type 0
PerformsChosen source old new before after p select d =
    (g : Program) (c : Config) (a : Activity)
    → IsProgram source g → IsAt source old c p a (deed_of source.program.tables a.doing (deed.Decides select))
    → (after ≡ behind_choice before (choices g c p (deed_of source.program.tables a.doing (deed.Decides select))))
    × Ends source g new c p (choice_among before (choices g c p (deed_of source.program.tables a.doing (deed.Decides select))))
    (deed_of source.program.tables a.doing (deed.Decides select)) [] d

-- ## What an action comes to

-- the action of process p has this effect, by its program, its configuration, the context of its statement and what is left behind it
abbrev pub ComesTo : Source → State → State → ℕ → (Program → Config → Context → Remainder → Effect) → Done → Type 0
ComesTo source old new p what d =
    (g : Program) (c : Config) (choice : ℕ) (a : Activity) (n : Action)
    → IsProgram source g → IsAt source old c p a n
    → effect g c p choice n ≡ what g c (context_of source.program.tables a.doing) (remainder_of (pending_of source.program.tables a.doing))
    → line_of n ≡ a.doing.line → Ends source g new c p choice n [] d

-- ## The own way

-- all that is behind an alternative
abbrev pub left_behind : Behind → Remainder → Remainder
left_behind b k = behind_replica (option_map replica_view b.replica) (behind b.next (stmts_left b.stmts) k)

-- only the processes themselves may differ, and there are as many
pub record IsAlike (old new : State) : Type 0 where
  pub rest : new ≡ record old { activities = new.activities }
  pub count : length new.activities.items ≡ length old.activities.items

-- The process, which is before the same action, has its own way behind it already; below that is what was pending.
pub record IsOnWay (source : Source) (new : State) (c : Config) (p : ℕ) (a b : Activity) (n : Action) (way : Behind) : Type 0 where
  pub at : IsAt source new c p b n
  pub names : b.doing.names ≡ a.doing.names
  pub line : b.doing.line ≡ a.doing.line
  pub left : remainder_of (pending_of source.program.tables b.doing) ≡ left_behind way (remainder_of (pending_of source.program.tables a.doing))
  pub below : take (length a.doing.pending.items) b.doing.pending.items ≡ a.doing.pending.items

pub record IsUnderWay (old new : State) (p : ℕ) (way : Behind) : Type 0 where
  pub alike : IsAlike old new
  pub others : (q : ℕ) (b : Activity) → q ≢ p → IsIn old.activities.items q b → IsIn new.activities.items q b
  pub same :
      (source : Source) (c : Config) (a : Activity) (n : Action) → IsAt source old c p a n → (b : Activity) × IsOnWay source new c p a b n way

-- it goes on so
abbrev pub on_behind : Behind → ℕ → Program → Config → Context → Remainder → Effect
on_behind way p g c x k = Ok (goes_on g c p x (left_behind way k))

-- ## Messages

-- the value goes to process q, and the own way is this
abbrev pub sends_it : Behind → ℕ → ℕ → ℕ → HeldValue → Program → Config → Context → Remainder → Effect
sends_it way p q channel v g c x k =
    Ok (with_table (sent_to g (goes_on g c p x (left_behind way k)) q (value_view v) (side_of g c q (From channel))) (placed c.table q Is_ready))

-- it comes from process q
abbrev pub receives_it : Behind → ℕ → ℕ → ℕ → Option HeldSpot → Program → Config → Context → Remainder → Effect
receives_it way p q channel target g c x k =
    Ok (with_table (received_from g (goes_on g c p x (left_behind way k)) p (option_map spot_view target) q
    (side_of g c q (To channel))) (placed c.table q Is_ready))
