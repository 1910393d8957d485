-- A meeting that is about to begin, and what of it is pending then.
use Rattle.std.specs.Prelude.{◌≡◌, ℕ, ◌+◌, List, get_or, option_map}
use Rattle.pfc_tree.specs.trees.Stmts.{no_stmts, more_stmts}
use Rattle.pfc_types.specs.rules.Statements.{within_accept}
use Rattle.pfc_program.specs.InView.{InView}
use Rattle.pfc_program.specs.declared.tables.Tables.{Tables}
use Rattle.pfc_program.specs.Views.{names_view}
use Rattle.pfc_semantics.specs.Values.{Value}
use Rattle.pfc_semantics.specs.Store.{Store, values_in, with_values}
use Rattle.pfc_semantics.specs.Displays.{Display, frame_of}
use Rattle.pfc_semantics.specs.Remainders as remainders
use Rattle.pfc_semantics.specs.Remainders.{Remainder, perform, in_names, part_from}
use Rattle.pfc_semantics.specs.Rewriting.{from_remainder}
use Rattle.pfc_semantics.specs.Rendezvous.{taken_from}
use Rattle.pfc_semantics.specs.Channels.{behind_replica}
use Rattle.pfc_semantics.specs.Statements.{behind}
use Rattle.pfc_semantics.specs.Configurations.{empty_hand}
use Rattle.pfc_pending.specs.Selects.{replica_view, stmt_of}
use Rattle.pfc_pending.specs.Texts.{stmts_left, stmt_at}
use Rattle.pfc_pending.specs.declared.select.Accepting.{Accepting}
use Rattle.pfc_activities.specs.declared.activities.Activity.{Activity}
use Rattle.pfc_activities.specs.Shown.{Shown, activity_shown}
use Rattle.pfc_activities.specs.Views.{activations_view}
use Rattle.pfc_meeting.specs.declared.onward.Onward.{Onward}
use Rattle.pfc_meeting.specs.Going.{HasRoom, left_of}
use Rattle.pfc_accepting.specs.declared.meetings.Meeting.{Meeting}

-- the alternative behind which a process goes on so
abbrev pub opened : remainders.Offer → Onward → remainders.Open
opened offer way = record { offer = offer; replica = option_map replica_view way.replica; next = way.next; stmts = stmts_left way.stmts }

-- the meeting is the one at this accept, where these names are in view, and the process goes on so behind it
pub record IsMeetingAt (t : Tables) (names : InView) (accepting : Accepting) (way : Onward) (m : Meeting) : Type 0 where
  pub inner : names_view t m.inner ≡ within_accept (names_view t names) accepting.scope
  pub outer : m.outer ≡ names
  pub scope : m.scope ≡ accepting.scope
  pub next : m.next ≡ accepting.scope + 1
  pub stmt : stmt_at m.stmt ≡ stmt_of accepting.stmt
  pub line : m.line ≡ accepting.line
  pub goes : m.way ≡ way

-- what is pending in the meeting with a caller, over what is left behind it
abbrev pub in_meeting : Tables → Meeting → ℕ → Remainder → Remainder
in_meeting t m caller k =
    behind_replica (option_map replica_view m.way.replica)
    (in_names (names_view t m.inner)
    (perform m.next (more_stmts (stmt_at m.stmt) no_stmts)
    (part_from caller m.line (in_names (names_view t m.outer) (behind m.way.next (stmts_left m.way.stmts) k)))))

-- what a process shows that is in it
abbrev pub met : Tables → Activity → Meeting → ℕ → Shown
met t a m caller =
    record {
      next = from_remainder (names_view t a.doing.names) (in_meeting t m caller (left_of t a m.way.kept));
      display = a.display;
      activations = activations_view t a.activations.items;
      hand = empty_hand;
      line = a.line;
    }

-- what a process shows that shows nothing to the others
abbrev pub without_hand : Tables → Activity → Shown
without_hand t a = record (activity_shown t a) { hand = empty_hand }

-- the variables, where the parameters of an accept in this scope have taken these values
abbrev pub parameters_in : Store → Display → ℕ → List Value → Store
parameters_in store display scope args =
    let f = frame_of display scope in with_values store f.activation (taken_from f.first args (values_in store f.activation))

-- there is room for the meeting
abbrev pub HasMeetingRoom : List Activity → ℕ → Type 0
HasMeetingRoom activities q = (d : Activity) → HasRoom (get_or activities q d) 6
