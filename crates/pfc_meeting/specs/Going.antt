-- How a process goes on behind an alternative.
use Rattle.std.specs.Prelude.{ℕ, ◌+◌, ◌≤◌, take, option_map}
use Rattle.std.specs.Vec.{vec_len, vec_capacity}
use Rattle.pfc_program.specs.declared.tables.Tables.{Tables}
use Rattle.pfc_program.specs.Views.{names_view}
use Rattle.pfc_semantics.specs.Remainders.{Remainder}
use Rattle.pfc_semantics.specs.Rewriting.{from_remainder}
use Rattle.pfc_semantics.specs.Configurations.{empty_hand}
use Rattle.pfc_semantics.specs.Channels.{behind_replica}
use Rattle.pfc_semantics.specs.Statements.{behind}
use Rattle.pfc_pending.specs.Selects.{replica_view}
use Rattle.pfc_pending.specs.Texts.{stmts_left}
use Rattle.pfc_pending.specs.Waiting.{remainder_of, waiting}
use Rattle.pfc_activities.specs.declared.activities.Activity.{Activity}
use Rattle.pfc_activities.specs.Shown.{Shown}
use Rattle.pfc_activities.specs.Views.{activations_view}
use Rattle.pfc_meeting.specs.declared.onward.Onward.{Onward}

-- there is room for so many parts more
abbrev pub HasRoom : Activity → ℕ → Type 0
HasRoom a n = vec_len a.doing.pending + n ≤ vec_capacity a.doing.pending

-- what is left behind the alternative
abbrev pub left_of : Tables → Activity → ℕ → Remainder
left_of t a kept = remainder_of (waiting t (take kept a.doing.pending.items))

abbrev pub onward : Onward → Remainder → Remainder
onward way k = behind_replica (option_map replica_view way.replica) (behind way.next (stmts_left way.stmts) k)

-- what a process shows that goes on so
abbrev pub gone_on : Tables → Activity → Onward → Shown
gone_on t a way =
    record {
      next = from_remainder (names_view t a.doing.names) (onward way (left_of t a way.kept));
      display = a.display;
      activations = activations_view t a.activations.items;
      hand = empty_hand;
      line = a.line;
    }
