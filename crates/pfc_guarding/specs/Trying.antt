-- Whose guard a scan tries next.
use Rattle.std.specs.Prelude.{◌≡◌, ◌<◌, ℕ, Option, None, Some, length, option_map}
use Rattle.pfc_state.specs.Stands.{IsWaiting, ticket_of}
use Rattle.pfc_world.specs.Partners.{next_barred}
use Rattle.pfc_world.specs.Tables.{at}
use Rattle.pfc_program.specs.declared.tables.Tables.{Tables}
use Rattle.pfc_semantics.specs.Configurations as configurations
use Rattle.pfc_semantics.specs.Configurations.{empty_hand, barred_at}
use Rattle.pfc_semantics.specs.Resources.{tried}
use Rattle.pfc_pending.specs.declared.pending.Bar.{Bar}
use Rattle.pfc_pending.specs.declared.pending.Tried.{Tried}
use Rattle.pfc_pending.specs.Waiting.{bar_view, tried_view}
use Rattle.pfc_activities.specs.declared.activities.Activity.{Activity}
use Rattle.pfc_activities.specs.declared.state.State.{State}
use Rattle.pfc_activities.specs.Relation.{IsIn}
use Rattle.pfc_activities.specs.Views.{hand_view}

-- what a process shows that is barred at this guard, or at none
abbrev pub hand_at : Tables → Option Bar → configurations.Hand
hand_at t (Some b) = barred_at (bar_view t b)
hand_at t None = empty_hand

-- what is found of the process that comes next, where one does
abbrev pub IsTried : State → Option ℕ → Option Tried → Type 0
IsTried s None found = found ≡ None
IsTried s (Some q) found =
    (q < length s.world.rows) × IsWaiting (at s.world.rows q)
    × ((t : Tables) (b : Activity) → IsIn s.activities.items q b →
    option_map (tried_view t) found ≡ tried q (hand_view t b.doing b.hand) (ticket_of (at s.world.rows q)))

abbrev pub IsNext : State → ℕ → Option ℕ → Option Tried → Type 0
IsNext s r after found = IsTried s (next_barred s.world.rows r after) found
