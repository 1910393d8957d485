-- What a select comes to without a matched alternative.
use Rattle.std.specs.Prelude.{◌≡◌, ℕ, ◌+◌, ◌*◌, nat_le, if◌then◌else◌, List, [], Option, Some, None, option_map, Ok, Err}
use Rattle.pfc_base.specs.declared.faults.RunFault.TheVariants.{Late}
use Rattle.pfc_state.specs.declared.waits.Arm.{Arm}
use Rattle.pfc_world.specs.Selects.{select_waited}
use Rattle.pfc_program.specs.declared.tables.Tables.{Tables}
use Rattle.pfc_semantics.specs.Remainders.{Context, Remainder, Action}
use Rattle.pfc_semantics.specs.Selects.{latest, open_timeout, may_terminate_at, waits_until, waits_or_closed, times_out, goes_otherwise}
use Rattle.pfc_semantics.specs.Programs.{Program}
use Rattle.pfc_semantics.specs.Configurations.{Config, Effect, goes_on, showing, offering, with_table}
use Rattle.pfc_semantics.specs.Steps.{effect, line_of}
use Rattle.pfc_pending.specs.Selects.{opens_view, otherwise_view, select_view}
use Rattle.pfc_pending.specs.Waiting.{remainder_of}
use Rattle.pfc_pending.specs.declared.at_hand.At.TheVariants as at
use Rattle.pfc_pending.specs.declared.select.Open.{Open}
use Rattle.pfc_pending.specs.declared.select.Selecting.{Selecting}
use Rattle.pfc_activities.specs.declared.activities.Activity.{Activity}
use Rattle.pfc_activities.specs.declared.changes.Done.{Done}
use Rattle.pfc_activities.specs.declared.source.Source.{Source}
use Rattle.pfc_activities.specs.declared.state.State.{State}
use Rattle.pfc_activities.specs.Relation.{IsAt, Ends}
use Rattle.pfc_activities.specs.Shown.{Shown, activity_shown}
use Rattle.pfc_activities.specs.Views.{context_of, pending_of, ahead_of}
use Rattle.pfc_meeting.specs.Going.{left_of}
use Rattle.pfc_deciding.specs.declared.own.Behind.{Behind}
use Rattle.pfc_deciding.specs.Coming.{left_behind}

-- the moment so many seconds behind this one; none where that is too late
abbrev pub due_at : ℕ → ℕ → Option ℕ
due_at moment n = if nat_le (moment + 1000 * n) latest then Some (moment + 1000 * n) else None

-- what a process shows that waits with all of these
abbrev pub offers_all : Tables → Activity → List Open → ℕ → Shown
offers_all t a opens kept =
    record (activity_shown t a) { next = ahead_of t a.doing at.Rest; hand = offering (context_of t a.doing) (opens_view opens) (left_of t a kept) }

-- The process waits with all of these, until the due moment where there is one.
abbrev pub ShowsAll : State → State → ℕ → List Open → List Arm → ℕ → Option ℕ → Done → Type 0
ShowsAll old new p opens arms kept due d =
    (source : Source) (g : Program) (c : Config) (choice : ℕ) (a : Activity) (n : Action)
    → IsAt source old c p a n
    → effect g c p choice n
    ≡ Ok (with_table
    (showing g (goes_on g c p (context_of source.program.tables a.doing) (remainder_of (pending_of source.program.tables a.doing))) p
    (offering (context_of source.program.tables a.doing) (opens_view opens) (left_of source.program.tables a kept)))
    (select_waited c.table p arms due (may_terminate_at (opens_view opens))))
    → line_of n ≡ a.doing.line → Ends source g new c p choice n [] d

-- ## The last three steps

abbrev pub waits_in : Selecting → ℕ → Program → Config → Context → Remainder → Effect
waits_in s p g c x k = waits_or_closed g c p x (select_view s) k None (opens_view s.offered.items)

abbrev pub waits_for_in : Selecting → ℕ → Behind → ℕ → Program → Config → Context → Remainder → Effect
waits_for_in s n way p g c x k =
    if nat_le (c.table.moment + 1000 * n) latest
    then Ok (waits_until g c p x (select_view s) k (Some (c.table.moment + 1000 * n)) (left_behind way k))
    else Err Late

abbrev pub times_out_in : Selecting → ℕ → Program → Config → Context → Remainder → Effect
times_out_in s p g c x k = times_out g c p x (select_view s) k (open_timeout (opens_view s.offered.items))

abbrev pub goes_otherwise_in : Selecting → ℕ → Program → Config → Context → Remainder → Effect
goes_otherwise_in s p g c x k = goes_otherwise g c p x (select_view s) k (option_map otherwise_view s.otherwise)
