-- What one process stands at.
use Rattle.std.specs.Prelude.{ℕ, ℤ, Bool, true, false, ◌&&◌, ◌==◌, nat_lt, nat_le, Option, None, Some, List, [], if◌then◌else◌}
use Rattle.pfc_state.specs.declared.waits.Why.{Why}
use Rattle.pfc_state.specs.declared.waits.Why.TheVariants.{Coend, Select, Condition, Barred}
use Rattle.pfc_state.specs.declared.waits.Arm.{Arm}
use Rattle.pfc_state.specs.declared.standings.State.{State}
use Rattle.pfc_state.specs.declared.standings.State.TheVariants.{Idle, Created, Ready, Waiting, Done}
use Rattle.pfc_state.specs.Waits.{same_why, has_arm, due_of_wait}

-- A standing. A wait has its cause, its ticket, which is the number of the action that began it, and
-- the alternatives that it offers where it is the wait of a select.
pub data Stand : Type 0 where
  Is_idle : Stand
  Is_created : Stand
  Is_ready : Stand
  Waits : Why → ℕ → List Arm → Stand
  Is_done : Stand

-- the standing as it is reported
abbrev pub state_of : Stand → State
state_of Is_idle = Idle
state_of Is_created = Created
state_of Is_ready = Ready
state_of (Waits why ticket arms) = Waiting why
state_of Is_done = Done

abbrev pub ticket_of : Stand → Option ℕ
ticket_of (Waits why ticket arms) = Some ticket
ticket_of _ = None

abbrev pub arms_of : Stand → List Arm
arms_of (Waits why ticket arms) = arms
arms_of _ = []

-- the moment at which the process becomes ready by itself
abbrev pub due_of : Stand → Option ℕ
due_of (Waits why ticket arms) = due_of_wait why
due_of _ = None

abbrev pub IsWaiting : Stand → Type 0
IsWaiting (Waits why ticket arms) = Unit {0}
IsWaiting _ = ⊥

abbrev pub is_ready : Stand → Bool
is_ready Is_ready = true
is_ready _ = false

abbrev pub is_created : Stand → Bool
is_created Is_created = true
is_created _ = false

-- activated, and not finished since
abbrev pub is_unfinished : Stand → Bool
is_unfinished Is_idle = false
is_unfinished Is_done = false
is_unfinished _ = true

abbrev pub is_at_coend : Stand → Bool
is_at_coend (Waits Coend ticket arms) = true
is_at_coend _ = false

-- waits in a select with an open `terminate`
abbrev pub may_end : Stand → Bool
may_end (Waits (Select due terminate) ticket arms) = terminate
may_end _ = false

-- `coend` makes ready who is created
abbrev pub started : Stand → Stand
started Is_created = Is_ready
started stand = stand

-- who is due at this moment
abbrev pub is_due : ℕ → Option ℕ → Bool
is_due moment (Some due) = nat_le due moment
is_due moment None = false

-- a process whose due moment has come is ready
abbrev pub woken : ℕ → Stand → Stand
woken moment stand = if is_due moment (due_of stand) then Is_ready else stand

-- the ticket of a process whose wait is this one
abbrev pub ticket_at : Why → Stand → Option ℕ
ticket_at why (Waits cause ticket arms) = if same_why cause why then Some ticket else None
ticket_at why _ = None

-- the ticket of a process that waits on this condition, with any rank
abbrev pub ticket_on : ℕ → Stand → Option ℕ
ticket_on condition (Waits (Condition number rank) ticket arms) = if number == condition then Some ticket else None
ticket_on condition _ = None

-- the rank with which a process waits on this condition
abbrev pub rank_on : ℕ → Stand → Option ℤ
rank_on condition (Waits (Condition number rank) ticket arms) = if number == condition then Some rank else None
rank_on condition _ = None

-- the ticket of a process that waits in a select with this alternative
abbrev pub ticket_offering : Arm → Stand → Option ℕ
ticket_offering arm (Waits (Select due terminate) ticket arms) = if has_arm arm arms then Some ticket else None
ticket_offering arm _ = None

-- above a ticket, or any where there is none
abbrev pub is_above : Option ℕ → ℕ → Bool
is_above None ticket = true
is_above (Some after) ticket = nat_lt after ticket

-- the ticket of a process that is barred at some procedure of the resource, above a ticket
abbrev pub ticket_barred : ℕ → Option ℕ → Stand → Option ℕ
ticket_barred resource after (Waits (Barred where_barred procedure) ticket arms) =
    if (where_barred == resource) && is_above after ticket then Some ticket else None
ticket_barred resource after _ = None
