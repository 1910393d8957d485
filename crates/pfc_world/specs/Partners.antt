-- Who is first at the waits of semaphores, channels, monitors, rendezvous, selects and resources.
use Rattle.std.specs.Prelude.{ℕ, Bool, not, is_some, Option, None, Some, List}
use Rattle.pfc_state.specs.declared.waits.Why.{Why}
use Rattle.pfc_state.specs.declared.waits.Why.TheVariants.{Semaphore, Send, Receive, Call, Accept, Select, Enter, Resumer, Entrant}
use Rattle.pfc_state.specs.declared.waits.Arm.{Arm}
use Rattle.pfc_state.specs.declared.waits.Arm.TheVariants.{Send as To, Receive as From, Accept as Entry}
use Rattle.pfc_state.specs.Stands.{Stand, Waits, ticket_at, ticket_offering, ticket_barred}
use Rattle.pfc_state.specs.Waits.{place_of_arm}
use Rattle.pfc_world.specs.Tables.{at}
use Rattle.pfc_world.specs.Firsts.{first, last, first_ranked}

abbrev pub or_else : Option ℕ → Option ℕ → Option ℕ
or_else (Some p) q = Some p
or_else None q = q

-- semaphores: whom a `signal` makes ready
abbrev pub semaphore_waiter : List Stand → ℕ → Option ℕ
semaphore_waiter rows s = first (ticket_at (Semaphore s)) rows

-- the wait of a plain statement that does what the alternative does
abbrev pub plain_wait : Arm → Why
plain_wait (To c) = Send c
plain_wait (From c) = Receive c
plain_wait (Entry e) = Accept e

-- the ticket of a process that waits to do this, in a plain statement or in a select
abbrev pub ticket_open_to : Arm → Stand → Option ℕ
ticket_open_to arm stand = or_else (ticket_at (plain_wait arm) stand) (ticket_offering arm stand)

-- the place, from 0, of the first alternative of a waiting select at which it is met; None in a plain statement
abbrev pub alternative_met : Arm → Stand → Option ℕ
alternative_met arm (Waits (Select due terminate) ticket arms) = place_of_arm arm arms
alternative_met arm _ = None

-- channels: whom a sender meets, and whom a receiver meets
abbrev pub receiver : List Stand → ℕ → Option ℕ
receiver rows c = first (ticket_open_to (From c)) rows

abbrev pub sender : List Stand → ℕ → Option ℕ
sender rows c = first (ticket_open_to (To c)) rows

-- rendezvous: whether the owner of an entry waits to accept it, and who calls it
abbrev pub is_accepting : List Stand → ℕ → ℕ → Bool
is_accepting rows owner entry = is_some (ticket_open_to (Entry entry) (at rows owner))

abbrev pub caller : List Stand → ℕ → ℕ → Option ℕ
caller rows owner entry = first (ticket_at (Call owner entry)) rows

-- selects: whom an open alternative of the process meets
abbrev pub partner : List Stand → ℕ → Arm → Option ℕ
partner rows p (To c) = receiver rows c
partner rows p (From c) = sender rows c
partner rows p (Entry e) = caller rows p e

-- monitors: to whom one is handed over, the latest resumer and else the first entrant; who goes on at
-- a `resume`, the waiter of least rank and at that rank of least ticket; and whether nobody waits, with
-- any rank
abbrev pub next_holder : List Stand → ℕ → Option ℕ
next_holder rows m = or_else (last (ticket_at (Resumer m)) rows) (first (ticket_at (Enter m)) rows)

abbrev pub condition_waiter : List Stand → ℕ → Option ℕ
condition_waiter rows c = first_ranked c rows

abbrev pub is_empty_condition : List Stand → ℕ → Bool
is_empty_condition rows c = not (is_some (condition_waiter rows c))

-- resources: to whom one is handed over, and whose guard a scan past a ticket tries
abbrev pub next_entrant : List Stand → ℕ → Option ℕ
next_entrant rows g = first (ticket_at (Entrant g)) rows

abbrev pub next_barred : List Stand → ℕ → Option ℕ → Option ℕ
next_barred rows g after = first (ticket_barred g after) rows
