-- In which list a process waits. Each cause of waits has so many lists, over which its places are spread by their
-- numbers; so where a program has no more places of a kind, each has a list of its own.
use Rattle.std.specs.Prelude.{ℕ, ◌+◌, ◌*◌, ◌%◌, ◌<◌, ◌≤◌, Option, None}
use Rattle.pfc_links.specs.declared.links.Member.{Member}
use Rattle.pfc_links.specs.Members.{in_list}
use Rattle.pfc_state.specs.declared.waits.Why.{Why}
use Rattle.pfc_state.specs.declared.waits.Why.TheVariants.{Coend, Semaphore, Send, Receive, Call, Meeting, Accept, Select, Enter, Condition, Resumer, Entrant}
use Rattle.pfc_state.specs.declared.waits.Why.TheVariants.{Barred, Sleep}
use Rattle.pfc_state.specs.Stands.{Stand, Waits}
use Rattle.pfc_world.specs.declared.lists.Spread.{Spread}

-- there are lists and processes, and not too many
pub record IsSpread (spread : Spread) : Type 0 where
  pub some : 0 < spread.places
  pub few : spread.places ≤ 262144
  pub processes : 0 < spread.processes
  pub most : spread.processes ≤ 1024

abbrev pub list_count : Spread → ℕ
list_count spread = spread.places * 14

-- the list of a place, by its number, among those of this cause
abbrev pub list_at : Spread → ℕ → ℕ → ℕ
list_at spread cause place = place % spread.places * 14 + cause

-- the number of an entry among those of all processes
abbrev pub call_place : Spread → ℕ → ℕ → ℕ
call_place spread owner entry = entry % spread.places * spread.processes + owner % spread.processes

-- The waits of all selects are in one list, as are those of all sleepers.
abbrev pub list_of : Spread → Why → ℕ
list_of spread Coend = list_at spread 0 0
list_of spread (Semaphore s) = list_at spread 1 s
list_of spread (Send c) = list_at spread 2 c
list_of spread (Receive c) = list_at spread 3 c
list_of spread (Call owner entry) = list_at spread 4 (call_place spread owner entry)
list_of spread (Meeting p) = list_at spread 5 p
list_of spread (Accept e) = list_at spread 6 e
list_of spread (Select due terminate) = list_at spread 7 0
list_of spread (Enter m) = list_at spread 8 m
list_of spread (Condition c rank) = list_at spread 9 c
list_of spread (Resumer m) = list_at spread 10 m
list_of spread (Entrant g) = list_at spread 11 g
list_of spread (Barred g procedure) = list_at spread 12 g
list_of spread (Sleep moment) = list_at spread 13 0

-- who waits is in the list of its wait, with its ticket
abbrev pub member_of : Spread → Stand → Option Member
member_of spread (Waits why ticket arms) = in_list (list_of spread why) ticket
member_of spread _ = None
