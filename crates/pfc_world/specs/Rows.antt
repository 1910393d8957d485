-- How the table's rows are tied to what contracts see of it.
use Rattle.std.specs.Prelude.{ℕ, ◌<◌, ◌≤◌, ◌^◌, ◌≡◌, Bool, false, ◌==◌, Option, None, Some, List, map, length, slice_index_or}
use Rattle.pfc_state.specs.Seats.{Seat}
use Rattle.pfc_state.specs.Stands.{Stand, Is_idle, Is_ready}
use Rattle.pfc_world.specs.Tables.{Table, at}
use Rattle.pfc_world.specs.Tickets.{AreTickets}

abbrev pub stand_of : Seat → Stand
stand_of seat = seat.stand

abbrev pub stands : List Seat → List Stand
stands seats = map stand_of seats

-- a row whose process stands at what this makes of its standing
abbrev pub seat_by : (Stand → Stand) → Seat → Seat
seat_by change seat = record { number = seat.number; away = seat.away; stand = change seat.stand; room = seat.room }

abbrev pub table_of : List Seat → Option ℕ → ℕ → ℕ → ℕ → Table
table_of seats acting done moment room = record { rows = stands seats; acting = acting; done = done; moment = moment; room = room }

-- the process of this number acts
abbrev pub is_acting : Option ℕ → ℕ → Bool
is_acting (Some p) k = p == k
is_acting None k = false

-- what a row is past the end
abbrev pub nobody : Seat
nobody = record { number = 0; away = false; stand = Is_idle; room = 0 }

abbrev pub seat_at : ℕ → Option ℕ → ℕ → Stand → Seat
seat_at k acting room stand = record { number = k; away = is_acting acting k; stand = stand; room = room }

-- Each row is that of its process, and away exactly where it acts; who acts shows as ready.
pub record AreTied (seats : List Seat) (acting : Option ℕ) (done room : ℕ) : Type 0 where
  pub some : 0 < length seats
  pub few : length seats ≤ 1024
  pub counted : done ≤ 10 ^ 18
  pub within : (p : ℕ) → acting ≡ Some p → p < length seats
  pub acts : (p : ℕ) → acting ≡ Some p → at (stands seats) p ≡ Is_ready
  pub each : (k : ℕ) → k < length seats → slice_index_or seats k nobody ≡ seat_at k acting room (slice_index_or seats k nobody).stand
  pub tickets : AreTickets (stands seats) done
