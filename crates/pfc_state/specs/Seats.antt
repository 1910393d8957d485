-- One process of the table.
use Rattle.std.specs.Prelude.{ℕ, Bool, true, false, List}
use Rattle.pfc_state.specs.declared.waits.Arm.{Arm}
use Rattle.pfc_state.specs.Stands.{Stand, Is_ready}

-- The process of this number: its standing, whether it is away because it acts, and the room that it
-- has for the alternatives of a select.
pub record Seat : Type 0 where
  pub number : ℕ
  pub away : Bool
  pub stand : Stand
  pub room : ℕ

-- the process stands at this, and does not act
abbrev pub seated : Seat → Stand → Seat
seated seat stand = record { number = seat.number; away = false; stand = stand; room = seat.room }

-- the process acts, which shows as ready
abbrev pub vacated : Seat → Seat
vacated seat = record { number = seat.number; away = true; stand = Is_ready; room = seat.room }

-- alternatives that are kept, and how many have room
pub record Offering : Type 0 where
  pub room : ℕ
  pub arms : List Arm
