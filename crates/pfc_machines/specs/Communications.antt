-- The alternatives of selects that a process has made, as its operands were, and the meetings that it has begun.
use Rattle.std.specs.Prelude.{ℕ, ◌+◌, ◌≤◌, max, ℤ, List, [], ◌∷◌, ◌++◌, length}
use Rattle.pfc_machines.specs.declared.alternatives.Alternative.{Alternative}
use Rattle.pfc_machines.specs.declared.rooms.Room.{Room}
use Rattle.pfc_machines.specs.Rooms.{no_room}

pub record Communicating : Type 0 where
  -- the alternatives that its activations have made, the last made first
  pub alternatives : List Alternative
  -- the words of the messages that they send: those of the last made first, and of each the last word first
  pub words : List ℤ
  -- the callers of its meetings that are open, of the last begun first
  pub callers : List ℕ
  -- for how many of these there is room
  pub room : Room

abbrev pub no_communications : Communicating
no_communications = record { alternatives = []; words = []; callers = []; room = no_room }

-- one alternative more, with the words of its message
abbrev pub made : Communicating → Alternative → List ℤ → Communicating
made e a words = record e { alternatives = a ∷ e.alternatives; words = words ++ e.words }

-- so much room above what there is
abbrev pub room_above : Communicating → Room → Room
room_above e room = record {
  alternatives = max (length e.alternatives + room.alternatives) e.room.alternatives;
  words = max (length e.words + room.words) e.room.words;
  meetings = max (length e.callers + room.meetings) e.room.meetings;
}

abbrev pub with_room_above : Communicating → Room → Communicating
with_room_above e room = record e { room = room_above e room }

-- what there is has room in this, which is no more than there was
pub record IsRoomBetween (e : Communicating) (room : Room) : Type 0 where
  pub alternatives : (length e.alternatives ≤ room.alternatives) × (room.alternatives ≤ e.room.alternatives)
  pub words : (length e.words ≤ room.words) × (room.words ≤ e.room.words)
  pub meetings : (length e.callers ≤ room.meetings) × (room.meetings ≤ e.room.meetings)
