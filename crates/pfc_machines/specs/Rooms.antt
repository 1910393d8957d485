-- How much room an activation takes for what it has to do with other processes.
use Rattle.std.specs.Prelude.{ℕ, ◌+◌, ◌-◌, max, List, [], ◌∷◌, length, take, drop}
use Rattle.pfc_code.specs.declared.images.Block.{Block}
use Rattle.pfc_code.specs.declared.instructions.Instr.{Instr}
use Rattle.pfc_code.specs.declared.instructions.Instr.TheVariants.{SEND, RECV, ACC, ARMS, ARMR, ARMA, ARMT, ARMX}
use Rattle.pfc_machines.specs.declared.rooms.Room.{Room}

abbrev pub room_by : ℕ → ℕ → ℕ → Room
room_by alternatives words meetings = record { alternatives = alternatives; words = words; meetings = meetings }

abbrev pub no_room : Room
no_room = room_by 0 0 0

-- What one instruction takes, in a program of so many processes: an alternative, with the words of its message, and what begins meetings. A plain
-- communication that has to wait is an alternative, too. A meeting stays open while others begin, also at the same instruction, each with a process of
-- its own.
abbrev pub room_for : ℕ → Instr → Room
room_for processes (SEND z) = room_by 1 z 0
room_for processes (RECV z) = room_by 1 0 0
room_for processes (ACC e d z) = room_by 1 0 processes
room_for processes (ARMS z a) = room_by 1 z 0
room_for processes (ARMR z a) = room_by 1 0 0
room_for processes (ARMA e d z a) = room_by 1 0 processes
room_for processes (ARMT a) = room_by 1 0 0
room_for processes ARMX = room_by 1 0 0
room_for processes i = no_room

-- Each makes its own alternative; the open meetings of all are those of one process.
abbrev pub together : Room → Room → Room
together a b = room_by (a.alternatives + b.alternatives) (a.words + b.words) (max a.meetings b.meetings)

-- as much as all of these take
abbrev pub room_of_all : ℕ → List Instr → Room
room_of_all processes [] = no_room
room_of_all processes (i ∷ is) = together (room_for processes i) (room_of_all processes is)

-- ## Blocks

-- The code of a block ends where that of the next begins, or with the code.
abbrev pub end_of : List Instr → List Block → ℕ
end_of code [] = length code
end_of code (b ∷ later) = b.entry

-- what stands from an address on and before another
abbrev pub stretch : ℕ → ℕ → List Instr → List Instr
stretch from to code = take (to - from) (drop from code)

-- the room that an activation of each block takes, by the block's number, in a program of so many processes
abbrev pub rooms_of : ℕ → List Instr → List Block → List Room
rooms_of processes code [] = []
rooms_of processes code (b ∷ later) = room_of_all processes (stretch b.entry (end_of code later) code) ∷ rooms_of processes code later
