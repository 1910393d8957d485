-- The actions of one process that touch no object, by their kinds.
use Rattle.pfc_semantics.specs.Remainders.{Action, reads, writes, asks_eof, asks_eoln, asks_clock, draws, prints, turns, inputs, skips, faults}
use Rattle.pfc_representation.specs.Levels.{LivingLevel}

-- a read of a variable, also in the guard of another
abbrev pub IsRead : LivingLevel → Action → Type 0
IsRead level (reads x v u) = Unit {0}
IsRead level n = ⊥

-- a write
abbrev pub IsWritten : LivingLevel → Action → Type 0
IsWritten level (writes x v new k) = Unit {0}
IsWritten level n = ⊥

-- a question for the end of the input or of its line, or for the clock
abbrev pub IsAsked : LivingLevel → Action → Type 0
IsAsked level (asks_eof x u) = Unit {0}
IsAsked level (asks_eoln x u) = Unit {0}
IsAsked level (asks_clock x u) = Unit {0}
IsAsked level n = ⊥

abbrev pub IsDrawn : LivingLevel → Action → Type 0
IsDrawn level (draws x n u) = Unit {0}
IsDrawn level n = ⊥

abbrev pub IsPrinted : LivingLevel → Action → Type 0
IsPrinted level (prints x bytes k) = Unit {0}
IsPrinted level n = ⊥

-- the way back of a loop
abbrev pub IsTurned : LivingLevel → Action → Type 0
IsTurned level (turns x k) = Unit {0}
IsTurned level n = ⊥

-- an item of the input for a variable, or the skip of a `readln`
abbrev pub IsTaken : LivingLevel → Action → Type 0
IsTaken level (inputs x t v k) = Unit {0}
IsTaken level (skips x k) = Unit {0}
IsTaken level n = ⊥

-- a fault of a quiet instruction or of a width
abbrev pub IsFaulted : LivingLevel → Action → Type 0
IsFaulted level (faults x f) = Unit {0}
IsFaulted level n = ⊥
