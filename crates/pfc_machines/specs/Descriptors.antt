-- What processes have to do with one another, beside their standings and their stacks.
use Rattle.std.specs.Prelude.{ℕ, ◌+◌, ◌-◌, ℤ, List, [], ◌∷◌, ◌++◌, map, drop, get_or, Option, Some, None}
use Rattle.std.specs.List.{slice_get}
use Rattle.pfc_code.specs.declared.images.Block.{Block}
use Rattle.pfc_code.specs.declared.images.ProcessInfo.{ProcessInfo}
use Rattle.pfc_machines.specs.declared.alternatives.Alternative.{Alternative}
use Rattle.pfc_machines.specs.declared.descriptors.Descriptor.{Descriptor}
use Rattle.pfc_machines.specs.declared.rooms.Room.{Room}
use Rattle.pfc_machines.specs.Communications.{no_communications, made, with_room_above}
use Rattle.pfc_machines.specs.Offers.{without}

-- ## One process

-- a process that has begun nothing, with a line
abbrev pub descriptor_by : ℕ → Descriptor
descriptor_by line =
    record { line = line; activations = 0; communications = no_communications; offered = 0; scan = None }

-- by the number of the process
abbrev pub descriptor_of : List Descriptor → ℕ → Descriptor
descriptor_of descriptors p = get_or descriptors p (descriptor_by 0)

-- one activation more
abbrev pub entered : Descriptor → Descriptor
entered d = record d { activations = d.activations + 1 }

-- the last ends
abbrev pub left : Descriptor → Descriptor
left d = record d { activations = d.activations - 1 }

-- it has this room above what it has made and begun
abbrev pub roomier : Descriptor → Room → Descriptor
roomier d room = record d { communications = with_room_above d.communications room }

-- The process begins anew, in its first activation: what it had made and begun is forgotten, and its room and its line stay.
abbrev pub begun_in : Descriptor → Descriptor
begun_in d = record d { activations = 1; communications = record no_communications { room = d.communications.room }; offered = 0; scan = None }

-- the same with this room above what it had
abbrev pub begun : Descriptor → Room → Descriptor
begun d room = begun_in (roomier d room)

-- it keeps these words, as those of the message of the alternative that is made next
abbrev pub keeping : Descriptor → List ℤ → Descriptor
keeping d words = record d { communications = record d.communications { words = words ++ d.communications.words } }

-- it has made one alternative more, with the words of its message
abbrev pub with_made : Descriptor → Alternative → List ℤ → Descriptor
with_made d a words = record d { communications = made d.communications a words }

-- it offers its last n alternatives
abbrev pub offering : ℕ → Descriptor → Descriptor
offering n d = record d { offered = n }

-- its last n alternatives are gone, with their messages
abbrev pub forgetting : ℕ → Descriptor → Descriptor
forgetting n d = record d { communications = without n d.communications }

-- what it offers is gone
abbrev pub withdrawn : Descriptor → Descriptor
withdrawn d = record d { communications = without d.offered d.communications; offered = 0 }

-- a meeting with a caller begins
abbrev pub meeting : ℕ → Descriptor → Descriptor
meeting caller d = record d { communications = record d.communications { callers = caller ∷ d.communications.callers } }

-- the meeting that was begun last ends
abbrev pub met : Descriptor → Descriptor
met d = record d { communications = record d.communications { callers = drop 1 d.communications.callers } }

-- ## Before the first action

-- the line of the `begin` of a block, by its number
abbrev pub line_in : Option Block → ℕ
line_in None = 0
line_in (Some b) = b.line

abbrev pub line_of_block : List Block → ℕ → ℕ
line_of_block blocks k = line_in (slice_get blocks k)

-- each process has the line of its block
abbrev pub declared_descriptors : List Block → List ProcessInfo → List Descriptor
declared_descriptors blocks processes = map (λ (process : ProcessInfo). descriptor_by (line_of_block blocks process.block)) processes

-- main has entered its block, with room for that
abbrev pub main_entered : Room → List Descriptor → List Descriptor
main_entered room [] = []
main_entered room (main ∷ others) = roomier (entered main) room ∷ others

abbrev pub start_descriptors : List Block → List ProcessInfo → Room → List Descriptor
start_descriptors blocks processes room = main_entered room (declared_descriptors blocks processes)
