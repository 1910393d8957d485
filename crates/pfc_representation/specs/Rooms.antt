-- The room that a level has: for its operands, and for what it has to do with other processes.
use Rattle.std.specs.Prelude.{ℕ, ◌+◌, ◌≡◌, ◌≤◌, ◌<◌, List, [], ◌∷◌, length, drop, get_or, Some}
use Rattle.std.specs.List.{slice_get}
use Rattle.pfc_code.specs.declared.instructions.Instr.{Instr}
use Rattle.pfc_code.specs.declared.instructions.Instr.TheVariants.{ARMS, ARMR, ARMA, ARMT}
use Rattle.pfc_code.specs.declared.images.Block.{Block as CodeBlock}
use Rattle.pfc_translation.specs.Images.{image_of}
use Rattle.pfc_stacks.specs.Starts.{guard_room}
use Rattle.pfc_machines.specs.Communications.{Communicating}
use Rattle.pfc_machines.specs.declared.rooms.Room.{Room}
use Rattle.pfc_machines.specs.Rooms.{no_room, room_of_all, rooms_of, stretch, end_of}
use Rattle.pfc_standing_code.specs.Settings.{Trial, of_own, of_turn, of_another}
use Rattle.pfc_standing_code.specs.Effects.{Arm}
use Rattle.pfc_representation.specs.Levels.{Facts, LivingLevel, room_of}

-- ## In the image

-- how many processes there are
abbrev pub process_count : Facts → ℕ
process_count facts = length (image_of facts.tree).processes

-- the room that activations take, by the numbers of their blocks
abbrev pub image_rooms : Facts → List Room
image_rooms facts = rooms_of (process_count facts) (image_of facts.tree).code (image_of facts.tree).blocks

abbrev pub room_in : Facts → ℕ → Room
room_in facts k = get_or (image_rooms facts) k no_room

-- where the code of the k-th block ends
abbrev pub end_in : Facts → ℕ → ℕ
end_in facts k = end_of (image_of facts.tree).code (drop (k + 1) (image_of facts.tree).blocks)

-- the room for all that its code may make from an address on
abbrev pub room_behind : Facts → ℕ → ℕ → Room
room_behind facts k at = room_of_all (process_count facts) (stretch at (end_in facts k) (image_of facts.tree).code)

-- the most operands of any guard, for which each process has room beside its own
abbrev pub guards_room : Facts → ℕ
guards_room facts = guard_room (image_of facts.tree).blocks

-- ## Of a level

-- there is so much room over what was made
abbrev pub HasRoomFor : Communicating → Room → Type 0
HasRoomFor e room =
    (length e.alternatives + room.alternatives ≤ e.room.alternatives) × (length e.words + room.words ≤ e.room.words) × (room.meetings ≤ e.room.meetings)

-- the address is one of the code of the k-th block
abbrev pub IsInBlock : Facts → ℕ → ℕ → Type 0
IsInBlock facts k to = (c : CodeBlock) → slice_get (image_of facts.tree).blocks k ≡ Some c → (c.entry ≤ to) × (to < end_in facts k)

-- alternatives lead to addresses in that code
abbrev pub LeadsWithin : Facts → ℕ → Instr → Type 0
LeadsWithin facts k (ARMS z to) = IsInBlock facts k to
LeadsWithin facts k (ARMR z to) = IsInBlock facts k to
LeadsWithin facts k (ARMA e d z to) = IsInBlock facts k to
LeadsWithin facts k (ARMT to) = IsInBlock facts k to
LeadsWithin facts k i = Unit {0}

abbrev pub LeadWithin : Facts → ℕ → List Arm → Type 0
LeadWithin facts k [] = Unit {0}
LeadWithin facts k (arm ∷ arms) = LeadsWithin facts k arm.by × LeadWithin facts k arms

-- The operands of a level and of its callers fit, with those of any guard; what the code of its block, number k, makes has room over what the callers have
-- made; and the alternatives that it has made lead to addresses in that code.
pub record HasRoom (facts : Facts) (room : ℕ) (level : LivingLevel) (k : ℕ) (earlier : Communicating) : Type 0 where
  pub operands : room_of level + guards_room facts ≤ room
  pub made : HasRoomFor earlier (room_in facts k)
  pub branches : LeadWithin facts k level.arms

-- The level goes on at an address in the code of its block, number k, and what that makes from there on has room over all that was made.
pub record GoesOnWithin (facts : Facts) (k : ℕ) (c : CodeBlock) (at : ℕ) (latest : Communicating) : Type 0 where
  pub entry : c.entry ≤ at
  pub before : at < end_in facts k
  pub rest : HasRoomFor latest (room_behind facts k at)

-- the address at which a process goes on in its own code, which stands at another in a scan
abbrev pub own_address : Trial → ℕ → ℕ
own_address of_own at = at
own_address (of_turn scan back) at = back
own_address (of_another attempt) at = attempt.back

-- where an accept is among the alternatives, there is room for as many meetings as there are processes
abbrev pub MayMeetBy : ℕ → ℕ → Instr → Type 0
MayMeetBy count most (ARMA e d z a) = count ≤ most
MayMeetBy count most i = Unit {0}

abbrev pub MayMeet : ℕ → ℕ → List Arm → Type 0
MayMeet count most [] = Unit {0}
MayMeet count most (arm ∷ arms) = MayMeetBy count most arm.by × MayMeet count most arms
