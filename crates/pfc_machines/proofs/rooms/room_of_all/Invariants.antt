use Rattle.std.proofs.Common.{◌≡◌, drop}
use Rattle.pfc_machines.specs.Rooms.{together, room_of_all}
use Rattle.pfc_machines.proofs.rooms.room_of_all.Given as goal

-- the instructions so far, and those that are left
abbrev pub invariant-loop-i : goal.invariant-loop-i
invariant-loop-i l = together l.room (room_of_all l.processes (drop l.i-index l.code)) ≡ room_of_all l.processes l.code
