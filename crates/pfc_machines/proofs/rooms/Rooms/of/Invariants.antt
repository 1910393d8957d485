use Rattle.std.proofs.Common.{◌≡◌, ◌++◌, drop}
use Rattle.pfc_machines.specs.Rooms.{rooms_of}
use Rattle.pfc_machines.proofs.rooms.Rooms.of.Given as goal

-- the blocks so far, and those that are left
abbrev pub invariant-loop-k : goal.invariant-loop-k
invariant-loop-k l = l.rooms.items ++ rooms_of l.processes l.code (drop l.k l.blocks) ≡ rooms_of l.processes l.code l.blocks
