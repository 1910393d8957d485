use Rattle.std.proofs.Common.{◌≡◌, max, drop}
use Rattle.pfc_stacks.specs.Starts.{guard_room}
use Rattle.pfc_stacks.proofs.stacks.guard_room.Given as goal

-- the blocks so far, and those that are left
abbrev pub invariant-loop-block : goal.invariant-loop-block
invariant-loop-block l = max l.most (guard_room (drop l.block-index l.blocks)) ≡ guard_room l.blocks
