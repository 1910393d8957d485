use Rattle.std.proofs.Common.{◌≡◌, ◌≤◌, ◌+◌, length, drop}
use Rattle.pfc_world.specs.Selects.{matched, matched_from}
use Rattle.pfc_meet.proofs.selects.matches.Given as goal

abbrev pub invariant-loop-arm : goal.invariant-loop-arm
invariant-loop-arm l = record {
  few : l.count ≤ l.arm-index;
  found : l.count + length (matched_from l.arm-index l.world.rows l.p (drop l.arm-index l.arms)) ≡ length (matched l.world.rows l.p l.arms);
}
