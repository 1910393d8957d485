use Rattle.std.proofs.Common.{◌≡◌, ◌≤◌, ◌+◌, length, take, drop}
use Rattle.pfc_machines.specs.Offers.{arms_of}
use Rattle.pfc_machines.proofs.communications.Communications.arms_in.Given as goal

-- those so far, and those of the alternatives that are left
abbrev pub invariant-loop-j : goal.invariant-loop-j
invariant-loop-j l = record {
  few : l.count ≤ l.j;
  all : l.count + length (arms_of (drop l.j (take l.n l.self.alternatives))) ≡ length (arms_of (take l.n l.self.alternatives));
}
