use Rattle.std.proofs.Common.{◌≡◌, ◌≤◌, ◌*◌, length, take, drop}
use Rattle.std.specs.Prelude.{slice_get}
use Rattle.pfc_machines.specs.Offers.{arms_of, kept_under, communications}
use Rattle.pfc_machines.proofs.communications.Communications.communication.Given as goal

-- it is not among those that were passed
abbrev pub invariant-loop-j : goal.invariant-loop-j
invariant-loop-j l = record {
  few : l.above ≤ l.j * 4294967295;
  left : l.left ≡ length (arms_of (drop l.j (take l.n l.self.alternatives)));
  same : slice_get (communications (kept_under 0 (take l.n l.self.alternatives))) l.place
      ≡ slice_get (communications (kept_under l.above (drop l.j (take l.n l.self.alternatives)))) l.place;
}
