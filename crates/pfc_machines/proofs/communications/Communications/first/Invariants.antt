use Rattle.std.proofs.Common.{◌≡◌, ◌≤◌, ◌*◌, take, drop}
use Rattle.std.specs.Option.{option_or}
use Rattle.pfc_machines.specs.Offers.{first_sought, kept_under}
use Rattle.pfc_machines.proofs.communications.Communications.first.Given as goal

-- one that was made earlier is the first
abbrev pub invariant-loop-j : goal.invariant-loop-j
invariant-loop-j l = record {
  few : l.above ≤ l.j * 4294967295;
  first : first_sought l.sought (kept_under 0 (take l.n l.self.alternatives))
      ≡ option_or (first_sought l.sought (kept_under l.above (drop l.j (take l.n l.self.alternatives)))) l.found;
}
