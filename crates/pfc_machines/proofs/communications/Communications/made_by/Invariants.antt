use Rattle.std.proofs.Common.{◌≡◌, ◌+◌, drop}
use Rattle.pfc_machines.specs.Offers.{made_by}
use Rattle.pfc_machines.proofs.communications.Communications.made_by.Given as goal

-- the activation has made all so far
abbrev pub invariant-loop-j : goal.invariant-loop-j
invariant-loop-j l = made_by l.activation l.self.alternatives ≡ l.j + made_by l.activation (drop l.j l.self.alternatives)
