use Rattle.std.proofs.Common.{◌≡◌, ℕ, ◌<◌, true, get_or}
use Rattle.pfc_hb.specs.declared.accesses.Access.{Access}
use Rattle.pfc_hb.specs.Parts.{KeepsKnown, is_known}
use Rattle.pfc_hb.proofs.parts.put_parts.Given as goal

abbrev pub invariant-loop-access : goal.invariant-loop-access
invariant-loop-access l = record {
  kept : KeepsKnown l.initial.parts.keys l.parts.keys;
  put : (k : ℕ) (d : Access) → k < l.access-index → is_known l.parts.keys (get_or l.accesses k d).spot ≡ true;
}
