-- So many of those that were gone through are of the kind.
use Rattle.std.proofs.Common.{◌≡◌, ◌≤◌, take}
use Rattle.pfc_semantics.specs.Objects.{of_kind}
use Rattle.pfc_beginning.proofs.counts.module_count.Given as goal

abbrev pub invariant-loop-k : goal.invariant-loop-k
invariant-loop-k l = (l.count ≡ of_kind l.resource (take l.k l.scopes.modules)) × (l.count ≤ l.k)
