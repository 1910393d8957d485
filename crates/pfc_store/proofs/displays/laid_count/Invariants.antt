-- Of the names that were gone through so many are laid out.
use Rattle.std.proofs.Common.{◌≡◌, ◌≤◌, length, take}
use Rattle.pfc_semantics.specs.Layouts.{laid_names}
use Rattle.pfc_store.proofs.displays.laid_count.Given as goal

abbrev pub invariant-loop-k : goal.invariant-loop-k
invariant-loop-k l = (l.count ≡ length (laid_names (take l.k l.scope))) × (l.count ≤ l.k)
