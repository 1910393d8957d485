-- The addresses still to come complete the list.
use Rattle.std.proofs.Common.{◌≡◌, ◌+◌, ◌*◌, ◌-◌, ◌++◌, ◌+ℤ◌, ℕ, ℤ, pos}
use Rattle.pfc_semantics.specs.Displays.{Spot}
use Rattle.pfc_semantics.specs.Alternatives.{replicas_from}
use Rattle.pfc_translation.specs.Statements.{replica_branches}
use Rattle.pfc_select_code.proofs.replicas.add_each.Given as goal

abbrev pub invariant-loop-k : goal.invariant-loop-k
invariant-loop-k l =
    (s : Spot) (line : ℕ) (low : ℤ)
    → l.branches.items ++ replica_branches (l.from + 4 * l.k) (replicas_from s line (low +ℤ pos l.k) (l.count - l.k))
    ≡ l.fn.branches.items ++ replica_branches l.from (replicas_from s line low l.count)
