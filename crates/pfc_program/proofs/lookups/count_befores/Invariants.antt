-- What is noted, and before all others the names still to come, decide.
use Rattle.std.proofs.Common.{◌≡◌, ℕ, ◌+◌, drop, get_or, None}
use Rattle.std.specs.Prelude.{unwrap_or}
use Rattle.pfc_types.specs.Scopes.{scope_at}
use Rattle.pfc_semantics.specs.Layouts.{before_module}
use Rattle.pfc_program.proofs.lookups.count_befores.Given as goal

abbrev pub invariant-loop-k : goal.invariant-loop-k
invariant-loop-k l =
    (n : ℕ)
    → unwrap_or (get_or l.counts.items n None) (l.all + before_module l.scopes n (drop l.k (scope_at l.scopes.scopes 0)))
    ≡ before_module l.scopes n (scope_at l.scopes.scopes 0)
