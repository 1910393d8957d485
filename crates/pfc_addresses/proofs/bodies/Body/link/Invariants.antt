-- The scopes still to come decide.
use Rattle.std.proofs.Common.{◌≡◌, ◌==◌, drop}
use Rattle.std.specs.List.{position_from}
use Rattle.pfc_addresses.proofs.bodies.Body.link.Given as goal

abbrev pub invariant-loop-j : goal.invariant-loop-j
invariant-loop-j l =
    (l.n ≡ l.j-index) × (position_from (λ j. j == l.i) l.n (drop l.j-index l.self.linked.items) ≡ position_from (λ j. j == l.i) 0 l.self.linked.items)
