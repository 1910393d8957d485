-- The levels still to come complete the scopes.
use Rattle.std.proofs.Common.{◌≡◌, ◌++◌, drop}
use Rattle.pfc_translation.specs.Sites as translation
use Rattle.pfc_addresses.proofs.bodies.linked.Given as goal

abbrev pub invariant-loop-l : goal.invariant-loop-l
invariant-loop-l l =
    l.linked.items ++ translation.linked l.addresses.program.now.tables.scopes.now (drop l.l-index l.levels)
    ≡ translation.linked l.addresses.program.now.tables.scopes.now l.levels
