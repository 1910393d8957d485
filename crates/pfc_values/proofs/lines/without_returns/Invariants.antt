use Rattle.std.proofs.Common.{◌≡◌, ◌++◌, drop}
use Rattle.pfc_values.specs.Inputs.{without_returns}
use Rattle.pfc_values.proofs.lines.without_returns.Given as goal

abbrev pub invariant-loop-at : goal.invariant-loop-at
invariant-loop-at l = l.kept.items ++ without_returns (drop l.at l.bytes) ≡ without_returns l.bytes
