-- Those that were told, and those that are left.
use Rattle.std.proofs.Common.{◌≡◌, ◌++◌, drop}
use Rattle.pfc_walker.specs.Lines.{lines_of, standings_at}
use Rattle.pfc_walker.proofs.standings.standings_of.Given as goal

abbrev pub invariant-loop-p : goal.invariant-loop-p
invariant-loop-p l =
    l.list.items ++ standings_at l.p (drop l.p l.state.world.rows) (drop l.p (lines_of l.state)) ≡ standings_at 0 l.state.world.rows (lines_of l.state)
