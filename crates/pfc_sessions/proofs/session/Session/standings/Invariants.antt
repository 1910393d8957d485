-- Those that were told, and those that are left.
use Rattle.std.proofs.Common.{◌≡◌, ◌++◌, drop}
use Rattle.pfc_sessions.specs.Standings.{standings, standings_from}
use Rattle.pfc_sessions.proofs.session.Session.standings.Given as goal

abbrev pub invariant-loop-p : goal.invariant-loop-p
invariant-loop-p l = l.list.items ++ standings_from l.p (drop l.p l.self.machine.world.rows) l.self.machine.descriptors ≡ standings l.self.machine
