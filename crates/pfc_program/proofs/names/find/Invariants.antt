-- The levels still to come decide.
use Rattle.std.proofs.Common.{◌≡◌, drop}
use Rattle.pfc_types.specs.Scopes.{found_in}
use Rattle.pfc_program.proofs.names.find.Given as goal

abbrev pub invariant-loop-level : goal.invariant-loop-level
invariant-loop-level l = found_in l.tables.scopes.now.scopes (drop l.level-index l.levels) l.name ≡ found_in l.tables.scopes.now.scopes l.fn.names.view l.name
