use Rattle.std.proofs.Common.{◌≡◌, ◌+◌, drop}
use Rattle.pfc_program.specs.Views.{blocks_view}
use Rattle.pfc_code_size.specs.Programs.{bodies_size}
use Rattle.pfc_code_size.proofs.program.bodies.Given as goal

abbrev pub invariant-loop-b : goal.invariant-loop-b
invariant-loop-b l =
    l.n + bodies_size l.tables.scopes.now (blocks_view l.tables (drop l.b-index l.blocks)) ≡ l.fn.count +
    bodies_size l.tables.scopes.now (blocks_view l.tables l.blocks)
