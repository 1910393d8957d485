-- The blocks still to come decide.
use Rattle.std.proofs.Common.{◌≡◌, ◌==◌, drop}
use Rattle.std.specs.List.{position_from}
use Rattle.pfc_program.specs.Views.{blocks_view}
use Rattle.pfc_program.proofs.program.Program.place_of.Given as goal

abbrev pub invariant-loop-b : goal.invariant-loop-b
invariant-loop-b l =
    (l.n ≡ l.b-index)
    × (position_from (λ b. b.scope == l.scope) l.n (blocks_view l.self.tables (drop l.b-index l.self.blocks.items))
    ≡ position_from (λ b. b.scope == l.scope) 0 (blocks_view l.self.tables l.self.blocks.items))
