-- How many instructions a program has.
use Rattle.std.specs.Prelude.{ℕ, ◌+◌, List, [], ◌∷◌, length, Option, Some, None}
use Rattle.pfc_types.specs.Blocks.{Blocks}
use Rattle.pfc_semantics.specs.Programs as programs
use Rattle.pfc_program.specs.declared.program.Program.{Program}
use Rattle.pfc_program.specs.Views.{block_view, blocks_view}
use Rattle.pfc_code_size.specs.Expressions.{expr_size}
use Rattle.pfc_code_size.specs.Statements.{stmts_size}

-- the guard and `GRD`
abbrev pub guard_size : Blocks → Option programs.Guard → ℕ
guard_size b None = 0
guard_size b (Some guard) = expr_size b guard.env guard.test + 1

abbrev pub statements_size : Blocks → programs.Block → ℕ
statements_size b block = stmts_size b block.env block.next block.stmts

-- a body with its guard before it and its end behind it
abbrev pub body_size : Blocks → programs.Block → ℕ
body_size b block = guard_size b block.guard + (statements_size b block + 1)

abbrev pub bodies_size : Blocks → List programs.Block → ℕ
bodies_size b [] = 0
bodies_size b (block ∷ rest) = body_size b block + bodies_size b rest

-- initialising bodies, which stand in main's code
abbrev pub initials_size : Blocks → List programs.Block → ℕ
initials_size b [] = 0
initials_size b (block ∷ rest) = statements_size b block + initials_size b rest

-- all bodies, the `SCAN` of each resource, and main's code
abbrev pub all_size : Blocks → List programs.Block → List programs.Block → programs.Block → List ℕ → ℕ
all_size b blocks modules main resource_ends =
    bodies_size b blocks + length resource_ends + (initials_size b modules + body_size b main)

abbrev pub program_size : programs.Program → ℕ
program_size g = all_size g.state.blocks g.blocks g.modules g.main g.resource_ends

-- of a program that is known
abbrev pub known_size : Program → ℕ
known_size g =
    all_size g.tables.scopes.now (blocks_view g.tables g.blocks.items) (blocks_view g.tables g.modules.items) (block_view g.tables g.main)
    g.resource_ends.items
