use Rattle.std.proofs.Common.{ap, sym, ◌∙◌, ℕ, List, length, get_or, arith}
use Rattle.std.proofs.lemmas.List.{get_or-map, length-map}
use Rattle.pfc_semantics.specs.Programs as programs
use Rattle.pfc_program.specs.Views.{block_view}
use Rattle.pfc_program.specs.declared.blocks.Block.{Block}
use Rattle.pfc_addresses.specs.Rows.{cells_from}
use Rattle.pfc_addresses.proofs.FirstPlaces.{block_there, block_not_there}
use Rattle.pfc_addresses.proofs.addresses.Addresses.laid_at.Goals as goal

pub index-requires : goal.index-requires
index-requires c =
    let a = c.args.self.now in
    let g = a.program.now in
    let there = block_there g.tables g.blocks.items a.blocks.firsts.items c.args.i c.in-Some.n c.at.result
    (block_view g.tables g.main) g.main a.blocks_held c.at.ensures c.in-Some.is in
    omega (arith, there.within, g.blocks.ok)

pub index-requires-in-Some : goal.index-requires-in-Some
index-requires-in-Some c =
    let a = c.args.self.now in
    let g = a.program.now in
    let there = block_there g.tables g.blocks.items a.blocks.firsts.items c.args.i c.in-Some.n c.at.result
    (block_view g.tables g.main) g.main a.blocks_held c.at.ensures c.in-Some.is in
    let rows = ap length a.cells_held ∙ length-map g.blocks.items (λ (b : Block). cells_from g.tables.types.now 0 b.layout.items) in
    omega (arith, there.within, rows, a.cells.ok)

pub returns-in-Some-clause-layout : goal.returns-in-Some-clause-layout
returns-in-Some-clause-layout c =
    let a = c.args.self.now in
    let g = a.program.now in
    let b = c.index.result.now in
    c.deref.ensures.value
    ∙ ap (λ (x : Block). x.layout.items) c.index.ensures
    ∙ sym (ap (λ (x : programs.Block). x.layout) (block_there g.tables g.blocks.items a.blocks.firsts.items c.args.i c.in-Some.n c.at.result
    (block_view g.tables g.main) b a.blocks_held c.at.ensures c.in-Some.is).found)

pub returns-in-Some-clause-cells : goal.returns-in-Some-clause-cells
returns-in-Some-clause-cells c =
    let a = c.args.self.now in
    let g = a.program.now in
    let b = c.index.result.now in
    let row : Block → List ℕ = λ b. cells_from g.tables.types.now 0 b.layout.items in
    let there = block_there g.tables g.blocks.items a.blocks.firsts.items c.args.i c.in-Some.n c.at.result
    (block_view g.tables g.main) b a.blocks_held c.at.ensures c.in-Some.is in
    c.index-in-Some.ensures
    ∙ ap (λ (rows : List (List ℕ)). get_or rows c.in-Some.n c.index-in-Some.result.now) a.cells_held
    ∙ get_or-map row g.blocks.items c.in-Some.n b c.index-in-Some.result.now there.within
    ∙ sym (ap row c.index.ensures)
    ∙ sym (ap (cells_from g.tables.types.now 0) c.deref.ensures.value)

pub returns-in-None-clause-layout : goal.returns-in-None-clause-layout
returns-in-None-clause-layout c =
    let a = c.args.self.now in
    let g = a.program.now in
    c.main_laid.ensures.layout
    ∙ sym (ap (λ (x : programs.Block). x.layout) (block_not_there g.tables g.blocks.items a.blocks.firsts.items c.args.i c.at.result
    (block_view g.tables g.main) a.blocks_held c.at.ensures c.in-None.is))
