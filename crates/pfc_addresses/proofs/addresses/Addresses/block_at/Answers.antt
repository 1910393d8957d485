use Rattle.std.proofs.Common.{ap, sym, ◌∙◌, arith}
use Rattle.pfc_program.specs.Views.{block_view}
use Rattle.pfc_program.specs.declared.blocks.Block.{Block}
use Rattle.pfc_addresses.proofs.FirstPlaces.{block_there, block_not_there}
use Rattle.pfc_addresses.proofs.addresses.Addresses.block_at.Goals as goal

pub index-requires : goal.index-requires
index-requires c =
    let a = c.args.self.now in
    let g = a.program.now in
    let there = block_there g.tables g.blocks.items a.blocks.firsts.items c.args.i c.in-Some.n c.at.result
    (block_view g.tables g.main) g.main a.blocks_held c.at.ensures c.in-Some.is in
    omega (arith, there.within, g.blocks.ok)

pub returns-in-Some : goal.returns-in-Some
returns-in-Some c =
    let a = c.args.self.now in
    let g = a.program.now in
    let b = c.index.result.now in
    ap (λ (x : Block). block_view g.tables x) c.index.ensures
    ∙ sym (block_there g.tables g.blocks.items a.blocks.firsts.items c.args.i c.in-Some.n c.at.result
    (block_view g.tables g.main) b a.blocks_held c.at.ensures c.in-Some.is).found

pub returns-in-None : goal.returns-in-None
returns-in-None c =
    let a = c.args.self.now in
    let g = a.program.now in
    sym (block_not_there g.tables g.blocks.items a.blocks.firsts.items c.args.i c.at.result
    (block_view g.tables g.main) a.blocks_held c.at.ensures c.in-None.is)
