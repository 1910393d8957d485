use Rattle.std.proofs.Common.{ap, ◌∙◌, Option, ℕ}
use Rattle.std.specs.Prelude.{unwrap_or}
use Rattle.pfc_addresses.proofs.FirstPlaces.{number_there}
use Rattle.pfc_addresses.proofs.addresses.Addresses.block_number.Goals as goal

pub returns : goal.returns
returns c =
    let a = c.args.self.now in
    let g = a.program.now in
    c.unwrap_or.ensures ∙
    ap (λ (r : Option ℕ). unwrap_or r 0) (number_there g.tables g.blocks.items a.blocks.firsts.items c.args.i c.at.result a.blocks_held c.at.ensures)
