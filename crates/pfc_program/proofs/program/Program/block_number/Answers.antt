use Rattle.std.proofs.Common.{◌∙◌, ◌==◌, Bool, unwrap_or, sym, ap}
use Rattle.std.proofs.lemmas.Iterator.Adapters.{position_from-zero}
use Rattle.pfc_semantics.specs.Programs as programs
use Rattle.pfc_program.specs.Views.{blocks_view}
use Rattle.pfc_program.proofs.program.Program.block_number.Goals as goal

pub returns : goal.returns
returns c =
    let test : programs.Block → Bool = λ b. b.scope == c.args.scope in
    let g = c.args.self.now in
    c.unwrap_or.ensures ∙ ap (λ o. unwrap_or o 0) (c.place_of.ensures ∙ sym (position_from-zero test (blocks_view g.tables g.blocks.items)))
