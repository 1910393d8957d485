use Rattle.std.proofs.Common.{◌≡◌, ◌++◌, [], ◌∷◌, List, ◌∙◌, ap}
use Rattle.pfc_code.specs.declared.instructions.Instr.{Instr}
use Rattle.pfc_code.specs.declared.images.Block.{Block}
use Rattle.pfc_program.specs.declared.program.Program.{Program}
use Rattle.pfc_addresses.specs.Sites.{whole_view}
use Rattle.pfc_blocks.specs.declared.placed.Placed.{Placed}
use Rattle.pfc_blocks.specs.Making.{main_made}
use Rattle.pfc_generator.specs.Whole.{blocks_in, placings_view}
use Rattle.pfc_generator.proofs.program.blocks.Goals as goal

pub returns : goal.returns
returns c =
    let coded = c.args.coded.now in
    let name = c.args.tree.now.name.0 in
    let placed : List Instr → List Placed → Program → List Block = λ code ps g. blocks_in (whole_view g) code (placings_view g.tables ps) in
    let main : List Instr → Program → Block = λ code g. main_made (whole_view g) name coded.main code in
    let own : Program = c.args.program.now in
    let same = c.in_ok-called.ensures.program in
    let before : c.in_ok-all.all.items ≡ placed coded.code.items coded.placed.items own =
    c.in_ok-all.ensures
    ∙ ap (placed c.deref-2.result.now c.deref.result.now) same
    ∙ ap (λ (code : List Instr). placed code c.deref.result.now own) c.deref-2.ensures.value
    ∙ ap (λ (ps : List Placed). placed coded.code.items ps own) c.deref.ensures.value
    in
    let last : c.in_ok-main.main ≡ main coded.code.items own =
    c.in_ok-main.ensures ∙ ap (main c.deref-3.result.now) same ∙ ap (λ (code : List Instr). main code own) c.deref-3.ensures.value
    in
    c.in_ok-push.ensures.items
    ∙ ap (λ (bs : List Block). bs ++ c.in_ok-main.main ∷ []) before
    ∙ ap (λ (b : Block). placed coded.code.items coded.placed.items own ++ b ∷ []) last
