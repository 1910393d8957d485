use Rattle.std.proofs.Common.{◌≡◌, IfOk, sym, ap₂, subst}
use Rattle.pfc_tree.specs.declared.tree.Tree.{Tree}
use Rattle.pfc_tree.specs.views.Parts.{tree_view}
use Rattle.pfc_code.specs.Images.{PlainImage, plain_image}
use Rattle.pfc_translation.specs.Images.{image_over}
use Rattle.pfc_semantics.specs.Programs.{Program}
use Rattle.pfc_blocks.specs.Making.{IsOf}
use Rattle.pfc_generator.proofs.KnownPrograms.{whole_is, is_of}
use Rattle.pfc_generator.proofs.program.made.Goals as goal

pub image-requires : goal.image-requires
image-requires c =
    let known = c.in_ok-program.ensures in
    subst (λ (t : Tree). IsOf c.in_ok-program.program t) (sym c.tree.ensures.value)
    (is_of c.args.checked.now.0 c.in_ok-program.program known.state known.blocks known.modules known.main known.resource_ends)

pub returns-clause-image : goal.returns-clause-image
returns-clause-image c =
    let known = c.in_ok-program.ensures in
    let whole = whole_is c.args.checked.now.0 c.in_ok-program.program known.state known.blocks known.modules known.main known.resource_ends in
    subst (λ (x : PlainImage). IfOk c.image.result (λ image. plain_image image ≡ x))
    (ap₂ (λ (g : Program) (t : Tree). image_over g (tree_view t)) whole c.tree.ensures.value) c.image.ensures.image
