use Rattle.std.proofs.Common.{◌≡◌, ◌∙◌, List, ap, subst}
use Rattle.pfc_tree.specs.views.Parts.{parts_view, tree_view}
use Rattle.pfc_code.specs.declared.images.Image.{Image}
use Rattle.pfc_code.specs.Images.{plain_image}
use Rattle.pfc_translation.specs.Images.{Piece as Plain, coded, pieces, image_over}
use Rattle.pfc_program.specs.Views.{tables_view}
use Rattle.pfc_program.specs.declared.program.Program.{Program}
use Rattle.pfc_addresses.specs.Sites.{whole_view}
use Rattle.pfc_generator.specs.Views.{pieces_view}
use Rattle.pfc_generator.specs.Whole.{placings_view, IsMadeOf, IsCoded}
use Rattle.pfc_generator.specs.declared.pieces.Piece.{Piece}
use Rattle.pfc_generator.proofs.KnownPrograms.{known_pieces}
use Rattle.pfc_generator.proofs.WholeImage.{same_image, blocks_are}
use Rattle.pfc_generator.proofs.program.image.Goals as goal

pub returns-clause-image : goal.returns-clause-image
returns-clause-image c =
    let program : Program = c.args.program.now in
    let g = whole_view program in
    let tree = c.args.tree.now in
    let parts = coded g 0 0 (pieces (tables_view program.tables) 0 1 (parts_view tree.parts.items)) in
    let made = c.in_ok-coded.coded in
    let all : pieces_view program.tables c.deref.result.now ≡ pieces (tables_view program.tables) 0 1 (parts_view tree.parts.items) =
    ap (λ (ps : List Piece). pieces_view program.tables ps) c.deref.ensures.value ∙ c.in_ok-pieces.ensures ∙ known_pieces tree program c.requires
    in
    let is : IsMadeOf program parts made =
    subst (λ (ps : List Plain). IsCoded program ps made) all
    (subst (λ (p : Program). IsCoded p (pieces_view p.tables c.deref.result.now) made) c.in_ok-addresses.ensures c.in_ok-coded.ensures)
    in
    let whole : Image = record {
      code = made.code;
      lines = made.lines;
      blocks = c.in_ok-blocks.blocks;
      processes = c.in_ok-processes.processes;
      objects = c.in_ok-objects.objects.list;
      texts = made.texts;
      semaphores = c.in_ok-objects.objects.semaphores;
      channels = c.in_ok-objects.objects.channels;
      conditions = c.in_ok-objects.objects.conditions;
      monitors = c.monitors.result;
      scans = made.scans;
      arms = made.arms;
    } in
    same_image (plain_image whole) (image_over g (tree_view tree)) is.code is.lines
    (c.in_ok-blocks.ensures
    ∙ blocks_are g tree.name.0 parts made.code.items (placings_view program.tables made.placed.items) made.main is.code is.placed is.main is.sized)
    c.in_ok-processes.ensures c.in_ok-objects.ensures.list is.texts c.in_ok-objects.ensures.semaphores c.in_ok-objects.ensures.channels
    c.in_ok-objects.ensures.conditions c.monitors.ensures is.scans is.arms
