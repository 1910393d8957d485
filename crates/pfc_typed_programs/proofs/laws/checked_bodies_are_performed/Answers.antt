use Rattle.std.proofs.Common.{◌≡◌, ℕ, ◌+◌, ◌≤◌, length, slice_get, Some, refl, ap, sym, ◌∙◌, subst}
use Rattle.pfc_tree.specs.trees.Parts.{ProgramTree}
use Rattle.pfc_semantics.specs.Programs.{Block, Program, program_of}
use Rattle.pfc_translation.specs.Images.{site_in, guard_code}
use Rattle.pfc_translation.specs.Calls.{resource_of}
use Rattle.pfc_standing_code.specs.Settings.{Setting}
use Rattle.pfc_standing_code.specs.Performs.{own_again}
use Rattle.pfc_standing_images.specs.Images.{IsOfImage}
use Rattle.pfc_standing_images.proofs.Wholes.{block_stands, main_stands, scan_stands, image_again}
use Rattle.pfc_standing_images.proofs.Bodies.{body_performs, main_performs, guard_there, guarded_performs, requeued_performs}
use Rattle.pfc_standing_images.proofs.Guards.{turn_there}
use Rattle.pfc_typed_programs.specs.Bodies.{IsBody, of_block, of_main}
use Rattle.pfc_typed_programs.proofs.Bodies.{body_ready, guard_ready, each_guard_ready, modules_ready}
use Rattle.pfc_typed_programs.proofs.laws.checked_bodies_are_performed.Goals as goal

in_program : (t : ProgramTree) (g : Setting) (k : ℕ) (b : Block) → IsOfImage t g → slice_get g.program.blocks k ≡ Some b
    → slice_get (program_of t).blocks k ≡ Some b
in_program t g k b of_image e = ap (λ (p : Program). slice_get p.blocks k) (sym of_image.program) ∙ e

a_block : (t : ProgramTree) (g : Setting) (k : ℕ) (b : Block) → IsOfImage t g → slice_get g.program.blocks k ≡ Some b → IsBody t b
a_block t g k b of_image e = of_block k b (in_program t g k b of_image e)

main_body : (t : ProgramTree) (g : Setting) → IsOfImage t g → IsBody t g.program.main
main_body t g of_image = subst (λ (p : Program). IsBody t p.main) (sym of_image.program) of_main

pub returns-clause-bodies : goal.returns-clause-bodies
returns-clause-bodies c = λ t g k b block lawful whole of_image e f of_block own none shut seen.
    let has = block_stands t g of_image k b block e f in
    body_performs g block of_block.room b block.body (has.n + length (guard_code g.program b b.guard).texts) own none of_block has.body
    (body_ready t lawful whole g b of_image own shut (a_block t g k b of_image e) seen)

pub returns-clause-guards : goal.returns-clause-guards
returns-clause-guards c = λ t g k held b block guard lawful whole of_image e f is room seen.
    guard_there g b block (block_stands t g of_image k b block e f) held guard (λ end. end ≡ block.body) is room
    (guard_ready t lawful whole g k b guard of_image (in_program t g k b of_image e) is seen) refl

pub returns-clause-trials : goal.returns-clause-trials
returns-clause-trials c = λ t g k held b block guard lawful whole of_image e f is room seen.
    let turn = turn_there t g k b guard lawful of_image e is in (
      turn.0,
      turn.1,
      guard_there g b block (block_stands t g of_image k b block e f) held guard (λ end. end ≤ turn.0) is room
          (guard_ready t lawful whole g k b guard of_image (in_program t g k b of_image e) is seen) (turn.2 block f),
    )

pub returns-clause-guarded : goal.returns-clause-guarded
returns-clause-guarded c = λ t g k b block lawful whole of_image e f of_block own none shut guard seen.
    let is = a_block t g k b of_image e in
    guarded_performs g b block (block_stands t g of_image k b block e f) of_block own none
    (each_guard_ready t lawful whole g k b of_image (in_program t g k b of_image e) guard)
    (body_ready t lawful whole g b of_image own shut is seen)

pub returns-clause-requeues : goal.returns-clause-requeues
returns-clause-requeues c = λ t g k at b block env lawful whole of_image e f of_block trial here none shut turn guard seen.
    let again = image_again t g of_image in
    let is = a_block t g k b of_image e in
    requeued_performs g b block at env trial here (block_stands t (own_again g) again k b block e f) of_block none
    (scan_stands t g of_image (resource_of (site_in g.program b)) at turn)
    (each_guard_ready t lawful whole (own_again g) k b again (in_program t g k b of_image e) guard)
    (body_ready t lawful whole (own_again g) b again refl shut is seen)

pub returns-clause-main : goal.returns-clause-main
returns-clause-main c = λ t g b block env lawful whole of_image own e alone none shut of_block inits seen.
    main_performs g block of_block.room b env alone none own of_block (main_stands t g of_image block e)
    (modules_ready t lawful whole g of_image alone shut inits)
    (body_ready t lawful whole g g.program.main of_image alone shut (main_body t g of_image) seen)
