use Rattle.std.proofs.Common.{◌≡◌, ◌+◌, ◌≤◌, length, refl}
use Rattle.pfc_translation.specs.Images.{site_in, guard_code}
use Rattle.pfc_translation.specs.Calls.{resource_of}
use Rattle.pfc_standing_code.specs.Performs.{own_again}
use Rattle.pfc_standing_images.proofs.Wholes.{block_stands, main_stands, scan_stands, image_again}
use Rattle.pfc_standing_images.proofs.Bodies.{body_performs, main_performs, guard_there, guarded_performs, requeued_performs}
use Rattle.pfc_standing_images.proofs.Guards.{turn_there}
use Rattle.pfc_standing_images.proofs.laws.bodies_are_performed.Goals as goal

pub returns-clause-bodies : goal.returns-clause-bodies
returns-clause-bodies c = λ t g k b block of_image e f of_block own none ready.
    let has = block_stands t g of_image k b block e f in
    body_performs g block of_block.room b block.body (has.n + length (guard_code g.program b b.guard).texts) own none of_block has.body ready

pub returns-clause-guards : goal.returns-clause-guards
returns-clause-guards c = λ t g k held b block guard of_image e f is room ready.
    guard_there g b block (block_stands t g of_image k b block e f) held guard (λ end. end ≡ block.body) is room ready refl

pub returns-clause-trials : goal.returns-clause-trials
returns-clause-trials c = λ t g k held b block guard lawful of_image e f is room ready.
    let turn = turn_there t g k b guard lawful of_image e is in (
      turn.0,
      turn.1,
      guard_there g b block (block_stands t g of_image k b block e f) held guard (λ end. end ≤ turn.0) is room ready (turn.2 block f),
    )

pub returns-clause-guarded : goal.returns-clause-guarded
returns-clause-guarded c = λ t g k b block of_image e f of_block own none guard ready.
    guarded_performs g b block (block_stands t g of_image k b block e f) of_block own none guard ready

pub returns-clause-requeues : goal.returns-clause-requeues
returns-clause-requeues c = λ t g k at b block env of_image e f of_block trial here none turn guard ready.
    requeued_performs g b block at env trial here (block_stands t (own_again g) (image_again t g of_image) k b block e f) of_block none
    (scan_stands t g of_image (resource_of (site_in g.program b)) at turn) guard ready

pub returns-clause-main : goal.returns-clause-main
returns-clause-main c = λ t g b block env of_image own e alone none of_block inits main.
    main_performs g block of_block.room b env alone none own of_block (main_stands t g of_image block e) inits main
