use Rattle.std.proofs.Common.{◌≡◌, ap, ◌∙◌, List, Some}
use Rattle.std.specs.List.{slice_get}
use Rattle.pfc_code.specs.declared.images.Block.{Block}
use Rattle.pfc_stacks.specs.Activations.{created}
use Rattle.pfc_stacks_tests.specs.Samples.{process_block}
use Rattle.pfc_stacks_tests.proofs.states.with_other.Goals as goal

pub returns : goal.returns
returns c =
    let is : slice_get c.args.image.now.blocks.items 2 ≡ Some process_block = ap (λ (bs : List Block). slice_get bs 2) c.requires.blocks in
    let before = rw c.in-Some.is at c.in_ok-stacks.ensures in
    (c.in_ok-create.ensures process_block is).1 ∙ ap (created 2 process_block 1 0) before
