use Rattle.std.proofs.Common.{◌≡◌, pos, set, ap, ◌∙◌, List, Some}
use Rattle.std.specs.List.{slice_get}
use Rattle.pfc_code.specs.declared.images.Block.{Block}
use Rattle.pfc_stacks.specs.declared.marks.Mark.TheVariants.{Monitor}
use Rattle.pfc_stacks.specs.Activations.{called, main_link}
use Rattle.pfc_stacks.specs.Stacks.{Stacks, stack_of}
use Rattle.pfc_stacks_tests.specs.Samples.{procedure_block}
use Rattle.pfc_stacks_tests.proofs.Made.{pushed}
use Rattle.pfc_stacks_tests.proofs.states.in_procedure.Goals as goal

pub returns : goal.returns
returns c =
    let is : slice_get c.args.image.now.blocks.items 1 ≡ Some procedure_block = ap (λ (bs : List Block). slice_get bs 1) c.requires.blocks in
    let before = c.push-2.ensures ∙ ap (pushed (pos 8)) (c.push.ensures ∙ ap (pushed (pos 7)) (c.in_ok-stacks.ensures ∙ c.requires.start)) in
    (c.in_ok-call.ensures procedure_block is).1 ∙ ap (λ (s : Stacks). set s 0 (called 1 procedure_block main_link (Monitor 3) (stack_of s 0))) before
