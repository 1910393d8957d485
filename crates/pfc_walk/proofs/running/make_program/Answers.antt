use Rattle.pfc_tree.specs.views.Parts.{tree_view}
use Rattle.pfc_walk.proofs.Courses.{program_is}
use Rattle.pfc_walk.proofs.running.make_program.Goals as goal

pub returns : goal.returns
returns c =
    program_is (tree_view c.args.sound.now.checked.0) c.in_ok-program.program c.in_ok-program.ensures.state c.in_ok-program.ensures.blocks
    c.in_ok-variables.variables.items c.in_ok-variables.objects
    c.in_ok-program.ensures.modules c.in_ok-program.ensures.main c.in_ok-program.ensures.resource_ends c.in_ok-variables.ensures
