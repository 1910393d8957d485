use Rattle.std.proofs.Common.{drop, take, ap, ◌∙◌}
use Rattle.std.specs.Prelude.{reverse}
use Rattle.pfc_stacks.specs.declared.refs.Ref.{Ref}
use Rattle.pfc_stacks.specs.Stacks.{operands_of, written}
use Rattle.pfc_meeting_actions.specs.Meetings.{parameter_cell}
use Rattle.pfc_meeting_actions.proofs.Taking.{taken_is}
use Rattle.pfc_meeting_actions.proofs.meetings.take_arguments.Goals as goal

pub returns : goal.returns
returns c =
    taken_is c.args.stacks.now c.args.caller c.args.z (parameter_cell c.args.owner c.args.d) c.requires.caller
    c.copy_out.new.self c.cut.new.self c.cut-2.new.self
    (c.copy_out.ensures
    ∙ ap (λ (r : Ref). written c.args.stacks.now r (reverse (take c.args.z (drop 0 (operands_of c.args.stacks.now c.args.caller)))))
    c.parameter_cell.ensures)
    c.cut.ensures.cut c.cut-2.ensures.cut
