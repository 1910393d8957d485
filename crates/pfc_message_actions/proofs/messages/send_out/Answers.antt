use Rattle.pfc_message_actions.proofs.Sending.{sent_out_is}
use Rattle.pfc_message_actions.proofs.messages.send_out.Goals as goal

pub returns : goal.returns
returns c =
    sent_out_is c.args.stacks.now c.args.p c.args.z c.args.to c.requires.process c.copy_out.new.self c.cut.new.self c.leave.new.stacks
    c.copy_out.ensures c.cut.ensures.cut c.leave.ensures
