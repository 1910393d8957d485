use Rattle.pfc_code_size.proofs.communication.sent.Goals as goal

pub returns : goal.returns
returns c = c.message_of.ensures 0
