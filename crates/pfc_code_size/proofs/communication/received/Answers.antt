use Rattle.pfc_code_size.proofs.communication.received.Goals as goal

pub returns : goal.returns
returns c = c.receiver_of.ensures 0
