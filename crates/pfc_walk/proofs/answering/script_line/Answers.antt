use Rattle.pfc_walk.proofs.answering.script_line.Goals as goal

pub returns : goal.returns
returns c = λ tree. c.report.ensures
