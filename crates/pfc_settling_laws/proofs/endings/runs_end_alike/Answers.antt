use Rattle.pfc_settling_laws.proofs.Reported.{endings, standings_agree}
use Rattle.pfc_settling_laws.proofs.endings.runs_end_alike.Goals as goal

pub returns-clause-ending : goal.returns-clause-ending
returns-clause-ending c = λ facts m config is fine. endings facts m config is fine

pub returns-clause-standings : goal.returns-clause-standings
returns-clause-standings c = λ facts m config is. standings_agree facts m config is

pub returns-clause-line : goal.returns-clause-line
returns-clause-line c = λ facts m config is. is.words.in_line
