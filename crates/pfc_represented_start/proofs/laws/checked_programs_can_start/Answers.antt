use Rattle.pfc_represented_start.proofs.Checked.{none_broken, can_start}
use Rattle.pfc_represented_start.proofs.laws.checked_programs_can_start.Goals as goal

pub returns-clause-unbroken : goal.returns-clause-unbroken
returns-clause-unbroken c = λ t lawful whole short. can_start t lawful whole short

pub returns-clause-checked : goal.returns-clause-checked
returns-clause-checked c = λ t lawful whole short. can_start t lawful (none_broken t whole) short
