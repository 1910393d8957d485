use Rattle.pfc_represented_start.proofs.Checked.{none_broken, checked_start}
use Rattle.pfc_represented_start.proofs.laws.checked_programs_start_represented.Goals as goal

pub returns-clause-unbroken : goal.returns-clause-unbroken
returns-clause-unbroken c = λ t input seed lawful whole short. checked_start t input seed lawful whole short

pub returns-clause-checked : goal.returns-clause-checked
returns-clause-checked c = λ t input seed lawful whole short. checked_start t input seed lawful (none_broken t whole) short
