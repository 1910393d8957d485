use Rattle.pfc_checked_guards.proofs.Programs.{program_suits}
use Rattle.pfc_checked_guards.proofs.laws.checked_programs_call_as_asked.Goals as goal

pub returns : goal.returns
returns c = λ t lawful whole subs modules. program_suits t subs modules lawful whole
