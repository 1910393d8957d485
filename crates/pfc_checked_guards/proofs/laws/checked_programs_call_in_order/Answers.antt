use Rattle.pfc_checked_guards.proofs.Programs.{program_in_order}
use Rattle.pfc_checked_guards.proofs.laws.checked_programs_call_in_order.Goals as goal

pub returns : goal.returns
returns c = λ t tops lawful whole subs modules order. program_in_order t subs modules tops order lawful whole
