use Rattle.pfc_grammar.proofs.Exact.{no_beginning}
use Rattle.pfc_grammar.proofs.laws.a_program_begins_no_other.Goals as goal

pub returns : goal.returns
returns c = no_beginning
