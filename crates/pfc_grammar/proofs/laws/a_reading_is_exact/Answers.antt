use Rattle.pfc_grammar.proofs.Exact.{read_is_sound, read_is_complete, read_is_not_deep, bad_is_fault, deep_is_fault}
use Rattle.pfc_grammar.proofs.laws.a_reading_is_exact.Goals as goal

pub returns : goal.returns
returns c = record {
  read = λ kinds rest tree e. read_is_sound kinds tree rest e;
  back = read_is_complete;
  level = λ kinds rest tree place e d. read_is_not_deep kinds tree rest place e d;
  unexpected = bad_is_fault;
  too_deep = deep_is_fault;
}
