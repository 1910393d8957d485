use Rattle.pfc_refusals.proofs.Whole.{broken_worded, first_worded}
use Rattle.pfc_refusals.proofs.laws.each_broken_rule_has_words.Goals as goal

pub returns : goal.returns
returns c = record { all = broken_worded; first = first_worded 0; concurrency = first_worded 401 }
