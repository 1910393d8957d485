use Rattle.pfc_object_laws.proofs.Mains.{own_variables, cells_hold, words_count, words_are}
use Rattle.pfc_object_laws.proofs.laws.main_begins_with_its_values.Goals as goal

pub returns-clause-own : goal.returns-clause-own
returns-clause-own c = λ t k m mains there. own_variables t mains k m there

pub returns-clause-cells : goal.returns-clause-cells
returns-clause-cells c = λ t homes mains. cells_hold t mains homes

pub returns-clause-count : goal.returns-clause-count
returns-clause-count c = λ t mains. words_count t mains

pub returns-clause-words : goal.returns-clause-words
returns-clause-words c = λ t own mains count. words_are t mains own count
