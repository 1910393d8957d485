use Rattle.pfc_outcome.proofs.One.{options_outcome, text_outcome, words_outcome}
use Rattle.pfc_outcome.proofs.laws.an_outcome_is_one.Goals as goal

pub returns-clause-text : goal.returns-clause-text
returns-clause-text c m text request a b x y = text_outcome m request text a b x y

pub returns-clause-options : goal.returns-clause-options
returns-clause-options c m asked files a b x y = options_outcome m files asked a b x y

pub returns-clause-words : goal.returns-clause-words
returns-clause-words c m words files a b x y = words_outcome m files words a b x y
