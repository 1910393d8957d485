use Rattle.pfc_kept_code.proofs.Doing.{keeps_names, keeps_remainders, keeps_turns, keeps_values, keeps_locations, keeps_calls, keeps_doing}
use Rattle.pfc_kept_code.proofs.laws.performing_is_kept.Goals as goal

pub returns-clause-names : goal.returns-clause-names
returns-clause-names c = λ g view b names agree. keeps_names g view b names agree

pub returns-clause-remainders : goal.returns-clause-remainders
returns-clause-remainders c = λ g view b names own agree. keeps_remainders g view b names own agree

pub returns-clause-turns : goal.returns-clause-turns
returns-clause-turns c = λ g view b names agree. keeps_turns g view b names agree

pub returns-clause-values : goal.returns-clause-values
returns-clause-values c = λ g view b names own agree. keeps_values g view b names own agree

pub returns-clause-locations : goal.returns-clause-locations
returns-clause-locations c = λ g view b names own agree. keeps_locations g view b names own agree

pub returns-clause-calls : goal.returns-clause-calls
returns-clause-calls c = λ g view b names own agree. keeps_calls g view b names own agree

pub returns-clause-doing : goal.returns-clause-doing
returns-clause-doing c = λ g view b names own agree. keeps_doing g view b names own agree
