use Rattle.pfc_main_names.proofs.Conditions.{conditions_have_monitors, few_conditions}
use Rattle.pfc_main_names.proofs.laws.conditions_are_of_monitors.Goals as goal

pub returns-clause-monitors : goal.returns-clause-monitors
returns-clause-monitors c = λ t lawful. conditions_have_monitors t lawful

pub returns-clause-few : goal.returns-clause-few
returns-clause-few c = λ t lawful. few_conditions t lawful
