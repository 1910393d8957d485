use Rattle.pfc_nesting_laws.proofs.Programs.{main_found}
use Rattle.pfc_represented_start.proofs.Memory.{memory_is, few_is, objects_are}
use Rattle.pfc_represented_start.proofs.laws.stacks_hold_the_first_values.Goals as goal

pub returns-clause-memory : goal.returns-clause-memory
returns-clause-memory c = λ t lawful mains. memory_is t mains (main_found t lawful)

pub returns-clause-few : goal.returns-clause-few
returns-clause-few c = λ t lawful mains few small. few_is t mains (main_found t lawful) few small

pub returns-clause-objects : goal.returns-clause-objects
returns-clause-objects c = λ t lawful mains. objects_are t mains (main_found t lawful)
