use Rattle.std.proofs.Common.{refl}
use Rattle.pfc_image_laws.proofs.Modules.{program_modules, module_numbered, image_scans}
use Rattle.pfc_image_laws.proofs.laws.modules_are_numbered.Goals as goal

pub returns-clause-headings : goal.returns-clause-headings
returns-clause-headings c = λ t lawful. program_modules t lawful

pub returns-clause-below : goal.returns-clause-below
returns-clause-below c = λ b n below. module_numbered b n below

pub returns-clause-monitors : goal.returns-clause-monitors
returns-clause-monitors c = λ t. refl

pub returns-clause-resources : goal.returns-clause-resources
returns-clause-resources c = λ t lawful. image_scans t lawful
