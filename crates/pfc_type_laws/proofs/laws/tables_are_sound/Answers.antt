use Rattle.pfc_types.specs.rules.Whole.{types_of}
use Rattle.pfc_type_laws.proofs.WalkBlocks.{types_built}
use Rattle.pfc_type_laws.proofs.SoundTables.{built_counted, built_sound}
use Rattle.pfc_type_laws.proofs.laws.tables_are_sound.Goals as goal

pub returns-clause-counted : goal.returns-clause-counted
returns-clause-counted c = λ t. built_counted (types_of t) (types_built t)

pub returns-clause-sound : goal.returns-clause-sound
returns-clause-sound c = λ t. built_sound (types_of t) (types_built t)
