use Rattle.std.proofs.Common.{refl}
use Rattle.pfc_types.specs.rules.Whole.{types_of}
use Rattle.pfc_semantics.specs.Programs.{program_of}
use Rattle.pfc_type_laws.proofs.WalkBlocks.{types_built}
use Rattle.pfc_type_laws.proofs.SoundTables.{built_counted}
use Rattle.pfc_call_laws.proofs.FirstValues.{are_first}
use Rattle.pfc_call_laws.proofs.laws.first_values_are_zeros.Goals as goal

pub returns : goal.returns
returns c = λ t. are_first (program_of t) (types_built t) (built_counted (types_of t) (types_built t)) refl
