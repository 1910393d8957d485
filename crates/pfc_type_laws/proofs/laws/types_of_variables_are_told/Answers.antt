use Rattle.std.proofs.Common.{Option, subst}
use Rattle.pfc_types.specs.declared.scope.Meaning.{Meaning}
use Rattle.pfc_types.specs.rules.Whole.{types_of}
use Rattle.pfc_type_laws.proofs.WalkTypes.{IsPlaced}
use Rattle.pfc_type_laws.proofs.WalkBlocks.{types_built, variable_placed_in}
use Rattle.pfc_type_laws.proofs.ValueTypes.{value_type}
use Rattle.pfc_type_laws.proofs.laws.types_of_variables_are_told.Goals as goal

pub returns-clause-variables : goal.returns-clause-variables
returns-clause-variables c = λ t view x u reference e. subst (λ (m : Option Meaning). IsPlaced (types_of t) m) e (variable_placed_in t view x)

pub returns-clause-values : goal.returns-clause-values
returns-clause-values c = λ t u of_variables h. value_type (types_of t) (types_built t) u of_variables h
