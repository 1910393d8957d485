-- The program of the definitions that a source stands for.
use Rattle.std.specs.Prelude.{◌≡◌, List}
use Rattle.pfc_program.specs.Views.{program_view}
use Rattle.pfc_store.specs.Numbered.{objects_view}
use Rattle.pfc_semantics.specs.Values.{Value}
use Rattle.pfc_semantics.specs.Objects.{all_first}
use Rattle.pfc_semantics.specs.Programs.{Program}
use Rattle.pfc_activities.specs.declared.source.Source.{Source}

-- main's first variables are in the store where the run begins, and are not kept
pub record IsProgram (source : Source) (g : Program) : Type 0 where
  pub variables : List Value
  pub is : g ≡ program_view source.program (all_first source.program.tables.types.now) variables (objects_view source.objects)
