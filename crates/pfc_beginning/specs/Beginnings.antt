-- A program before its first action.
use Rattle.std.specs.Prelude.{List}
use Rattle.pfc_program.specs.Views.{program_view}
use Rattle.pfc_store.specs.Numbered.{objects_view}
use Rattle.pfc_semantics.specs.Values.{Value}
use Rattle.pfc_semantics.specs.Objects.{all_first}
use Rattle.pfc_semantics.specs.Programs.{Program}
use Rattle.pfc_activities.specs.declared.source.Source.{Source}

-- the program of a source, whose main begins with these variables
abbrev pub program_with : Source → List Value → Program
program_with source variables = program_view source.program (all_first source.program.tables.types.now) variables (objects_view source.objects)
