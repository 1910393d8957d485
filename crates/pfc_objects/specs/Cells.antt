-- A program with its objects, and what one place of a layout and one cell bring to them.
use Rattle.std.specs.Prelude.{ℕ, Bool, true, if◌then◌else◌, List, [], ◌∷◌}
use Rattle.pfc_types.specs.declared.scope.Meaning.{Meaning}
use Rattle.pfc_types.specs.declared.scope.Meaning.TheVariants.{Variable}
use Rattle.pfc_semantics.specs.Objects.{main_objects}
use Rattle.pfc_semantics.specs.Programs as programs
use Rattle.pfc_program.specs.Views.{program_view}
use Rattle.pfc_program.specs.declared.program.Program.{Program}
use Rattle.pfc_code.specs.declared.images.Object.{Object}
use Rattle.pfc_translation.specs.Objects.{cells_before}

-- what is known of it, with the objects of its variables; the first values of types make no difference to them
abbrev pub known : Program → programs.Program
known program =
    let main = main_objects program.tables.types.now program.tables.scopes.now in
    program_view program [] main.is main.objects

-- which cells of a place of a layout hold an object; a single process is one
abbrev pub laid_object : List (List Bool) → Meaning → List Bool
laid_object all (Variable t reference) = cells_before all t
laid_object all m = true ∷ []

-- the object in a cell, where there is one
abbrev pub object_in : Bool → ℕ → ℕ → List Object
object_in is_object cell number = if is_object then record { cell = cell; number = number } ∷ [] else []
