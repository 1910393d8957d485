-- The processes of a program that is known, without its objects.
use Rattle.std.specs.Prelude.{ℕ, List, [], ◌∷◌, map}
use Rattle.pfc_tree.specs.Symbols.{Text}
use Rattle.pfc_code.specs.declared.images.ProcessInfo.{ProcessInfo}
use Rattle.pfc_semantics.specs.Objects.{no_objects}
use Rattle.pfc_semantics.specs.Programs as programs
use Rattle.pfc_translation.specs.Images.{main_process}
use Rattle.pfc_translation.specs.Objects.{process_info, processes_of}
use Rattle.pfc_program.specs.Views.{program_view}
use Rattle.pfc_program.specs.declared.program.Program.{Program}

-- what is known of it; the values of its variables and its objects make no difference to what its processes are
abbrev pub known : Program → programs.Program
known program = program_view program [] [] no_objects

-- these processes, by their declarations and labels
abbrev pub infos : Program → List (ℕ × Text) → List ProcessInfo
infos program labelled = map (process_info (known program)) labelled

-- main, and the processes of the variables
abbrev pub processes_in : Program → Text → List ProcessInfo
processes_in program name = main_process (known program) name ∷ processes_of (known program)
