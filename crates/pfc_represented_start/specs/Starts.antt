-- Where all stands before the first action.
use Rattle.std.specs.Prelude.{ℕ, ◌==◌, if◌then◌else◌, List, [], ◌∷◌, length, Some, None}
use Rattle.pfc_code.specs.declared.images.Block.{Block as CodeBlock}
use Rattle.pfc_code.specs.declared.instructions.Instr.{Instr}
use Rattle.pfc_code.specs.declared.instructions.Instr.TheVariants.{END}
use Rattle.pfc_tree.specs.trees.Parts.{ProgramTree}
use Rattle.pfc_semantics.specs.Programs.{Program, program_of}
use Rattle.pfc_translation.specs.Codes.{Lined}
use Rattle.pfc_translation.specs.Images.{image_of}
use Rattle.pfc_stacks.specs.Activations.{own_words, first_own}
use Rattle.pfc_cells.specs.Homes.{Homes}
use Rattle.pfc_cells.specs.Memory.{Entry, Entries}
use Rattle.pfc_machines.specs.declared.descriptors.Descriptor.{Descriptor}
use Rattle.pfc_machines.specs.Descriptors.{descriptor_by, entered, roomier, line_of_block}
use Rattle.pfc_standing_code.specs.Settings.{View, Setting, of_own}
use Rattle.pfc_views.specs.Views.{first_number}
use Rattle.pfc_call_laws.specs.Inside.{nothing_seen, view_inside}
use Rattle.pfc_call_laws.specs.Calls.{first_home}
use Rattle.pfc_object_laws.specs.Objects.{all_words, number_at}
use Rattle.pfc_representation.specs.Levels.{Facts, LivingLevel}
use Rattle.pfc_representation.specs.Rooms.{room_in}

-- ## Main's activation

-- main's first activation stands first on the stack of process 0, and there is no other
abbrev pub start_homes : Homes
start_homes a = if a == 0 then Some (first_home 0 0) else None

abbrev pub main_number : ProgramTree → ℕ
main_number t = length (program_of t).blocks

abbrev pub main_entry : ProgramTree → Entry
main_entry t = record { activation = 0; own = own_words (first_own (main_number t)) }

abbrev pub start_entries : ProgramTree → Entries
start_entries t q = if q == 0 then main_entry t ∷ [] else []

-- ## Main's setting

-- instructions with their lines
abbrev pub lined : List Instr → List ℕ → Lined
lined [] lines = []
lined (i ∷ code) [] = []
lined (i ∷ code) (n ∷ lines) = (i, n) ∷ lined code lines

-- main sees its own variables in its cells
abbrev pub main_view : Program → View
main_view g = view_inside g.state.forms g.main.layout g.variables (all_words g.variables) (first_number (first_home 0 0)) 0 nothing_seen

-- Main's body is at hand, which the image has as c: it ends the process, and holds its own operands.
abbrev pub main_setting : ProgramTree → CodeBlock → Setting
main_setting t c =
    let image = image_of t in
    record {
      program = program_of t;
      block = (program_of t).main;
      code = lined image.code image.lines;
      texts = image.texts;
      number = number_at image.objects;
      view = main_view (program_of t);
      accepts = [];
      meetings = [];
      under = [];
      last = END;
      room = c.operands;
      arms = image.arms;
      trial = of_own;
    }

-- ## What is told of the program, and main's level

abbrev pub start_facts : ProgramTree → Facts
start_facts t = record { tree = t; number = number_at (image_of t).objects }

abbrev pub main_level : ProgramTree → CodeBlock → LivingLevel
main_level t c = record { setting = main_setting t c; arms = [] }

-- what the machine has of main beside its stack: it has the line of its block, and room for what that makes
abbrev pub main_descriptor : ProgramTree → Descriptor
main_descriptor t = roomier (entered (descriptor_by (line_of_block (image_of t).blocks (main_number t)))) (room_in (start_facts t) (main_number t))
