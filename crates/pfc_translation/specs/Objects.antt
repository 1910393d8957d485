-- Objects by their cells, and processes with their labels.
use Rattle.std.specs.Prelude.{ℕ, ◌+◌, zero, suc, ℤ, pos, nat_abs, ◌+ℤ◌, Bool, true, false, if◌then◌else◌, List, [], ◌∷◌, ◌++◌, length, map, get_or, fold}
use Rattle.std.specs.Prelude.{Option, Some, None}
use Rattle.std.specs.Fmt.{signed_decimal}
use Rattle.pfc_tree.specs.Symbols.{Text}
use Rattle.pfc_code.specs.declared.images.Object.{Object}
use Rattle.pfc_code.specs.declared.images.ProcessInfo.{ProcessInfo}
use Rattle.pfc_types.specs.Types.{Forms, extent}
use Rattle.pfc_types.specs.Fields.{FieldList}
use Rattle.pfc_types.specs.Scopes.{Names, scope_at}
use Rattle.pfc_types.specs.Blocks.{process_at}
use Rattle.pfc_types.specs.declared.types.TypeId.{TypeId}
use Rattle.pfc_types.specs.declared.types.TypeForm.{TypeForm}
use Rattle.pfc_types.specs.declared.types.TypeForm.TheVariants.{Channel, Array, Record, Process}
use Rattle.pfc_types.specs.declared.scope.Meaning.{Meaning}
use Rattle.pfc_types.specs.declared.scope.Meaning.TheVariants.{Variable, Process as Single}
use Rattle.pfc_semantics.specs.Values.{Value, Values, ordinal, compound, points, no_values, more_values}
use Rattle.pfc_semantics.specs.Layouts.{Layout}
use Rattle.pfc_semantics.specs.Programs.{Program, block_number}

-- ## Objects

-- which cells of a variable of each type hold an object
abbrev pub cells_before : List (List Bool) → TypeId → List Bool
cells_before before t = get_or before t.place (false ∷ [])

abbrev pub times : ℕ → List Bool → List Bool
times zero cells = []
times (suc n) cells = cells ++ times n cells

abbrev pub object_fields : List (List Bool) → FieldList → List Bool
object_fields before [] = []
object_fields before (f ∷ fields) = cells_before before f.1 ++ object_fields before fields

abbrev pub object_form : List (List Bool) → TypeForm → List Bool
object_form before (Channel t) = true ∷ []
object_form before (Array over low high element) = times (extent low high) (cells_before before element)
object_form before (Record fields) = object_fields before fields
object_form before (Process n) = true ∷ []

-- the predeclared types: integer, boolean, char, semaphore, condition, synchronous
abbrev pub predeclared_objects : List Bool
predeclared_objects = false ∷ false ∷ false ∷ true ∷ true ∷ false ∷ []

abbrev pub object_next : List (List Bool) → Option TypeForm → List Bool
object_next before None = get_or predeclared_objects (length before) false ∷ []
object_next before (Some form) = object_form before form

abbrev pub all_objects : Forms → List (List Bool)
all_objects forms = fold (λ before form. before ++ object_next before form ∷ []) [] forms

abbrev pub laid_objects : List (List Bool) → Layout → List Bool
laid_objects all [] = []
laid_objects all (Variable t reference ∷ layout) = cells_before all t ++ laid_objects all layout
laid_objects all (m ∷ layout) = true ∷ laid_objects all layout

-- the numbers in the cells of a value
abbrev mutual
  pub numbers_of : Value → List ℕ
  numbers_of (ordinal n) = nat_abs n ∷ []
  numbers_of (compound vs) = numbers_in vs
  numbers_of (points l) = 0 ∷ []

  pub numbers_in : Values → List ℕ
  numbers_in no_values = []
  numbers_in (more_values v vs) = numbers_of v ++ numbers_in vs

abbrev pub main_numbers : List Value → List ℕ
main_numbers [] = []
main_numbers (v ∷ vs) = numbers_of v ++ main_numbers vs

abbrev pub objects_from : ℕ → List Bool → List ℕ → List Object
objects_from cell [] numbers = []
objects_from cell (b ∷ bs) [] = []
objects_from cell (b ∷ bs) (n ∷ ns) =
    if b then record { cell = cell; number = n } ∷ objects_from (cell + 1) bs ns else objects_from (cell + 1) bs ns

-- the objects of main's variables, by their cells
abbrev pub objects_of : Program → List Object
objects_of g = objects_from 0 (laid_objects (all_objects g.state.forms) g.main.layout) (main_numbers g.variables)

-- ## Processes

-- The processes in a variable of each type, in the order of its cells: the declaration of each, and its label behind that of the variable.
abbrev pub Labelled : Type 0
Labelled = Text → List (ℕ × Text)

abbrev pub no_process : Labelled
no_process label = []

abbrev pub labelled_before : List Labelled → TypeId → Labelled
labelled_before before t = get_or before t.place no_process

-- an index stands in brackets, as its ordinal
abbrev pub with_index : Text → ℤ → Text
with_index label n = label ++ (91 ∷ [] ++ (signed_decimal n ++ 93 ∷ []))

abbrev pub elements_labelled : ℕ → ℤ → Labelled → Labelled
elements_labelled zero low f label = []
elements_labelled (suc n) low f label = f (with_index label low) ++ elements_labelled n (low +ℤ pos 1) f label

-- a field stands behind a point
abbrev pub fields_labelled : List Labelled → FieldList → Labelled
fields_labelled before [] label = []
fields_labelled before (f ∷ fields) label = labelled_before before f.1 (label ++ 46 ∷ f.0) ++ fields_labelled before fields label

abbrev pub labelled_form : List Labelled → TypeForm → Labelled
labelled_form before (Channel t) label = []
labelled_form before (Array over low high element) label = elements_labelled (extent low high) low (labelled_before before element) label
labelled_form before (Record fields) label = fields_labelled before fields label
labelled_form before (Process n) label = (n, label) ∷ []

abbrev pub labelled_next : List Labelled → Option TypeForm → Labelled
labelled_next before None = no_process
labelled_next before (Some form) = labelled_form before form

abbrev pub all_labelled : Forms → List Labelled
all_labelled forms = fold (λ before form. before ++ labelled_next before form ∷ []) [] forms

abbrev pub name_labelled : List Labelled → Text → Meaning → List (ℕ × Text)
name_labelled all x (Variable t reference) = labelled_before all t x
name_labelled all x (Single n) = (n, x) ∷ []
name_labelled all x m = []

abbrev pub names_labelled : List Labelled → Names → List (ℕ × Text)
names_labelled all [] = []
names_labelled all (x ∷ names) = name_labelled all x.0 x.1 ++ names_labelled all names

abbrev pub process_info : Program → ℕ × Text → ProcessInfo
process_info g p = record { block = block_number g (process_at g.state.blocks p.0).scope; label = p.1 }

-- the processes of the program's variables, in the order of the layout
abbrev pub processes_of : Program → List ProcessInfo
processes_of g = map (λ p. process_info g p) (names_labelled (all_labelled g.state.forms) (scope_at g.state.blocks.scopes 0))
