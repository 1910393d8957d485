-- Where a variable and its parts lie: its address, and types and cells on the way to a part.
use Rattle.std.specs.Prelude.{ℕ, pos, take, sum_by, option_map, if◌then◌else◌, Option, Some}
use Rattle.pfc_tree.specs.Symbols.{Text}
use Rattle.pfc_tree.specs.trees.Exprs.{ExprTrees, no_exprs, more_exprs}
use Rattle.pfc_types.specs.Types.{Forms, cells_in, array_form}
use Rattle.pfc_types.specs.Fields.{FieldList, position_of}
use Rattle.pfc_types.specs.declared.types.TypeId.{TypeId}
use Rattle.pfc_types.specs.declared.types.TypeForm.{TypeForm}
use Rattle.pfc_types.specs.declared.types.TypeForm.TheVariants.{Array, Record}
use Rattle.pfc_code.specs.declared.instructions.Instr.{Instr}
use Rattle.pfc_code.specs.declared.instructions.Instr.TheVariants.{ADDR, REF, IDX}
use Rattle.pfc_semantics.specs.Displays.{Spot}
use Rattle.pfc_semantics.specs.Expressions.{form_in, place_among}
use Rattle.pfc_translation.specs.Sites.{Site, links_to, cell_of, refers}
use Rattle.pfc_translation.specs.Codes.{Code, one}

-- a variable's address: its own cell, or for a reference parameter the reference that its cell holds
abbrev pub base_code : Site → Spot → Code
base_code s v = let l = links_to s v.scope in let d = cell_of s v in one s (if refers s v then REF l d else ADDR l d)

-- the type of an element
abbrev pub element_in : Forms → Option TypeId → Option TypeId
element_in forms t = option_map (λ both. both.1) (array_form (form_in forms t))

-- the type behind some indices
abbrev pub type_behind : Forms → Option TypeId → ExprTrees → Option TypeId
type_behind forms t no_exprs = t
type_behind forms t (more_exprs e es) = type_behind forms (element_in forms t) es

-- an index of an array; what is no array has none within its bounds
abbrev pub index_instr : Forms → Option TypeForm → Instr
index_instr forms (Some (Array over low high element)) = IDX low high (cells_in forms element)
index_instr forms form = IDX (pos 1) (pos 0) 0

-- the fields of a record lie one behind the other
abbrev pub fields_before : Forms → FieldList → ℕ → ℕ
fields_before forms fields k = sum_by (λ f. cells_in forms f.1) (take k fields)

abbrev pub field_cell : Forms → Option TypeForm → Text → ℕ
field_cell forms (Some (Record fields)) x = fields_before forms fields (place_among (position_of fields x))
field_cell forms form x = 0
